-- Modules that have answered the calls of some steps, and what replies print.
use Rattle.std.specs.Prelude.{◌≡◌, ℕ, List, [], ◌∷◌, ◌++◌, map, codes, slice_get, Option, Some}
use Rattle.std.specs.Fmt.{decimal}
use Rattle.ad_base.specs.declared.image.Image.{Image}
use Rattle.ad_base.specs.End.{end_text}
use Rattle.ad_lines.specs.declared.ready.ReadyStep.{ReadyStep}
use Rattle.ad_symbolic.specs.declared.reply.SymEnd.{SymEnd}
use Rattle.ad_symbolic.specs.declared.reply.SymEnd.TheVariants as ends
use Rattle.ad_symbolic.specs.Replay.{Asked, Kept, opened}
use Rattle.ad_symbolic.specs.Reply.{Module, kept_after}
use Rattle.ad_predict.specs.Prediction.{asked_of}

-- what a module keeps behind calls in order
abbrev pub kept_behind : ℕ → Module → List Asked → Option Kept
kept_behind fuel m [] = m.kept
kept_behind fuel m (a ∷ more) = kept_behind fuel (record { image = m.image; kept = kept_after fuel m a }) more

-- a module of an image, before its first call
abbrev pub opened_module : Image → Module
opened_module i = record { image = i; kept = Some (opened i) }

-- the modules of these images have answered the calls of these steps
pub record HaveAnswered (images : List Image) (fuel : ℕ) (steps : List ReadyStep) (modules : List Module) : Type 0 where
  pub images_are : map (λ (m : Module). m.image) modules ≡ images
  pub kept : (number : ℕ) (m : Module) → slice_get modules number ≡ Some m → m.kept ≡ kept_behind fuel (opened_module m.image) (asked_of m.image number steps)

-- what a reply says, but for its notes
abbrev pub reply_text : SymEnd → List ℕ
reply_text (ends.Clear end) = end_text end
reply_text (ends.Unclear reason step) = codes "unclear step " ++ decimal step ++ codes " reason " ++ decimal reason
reply_text ends.Keeps = codes "keeps"
reply_text ends.Lost = codes "lost"
