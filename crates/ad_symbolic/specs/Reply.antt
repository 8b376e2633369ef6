-- What a module of the symbolic machine answers to a call, and what it keeps.
use Rattle.std.specs.Prelude.{ℕ, [], Option, Some, None}
use Rattle.ad_base.specs.declared.image.Image.{Image}
use Rattle.ad_symbolic.specs.declared.reply.SymEnd.TheVariants as ends
use Rattle.ad_symbolic.specs.declared.reply.SymReply.{SymReply}
use Rattle.ad_symbolic.specs.declared.value.Reason.{Reason}
use Rattle.ad_symbolic.specs.declared.value.Reason.TheVariants.{Address, Arithmetic, Comparison, MixedBytes}
use Rattle.ad_symbolic.specs.Replay.{Answer, Asked, Clear, Keeps, Kept, Lost, NotClear, answer_of, left_by, run_of}

-- an image, and what it keeps from call to call, unless a call before wasn't clear
pub record Module : Type 0 where
  pub image : Image
  pub kept : Option Kept

-- the answer to a call
abbrev pub answer_to : ℕ → Module → Asked → Answer
answer_to fuel m a = elim m.kept [ None ↦ Lost | Some k ↦ answer_of (run_of m.image fuel k a) ]

-- what a call leaves
abbrev pub kept_after : ℕ → Module → Asked → Option Kept
kept_after fuel m a = elim m.kept [ None ↦ None | Some k ↦ left_by (run_of m.image fuel k a) ]

-- the number of a reason
abbrev pub reason_number : Reason → ℕ
reason_number Arithmetic = 1
reason_number Comparison = 2
reason_number Address = 3
reason_number MixedBytes = 4

-- an answer as a reply
abbrev pub reply_of : Answer → SymReply
reply_of (Clear end notes) = record { end = ends.Clear end; notes = notes }
reply_of (NotClear reason step) = record { end = ends.Unclear (reason_number reason) step; notes = [] }
reply_of Keeps = record { end = ends.Keeps; notes = [] }
reply_of Lost = record { end = ends.Lost; notes = [] }
