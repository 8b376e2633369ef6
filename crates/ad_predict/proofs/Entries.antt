-- The entries of a module's book ask for what the steps ask for that call it.
use Rattle.std.proofs.Common.{◌≡◌, ℕ, ◌<◌, List, [], ◌∷◌, ◌++◌, length, map, slice_get, IfSome, Option, Some, refl, sym, ap, subst, ◌∙◌}
use Rattle.std.specs.List.{All, count_by, flat_map}
use Rattle.std.specs.Option.{option_map, option_map_or}
use Rattle.std.proofs.lemmas.List.Elements.{All-filter, All-head, All-tail}
use Rattle.ad_base.specs.declared.book.Entry.{Entry}
use Rattle.ad_base.specs.declared.image.Export.{Export}
use Rattle.ad_base.specs.declared.image.Image.{Image}
use Rattle.ad_lines.specs.declared.ready.ReadyStep.{ReadyStep}
use Rattle.ad_lines.specs.LineLaws.{AreSteps, run_of_seed, step_of}
use Rattle.ad_lines.specs.LineRun.{ModuleState}
use Rattle.ad_lines.specs.Opening.{AreLoaded}
use Rattle.ad_lines.specs.Ready.{IsRunnable}
use Rattle.ad_lines.specs.Room.{is_call_of}
use Rattle.ad_lines.proofs.RunLaws.{calls-made, images-stay}
use Rattle.ad_predict.specs.Prediction.{asked_by, asked_of}
use Rattle.ad_lines.proofs.Opens.{there}
use Rattle.ad_relate.specs.ClearHistory.{answers_of, asked_of as call_of}
use Rattle.ad_relate.proofs.ClearHistory.{offset-there}
use Rattle.ad_symbolic.specs.Replay.{clear_calls, is_clear, replay}
use Rattle.ad_symbolic.proofs.Histories.{clear-counted, replay-in-order}
use Rattle.std.proofs.lemmas.Option.{slice_get-map}

-- the step of an entry asks for its call, where its export is there
entry-asks : (i : Image) (number : ℕ) (e : Entry) (x : Export) → slice_get i.exports e.export ≡ Some x → asked_by i (step_of number e) ≡ call_of i e ∷ []
entry-asks i number e x is =
    ap (λ o. option_map_or (λ (y : Export). record { offset = y.offset; args = e.args } ∷ []) o []) is
    ∙ ap (λ offset. record { offset = offset; args = e.args } ∷ []) (sym (offset-there i e.export x is))

module _ (images : List Image) (workers number : ℕ) (i : Image) (is : slice_get images number ≡ Some i) where
  entries-ask : (es : List Entry) → All (IsRunnable images workers) (map (step_of number) es) → flat_map (asked_by i) (map (step_of number) es) ≡ map (call_of i) es
  entries-ask [] runs = refl
  entries-ask (e ∷ es) runs =
      let first : IsRunnable images workers (step_of number e) = All-head (IsRunnable images workers) (step_of number e) (map (step_of number) es) runs in
      let below : e.export < length i.exports = subst (λ o. IfSome o (λ (y : Image). e.export < length y.exports)) is first.1 in
      let x = there i.exports e.export below in
      (λ j. entry-asks i number e x.0 x.1 j ++ entries-ask es (All-tail (IsRunnable images workers) (step_of number e) (map (step_of number) es) runs) j)

module _ (seed workers fuel : ℕ) (images : List Image) (steps : List ReadyStep) (loaded : AreLoaded seed workers images) (are : AreSteps images workers steps) (number : ℕ) (m : ModuleState)
    (at : slice_get (run_of_seed seed workers images fuel steps).modules number ≡ Some m) where
  image-is : slice_get images number ≡ Some m.image
  image-is =
      let s = run_of_seed seed workers images fuel steps in
      ap (λ xs. slice_get xs number) (sym (images-stay seed workers fuel images steps loaded are))
      ∙ slice_get-map (λ (x : ModuleState). x.image) s.modules number
      ∙ ap (λ (o : Option ModuleState). option_map (λ (x : ModuleState). x.image) o) at

  pub asked-alike : map (call_of m.image) m.book.entries ≡ asked_of m.image number steps
  asked-alike =
      let made = calls-made seed workers fuel images steps loaded are number m at in
      let runs = All-filter (is_call_of number) (IsRunnable images workers) steps are.runnable in
      sym (entries-ask images workers number m.image image-is m.book.entries (subst (All (IsRunnable images workers)) (sym made) runs))
      ∙ ap (flat_map (asked_by m.image)) made

  pub as-long : clear_calls (answers_of m.image fuel m.book.entries) ≡ count_by is_clear (replay m.image fuel (asked_of m.image number steps))
  as-long =
      ap (λ calls. clear_calls (replay m.image fuel calls)) asked-alike
      ∙ clear-counted (replay m.image fuel (asked_of m.image number steps)) (replay-in-order m.image fuel (asked_of m.image number steps))
