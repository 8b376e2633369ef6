-- Modules that are asked for calls in order answer as their replays do.
use Rattle.std.proofs.Common.{◌≡◌, ◌≢◌, ◌⊎◌, ◌<◌, ℕ, zero, suc, List, [], ◌∷◌, ◌++◌, length, map, take, get_or, slice_get, IfSome, Option, None, Some, OnOk, Result, Ok, Err, false, if◌then◌else◌, inl, inr, refl, sym, ap, subst, ◌∙◌, arith}
use Rattle.std.specs.List.{flat_map}
use Rattle.std.specs.Option.{option_map, option_map_or}
use Rattle.std.proofs.Math.ListN.{set}
use Rattle.std.proofs.Math.Seq.{map-set_same, take-append_seam}
use Rattle.std.proofs.lemmas.Bool.{eq-eqb, ne_eqb}
use Rattle.std.proofs.lemmas.List.{append-nil, length-map}
use Rattle.std.proofs.lemmas.List.Concat.{flat_map-append}
use Rattle.std.proofs.lemmas.List.Elements.{filter-append}
use Rattle.std.proofs.lemmas.Option.{get_or_from_slice_get, slice_get-map, slice_get_read}
use Rattle.ad_base.specs.declared.image.Export.{Export}
use Rattle.ad_base.specs.declared.image.Image.{Image}
use Rattle.ad_lines.specs.declared.ready.ReadyStep.{ReadyStep}
use Rattle.ad_lines.specs.declared.ready.ReadyStep.TheVariants.{Call}
use Rattle.ad_lines.specs.LineLaws.{calls_of_module}
use Rattle.ad_lines.specs.Ready.{IsRunnable}
use Rattle.ad_lines.specs.Room.{is_call_of}
use Rattle.ad_lines.proofs.ListReads.{set-read}
use Rattle.ad_report.specs.Mapping.{module_name}
use Rattle.ad_script.specs.declared.script.Script.{Script}
use Rattle.ad_symbolic.specs.Replay.{Answer, Asked, Kept, answers_from, left_by, opened, replay, run_of}
use Rattle.ad_symbolic.specs.Reply.{Module, answer_to, kept_after}
use Rattle.ad_predict.specs.Prediction.{asked_by, asked_of, call_line, export_name, step_text}
use Rattle.ad_predict.specs.Private.Asking.{HaveAnswered, kept_behind, opened_module}

-- a module of an image that keeps this
abbrev pub keeping : Image → Option Kept → Module
keeping i k = record { image = i; kept = k }

-- the answer behind some calls is that of a module that keeps what they leave
pub answer-behind : (i : Image) (fuel : ℕ) (k : Option Kept) (before more : List Asked) (a : Asked)
    → slice_get (answers_from i fuel k (before ++ a ∷ more)) (length before) ≡ Some (answer_to fuel (keeping i (kept_behind fuel (keeping i k) before)) a)
answer-behind i fuel None [] more a = refl
answer-behind i fuel (Some k) [] more a = refl
answer-behind i fuel None (b ∷ before) more a = answer-behind i fuel None before more a
answer-behind i fuel (Some k) (b ∷ before) more a = answer-behind i fuel (left_by (run_of i fuel k b)) before more a

-- what is kept behind one call more
pub kept-push : (i : Image) (fuel : ℕ) (k : Option Kept) (before : List Asked) (a : Asked)
    → kept_behind fuel (keeping i k) (before ++ a ∷ []) ≡ kept_after fuel (keeping i (kept_behind fuel (keeping i k) before)) a
kept-push i fuel k [] a = refl
kept-push i fuel k (b ∷ before) a = kept-push i fuel (kept_after fuel (keeping i k) b) before a

-- what is asked by some steps and others behind them
pub asked-append : (i : Image) (number : ℕ) (before after : List ReadyStep) → asked_of i number (before ++ after) ≡ asked_of i number before ++ asked_of i number after
asked-append i number before after =
    ap (flat_map (asked_by i)) (filter-append (is_call_of number) before after) ∙ flat_map-append (asked_by i) (calls_of_module number before) (calls_of_module number after)

-- the modules before their first calls
opened-images : (images : List Image) → map (λ (m : Module). m.image) (map opened_module images) ≡ images
opened-images [] = refl
opened-images (i ∷ is) = ap (λ xs. i ∷ xs) (opened-images is)

opened-kept : (o : Option Image) (m : Module) → option_map opened_module o ≡ Some m → m.kept ≡ Some (opened m.image)
opened-kept None m e = absurd cc
opened-kept (Some i) m e =
    let same : opened_module i ≡ m = cc in
    subst (λ (x : Module). x.kept ≡ Some (opened x.image)) same refl

pub none-answered : (images : List Image) (fuel : ℕ) (ms : List Module) → ms ≡ map opened_module images → HaveAnswered images fuel [] ms
none-answered images fuel ms e =
    let first : HaveAnswered images fuel [] (map opened_module images) = record {
      images_are = opened-images images;
      kept = λ number m there. opened-kept (slice_get images number) m (sym (slice_get-map opened_module images number) ∙ there);
    } in
    subst (HaveAnswered images fuel []) (sym e) first

-- a call of a module that has answered the calls of the steps before
module _ (images : List Image) (fuel : ℕ) (before : List ReadyStep) (ms : List Module) (h : HaveAnswered images fuel before ms)
    (line worker number export : ℕ) (args : List ℕ) (m : Module) (there : slice_get ms number ≡ Some m) (x : Export) (found : slice_get m.image.exports export ≡ Some x) where
  abbrev step : ReadyStep
  step = Call line worker number export args

  abbrev asked : Asked
  asked = record { offset = x.offset; args = args }

  image-there : slice_get images number ≡ Some m.image
  image-there = ap (λ is. slice_get is number) (sym h.images_are) ∙ slice_get-map (λ (y : Module). y.image) ms number ∙ ap (option_map (λ (y : Module). y.image)) there

  asks-here : (after : List ReadyStep) → asked_of m.image number (step ∷ after) ≡ asked ∷ asked_of m.image number after
  asks-here after =
      ap (λ b. flat_map (asked_by m.image) (if b then step ∷ calls_of_module number after else calls_of_module number after)) (eq-eqb number number refl)
      ∙ ap (λ (o : Option Export). option_map_or (λ (y : Export). record { offset = y.offset; args = args } ∷ []) o [] ++ asked_of m.image number after) found

  asks-elsewhere : (i : Image) (n : ℕ) → n ≢ number → asked_of i n (step ∷ []) ≡ []
  asks-elsewhere i n other = ap (λ b. flat_map (asked_by i) (if b then step ∷ [] else [])) (ne_eqb number n (λ e. other (sym e)))

  answered : (after : List ReadyStep) → slice_get (replay m.image fuel (asked_of m.image number (before ++ step ∷ after))) (length (asked_of m.image number (take (length before) (before ++ step ∷ after)))) ≡ Some (answer_to fuel m asked)
  unfolding replay
  answered after =
      let said = answers_from m.image fuel (Some (opened m.image)) in
      ap (λ ss. slice_get (said (asked_of m.image number (before ++ step ∷ after))) (length (asked_of m.image number ss))) (take-append_seam before (step ∷ after))
      ∙ ap (λ all. slice_get (said all) (length (asked_of m.image number before))) (asked-append m.image number before (step ∷ after) ∙ ap (λ all. asked_of m.image number before ++ all) (asks-here after))
      ∙ answer-behind m.image fuel (Some (opened m.image)) (asked_of m.image number before) (asked_of m.image number after) asked
      ∙ ap (λ k. Some (answer_to fuel (keeping m.image k) asked)) (sym (h.kept number m there))

  -- its line
  pub line-of-call : (s : Script) (after : List ReadyStep) → step_text s images fuel (before ++ step ∷ after) (length before) step ≡ call_line line worker (module_name s number) (export_name m.image export) (answer_to fuel m asked)
  line-of-call s after =
      let print : Image → Option Answer → List ℕ = λ i o. option_map_or (call_line line worker (module_name s number) (export_name i export)) o [] in
      let said : Image → Option Answer = λ i. slice_get (replay i fuel (asked_of i number (before ++ step ∷ after))) (length (asked_of i number (take (length before) (before ++ step ∷ after)))) in
      ap (λ (o : Option Image). option_map_or (λ i. print i (said i)) o []) image-there ∙ ap (print m.image) (answered after)

  -- and the modules behind it
  module _ (new : Module) (image : new.image ≡ m.image) (kept : new.kept ≡ kept_after fuel m asked) where
    kept-here : new.kept ≡ kept_behind fuel (opened_module new.image) (asked_of new.image number (before ++ step ∷ []))
    kept-here =
        kept ∙ ap (λ k. kept_after fuel (keeping m.image k) asked) (h.kept number m there)
        ∙ sym (kept-push m.image fuel (Some (opened m.image)) (asked_of m.image number before) asked)
        ∙ ap (kept_behind fuel (opened_module m.image)) (ap (λ all. asked_of m.image number before ++ all) (sym (asks-here [])) ∙ sym (asked-append m.image number before (step ∷ [])))
        ∙ ap (λ i. kept_behind fuel (opened_module i) (asked_of i number (before ++ step ∷ []))) (sym image)

    kept-there : (n : ℕ) (y : Module) → ((n ≡ number) × (new ≡ y)) ⊎ ((n ≢ number) × (slice_get ms n ≡ Some y)) → y.kept ≡ kept_behind fuel (opened_module y.image) (asked_of y.image n (before ++ step ∷ []))
    kept-there n y (inl same) =
        subst (λ k. y.kept ≡ kept_behind fuel (opened_module y.image) (asked_of y.image k (before ++ step ∷ []))) (sym same.0)
        (subst (λ (z : Module). z.kept ≡ kept_behind fuel (opened_module z.image) (asked_of z.image number (before ++ step ∷ []))) same.1 kept-here)
    kept-there n y (inr other) =
        h.kept n y other.1
        ∙ ap (kept_behind fuel (opened_module y.image))
        (sym (asked-append y.image n before (step ∷ []) ∙ ap (λ all. asked_of y.image n before ++ all) (asks-elsewhere y.image n other.0) ∙ append-nil (asked_of y.image n before)))

    pub answered-more : HaveAnswered images fuel (before ++ step ∷ []) (set ms number new)
    answered-more = record {
      images_are = map-set_same (λ (y : Module). y.image) ms number new m (image ∙ ap (λ (y : Module). y.image) (sym (get_or_from_slice_get ms number m m there))) ∙ h.images_are;
      kept = λ n y e. kept-there n y (set-read ms number new n y e);
    }

-- a step that is no call asks for nothing
pub answered-none : (images : List Image) (fuel : ℕ) (before : List ReadyStep) (ms : List Module) (step : ReadyStep) → ((n : ℕ) → is_call_of n step ≡ false)
    → HaveAnswered images fuel before ms → HaveAnswered images fuel (before ++ step ∷ []) ms
answered-none images fuel before ms step none h = record {
  images_are = h.images_are;
  kept = λ n m e.
      h.kept n m e
      ∙ ap (kept_behind fuel (opened_module m.image))
      (sym (asked-append m.image n before (step ∷ []) ∙ ap (λ b. asked_of m.image n before ++ flat_map (asked_by m.image) (if b then step ∷ [] else [])) (none n) ∙ append-nil (asked_of m.image n before)));
}

-- what holds where a result is Ok
pub on-ok : {A E P Q : Type 0} (r : Result A E) → (P → Q) → OnOk r P → OnOk r Q
on-ok (Ok a) f p = f p
on-ok (Err e) f p = p

-- an element below the end is there
export-at : {A : Type 0} (xs : List A) (k : ℕ) → k < length xs → (x : A) × (slice_get xs k ≡ Some x)
export-at [] k within = absurd (omega (arith, within))
export-at (x ∷ xs) zero within = (x, refl)
export-at (x ∷ xs) (suc k) within = export-at xs k (omega (arith, within))

-- A call that is runnable finds its module, the module's image and the export.
pub record Finds (images : List Image) (ms : List Module) (number export : ℕ) (m : Module) : Type 0 where
  pub within : number < length ms
  pub x : Export
  pub image : slice_get images number ≡ Some m.image
  pub found : slice_get m.image.exports export ≡ Some x

pub finds : (images : List Image) (ms : List Module) (workers line worker number export : ℕ) (args : List ℕ) (step : ReadyStep) (m : Module)
    → map (λ (y : Module). y.image) ms ≡ images → step ≡ Call line worker number export args → IsRunnable images workers step → m ≡ get_or ms number m
    → (slice_get ms number ≡ Some m) × Finds images ms number export m
finds images ms workers line worker number export args step m same is runs at =
    let runnable : IsRunnable images workers (Call line worker number export args) = subst (IsRunnable images workers) is runs in
    let within : number < length ms = omega (arith, runnable.2, ap length same, length-map ms (λ (y : Module). y.image)) in
    let there : slice_get ms number ≡ Some m = slice_get_read ms (length ms) number m refl within at in
    let image : slice_get images number ≡ Some m.image =
    ap (λ is. slice_get is number) (sym same) ∙ slice_get-map (λ (y : Module). y.image) ms number ∙ ap (option_map (λ (y : Module). y.image)) there in
    let below : export < length m.image.exports = subst (λ o. IfSome o (λ (i : Image). export < length i.exports)) image runnable.1 in
    (there, record { within = within; x = (export-at m.image.exports export below).0; image = image; found = (export-at m.image.exports export below).1 })
