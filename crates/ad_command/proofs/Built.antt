-- The script that is built finds its modules and their exports.
use Rattle.std.proofs.Common.{◌≡◌, ◌≤◌, ℕ, zero, suc, Bool, true, cond, List, [], ◌∷◌, ◌++◌, length, map, slice_get, Option, None, Some, Ok, refl, sym, ap, subst, ◌∙◌, append_assoc, append-nil}
use Rattle.std.specs.List.{All}
use Rattle.std.specs.Option.{option_and_then, option_map, option_map_or}
use Rattle.std.specs.Prelude.{bytes_eq, nat_lt, not, position}
use Rattle.std.proofs.lemmas.List.Elements.{All-head, All-tail}
use Rattle.std.proofs.lemmas.Slice.Eq.{bytes_eq-Decides}
use Rattle.ad_base.specs.declared.image.Export.{Export}
use Rattle.ad_base.specs.declared.image.Image.{Image}
use Rattle.ad_base.specs.declared.layout.TheConstants.{FILE_BYTES}
use Rattle.ad_generator.specs.Generated.{IsOfBuilt, built_named, module_in}
use Rattle.ad_generator.specs.Linked.{HasImages, IsPlanned, export_of}
use Rattle.ad_generator.specs.Modules.{Module, file, modules}
use Rattle.ad_link.specs.Plan.{IsPlan}
use Rattle.ad_lines.specs.declared.ready.ReadyStep.{ReadyStep}
use Rattle.ad_lines.specs.declared.ready.ReadyStep.TheVariants as ready
use Rattle.ad_lines.specs.Ready.{export_number, ready_step, ready_steps, resolved}
use Rattle.ad_script.specs.declared.script.Load.{Load}
use Rattle.ad_script.specs.declared.script.Step.{Step}
use Rattle.ad_script.specs.declared.script.Step.TheVariants.{Call, Move, Stack}
use Rattle.ad_command.specs.Loading.{AreLinked, IsLinked, fixed_behind}

-- the exports of an image, and those of a module
abbrev pub exports_of : Image → List Export
exports_of i = i.exports

abbrev pub exports_said : Module → List Export
exports_said m = export_of m ∷ []

abbrev pub IsShort : Module → Type 0
IsShort m = length (file m) ≤ FILE_BYTES

-- the first and the others of two lists, of which one is found for the other
found-first : {A B : Type 0} (f : A → Option B) (a : A) (rest : List A) (b : B) (bs : List B) → map f (a ∷ rest) ≡ map Some (b ∷ bs) → f a ≡ Some b
found-first f a rest b bs same = cc

found-others : {A B : Type 0} (f : A → Option B) (a : A) (rest : List A) (b : B) (bs : List B) → map f (a ∷ rest) ≡ map Some (b ∷ bs) → map f rest ≡ map Some bs
found-others f a rest b bs same = cc

module _ (seed workers : ℕ) where
  -- Loads of these built modules have images, one behind the other, behind those that are there before. Each exports what its module
  -- does.
  pub record HaveImages (before : List Image) (ls : List Load) (ms : List Module) : Type 0 where
    pub made : List Image
    pub linked : AreLinked built_named seed workers before ls (before ++ made)
    pub exports : map exports_of made ≡ map exports_said ms

  module _ (before : List Image) (l : Load) (m : Module) (found : module_in l.file ≡ Some m) (planned : IsPlanned m) (imaged : HasImages m) (short : IsShort m) where
    bytes : built_named l.file ≡ file m
    bytes = ap (λ o. option_map_or file o []) found

    first-image : (i : Image) × IsLinked built_named seed workers before l i × (i.exports ≡ exports_said m)
    first-image =
        let p = planned.some.0 in
        let plan = planned.some.1 in
        let image = imaged.some p (fixed_behind seed workers before p) plan in (
          image.0,
          record {
            short = subst (λ b. length b ≤ FILE_BYTES) (sym bytes) short;
            planned = p;
            plan = subst (λ b. IsPlan b p) (sym bytes) plan;
            image = image.1;
          },
          imaged.exports p (fixed_behind seed workers before p) image.0 plan image.1,
        )

  images-made : (before : List Image) (ls : List Load) (ms : List Module) → map (λ (l : Load). module_in l.file) ls ≡ map Some ms
      → All IsPlanned ms → All HasImages ms → All IsShort ms → HaveImages before ls ms
  images-made before [] [] same planned imaged short = record { made = []; linked = append-nil before; exports = refl }
  images-made before [] (m ∷ ms) same planned imaged short = absurd cc
  images-made before (l ∷ ls) [] same planned imaged short = absurd cc
  images-made before (l ∷ ls) (m ∷ ms) same planned imaged short =
      let view : Load → Option Module = λ x. module_in x.file in
      let i = first-image before l m (found-first view l ls m ms same) (All-head IsPlanned m ms planned) (All-head HasImages m ms imaged) (All-head IsShort m ms short) in
      let later = images-made (before ++ i.0 ∷ []) ls ms (found-others view l ls m ms same) (All-tail IsPlanned m ms planned) (All-tail HasImages m ms imaged) (All-tail IsShort m ms short) in
      record {
        made = i.0 ∷ later.made;
        linked = (i.0, i.1, subst (AreLinked built_named seed workers (before ++ i.0 ∷ []) ls) (append_assoc before (i.0 ∷ []) later.made) later.linked);
        exports = λ j. i.2 j ∷ later.exports j;
      }

  -- the images of all loads
  pub built-images : (ls : List Load) (ms : List Module) → map (λ (l : Load). module_in l.file) ls ≡ map Some ms
      → All IsPlanned ms → All HasImages ms → All IsShort ms → (images : List Image) × AreLinked built_named seed workers [] ls images × (map exports_of images ≡ map exports_said ms)
  built-images ls ms same planned imaged short = let all = images-made [] ls ms same planned imaged short in (all.made, all.linked, all.exports)

-- the image of the module of a number
image-of-number : (images : List Image) (ms : List Module) (k : ℕ) (m : Module) → map exports_of images ≡ map exports_said ms → slice_get ms k ≡ Some m
    → (i : Image) × (slice_get images k ≡ Some i) × (i.exports ≡ exports_said m)
image-of-number [] [] k m same at = absurd cc
image-of-number [] (x ∷ ms) k m same at = absurd cc
image-of-number (i ∷ is) [] k m same at = absurd cc
image-of-number (i ∷ is) (x ∷ ms) zero m same at =
    let first : i.exports ≡ exports_said x = cc in
    let here : x ≡ m = cc in
    (i, refl, first ∙ ap exports_said here)
image-of-number (i ∷ is) (x ∷ ms) (suc k) m same at =
    let others : map exports_of is ≡ map exports_said ms = cc in
    image-of-number is ms k m others at

-- the place of the one element of a list, and the length where it fails the test
abbrev place-of-one : Bool → ℕ
place-of-one passes = cond (not passes) 1 0

position-first : {A : Type 0} (p : A → Bool) (x : A) → p x ≡ true → position p (x ∷ []) ≡ Some 0
position-first p x is = subst (λ passes. cond (nat_lt (place-of-one passes) 1) (Some (place-of-one passes)) None ≡ Some 0) (sym is) refl

module _ (images : List Image) (same : map exports_of images ≡ map exports_said modules) where
  -- each step is ready
  step-ready : (s : Step) → IsOfBuilt s → (r : ReadyStep) × (ready_step images s ≡ Some r)
  step-ready (Call line worker n export args) is =
      let i = image-of-number images modules n is.0 same is.1 in
      let with_number : ℕ → ReadyStep = λ number. ready.Call line worker n number args in
      let named : bytes_eq is.0.export export ≡ true = (bytes_eq-Decides is.0.export export).1 (sym is.2) in
      let number : export_number i.0 export ≡ Some 0 =
      ap (λ xs. position (λ (x : Export). bytes_eq x.name export) xs) i.2 ∙ position-first (λ (x : Export). bytes_eq x.name export) (export_of is.0) named in
      (with_number 0, ap (λ o. option_map with_number (option_and_then (λ x. export_number x export) o)) i.1 ∙ ap (option_map with_number) number)
  step-ready (Move line ms) is = (ready.Move line ms, refl)
  step-ready (Stack line worker) is = (ready.Stack line worker, refl)

  pub steps-ready : (ss : List Step) → All IsOfBuilt ss → (rs : List ReadyStep) × (ready_steps images ss ≡ Ok rs)
  unfolding ready_steps
  steps-ready [] all = ([], refl)
  steps-ready (s ∷ ss) all =
      let first = step-ready s (All-head IsOfBuilt s ss all) in
      let others = steps-ready ss (All-tail IsOfBuilt s ss all) in
      (first.0 ∷ others.0, λ j. resolved s (first.1 j) (others.1 j))
