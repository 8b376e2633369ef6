-- What stays sound where a place is replaced.
use Rattle.std.proofs.Common.{◌≡◌, ℕ, ◌<◌, ◌≤◌, List, length, get_or, unwrap_or, Option, None, Some, refl, sym, ap, subst, ◌∙◌, arith}
use Rattle.std.specs.Prelude.{IfSome, slice_get}
use Rattle.std.proofs.Math.ListN.{set}
use Rattle.std.proofs.lemmas.List.Elements.{All-set}
use Rattle.std.proofs.lemmas.Option.{slice_get_read}
use Rattle.ad_base.specs.declared.place.Place.{Place}
use Rattle.ad_base.specs.Place.{IsPlace}
use Rattle.ad_lines.specs.declared.line_run.ModuleRun.{ModuleRun}
use Rattle.ad_lines.specs.Private.Places.{IsMapped, IsModuleRun, IsSound, IsStackRun}
use Rattle.ad_lines.proofs.Elements.{all-read, all-reads}

-- two reads at one number find the same
pub read-twice : {A : Type 0} (xs : List A) (n : ℕ) (x y : A) → n < length xs → x ≡ get_or xs n x → y ≡ get_or xs n y → x ≡ y
read-twice xs n x y within first second =
    let a = slice_get_read xs (length xs) n x refl within first in
    let b = slice_get_read xs (length xs) n y refl within second in
    cc

-- a place that replaces the old one, if there is one, is mapped, and has as many pages
placed : (count : ℕ) (made : Option Place) (old : Place) → IfSome made (λ p. IsPlace p) → IfSome made (λ p. p.pages ≡ old.pages) → IfSome made (λ p. p.mapping ≤ count) → IsMapped count old
    → IsMapped count (unwrap_or made old) × ((unwrap_or made old).pages ≡ old.pages)
placed count None old is_place pages mapped before = (before, refl)
placed count (Some p) old is_place pages mapped before = (record { place = is_place; number = mapped }, pages)

module _ (count more : ℕ) (grows : count ≤ more) where
  still-mapped : (p : Place) → IsMapped count p → IsMapped more p
  still-mapped p is = record { place = is.place; number = omega (arith, is.number, grows) }

  still-run : (m : ModuleRun) → IsModuleRun count m → IsModuleRun more m
  still-run m is = record { whole = is.whole; lengths = is.lengths; mapped = still-mapped m.movable is.mapped; pages = is.pages }

  still-stack : (p : Place) → IsStackRun count p → IsStackRun more p
  still-stack p is = record { mapped = still-mapped p is.mapped; pages = is.pages }

  -- a module whose movable part was replaced leaves all sound
  pub module-replaced : (modules : List ModuleRun) (stacks : List Place) (n : ℕ) (m : ModuleRun) (made : Option Place) (place : Place) → slice_get modules n ≡ Some m
      → IfSome made (λ p. IsPlace p) → IfSome made (λ p. p.pages ≡ m.movable.pages) → IfSome made (λ p. p.mapping ≤ more) → place ≡ unwrap_or made m.movable → IsSound count modules stacks
      → IsSound more (set modules n (record { image = m.image; movable = place; book = m.book })) stacks
  module-replaced modules stacks n m made place there is_place pages mapped is sound =
      let before = still-run m (all-read (IsModuleRun count) modules n m sound.modules_are there) in
      let new = placed more made m.movable is_place pages mapped before.mapped in
      let run : IsModuleRun more (record { image = m.image; movable = place; book = m.book }) = record {
        whole = before.whole;
        lengths = before.lengths;
        mapped = subst (IsMapped more) (sym is) new.0;
        pages = ap (λ (p : Place). p.pages) is ∙ new.1 ∙ before.pages;
      } in
      record {
        modules_are = All-set (IsModuleRun more) modules n (record { image = m.image; movable = place; book = m.book }) run
            (all-reads (IsModuleRun more) modules (λ k x e. still-run x (all-read (IsModuleRun count) modules k x sound.modules_are e)));
        stacks_are = all-reads (IsStackRun more) stacks (λ k p e. still-stack p (all-read (IsStackRun count) stacks k p sound.stacks_are e));
      }
