-- A file has one answer.
use Rattle.std.proofs.Common.{◌≡◌, ◌⊎◌, inl, inr, ℕ, List, Option, Some, None, refl, sym, ◌∙◌}
use Rattle.ad_elf.specs.declared.object.Object.{Object}
use Rattle.ad_elf.specs.declared.object.Rela.{Rela}
use Rattle.ad_elf.specs.declared.object.Section.{Section}
use Rattle.ad_elf.specs.declared.object.Symbol.{Symbol}
use Rattle.ad_elf.specs.declared.refusal.ElfRefusal.{ElfRefusal}
use Rattle.ad_elf.specs.File.{Says, relas, sections, symbols}
use Rattle.ad_elf.specs.Refusals.{IsObject, IsRefused, first_row, rows}

object_of : List Section → List Symbol → List Rela → Object
object_of s y r = record { sections = s; symbols = y; relas = r }

Says-is : (file : List ℕ) (o : Object) → Says file o → o ≡ object_of (sections file) (symbols file) (relas file)
unfolding object_of
Says-is file o says = λ i. object_of (says.sections_said i) (says.symbols_said i) (says.relas_said i)

pub one_object : (file : List ℕ) (o p : Object) → IsObject file o → IsObject file p → o ≡ p
one_object file o p h k = Says-is file o h.says ∙ sym (Says-is file p k.says)

pub one_refusal : (file : List ℕ) (r s : ElfRefusal) → IsRefused file r → IsRefused file s → r ≡ s
unfolding IsRefused
one_refusal file r s h k = let same = sym h ∙ k in cc

none_is_some : (o : Option ElfRefusal) (r : ElfRefusal) → o ≡ None → o ≡ Some r → ⊥
none_is_some o r none some = let bad = sym none ∙ some in cc

pub not_both : (file : List ℕ) (o : Object) (r : ElfRefusal) → IsObject file o → IsRefused file r → ⊥
unfolding IsRefused
not_both file o r h k = none_is_some (first_row (rows file)) r h.no_row k

some_or_none : (o : Option ElfRefusal) → (o ≡ None) ⊎ ((r : ElfRefusal) × (o ≡ Some r))
some_or_none None = inl refl
some_or_none (Some r) = inr (r, refl)

pub some_answer : (file : List ℕ) → ((o : Object) × IsObject file o) ⊎ ((r : ElfRefusal) × IsRefused file r)
unfolding object_of IsRefused
some_answer file =
    elim (some_or_none (first_row (rows file))) [
      | inl none ↦ inl (object_of (sections file) (symbols file) (relas file), record { no_row = none; says = record { sections_said = refl; symbols_said = refl; relas_said = refl } })
      | inr some ↦ inr some
    ]
