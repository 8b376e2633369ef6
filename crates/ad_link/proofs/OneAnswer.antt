-- A file has one answer of a link: the stages before the one that answers have one answer each.
use Rattle.std.proofs.Common.{◌≡◌, ◌⊎◌, inl, inr, ℕ, List, Option, Some, None, refl, sym, ◌∙◌, ap}
use Rattle.ad_elf.specs.declared.object.Object.{Object}
use Rattle.ad_elf.specs.declared.refusal.ElfRefusal.{ElfRefusal}
use Rattle.ad_elf.specs.Refusals.{IsObject}
use Rattle.ad_elf.specs.Refusals as file
use Rattle.ad_elf.proofs.OneAnswer.{one_object, some_answer}
use Rattle.ad_elf.proofs.OneAnswer as file_answer
use Rattle.ad_parts.specs.declared.layout.Layout.{Layout}
use Rattle.ad_parts.specs.declared.refusal.PartRefusal.{PartRefusal}
use Rattle.ad_parts.specs.Layout.{ends, sizes, spots}
use Rattle.ad_parts.specs.Parts.{IsLayout, all_exports}
use Rattle.ad_parts.specs.Parts as parts
use Rattle.ad_tables.specs.declared.refusal.TableRefusal.{TableRefusal}
use Rattle.ad_tables.specs.declared.table_set.TableSet.{TableSet}
use Rattle.ad_tables.specs.Tables.{AreTables}
use Rattle.ad_tables.specs.Tables as tables
use Rattle.ad_link.specs.Plan.{IsPlan, IsRefused, Planned}
use Rattle.ad_link.specs.declared.refusal.LinkRefusal.{LinkRefusal}
use Rattle.ad_link.specs.declared.refusal.LinkRefusal.TheVariants as refusal

some-none : {A : Type 0} (x : A) → None ≡ Some x → ⊥
some-none x e = cc

same-some : {A : Type 0} (x y : A) → Some x ≡ Some y → x ≡ y
same-some x y e = cc

same-layout : (o p : Object) (l k : Layout) → o ≡ p → IsLayout o l → IsLayout p k → l ≡ k
same-layout o p l k e x y = λ i. record {
  spots = (x.spots_laid ∙ ap (λ q. spots q.sections) e ∙ sym y.spots_laid) i;
  sizes = (x.sizes_laid ∙ ap (λ q. sizes (ends q.sections)) e ∙ sym y.sizes_laid) i;
  exports = (x.exports_found ∙ ap all_exports e ∙ sym y.exports_found) i;
}

parts-one : (o p : Object) (a b : PartRefusal) → o ≡ p → parts.IsRefused o a → parts.IsRefused p b → a ≡ b
unfolding parts.IsRefused
parts-one o p a b e x y = same-some a b (sym x ∙ ap parts.first_row e ∙ y)

parts-none : (o p : Object) (a : PartRefusal) (l : Layout) → o ≡ p → parts.IsRefused o a → IsLayout p l → ⊥
unfolding parts.IsRefused
parts-none o p a l e x y = some-none a (sym y.no_row ∙ ap parts.first_row (sym e) ∙ x)

tables-one : (o p : Object) (l k : Layout) (a b : TableRefusal) → o ≡ p → l ≡ k → tables.IsRefused o l a → tables.IsRefused p k b → a ≡ b
unfolding tables.IsRefused
tables-one o p l k a b e f x y = same-some a b (sym x ∙ (λ i. tables.first_row (e i) (f i)) ∙ y)

tables-none : (o p : Object) (l k : Layout) (t : TableSet) (r : TableRefusal) → o ≡ p → l ≡ k → AreTables o l t → tables.IsRefused p k r → ⊥
unfolding tables.IsRefused
tables-none o p l k t r e g x y = some-none r (sym x.no_row ∙ (λ i. tables.first_row (e i) (g i)) ∙ y)

same-tables : (o p : Object) (l k : Layout) (t u : TableSet) → o ≡ p → l ≡ k → AreTables o l t → AreTables p k u → t ≡ u
same-tables o p l k t u e f x y = λ i. record {
  local = (x.local_found ∙ (λ j. tables.local_symbols (e j) (f j) (e j).relas) ∙ sym y.local_found) i;
  fixed = (x.fixed_found ∙ (λ j. tables.fixed_symbols (e j) (f j) (e j).relas) ∙ sym y.fixed_found) i;
}

pub one_plan : (f : List ℕ) (p q : Planned) → IsPlan f p → IsPlan f q → p ≡ q
one_plan f p q x y =
    let o = one_object f p.object q.object x.object y.object in
    let l = same-layout p.object q.object p.layout q.layout o x.layout y.layout in
    let t = same-tables p.object q.object p.layout q.layout p.tables q.tables o l x.tables y.tables in
    λ i. record { object = o i; layout = l i; tables = t i }

pub one_refusal : (f : List ℕ) (r s : LinkRefusal) → IsRefused f r → IsRefused f s → r ≡ s
one_refusal f (refusal.Object a) (refusal.Object b) x y = ap refusal.Object (file_answer.one_refusal f a b x y)
one_refusal f (refusal.Object a) (refusal.Parts b) x y = absurd (file_answer.not_both f y.0 a y.1 x)
one_refusal f (refusal.Object a) (refusal.Tables b) x y = absurd (file_answer.not_both f y.0 a y.2 x)
one_refusal f (refusal.Parts a) (refusal.Object b) x y = absurd (file_answer.not_both f x.0 b x.1 y)
one_refusal f (refusal.Parts a) (refusal.Parts b) x y = ap refusal.Parts (parts-one x.0 y.0 a b (one_object f x.0 y.0 x.1 y.1) x.2 y.2)
one_refusal f (refusal.Parts a) (refusal.Tables b) x y = absurd (parts-none x.0 y.0 a y.1 (one_object f x.0 y.0 x.1 y.2) x.2 y.3)
one_refusal f (refusal.Tables a) (refusal.Object b) x y = absurd (file_answer.not_both f x.0 b x.2 y)
one_refusal f (refusal.Tables a) (refusal.Parts b) x y = absurd (parts-none y.0 x.0 b x.1 (one_object f y.0 x.0 y.1 x.2) y.2 x.3)
one_refusal f (refusal.Tables a) (refusal.Tables b) x y =
    let e = one_object f x.0 y.0 x.2 y.2 in
    ap refusal.Tables (tables-one x.0 y.0 x.1 y.1 a b e (same-layout x.0 y.0 x.1 y.1 e x.3 y.3) x.4 y.4)
one_refusal f (refusal.Object a) (refusal.Reloc b) x y = absurd y
one_refusal f (refusal.Object a) refusal.OutOfMemory x y = absurd y
one_refusal f (refusal.Parts a) (refusal.Reloc b) x y = absurd y
one_refusal f (refusal.Parts a) refusal.OutOfMemory x y = absurd y
one_refusal f (refusal.Tables a) (refusal.Reloc b) x y = absurd y
one_refusal f (refusal.Tables a) refusal.OutOfMemory x y = absurd y
one_refusal f (refusal.Reloc a) s x y = absurd x
one_refusal f refusal.OutOfMemory s x y = absurd x

pub not_both : (f : List ℕ) (p : Planned) (r : LinkRefusal) → IsPlan f p → IsRefused f r → ⊥
not_both f p (refusal.Object a) x y = file_answer.not_both f p.object a x.object y
not_both f p (refusal.Parts a) x y = parts-none y.0 p.object a p.layout (one_object f y.0 p.object y.1 x.object) y.2 x.layout
not_both f p (refusal.Tables a) x y =
    let e = one_object f p.object y.0 x.object y.2 in
    tables-none p.object y.0 p.layout y.1 p.tables a e (same-layout p.object y.0 p.layout y.1 e x.layout y.3) x.tables y.4
not_both f p (refusal.Reloc a) x y = y
not_both f p refusal.OutOfMemory x y = y

-- what is so for an object that has a layout, by whether it has tables
with-layout : (f : List ℕ) (o : Object) (l : Layout) (x : Option TableRefusal) → IsObject f o → IsLayout o l → tables.first_row o l ≡ x
    → ((p : Planned) × IsPlan f p) ⊎ ((r : LinkRefusal) × IsRefused f r)
unfolding tables.IsRefused
with-layout f o l None is laid none =
    let t : TableSet = record { local = tables.local_symbols o l o.relas; fixed = tables.fixed_symbols o l o.relas } in
    inl (record { object = o; layout = l; tables = t }, record { object = is; layout = laid; tables = record { no_row = none; local_found = refl; fixed_found = refl } })
with-layout f o l (Some r) is laid row = inr (refusal.Tables r, (o, l, is, laid, row))

-- for an object, by whether it has a layout
with-object : (f : List ℕ) (o : Object) (x : Option PartRefusal) → IsObject f o → parts.first_row o ≡ x
    → ((p : Planned) × IsPlan f p) ⊎ ((r : LinkRefusal) × IsRefused f r)
unfolding parts.IsRefused
with-object f o None is none =
    let l : Layout = record { spots = spots o.sections; sizes = sizes (ends o.sections); exports = all_exports o } in
    with-layout f o l (tables.first_row o l) is (record { no_row = none; spots_laid = refl; sizes_laid = refl; exports_found = refl }) refl
with-object f o (Some r) is row = inr (refusal.Parts r, (o, is, row))

pub some_plan : (f : List ℕ) → ((p : Planned) × IsPlan f p) ⊎ ((r : LinkRefusal) × IsRefused f r)
some_plan f = elim (some_answer f) [
  | inl found ↦ with-object f found.0 (parts.first_row found.0) found.1 refl
  | inr refused ↦ inr (refusal.Object refused.0, refused.1)
]
