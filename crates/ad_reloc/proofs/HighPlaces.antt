-- One entry more in an index of the entries with high halves.
use Rattle.std.proofs.Common.{◌≡◌, inl, inr, ℕ, ◌+◌, ◌<◌, ◌==◌, ◌&&◌, add-one, Bool, true, false, cond, List, [], Ordering, Some, None, get_or, length, refl, sym, ap, ap₂, ◌∙◌}
use Rattle.std.specs.BTreeMap.{BTreeMap, Updates, get}
use Rattle.std.specs.Option.{is_some, option_or}
use Rattle.std.specs.Ordering.{is_eq, nat_cmp, ordering_then}
use Rattle.std.specs.declared.cmp.Ordering.TheVariants.{Less, Equal, Greater}
use Rattle.std.proofs.lemmas.Bool.{and_parts, cases_Bool, eqb-true}
use Rattle.std.proofs.lemmas.Option.{slice_get-get_or}
use Rattle.ad_elf.specs.declared.object.Rela.{Rela}
use Rattle.ad_elf.specs.Below.{first}
use Rattle.ad_elf.proofs.Below.{first-zero}
use Rattle.ad_reloc.specs.Highs.{has_high_at, is_high, is_high_at}
use Rattle.ad_reloc.specs.Private.HighPlaces.{ArePlaces, by_both}
use Rattle.ad_reloc.proofs.Indexes.{is_eq-nat_cmp, is_some-not, or_none, or_some}

pub places-none : (rs : List Rela) (m : BTreeMap (ℕ × ℕ) ℕ) → m.entries ≡ [] → ArePlaces 0 rs m
places-none rs m none = record { each_one = λ target offset. rw (none, first-zero) refl }

first-more : (rs : List Rela) (target offset n : ℕ) → first (has_high_at rs target offset) (n + 1) ≡ option_or (first (has_high_at rs target offset) n) (cond (has_high_at rs target offset n) (Some n) None)
unfolding first
first-more rs target offset n = rw add-one refl

then-eq : (a b : Ordering) → is_eq (ordering_then a b) ≡ (is_eq a && is_eq b)
then-eq Less b = refl
then-eq Equal b = refl
then-eq Greater b = refl

is_eq-by_both : (x y : ℕ × ℕ) → is_eq (by_both x y) ≡ ((x.0 == y.0) && (x.1 == y.1))
is_eq-by_both x y = then-eq (nat_cmp x.0 y.0) (nat_cmp x.1 y.1) ∙ ap₂ (λ a b. a && b) (is_eq-nat_cmp x.0 y.0) (is_eq-nat_cmp x.1 y.1)

has-here : (rs : List Rela) (n : ℕ) (d : Rela) (target offset : ℕ) → n < length rs → has_high_at rs target offset n ≡ is_high_at target offset (get_or rs n d)
has-here rs n d target offset below = rw (slice_get-get_or rs n d below) refl

-- an entry that has no high half, one that isn't the first at its offset, and one that is
pub places-other : (n : ℕ) (rs : List Rela) (m : BTreeMap (ℕ × ℕ) ℕ) (d : Rela) → n < length rs → is_high (get_or rs n d).typ ≡ false → ArePlaces n rs m → ArePlaces (n + 1) rs m
places-other n rs m d below other had = record {
  each_one = λ target offset. had.each_one target offset ∙ sym (first-more rs target offset n ∙ ap (λ b. option_or (first (has_high_at rs target offset) n) (cond b (Some n) None)) (has-here rs n d target offset below ∙ ap (λ b. b && (((get_or rs n d).target == target) && ((get_or rs n d).offset == offset))) other) ∙ or_none (first (has_high_at rs target offset) n));
}

same_place : (r : Rela) (target offset : ℕ) → is_high_at target offset r ≡ true → (r.target ≡ target) × (r.offset ≡ offset)
same_place r target offset e =
    let both = (and_parts (is_high r.typ) ((r.target == target) && (r.offset == offset)) e).1 in
    let parts = and_parts (r.target == target) (r.offset == offset) both in
    (eqb-true r.target target parts.0, eqb-true r.offset offset parts.1)

-- what the index says of an entry's place
said : (n : ℕ) (rs : List Rela) (m : BTreeMap (ℕ × ℕ) ℕ) (r : Rela) (target offset : ℕ) → is_high_at target offset r ≡ true → ArePlaces n rs m → is_some (first (has_high_at rs target offset) n) ≡ is_some (get by_both m (r.target, r.offset))
said n rs m r target offset e had =
    let same = same_place r target offset e in
    ap is_some (sym (had.each_one target offset)) ∙ ap₂ (λ a b. is_some (get by_both m (a, b))) (sym same.0) (sym same.1)

pub places-old : (n : ℕ) (rs : List Rela) (m : BTreeMap (ℕ × ℕ) ℕ) (d : Rela) → n < length rs → is_some (get by_both m ((get_or rs n d).target, (get_or rs n d).offset)) ≡ true → ArePlaces n rs m → ArePlaces (n + 1) rs m
places-old n rs m d below there had = record {
  each_one = λ target offset.
      let here = has-here rs n d target offset below in
      let more = first-more rs target offset n in
      elim (cases_Bool (is_high_at target offset (get_or rs n d))) [
        | inl same ↦ had.each_one target offset ∙ sym (more ∙ or_some (first (has_high_at rs target offset) n) (cond (has_high_at rs target offset n) (Some n) None) (said n rs m (get_or rs n d) target offset same had ∙ there))
        | inr other ↦ had.each_one target offset ∙ sym (more ∙ ap (λ b. option_or (first (has_high_at rs target offset) n) (cond b (Some n) None)) (here ∙ other) ∙ or_none (first (has_high_at rs target offset) n))
      ];
}

and_true : (a : Bool) → a ≡ true → (b : Bool) → (a && b) ≡ b
and_true a e b = rw e refl

pub places-new : (n : ℕ) (rs : List Rela) (m new : BTreeMap (ℕ × ℕ) ℕ) (d : Rela) → n < length rs → is_high (get_or rs n d).typ ≡ true → is_some (get by_both m ((get_or rs n d).target, (get_or rs n d).offset)) ≡ false
    → Updates by_both m new ((get_or rs n d).target, (get_or rs n d).offset) (Some n) → ArePlaces n rs m → ArePlaces (n + 1) rs new
places-new n rs m new d below high absent updates had = record {
  each_one = λ target offset.
      let r = get_or rs n d in
      let key : is_eq (by_both (r.target, r.offset) (target, offset)) ≡ is_high_at target offset r = is_eq-by_both (r.target, r.offset) (target, offset) ∙ sym (and_true (is_high r.typ) high ((r.target == target) && (r.offset == offset))) in
      let found = updates.0 (target, offset) ∙ ap (λ b. cond b (Some n) (get by_both m (target, offset))) key in
      let here = has-here rs n d target offset below in
      let more = first-more rs target offset n in
      elim (cases_Bool (is_high_at target offset r)) [
        | inl same ↦ found ∙ ap (λ b. cond b (Some n) (get by_both m (target, offset))) same ∙ sym (more ∙ ap₂ (λ x b. option_or x (cond b (Some n) None)) (is_some-not (first (has_high_at rs target offset) n) (said n rs m r target offset same had ∙ absent)) (here ∙ same))
        | inr other ↦ found ∙ ap (λ b. cond b (Some n) (get by_both m (target, offset))) other ∙ had.each_one target offset ∙ sym (more ∙ ap (λ b. option_or (first (has_high_at rs target offset) n) (cond b (Some n) None)) (here ∙ other) ∙ or_none (first (has_high_at rs target offset) n))
      ];
}
