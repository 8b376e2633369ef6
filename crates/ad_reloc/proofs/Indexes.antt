-- One symbol more in an index.
use Rattle.std.proofs.Common.{◌≡◌, inl, inr, ℕ, zero, suc, ◌+◌, ◌*◌, ◌^◌, ◌<◌, ◌==◌, add-one, nat_lt, Bool, true, false, cond, List, [], Option, Some, None, length, slice_index, refl, sym, ap, ◌∙◌, arith}
use Rattle.std.specs.BTreeMap.{BTreeMap, Updates, get}
use Rattle.std.specs.Option.{IfSome, is_some, option_or}
use Rattle.std.specs.Ordering.{is_eq, nat_cmp}
use Rattle.std.proofs.lemmas.Bool.{cases_Bool, eqb-true, ltb-true, ne_eqb}
use Rattle.ad_elf.specs.Below.{first}
use Rattle.ad_elf.proofs.Below.{first-zero}
use Rattle.ad_reloc.specs.Private.Indexed.{IsIndexed, place_below}

pub indexed-none : (list : List ℕ) (m : BTreeMap ℕ ℕ) → m.entries ≡ [] → IsIndexed 0 list m
indexed-none list m none = record { each_one = λ q. rw (none, first-zero) refl }

place-more : (n : ℕ) (list : List ℕ) (q : ℕ) → place_below (n + 1) list q ≡ option_or (place_below n list q) (cond (slice_index list n == q) (Some n) None)
unfolding first
place-more n list q = rw add-one refl

pub is_eq-nat_cmp : (x y : ℕ) → is_eq (nat_cmp x y) ≡ (x == y)
is_eq-nat_cmp x y =
    elim (cases_Bool (nat_lt x y)) [
      | inl less ↦ (rw (less, ne_eqb x y (λ e. omega (arith, e, ltb-true x y less))) refl)
      | inr more ↦ (rw more (elim (cases_Bool (x == y)) [
        | inl same ↦ (rw same refl)
        | inr other ↦ (rw other refl)
      ]))
    ]

pub or_none : (x : Option ℕ) → option_or x None ≡ x
or_none None = refl
or_none (Some n) = refl

pub is_some-not : (x : Option ℕ) → is_some x ≡ false → x ≡ None
is_some-not None e = refl
is_some-not (Some n) e = cc

pub or_some : (x y : Option ℕ) → is_some x ≡ true → option_or x y ≡ x
or_some None y e = cc
or_some (Some n) y e = refl

pub indexed-new : (n : ℕ) (list : List ℕ) (m new : BTreeMap ℕ ℕ) → is_some (get nat_cmp m (slice_index list n)) ≡ false → Updates nat_cmp m new (slice_index list n) (Some n) → IsIndexed n list m → IsIndexed (n + 1) list new
indexed-new n list m new absent updates had = record {
  each_one = λ q.
      updates.0 q
      ∙ elim (cases_Bool (slice_index list n == q)) [
        | inl same ↦ (rw (is_eq-nat_cmp, same, place-more, is_some-not (place_below n list q) (ap is_some (sym (had.each_one q)) ∙ ap (λ s. is_some (get nat_cmp m s)) (sym (eqb-true (slice_index list n) q same)) ∙ absent)) (rw same refl))
        | inr other ↦ (rw (is_eq-nat_cmp, other, place-more) (rw (other, or_none) (had.each_one q)))
      ];
}

pub indexed-old : (n : ℕ) (list : List ℕ) (m : BTreeMap ℕ ℕ) → is_some (get nat_cmp m (slice_index list n)) ≡ true → IsIndexed n list m → IsIndexed (n + 1) list m
indexed-old n list m there had = record {
  each_one = λ q.
      elim (cases_Bool (slice_index list n == q)) [
        | inl same ↦ (rw (place-more, or_some (place_below n list q) (cond (slice_index list n == q) (Some n) None) (ap is_some (sym (had.each_one q)) ∙ ap (λ s. is_some (get nat_cmp m s)) (sym (eqb-true (slice_index list n) q same)) ∙ there)) (had.each_one q))
        | inr other ↦ (rw (place-more, other, or_none) (had.each_one q))
      ];
}

-- a place is below the bound
same_place : (m e : ℕ) → Some m ≡ Some e → m ≡ e
same_place m e found = cc

last_place : (n e : ℕ) (b : Bool) → cond b (Some n) None ≡ Some e → n ≡ e
last_place n e true found = same_place n e found
last_place n e false found = cc

one_of : (n e : ℕ) (b : Bool) (x : Option ℕ) → ((m : ℕ) → x ≡ Some m → m < n) → option_or x (cond b (Some n) None) ≡ Some e → e < suc n
one_of n e b None below found = omega (arith, last_place n e b found)
one_of n e b (Some m) below found = omega (arith, below m refl, same_place m e found)

pub place-below : (list : List ℕ) (q n e : ℕ) → place_below n list q ≡ Some e → e < n
unfolding first
place-below list q zero e found = cc
place-below list q (suc n) e found = one_of n e (slice_index list n == q) (place_below n list q) (place-below list q n) found

pub place-within : (list : List ℕ) (q : ℕ) (x : Option ℕ) → length list * 8 < 2 ^ 63 → x ≡ place_below (length list) list q → IfSome x (λ e. e < 2 ^ 60)
place-within list q None few is = tt
place-within list q (Some e) few is = omega (arith, few, place-below list q (length list) e (sym is))
