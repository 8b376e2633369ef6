-- The lists of symbols, one symbol more.
use Rattle.std.proofs.Common.{◌≡◌, inl, inr, ℕ, ◌==◌, Bool, true, false, not, cond, List, [], ◌∷◌, ◌++◌, filter, map, refl, ap, ◌∙◌, arith}
use Rattle.std.specs.List.{list_any}
use Rattle.std.proofs.lemmas.Bool.{cases_Bool, eqb-true}
use Rattle.std.proofs.lemmas.List.{append-nil, map-append}
use Rattle.std.proofs.lemmas.List.Elements.{filter-append}
use Rattle.ad_elf.specs.declared.object.Object.{Object}
use Rattle.ad_elf.specs.declared.object.Rela.{Rela}
use Rattle.ad_parts.specs.declared.layout.Layout.{Layout}
use Rattle.ad_tables.specs.declared.need.Need.{Need}
use Rattle.ad_tables.specs.Private.Entries.{with_symbol}
use Rattle.ad_tables.specs.Tables.{need_of, needing, symbols_needing, without_repeats}

pub with_symbol-new : (list : List ℕ) (symbol : ℕ) → list_any (λ t. t == symbol) list ≡ false → with_symbol list symbol ≡ list ++ symbol ∷ []
unfolding with_symbol
with_symbol-new list symbol absent = rw absent refl

pub with_symbol-old : (list : List ℕ) (symbol : ℕ) → list_any (λ t. t == symbol) list ≡ true → with_symbol list symbol ≡ list
unfolding with_symbol
with_symbol-old list symbol there = rw there refl

-- the items are the same ones without repeats
any-filter : (x q : ℕ) (xs : List ℕ) → (q == x) ≡ false → list_any (λ t. t == q) (filter (λ y. not (y == x)) xs) ≡ list_any (λ t. t == q) xs
any-filter x q [] other = refl
any-filter x q (y ∷ ys) other =
    elim (cases_Bool (y == x)) [
      | inl same ↦ (rw (same, any-filter x q ys other, eqb-true y x same) (rw (flip x q other) refl))
      | inr differs ↦ (rw (differs, any-filter x q ys other) refl)
    ]
  where
    flip : (x q : ℕ) → (q == x) ≡ false → (x == q) ≡ false
    flip x q e = grind (arith, e)

pub any-without_repeats : (q : ℕ) (xs : List ℕ) → list_any (λ t. t == q) (without_repeats xs) ≡ list_any (λ t. t == q) xs
unfolding without_repeats
any-without_repeats q [] = refl
any-without_repeats q (x ∷ xs) =
    elim (cases_Bool (x == q)) [
      | inl here ↦ (rw here refl)
      | inr other ↦ (rw other (any-filter x q (without_repeats xs) (grind (arith, other)) ∙ any-without_repeats q xs))
    ]

-- one item more, without repeats
eqb-flip : (x y : ℕ) (b : Bool) → (x == y) ≡ b → (y == x) ≡ b
eqb-flip x y true e = grind (arith, e)
eqb-flip x y false e = grind (arith, e)

push_step : (y x : ℕ) (ws : List ℕ) → y ∷ filter (λ z. not (z == y)) (with_symbol ws x) ≡ with_symbol (y ∷ filter (λ z. not (z == y)) ws) x
unfolding with_symbol
push_step y x ws =
    elim (cases_Bool (y == x)) [
      | inl same ↦ (
          let back : (x == y) ≡ true = eqb-flip y x true same in
          elim (cases_Bool (list_any (λ t. t == x) ws)) [
            | inl there ↦ (rw (there, same) refl)
            | inr absent ↦ (rw (absent, same, filter-append, back, append-nil) refl)
          ])
      | inr other ↦ (
          let back : (x == y) ≡ false = eqb-flip y x false other in
          let kept = any-filter y x ws back in
          elim (cases_Bool (list_any (λ t. t == x) ws)) [
            | inl there ↦ (rw (there, other, kept) (rw there refl))
            | inr absent ↦ (rw (absent, other, kept) (rw (absent, filter-append, back) refl))
          ])
    ]

pub without_repeats-push : (xs : List ℕ) (x : ℕ) → without_repeats (xs ++ x ∷ []) ≡ with_symbol (without_repeats xs) x
unfolding without_repeats with_symbol
without_repeats-push [] x = refl
without_repeats-push (y ∷ ys) x = ap (λ zs. y ∷ filter (λ z. not (z == y)) zs) (without_repeats-push ys x) ∙ push_step y x (without_repeats ys)

-- one entry more
pub symbols_needing-push : (test : Need → Bool) (o : Object) (l : Layout) (rs : List Rela) (r : Rela)
    → symbols_needing test o l (rs ++ r ∷ []) ≡ cond (test (need_of o l r)) (with_symbol (symbols_needing test o l rs) r.symbol) (symbols_needing test o l rs)
symbols_needing-push test o l rs r =
    ap (λ xs. without_repeats (map (λ (r : Rela). r.symbol) xs)) (filter-append (λ r. test (need_of o l r)) rs (r ∷ []))
    ∙ elim (cases_Bool (test (need_of o l r))) [
      | inl some ↦ (rw (some, map-append) (without_repeats-push (map (λ (r : Rela). r.symbol) (needing test o l rs)) r.symbol))
      | inr none ↦ (rw (none, append-nil) refl)
    ]
