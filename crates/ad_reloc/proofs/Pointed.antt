-- The words that entries point from, of which the last counts.
use Rattle.std.proofs.Common.{◌≡◌, ◌≢◌, inl, inr, ℕ, zero, suc, ◌+◌, ◌-◌, pos, ◌<◌, ◌≤◌, ◌==◌, true, false, find, List, [], ◌∷◌, ◌++◌, get_or, length, length-append, reverse, set, slice_set, take, drop, subst, refl, sym, ap, ◌∙◌, arith}
use Rattle.std.specs.List.{All}
use Rattle.std.specs.Option.{option_map_or}
use Rattle.std.proofs.lemmas.Bool.{cases_Bool, eqb-true}
use Rattle.ad_tables.specs.Tables.{section_words}
use Rattle.std.proofs.lemmas.List.{append-nil, drop_all, reverse-append, set-append_left, set-append_right}
use Rattle.ad_base.specs.declared.image.Cell.{Cell}
use Rattle.ad_elf.specs.Below.{each}
use Rattle.ad_elf.proofs.Below.{joined-more, joined-zero}
use Rattle.ad_elf.specs.declared.object.Object.{Object}
use Rattle.ad_elf.specs.declared.object.Rela.{Rela}
use Rattle.ad_parts.specs.declared.layout.Layout.{Layout}
use Rattle.ad_tables.specs.declared.table_set.TableSet.{TableSet}
use lib.Seq.{take_all}
use Rattle.ad_reloc.specs.Addresses.{field_offset}
use Rattle.ad_reloc.specs.Image.{cell_at, local_at, makes_word, other_cell, pointed, points_to}
use Rattle.ad_reloc.specs.Private.Parts.{ArePointersFine, IsPointerFine, PointsAt}

pub length_each : {X : Type 0} (f : ℕ → X) (n : ℕ) → length (each f n) ≡ n
length_each f zero = ap length (joined-zero (λ i. f i ∷ []))
length_each f (suc n) =
    let more : suc n ≡ n + 1 = omega arith in
    ap (λ n. length (each f n)) more ∙ ap length (joined-more (λ i. f i ∷ []) n) ∙ omega (arith, length-append (each f n) (f n ∷ []), length_each f n)

-- two functions that agree give the same
same_each : {X : Type 0} (f g : ℕ → X) (n : ℕ) → ((i : ℕ) → i < n → f i ≡ g i) → each f n ≡ each g n
same_each f g zero same = joined-zero (λ i. f i ∷ []) ∙ sym (joined-zero (λ i. g i ∷ []))
same_each f g (suc n) same =
    let more : suc n ≡ n + 1 = omega arith in
    let front = same_each f g n (λ i below. same i (omega (arith, below))) in
    ap (each f) more ∙ joined-more (λ i. f i ∷ []) n ∙ (λ j. front j ++ same n (omega arith) j ∷ []) ∙ sym (joined-more (λ i. g i ∷ []) n) ∙ sym (ap (each g) more)

-- one item that is set
set_each : {X : Type 0} (f g : ℕ → X) (n k : ℕ) → k < n → ((i : ℕ) → i ≢ k → f i ≡ g i) → slice_set (each f n) k (g k) ≡ each g n
set_each f g zero k below same = absurd (omega (arith, below))
set_each f g (suc n) k below same =
    let more : suc n ≡ n + 1 = omega arith in
    let begin : slice_set (each f (suc n)) k (g k) ≡ slice_set (each f n ++ f n ∷ []) k (g k) = ap (λ xs. slice_set xs k (g k)) (ap (each f) more ∙ joined-more (λ i. f i ∷ []) n) in
    let end : each g n ++ g n ∷ [] ≡ each g (suc n) = sym (ap (each g) more ∙ joined-more (λ i. g i ∷ []) n) in
    elim (cases_Bool (k == n)) [
      | inl last ↦ (
          let here = eqb-true k n last in
          let front = same_each f g n (λ i low. same i (λ e. differs i k n e here low)) in
          let gap : n - n ≡ 0 = omega arith in
          let mid : slice_set (each f n ++ f n ∷ []) k (g k) ≡ each f n ++ g n ∷ [] =
          set-append_right (each f n) (f n ∷ []) n k (g k) (length_each f n) (omega (arith, here))
          ∙ ap (λ j. each f n ++ set (f n ∷ []) (j - n) (g j)) here ∙ ap (λ j. each f n ++ set (f n ∷ []) j (g n)) gap in
          begin ∙ mid ∙ ap (λ xs. xs ++ g n ∷ []) front ∙ end)
      | inr other ↦ (
          let low : k < n = less k n other below in
          let front = set_each f g n k low same in
          let mid : slice_set (each f n ++ f n ∷ []) k (g k) ≡ slice_set (each f n) k (g k) ++ f n ∷ [] = set-append_left (each f n) (f n ∷ []) k (g k) (omega (arith, low, length_each f n)) in
          begin ∙ mid ∙ (λ j. front j ++ same n (λ e. above k n e low) j ∷ []) ∙ end)
    ]
  where
    differs : (i k n : ℕ) → i ≡ k → k ≡ n → i < n → ⊥
    differs i k n a b c = omega (arith, a, b, c)

    above : (k n : ℕ) → n ≡ k → k < n → ⊥
    above k n a b = omega (arith, a, b)

    less : (k n : ℕ) → (k == n) ≡ false → k < suc n → k < n
    less k n a b = grind (arith, a, b)

take_next : {A : Type 0} (xs : List A) (k : ℕ) (d : A) → k < length xs → take (suc k) xs ≡ take k xs ++ get_or xs k d ∷ []
take_next [] k d h = absurd (omega arith)
take_next (x ∷ xs) zero d h = refl
take_next (x ∷ xs) (suc k) d h = ap (λ xs. x ∷ xs) (take_next xs k d (omega arith))

module _ (o : Object) (l : Layout) (t : TableSet) (movable : List ℕ) where
  -- one entry more
  more_entries : (rs : List Rela) (r : Rela) (i : ℕ) → cell_at o l t movable (rs ++ r ∷ []) i ≡ option_map_or (pointed o l) (find (points_to o l i) (r ∷ reverse rs)) (other_cell o l t movable i)
  unfolding cell_at
  more_entries rs r i = ap (λ rs. option_map_or (pointed o l) (find (points_to o l i) rs) (other_cell o l t movable i)) (reverse-append rs (r ∷ []))

  entry_here : (rs : List Rela) (r : Rela) (i : ℕ) → points_to o l i r ≡ true → pointed o l r ≡ cell_at o l t movable (rs ++ r ∷ []) i
  entry_here rs r i here = sym (more_entries rs r i ∙ rw here refl)

  entry_elsewhere : (rs : List Rela) (r : Rela) (i : ℕ) → points_to o l i r ≡ false → cell_at o l t movable rs i ≡ cell_at o l t movable (rs ++ r ∷ []) i
  unfolding cell_at
  entry_elsewhere rs r i other = sym (more_entries rs r i ∙ rw other refl)

  pub point_more : (rs : List Rela) (k : ℕ) (d : Rela) (n : ℕ) (old new : List Cell) → k < length rs → old ≡ each (cell_at o l t movable (take k rs)) n
      → (makes_word o l (get_or rs k d) ≡ false → new ≡ old) → (makes_word o l (get_or rs k d) ≡ true → PointsAt o l (get_or rs k d) old new) → (makes_word o l (get_or rs k d) ≡ true → IsPointerFine l (length old) (get_or rs k d))
      → new ≡ each (cell_at o l t movable (take (k + 1) rs)) n
  point_more rs k d n old new below before other word inside =
      let r = get_or rs k d in
      let more : suc k ≡ k + 1 = omega arith in
      let taken : take k rs ++ r ∷ [] ≡ take (k + 1) rs = sym (take_next rs k d below) ∙ ap (λ n. take n rs) more in
      let f = cell_at o l t movable (take k rs) in
      let g = cell_at o l t movable (take k rs ++ r ∷ []) in
      let made : new ≡ each g n = (elim (cases_Bool (makes_word o l r)) [
        | inl makes ↦ (
            let at = word makes in
            let hit : points_to o l at.0 r ≡ true = rw makes (same_number (field_offset l r) (local_at l at.0) at.1) in
            let set_here : slice_set (each f n) at.0 (g at.0) ≡ each g n =
            set_each f g n at.0 (inside_of (field_offset l r) at.0 n (inside makes) at.1 (ap length before ∙ length_each f n)) (λ i e. entry_elsewhere (take k rs) r i (rw makes (other_number (field_offset l r) (local_at l at.0) i at.0 l at.1 e))) in
            at.2 ∙ ap (λ xs. slice_set xs at.0 (pointed o l r)) before ∙ ap (slice_set (each f n) at.0) (entry_here (take k rs) r at.0 hit) ∙ set_here)
        | inr none ↦ (other none ∙ before ∙ same_each f g n (λ i low. entry_elsewhere (take k rs) r i (rw none refl)))
      ]) in
      made ∙ ap (λ rs. each (cell_at o l t movable rs) n) taken
    where
      same_number : (a b : ℕ) → a ≡ b → (a == b) ≡ true
      same_number a b e = grind (arith, e)

      inside_of : (a w n : ℕ) {m : ℕ} → (k : ℕ) × (k < m) × (a ≡ local_at l k) → a ≡ local_at l w → m ≡ n → w < n
      inside_of a w n h e long = omega (arith, h.1, h.2, e, long)

      other_number : (a b i w : ℕ) (l : Layout) → a ≡ local_at l w → i ≢ w → (a == local_at l i) ≡ false
      other_number a b i w l e d = grind (arith, e, d)

  pub no_entries : (rs : List Rela) (n : ℕ) (out : List Cell) → out ≡ each (other_cell o l t movable) n → out ≡ each (cell_at o l t movable (take 0 rs)) n
  unfolding cell_at
  no_entries rs n out is = is

  pub fine_pointer : (rs : List Rela) (k : ℕ) (d : Rela) (m : ℕ) (old : List Cell) → rs ≡ o.relas → k < length rs → ArePointersFine o l → old ≡ each (cell_at o l t movable (take k rs)) (section_words l + m)
      → makes_word o l (get_or rs k d) ≡ true → IsPointerFine l (length old) (get_or rs k d)
  fine_pointer rs k d m old same below all long makes =
      let fine : IsPointerFine l (section_words l) (get_or rs k d) = subst (λ rs. All (λ (r : Rela). makes_word o l r ≡ true → IsPointerFine l (section_words l) r) rs) (sym same) all k d below makes in
      (fine.0, omega (arith, fine.1, ap length long, length_each (cell_at o l t movable (take k rs)) (section_words l + m)), fine.2)

pub all_entries : (rs : List Rela) (k : ℕ) → length rs ≤ k → take k rs ≡ rs
all_entries rs k all = take_all k rs all

-- a slice of cells that was written back
pub set_back : (n : ℕ) (new old : List Cell) → n ≡ length old → length new ≡ length old → take n (new ++ drop (length new) old) ≡ new
set_back n new old long same = rw (drop_all (length new) old (omega (arith, same)), append-nil new) (take_all n new (omega (arith, long, same)))

-- what a search past the end of a list of entries gives
abbrev pub no_rela : Rela
no_rela = record { section = 0; entry = 0; target = 0; offset = 0; symbol = 0; typ = 0; addend = pos 0 }
