-- The directory's words, each at the number of its mapping, and the rows that they say.
use Rattle.std.proofs.Common.{◌≡◌, ◌≢◌, ⊎_elim, inl, inr, ℕ, zero, suc, ◌+◌, ◌/◌, ◌%◌, ◌<◌, List, [], ◌∷◌, ◌++◌, length, get_or, set, sym, ap, ◌∙◌, subst, arith}
use Rattle.std.specs.List.{All, Contains}
use Rattle.std.proofs.Math.ListN.{length-set}
use Rattle.std.proofs.lemmas.Bool.{cases_eq}
use Rattle.std.proofs.lemmas.List.{get_or-set_same, get_or-set_other}
use Rattle.std.proofs.lemmas.List.Elements.{Contains-append_left, Contains-push, Contains-push_cases, All-nil, All-push}
use Rattle.std.proofs.lemmas.List.Quantifiers.{all_pairs_push}
use mathlib.Core.Option.{some, some-injective, some-ne-none}
use lib.ListN.{get_elem?}
use Rattle.ad_base.specs.declared.ledger.Row.{Row}
use Rattle.ad_maps.specs.Private.Numbered.{place_in, directory_at, line_of, member_at, region_in, row_at, AreLined, AreMembers, AreNumbered, AreRowsBelow, HasPlace, IsByNumber, IsDirectory, SayRows}
use Rattle.ad_maps.proofs.Elements.{none-in}

pub got : {A : Type 0} (xs : List A) (i : ℕ) (x d : A) → get_elem? xs i ≡ some x → get_or xs i d ≡ x
got [] i x d e = absurd (some-ne-none x (sym e))
got (y ∷ ys) zero x d e = some-injective y x e
got (y ∷ ys) (suc i) x d e = got ys i x d e

-- ---- the words by number
pub none_numbered : (words numbered : List ℕ) → length numbered ≡ 4096 → All (λ (x : ℕ). x ≡ 0) numbered → AreNumbered words 0 numbered
none_numbered words numbered long zeros = record {
  len = long;
  found = λ n low some_word. absurd (some_word (zeros n 0 (omega arith)));
  each = λ r low. absurd (omega arith);
}

-- one region more, which has no mapping
pub same_numbered : (words : List ℕ) (k word : ℕ) (numbered : List ℕ) → AreNumbered words k numbered → get_elem? words (24 + k) ≡ some word → word ≡ 0 → AreNumbered words (k + 1) numbered
same_numbered words k word numbered are at none = record {
  len = are.len;
  found = λ n low some_word. (let t = are.found n low some_word in (t.0, (let l = t.1 in omega arith), t.2, t.3));
  each = λ r low some_word.
      elim (cases_eq r k) [
        | inl e ↦ absurd (some_word (ap (directory_at words) e ∙ (got words (24 + k) word 0 at ∙ none)))
        | inr ne ↦ are.each r (omega arith) some_word
      ];
}

-- the word of a region has a place
pub word_has_place : (words : List ℕ) (k word : ℕ) → IsDirectory words → k < 65536 → get_elem? words (24 + k) ≡ some word → word ≢ 0 → HasPlace word
word_has_place words k word form low at some_word =
    let is = got words (24 + k) word 0 at in
    subst HasPlace is (form.form k low (λ z. some_word (sym is ∙ z)))

-- one region more, which has one
pub one_numbered : (words : List ℕ) (k word : ℕ) (numbered : List ℕ) (m : ℕ) → AreNumbered words k numbered → IsDirectory words → k < 65536 → get_elem? words (24 + k) ≡ some word → word ≢ 0
    → m ≡ (place_in word).mapping → m < 4096 → AreNumbered words (k + 1) (set numbered m word)
one_numbered words k word numbered m are form low at some_word is few =
    let here : directory_at words k ≡ word = got words (24 + k) word 0 at in
    let long = are.len in
    let now : get_or (set numbered m word) m 0 ≡ word = get_or-set_same numbered m word 0 (omega arith) in record {
      len = length-set numbered m word ∙ are.len;
      found = λ n low some_one.
          elim (cases_eq n m) [
            | inl e ↦
                let same : get_or (set numbered m word) n 0 ≡ word = ap (λ (i : ℕ). get_or (set numbered m word) i 0) e ∙ now in
                (k, omega arith, here ∙ sym same, ap (λ (x : ℕ). (place_in x).mapping) same ∙ (sym is ∙ sym e))
            | inr ne ↦
                let same : get_or (set numbered m word) n 0 ≡ get_or numbered n 0 = get_or-set_other numbered m n word 0 ne in
                let t = are.found n low (λ z. some_one (same ∙ z)) in
                (t.0, (let l = t.1 in omega arith), t.2 ∙ sym same, ap (λ (x : ℕ). (place_in x).mapping) same ∙ t.3)
          ];
      each = λ r below some_one.
          elim (cases_eq r k) [
            | inl e ↦
                let same : directory_at words r ≡ word = ap (directory_at words) e ∙ here in
                ap (λ (x : ℕ). get_or (set numbered m word) (place_in x).mapping 0) same ∙ (ap (λ (i : ℕ). get_or (set numbered m word) i 0) (sym is) ∙ (now ∙ sym same))
            | inr ne ↦
                get_or-set_other numbered m (place_in (directory_at words r)).mapping word 0
                (λ e. ne (form.once r k (omega arith) low some_one (λ z. some_word (sym here ∙ z)) (e ∙ (is ∙ ap (λ (x : ℕ). (place_in x).mapping) (sym here)))))
                ∙ are.each r (omega arith) some_one
          ];
    }

-- what stands at a number has a place with it
pub by_number : (words numbered : List ℕ) → AreNumbered words 65536 numbered → IsDirectory words → IsByNumber numbered
by_number words numbered are form = record {
  len = are.len;
  form = λ n low some_word. (let t = are.found n low some_word in subst HasPlace t.2 (form.form t.0 t.1 (λ z. some_word (sym t.2 ∙ z))));
  number = λ n low some_word. (are.found n low some_word).3;
}

-- ---- the lines by region
pub none_lined : (words lines : List ℕ) → length lines ≡ 65536 → All (λ (x : ℕ). x ≡ 0) lines → AreLined words 0 lines
none_lined words lines long zeros = record {
  len = long;
  found = λ r low some_line. absurd (some_line (zeros r 0 (omega arith)));
  each = λ i low. absurd (omega arith);
}

-- one member more, which there isn't
pub same_lined : (words : List ℕ) (k word : ℕ) (lines : List ℕ) → AreLined words k lines → get_elem? words (135320 + k) ≡ some word → word ≡ 0 → AreLined words (k + 1) lines
same_lined words k word lines are at none = record {
  len = are.len;
  found = λ r low some_line. (let t = are.found r low some_line in (t.0, (let l = t.1 in omega arith), t.2, t.3));
  each = λ i low some_word.
      elim (cases_eq i k) [
        | inl e ↦ absurd (some_word (ap (member_at words) e ∙ (got words (135320 + k) word 0 at ∙ none)))
        | inr ne ↦ are.each i (omega arith) some_word
      ];
}

-- one member more, which there is
pub one_lined : (words : List ℕ) (k word : ℕ) (lines : List ℕ) → AreLined words k lines → AreMembers words → k < 32768 → get_elem? words (135320 + k) ≡ some word → word ≢ 0 → AreLined words (k + 1) (set lines (word % 65536) (word / 65536))
one_lined words k word lines are once low at some_word =
    let here : member_at words k ≡ word = got words (135320 + k) word 0 at in
    let v : ℕ = word % 65536 in
    let long = are.len in
    let now : get_or (set lines v (word / 65536)) v 0 ≡ word / 65536 = get_or-set_same lines v (word / 65536) 0 (omega arith) in record {
      len = length-set lines v (word / 65536) ∙ are.len;
      found = λ r within some_line.
          elim (cases_eq r v) [
            | inl e ↦ (k, omega arith, (λ z. some_word (sym here ∙ z)), ap region_in here ∙ sym e)
            | inr ne ↦ let t = are.found r within (λ z. some_line (get_or-set_other lines v r (word / 65536) 0 ne ∙ z)) in (t.0, (let l = t.1 in omega arith), t.2, t.3)
          ];
      each = λ i below some_one.
          elim (cases_eq i k) [
            | inl e ↦
                let same : member_at words i ≡ word = ap (member_at words) e ∙ here in
                ap (λ (w : ℕ). get_or (set lines v (word / 65536)) (region_in w) 0) same ∙ (now ∙ ap line_of (sym same))
            | inr ne ↦
                get_or-set_other lines v (region_in (member_at words i)) (word / 65536) 0 (λ e. ne (once i k (omega arith) low some_one (λ z. some_word (sym here ∙ z)) (e ∙ ap region_in (sym here))))
                ∙ are.each i (omega arith) some_one
          ];
    }

-- ---- the rows
pub no_rows : (frames : ℕ) (lines numbered : List ℕ) → AreRowsBelow frames lines numbered 0 []
no_rows frames lines numbered = record {
  each_word = λ n low. absurd (omega arith);
  each_row = λ r c. absurd (none-in r c);
  in_order = λ i j d before inside. absurd (omega arith);
  below = All-nil (λ (r : Row). r.mapping < 0);
}

-- one number more, which no mapping has
pub same_rows : (frames k word : ℕ) (lines numbered : List ℕ) (rows : List Row) → AreRowsBelow frames lines numbered k rows → word ≡ get_or numbered k 0 → word ≡ 0 → AreRowsBelow frames lines numbered (k + 1) rows
same_rows frames k word lines numbered rows are is none = record {
  each_word = λ n low some_word.
      elim (cases_eq n k) [
        | inl e ↦ absurd (some_word (ap (λ (i : ℕ). get_or numbered i 0) e ∙ (sym is ∙ none)))
        | inr ne ↦ are.each_word n (omega arith) some_word
      ];
  each_row = λ r c. (let t = are.each_row r c in (t.0, (let l = t.1 in omega arith), t.2, t.3));
  in_order = are.in_order;
  below = λ i d inside. (let l = are.below i d inside in omega arith);
}

-- one number more, which a mapping has
pub one_row : (frames k word : ℕ) (lines numbered : List ℕ) (rows : List Row) → AreRowsBelow frames lines numbered k rows → IsByNumber numbered → k < 4096 → word ≡ get_or numbered k 0 → word ≢ 0 → AreRowsBelow frames lines numbered (k + 1) (rows ++ row_at frames lines word ∷ [])
one_row frames k word lines numbered rows are form few is some_word =
    let x = row_at frames lines word in
    let there : get_or numbered k 0 ≢ 0 = λ z. some_word (is ∙ z) in
    let number : x.mapping ≡ k = ap (λ (w : ℕ). (place_in w).mapping) is ∙ form.number k few there in record {
      each_word = λ n low some_one.
          elim (cases_eq n k) [
            | inl e ↦ subst (λ (w : ℕ). Contains (rows ++ x ∷ []) (row_at frames lines w)) (is ∙ ap (λ (i : ℕ). get_or numbered i 0) (sym e)) (Contains-push rows x)
            | inr ne ↦ Contains-append_left rows (x ∷ []) (row_at frames lines (get_or numbered n 0)) (are.each_word n (omega arith) some_one)
          ];
      each_row = λ r c. ⊎_elim
          (λ old. let t = are.each_row r old in (t.0, (let l = t.1 in omega arith), t.2, t.3))
          (λ e. (k, omega arith, there, sym e ∙ ap (row_at frames lines) is))
          (Contains-push_cases rows x r c);
      in_order = all_pairs_push (λ (r q : Row). r.mapping < q.mapping) rows x are.in_order (λ i d inside. let l = are.below i d inside in omega arith);
      below = All-push (λ (r : Row). r.mapping < k + 1) rows x (λ i d inside. let l = are.below i d inside in omega arith) (omega arith);
    }

-- the rows of all numbers are those of the directory
pub rows_said : (frames : ℕ) (lines words numbered : List ℕ) (rows : List Row) → IsDirectory words → AreNumbered words 65536 numbered → AreRowsBelow frames lines numbered 4096 rows → SayRows frames lines words rows
rows_said frames lines words numbered rows form are below = record {
  each_word = λ r low some_word. (
      let is = are.each r low some_word in
      let place = (form.form r low some_word).place in
      let few = place.mapping_to in
      subst (λ (w : ℕ). Contains rows (row_at frames lines w)) is (below.each_word (place_in (directory_at words r)).mapping (omega arith) (λ z. some_word (sym is ∙ z))));
  each_row = λ x c. (
      let t = below.each_row x c in
      let u = are.found t.0 t.1 t.2 in
      (u.0, u.1, (λ z. t.2 (sym u.2 ∙ z)), t.3 ∙ ap (row_at frames lines) (sym u.2)));
  in_order = below.in_order;
}
