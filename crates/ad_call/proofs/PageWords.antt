-- Numbers in a page of words.
use Rattle.std.proofs.Common.{◌≡◌, inl, inr, ℕ, zero, suc, ◌+◌, ◌-◌, ◌*◌, ◌/◌, ◌%◌, ◌<◌, ◌≤◌, List, [], ◌∷◌, ◌++◌, length, drop, slice_index_or, replicate, flat_map, sym, ap, ◌∙◌, arith, length-drop}
use Rattle.std.proofs.lemmas.List.{append_assoc, drop-append-le}
use lib.Seq.{drop-append-add}
use Rattle.byteorder.specs.Endian.{little_bytes, little_number}
use Rattle.byteorder.specs.Numbers.{length-bytes_low_first, little_from-append}
use Rattle.ad_base.specs.declared.layout.TheConstants.{PAGE_BYTES, WORD_BYTES}
use Rattle.ad_base.specs.Image.{zeros}
use Rattle.ad_base.specs.Layout.{page_of_words}
use Rattle.ad_base.proofs.Lists.{length-flat_map_equal}
use Rattle.ad_isa.specs.Words.{IsSize}

-- a word, or the zero behind the last
abbrev word_at : List ℕ → ℕ → ℕ
word_at words k = slice_index_or words k 0

-- words and zeros behind them
abbrev words_and : List ℕ → List ℕ → List ℕ
words_and words rest = flat_map (little_bytes WORD_BYTES) words ++ rest

-- a number lies in the bytes that it begins in
in_front : (size r : ℕ) (xs rest : List ℕ) → r + size ≤ length xs → little_number size (drop r (xs ++ rest)) ≡ little_number size (drop r xs)
in_front size r xs rest inside = ap (little_number size) (drop-append-le r xs rest (omega (arith, inside))) ∙ little_from-append size (drop r xs) rest (omega (arith, inside, length-drop r xs))

-- zeros are the bytes of a word that is 0 and zeros
zeros-word : (n : ℕ) → WORD_BYTES ≤ n → zeros n ≡ little_bytes WORD_BYTES 0 ++ zeros (n - WORD_BYTES)
unfolding zeros
zeros-word n long = ap (λ k. replicate k 0) (let e : n ≡ suc (suc (suc (suc (suc (suc (suc (suc (n - WORD_BYTES)))))))) = omega (arith, long) in e)

module _ (size r : ℕ) (inside : r + size ≤ WORD_BYTES) where
  first : 0 * WORD_BYTES + r ≡ r
  first = omega arith

  -- in zeros
  in_zeros : (k n : ℕ) → k * WORD_BYTES + WORD_BYTES ≤ n → little_number size (drop (k * WORD_BYTES + r) (zeros n)) ≡ little_number size (drop r (little_bytes WORD_BYTES 0))
  in_zeros zero n long = (λ j. little_number size (drop (first j) (zeros-word n long j))) ∙ in_front size r (little_bytes WORD_BYTES 0) (zeros (n - WORD_BYTES)) inside
  in_zeros (suc k) n long =
      let rest = zeros (n - WORD_BYTES) in
      let on : suc k * WORD_BYTES + r ≡ length (little_bytes WORD_BYTES 0) + (k * WORD_BYTES + r) = omega arith in
      (λ j. little_number size (drop (on j) (zeros-word n (let few : WORD_BYTES ≤ n = omega (arith, long) in few) j)))
      ∙ ap (little_number size) (drop-append-add (little_bytes WORD_BYTES 0) rest (k * WORD_BYTES + r)) ∙ in_zeros k (n - WORD_BYTES) (omega (arith, long))

  -- in the word of this number, or in the zeros behind the last
  in_words : (k n : ℕ) (words : List ℕ) → k * WORD_BYTES + WORD_BYTES ≤ length words * WORD_BYTES + n → little_number size (drop (k * WORD_BYTES + r) (words_and words (zeros n))) ≡ little_number size (drop r (little_bytes WORD_BYTES (word_at words k)))
  in_words k n [] fits = in_zeros k n (omega (arith, fits))
  in_words zero n (w ∷ ws) fits =
      ap (λ xs. little_number size (drop (0 * WORD_BYTES + r) xs)) (append_assoc (little_bytes WORD_BYTES w) (flat_map (little_bytes WORD_BYTES) ws) (zeros n))
      ∙ ap (λ o. little_number size (drop o (little_bytes WORD_BYTES w ++ words_and ws (zeros n)))) first ∙ in_front size r (little_bytes WORD_BYTES w) (words_and ws (zeros n)) inside
  in_words (suc k) n (w ∷ ws) fits =
      let on : suc k * WORD_BYTES + r ≡ length (little_bytes WORD_BYTES w) + (k * WORD_BYTES + r) = omega arith in
      (λ j. little_number size (drop (on j) (append_assoc (little_bytes WORD_BYTES w) (flat_map (little_bytes WORD_BYTES) ws) (zeros n) j)))
      ∙ ap (little_number size) (drop-append-add (little_bytes WORD_BYTES w) (words_and ws (zeros n)) (k * WORD_BYTES + r))
      ∙ in_words k n ws (omega (arith, fits))

-- a number at a multiple of its size ends in the word that it begins in
ends-inside : (size offset : ℕ) → IsSize size → offset % size ≡ 0 → offset % WORD_BYTES + size ≤ WORD_BYTES
ends-inside size offset is aligned = elim is [
  | inl one ↦ omega (arith, one)
  | inr is ↦ elim is [
    | inl two ↦ let even : offset % 2 ≡ 0 = ap (λ n. offset % n) (sym two) ∙ aligned in omega (arith, two, even)
    | inr is ↦ elim is [
      | inl four ↦ let even : offset % 4 ≡ 0 = ap (λ n. offset % n) (sym four) ∙ aligned in omega (arith, four, even)
      | inr eight ↦ let even : offset % 8 ≡ 0 = ap (λ n. offset % n) (sym eight) ∙ aligned in omega (arith, eight, even)
    ]
  ]
]

-- a number of the page
pub in_page : (size offset : ℕ) (words : List ℕ) → IsSize size → offset % size ≡ 0 → offset < PAGE_BYTES → length words * WORD_BYTES ≤ PAGE_BYTES
    → little_number size (drop (offset % WORD_BYTES) (little_bytes WORD_BYTES (word_at words (offset / WORD_BYTES)))) ≡ little_number size (drop offset (page_of_words words))
in_page size offset words is aligned inside fits =
    let k = offset / WORD_BYTES in
    let r = offset % WORD_BYTES in
    let bytes = flat_map (little_bytes WORD_BYTES) words in
    let long : length bytes ≡ length words * WORD_BYTES = length-flat_map_equal (little_bytes WORD_BYTES) WORD_BYTES (length-bytes_low_first 0 WORD_BYTES) words in
    let at : k * WORD_BYTES + r ≡ offset = omega arith in
    sym (in_words size r (ends-inside size offset is aligned) k (PAGE_BYTES - length bytes) words (omega (arith, inside, fits, long)))
    ∙ ap (λ o. little_number size (drop o (page_of_words words))) at
