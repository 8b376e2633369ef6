-- The words that write numbers.
use Rattle.std.proofs.Common.{◌≡◌, ℕ, ◌<◌, ◌^◌, ◌==◌, Bool, true, false, List, [], ◌∷◌, length, take, get_or, bytes_eq, codes, Some, refl, ap, subst, arith, tests}
use Rattle.std.specs.Char.{digit_value, is_digit}
use Rattle.std.specs.Fmt.{decimal}
use Rattle.std.specs.List.{list_all}
use Rattle.std.specs.Str.Parse.{AllDigits}
use Rattle.std.proofs.lemmas.Bool.{lt-ltb}
use Rattle.std.proofs.lemmas.Bool.Decides.{nat_tests}
use Rattle.std.proofs.lemmas.Fmt.{decimal_is_IsNumeral}
use Rattle.std.proofs.lemmas.Slice.Eq.{bytes_eq-Decides}
use Rattle.ad_script.specs.Forms.{is_graphic, number_of}
use Rattle.ad_generator.proofs.Spaced.{is_word}

-- digits print, and begin no comment
digit-graphic : (d : ℕ) → digit_value d < 10 → is_graphic d ≡ true
digit-graphic d small = grind (arith, nat_tests, tests)

digit-plain : (d : ℕ) → digit_value d < 10 → (d == 0x23) ≡ false
digit-plain d small = grind (arith, nat_tests, tests)

digits-graphic : (ds : List ℕ) → AllDigits 10 ds → list_all is_graphic ds ≡ true
digits-graphic [] all = refl
digits-graphic (d ∷ ds) all = rw (digit-graphic d all.0, digits-graphic ds all.1) refl

digits-word : (ds : List ℕ) → 0 < length ds → AllDigits 10 ds → is_word ds ≡ true
digits-word [] some all = absurd (omega arith)
digits-word (d ∷ ds) some all = rw (not-empty, digit-plain d all.0, digit-graphic d all.0, digits-graphic ds all.1) refl
  where
    not-empty : (length (d ∷ ds) == 0) ≡ false
    not-empty = grind (arith, tests)

digits-pass : (ds : List ℕ) → AllDigits 10 ds → list_all (λ digit. is_digit digit 10) ds ≡ true
digits-pass [] all = refl
digits-pass (d ∷ ds) all = rw (lt-ltb (digit_value d) 10 all.0, digits-pass ds all.1) refl

-- what follows from a test and from its failing
pub by_test : {P : Type 0} (b : Bool) → (b ≡ true → P) → (b ≡ false → P) → P
by_test true holds fails = holds refl
by_test false holds fails = fails refl

-- no digit is `x`
two-digits : (d next : ℕ) (ds : List ℕ) → digit_value next < 10 → bytes_eq (d ∷ next ∷ []) (codes "0x") ≡ false
two-digits d next ds small =
    by_test (bytes_eq (d ∷ next ∷ []) (codes "0x"))
    (λ e. absurd (let same : next ≡ 0x78 = ap (λ l. get_or l 1 0) ((bytes_eq-Decides (d ∷ next ∷ []) (codes "0x")).0 e) in x-is-none (subst (λ x. digit_value x < 10) same small)))
    (λ e. e)
  where
    x-is-none : digit_value 0x78 < 10 → ⊥
    x-is-none below = omega arith

one-digit : (d : ℕ) → bytes_eq (d ∷ []) (codes "0x") ≡ false
one-digit d =
    by_test (bytes_eq (d ∷ []) (codes "0x"))
    (λ e. absurd (let same : 1 ≡ 2 = ap length ((bytes_eq-Decides (d ∷ []) (codes "0x")).0 e) in omega (arith, same)))
    (λ e. e)

not-hexadecimal : (ds : List ℕ) → AllDigits 10 ds → bytes_eq (take 2 ds) (codes "0x") ≡ false
not-hexadecimal [] all = refl
not-hexadecimal (d ∷ []) all = one-digit d
not-hexadecimal (d ∷ next ∷ ds) all = two-digits d next ds all.1.0

-- a number is written as a word, which is read as the number
pub number_word : (n : ℕ) → n < 2 ^ 64 → is_word (decimal n) ≡ true
number_word n small = let is = decimal_is_IsNumeral n small in digits-word (decimal n) is.0.0 is.0.1

pub number_read : (n : ℕ) → n < 2 ^ 64 → number_of (decimal n) ≡ Some n
unfolding number_of
number_read n small =
    let is = decimal_is_IsNumeral n small in
    rw (not-hexadecimal (decimal n) is.0.1, lt-ltb 0 (length (decimal n)) is.0.0, digits-pass (decimal n) is.0.1, is.1, lt-ltb n (2 ^ 64) small) refl
