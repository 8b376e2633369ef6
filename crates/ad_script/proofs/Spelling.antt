-- How names and numbers are spelled.
use Rattle.std.proofs.Common.{◌≡◌, ◌↔◌, ℕ, ◌<◌, ◌≤◌, ◌^◌, ◌&&◌, Bool, true, false, nat_le, nat_lt, ltb, cond, not, ◌==◌, List, [], ◌∷◌, length, take, drop, bytes_eq, codes, Option, Some, None, IfSome, IfNone, IsTrue, refl, sym, arith, tests}
use Rattle.std.specs.List.{list_all}
use Rattle.std.specs.Char.{digit_value, is_digit}
use Rattle.std.specs.List.{slice_index}
use Rattle.std.specs.Str.{IsAscii}
use Rattle.std.proofs.lemmas.Str.Ascii.{IsAscii-nil, IsAscii-cons}
use Rattle.std.proofs.lemmas.Bool.Decides.{nat_tests}
use Rattle.std.specs.Str.Parse.{AllDigits, IsNumeral, digits_value}
use Rattle.std.proofs.lemmas.Bool.{and_parts, leb-true, ltb-true, lt-ltb}
use Rattle.std.proofs.lemmas.List.Sums.{AllPass-from_list_all, list_all-from_AllPass}
use Rattle.ad_base.specs.ExportName.{IsExportName, is_export_byte}
use Rattle.ad_script.specs.Forms.{is_export_name, is_file_name, is_graphic, number_in, number_of}

-- two tests that hold of each other are one
same-test : (a b : Bool) → (a ≡ true → b ≡ true) → (b ≡ true → a ≡ true) → a ≡ b
same-test true b to from = sym (to refl)
same-test false true to from = from refl
same-test false false to from = refl

export-name-true : (name : List ℕ) → IsExportName name → is_export_name name ≡ true
unfolding is_export_name
export-name-true name is = rw (lt-ltb 0 (length name) is.some, list_all-from_AllPass is_export_byte name is.bytes) (grind (arith, tests, is.short))

true-export-name : (name : List ℕ) → is_export_name name ≡ true → IsExportName name
unfolding is_export_name
true-export-name name e =
    let all = and_parts (nat_lt 0 (length name) && nat_le (length name) 128) _ e in
    let bounds = and_parts (nat_lt 0 (length name)) _ all.0 in
    record { some = ltb-true _ _ bounds.0; short = leb-true _ _ bounds.1; bytes = AllPass-from_list_all is_export_byte name all.1 }

pub export-name-is : (b : Bool) (name : List ℕ) → IsTrue b ↔ IsExportName name → b ≡ is_export_name name
export-name-is b name iff = same-test b (is_export_name name) (λ e. export-name-true name (iff.0 e)) (λ e. iff.1 (true-export-name name e))

-- the digits of a numeral, as a test
digits-true : (radix : ℕ) (digits : List ℕ) → AllDigits radix digits → list_all (λ digit. is_digit digit radix) digits ≡ true
digits-true radix [] all = refl
digits-true radix (d ∷ digits) all = rw (lt-ltb (digit_value d) radix all.0, digits-true radix digits all.1) refl

true-digits : (radix : ℕ) (digits : List ℕ) → list_all (λ digit. is_digit digit radix) digits ≡ true → AllDigits radix digits
true-digits radix [] e = tt
true-digits radix (d ∷ digits) e = let parts = and_parts (ltb (digit_value d) radix) _ e in (ltb-true _ _ parts.0, true-digits radix digits parts.1)

-- what is read of digits is the number that they say
pub number-in-is : (radix : ℕ) (digits : List ℕ) (r : Option ℕ)
    → IfSome r (λ n. IsNumeral radix digits × (digits_value radix digits ≡ n) × (n < 2 ^ 64))
    → IfNone r (IsNumeral radix digits → digits_value radix digits < 2 ^ 64 → ⊥) → r ≡ number_in radix digits
number-in-is radix digits (Some n) some none =
    rw (lt-ltb 0 (length digits) some.0.0, digits-true radix digits some.0.1, some.1, lt-ltb n (2 ^ 64) some.2) refl
number-in-is radix digits None some none =
    from (nat_lt 0 (length digits) && list_all (λ digit. is_digit digit radix) digits && nat_lt (digits_value radix digits) (2 ^ 64)) (λ e.
    let small = and_parts (nat_lt 0 (length digits) && list_all (λ digit. is_digit digit radix) digits) _ e in
    let spelled = and_parts (nat_lt 0 (length digits)) _ small.0 in
    none (ltb-true _ _ spelled.0, true-digits radix digits spelled.1) (ltb-true _ _ small.1))
  where
    from : (b : Bool) → (b ≡ true → ⊥) → None ≡ cond b (Some (digits_value radix digits)) None
    from true refuted = absurd (refuted refl)
    from false refuted = refl

-- a number has ASCII digits alone
digit-ascii : (radix d : ℕ) → radix ≤ 16 → digit_value d < radix → d < 128
digit-ascii radix d most small = grind (arith, nat_tests)

pub digits-ascii : (radix : ℕ) (digits : List ℕ) → radix ≤ 16 → AllDigits radix digits → IsAscii digits
digits-ascii radix [] most all = IsAscii-nil
digits-ascii radix (d ∷ digits) most all = IsAscii-cons d digits (digit-ascii radix d most all.0) (digits-ascii radix digits most all.1)

-- the name of a file is ASCII
graphic-ascii : (bytes : List ℕ) → list_all is_graphic bytes ≡ true → IsAscii bytes
graphic-ascii [] e = IsAscii-nil
graphic-ascii (b ∷ bytes) e =
    let parts = and_parts (is_graphic b) _ e in
    let first : is_graphic b ≡ true = parts.0 in
    IsAscii-cons b bytes (grind (arith, nat_tests)) (graphic-ascii bytes parts.1)

pub file-name-ascii : (name : List ℕ) → is_file_name name ≡ true → IsAscii name
unfolding is_file_name
file-name-ascii name e = graphic-ascii name (and_parts (nat_lt 0 (length name) && nat_le (length name) 255 && not (slice_index name 0 == 0x23)) _ e).1

-- the number that a word says, by its first two bytes
pub hexadecimal : (word digits : List ℕ) → bytes_eq (take 2 word) (codes "0x") ≡ true → digits ≡ drop 2 word → number_in 16 digits ≡ number_of word
unfolding number_of
hexadecimal word digits front is = rw (front, is) refl

pub decimal_number : (word : List ℕ) → bytes_eq (take 2 word) (codes "0x") ≡ false → number_in 10 word ≡ number_of word
unfolding number_of
decimal_number word front = rw front refl
