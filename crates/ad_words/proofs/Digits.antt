-- What `parse` gives, and the number that an option takes.
use Rattle.std.proofs.Common.{◌≡◌, ◌<◌, ◌^◌, ℕ, true, List, length, Ok, Err, Result, IfNone, IfSome, sym}
use Rattle.std.specs.Result.{OkIff, result_ok}
use Rattle.std.specs.Str.{all_ascii_digits}
use Rattle.std.specs.Str.Parse.{digits_value}
use Rattle.std.proofs.lemmas.Str.Parse.{IsNumeralModel, numerals_by_value, tells_all_ascii_digits}

pub are_numerals : IsNumeralModel (λ ds. all_ascii_digits ds ≡ true) (digits_value 10)
are_numerals = numerals_by_value _ tells_all_ascii_digits

pub digits_some : {E : Type 0} (text : List ℕ) (r : Result ℕ E)
    → OkIff r ((all_ascii_digits text ≡ true) × (0 < length text) × (digits_value 10 text < 2 ^ 64)) (digits_value 10 text)
    → IfSome (result_ok r) (λ n. (0 < length text) × (all_ascii_digits text ≡ true) × (digits_value 10 text ≡ n))
digits_some text (Ok n) h = (h.0.1, h.0.0, sym h.1)
digits_some text (Err e) h = tt

pub digits_none : {E : Type 0} (text : List ℕ) (r : Result ℕ E)
    → OkIff r ((all_ascii_digits text ≡ true) × (0 < length text) × (digits_value 10 text < 2 ^ 64)) (digits_value 10 text)
    → IfNone (result_ok r) (0 < length text → all_ascii_digits text ≡ true → digits_value 10 text < 2 ^ 64 → ⊥)
digits_none text (Ok n) h = tt
digits_none text (Err e) h = λ some digits small. h (digits, some, small)
