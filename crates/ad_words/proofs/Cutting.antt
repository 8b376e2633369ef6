-- Whether a text has a byte, by where it has it first.
use Rattle.std.proofs.Common.{◌≡◌, ℕ, Bool, false, List, [], ◌∷◌, length, refl, arith}
use Rattle.std.specs.List.{list_any, position_or_len}
use Rattle.std.proofs.lemmas.Grind.{common_steps}

pub list_any-past_end : (test : ℕ → Bool) (text : List ℕ) → position_or_len test text ≡ length text → list_any test text ≡ false
list_any-past_end test [] e = refl
list_any-past_end test (byte ∷ text) e = grind (arith, common_steps, list_any-past_end test text)
