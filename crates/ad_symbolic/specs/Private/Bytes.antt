-- Bytes as the code reads them.
use Rattle.std.specs.Prelude.{ℕ, ◌+◌, ◌*◌, Bool, List, [], ◌∷◌, Result, Ok, Err}
use Rattle.ad_isa.specs.Domain.{◌>>=◌}
use Rattle.ad_isa.specs.Numbers.{widened}
use Rattle.ad_symbolic.specs.declared.byte.Byte.{Byte}
use Rattle.ad_symbolic.specs.declared.byte.Byte.TheVariants.{Number, OfAddress}
use Rattle.ad_symbolic.specs.declared.value.Reason.{Reason}
use Rattle.ad_symbolic.specs.declared.value.Reason.TheVariants.{MixedBytes}
use Rattle.ad_symbolic.specs.declared.value.Value.{Value}
use Rattle.ad_symbolic.specs.declared.value.Value.TheVariants.{Num}

-- the number of bytes, the lowest first, or the reason why they have none
abbrev pub number_of_bytes : List Byte → Result ℕ Reason
number_of_bytes [] = Ok 0
number_of_bytes (Number n ∷ bs) = number_of_bytes bs >>= λ more. Ok (n + 256 * more)
number_of_bytes (OfAddress i p o ∷ bs) = Err MixedBytes

-- the value of a number of so many bytes, with their sign or without
abbrev pub widened_value : ℕ → Bool → Result ℕ Reason → Result Value Reason
widened_value size signed number = number >>= λ n. Ok (Num (widened size signed n))
