-- What is said of the numbers below a bound, in their order.
use Rattle.std.specs.Prelude.{ℕ, zero, suc, ◌+◌, Bool, Option, Some, None, List, [], ◌∷◌, ◌++◌, if◌then◌else◌}
use Rattle.std.specs.Option.{option_or}

-- the first number below n that passes the test
unfoldable pub first : (ℕ → Bool) → ℕ → Option ℕ
first test zero = None
first test (suc n) = option_or (first test n) (if test n then Some n else None)

-- what each number below n gives, joined
unfoldable pub joined : {X : Type 0} → (ℕ → List X) → ℕ → List X
joined f zero = []
joined f (suc n) = joined f n ++ f n

-- what the numbers below n give, one each
abbrev pub each : {X : Type 0} → (ℕ → X) → ℕ → List X
each f n = joined (λ i. f i ∷ []) n

-- what the numbers below n give, added
unfoldable pub total : (ℕ → ℕ) → ℕ → ℕ
total f zero = 0
total f (suc n) = total f n + f n
