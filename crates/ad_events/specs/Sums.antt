-- Sums over the numbers below a bound, as over the slots of a table.
use Rattle.std.specs.Prelude.{ℕ, zero, suc, ◌+◌, Bool, cond}

-- the sum of f over the numbers below n
abbrev pub sum_below : ℕ → (ℕ → ℕ) → ℕ
sum_below zero f = 0
sum_below (suc n) f = sum_below n f + f n

-- 1 for a test that holds, else 0
abbrev pub bit : Bool → ℕ
bit b = cond b 1 0
