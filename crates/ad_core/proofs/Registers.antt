-- The registers at the start of a call.
use Rattle.std.proofs.Common.{◌≡◌, ℕ, ◌+◌, ◌<◌, List, [], ◌∷◌, ◌++◌, length, set, refl, arith}
use Rattle.ad_core.specs.Plain.{first_registers}

-- one more argument is put behind those that have their registers
pub first_registers-push : (xs : List ℕ) (sp a : ℕ) → length xs < 8 → set (first_registers xs sp) (10 + length xs) a ≡ first_registers (xs ++ a ∷ []) sp
unfolding first_registers
first_registers-push [] sp a h = refl
first_registers-push (x1 ∷ []) sp a h = refl
first_registers-push (x1 ∷ x2 ∷ []) sp a h = refl
first_registers-push (x1 ∷ x2 ∷ x3 ∷ []) sp a h = refl
first_registers-push (x1 ∷ x2 ∷ x3 ∷ x4 ∷ []) sp a h = refl
first_registers-push (x1 ∷ x2 ∷ x3 ∷ x4 ∷ x5 ∷ []) sp a h = refl
first_registers-push (x1 ∷ x2 ∷ x3 ∷ x4 ∷ x5 ∷ x6 ∷ []) sp a h = refl
first_registers-push (x1 ∷ x2 ∷ x3 ∷ x4 ∷ x5 ∷ x6 ∷ x7 ∷ []) sp a h = refl
first_registers-push (x1 ∷ x2 ∷ x3 ∷ x4 ∷ x5 ∷ x6 ∷ x7 ∷ x8 ∷ xs) sp a h = absurd (omega arith)
