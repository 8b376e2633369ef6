-- A sum that wraps at each step.
use Rattle.std.proofs.Common.{◌≡◌, ◌+◌, ◌%◌, ℕ}
use Rattle.std.proofs.Math.Nat.{add-mod-mod, mod-add-mod}

-- what is added to a sum that wrapped
pub wrapped_sum : (sum term most : ℕ) → (sum % most + term) % most ≡ (sum + term) % most
wrapped_sum sum term most = mod-add-mod sum most term

-- what is added wrapped too
pub wrapped_terms : (sum term most : ℕ) → (sum % most + term % most) % most ≡ (sum + term) % most
wrapped_terms sum term most = rw (wrapped_sum sum (term % most) most) (add-mod-mod sum term most)
