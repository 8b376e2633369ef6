-- How long lists are that are filled up, or made of pieces of one length.
use Rattle.std.proofs.Common.{◌≡◌, ℕ, ◌-◌, ◌*◌, ◌≤◌, List, [], ◌∷◌, ◌++◌, length, replicate, flat_map, arith}
use Rattle.std.proofs.Math.Nat.{suc-mul}
use Rattle.std.proofs.lemmas.List.{length-append, length-replicate}

-- a list that is filled up to a length
pub length-filled : {A : Type 0} (n : ℕ) (xs : List A) (x : A) → length xs ≤ n → length (xs ++ replicate (n - length xs) x) ≡ n
length-filled n xs x fits = omega (arith, length-append xs (replicate (n - length xs) x), length-replicate (n - length xs) x)

-- pieces of n items each
pub length-flat_map_equal : {A B : Type 0} (f : A → List B) (n : ℕ) → ((x : A) → length (f x) ≡ n) → (xs : List A) → length (flat_map f xs) ≡ length xs * n
length-flat_map_equal f n equal [] = omega arith
length-flat_map_equal f n equal (x ∷ xs) = omega (arith, length-append (f x) (flat_map f xs), equal x, length-flat_map_equal f n equal xs, suc-mul (length xs) n)
