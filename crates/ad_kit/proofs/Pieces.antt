-- Lists of pieces of one length.
use Rattle.std.proofs.Common.{◌≡◌, ℕ, zero, suc, ◌+◌, ◌*◌, ◌<◌, List, [], ◌∷◌, ◌++◌, drop, flat_map, get_or, length, refl, arith, length-append}
use Rattle.std.proofs.Math.Seq.{drop-append-add}

-- the pieces from a number on
pub drop-pieces : {X : Type 0} (f : X → List ℕ) (c : ℕ) → ((x : X) → length (f x) ≡ c) → (xs : List X) (i : ℕ) (d : X) → i < length xs
    → drop (c * i) (flat_map f xs) ≡ f (get_or xs i d) ++ flat_map f (drop (i + 1) xs)
drop-pieces f c long [] i d below = absurd (omega arith)
drop-pieces f c long (x ∷ xs) zero d below = let none : c * 0 ≡ 0 = omega arith in rw none refl
drop-pieces f c long (x ∷ xs) (suc i) d below =
    let place : c * suc i ≡ length (f x) + c * i = omega (arith, long x) in
    let rest : suc i + 1 ≡ suc (i + 1) = omega arith in
    rw (place, drop-append-add (f x) (flat_map f xs) (c * i), rest) (drop-pieces f c long xs i d (omega arith))

pub length-pieces : {X : Type 0} (f : X → List ℕ) (c : ℕ) → ((x : X) → length (f x) ≡ c) → (xs : List X) → length (flat_map f xs) ≡ c * length xs
length-pieces f c long [] = omega arith
length-pieces f c long (x ∷ xs) =
    let more : c * length (x ∷ xs) ≡ c + c * length xs = omega arith in
    rw more (omega (arith, length-append (f x) (flat_map f xs), long x, length-pieces f c long xs))
