-- Pages that are filled up.
use Rattle.std.proofs.Common.{◌≡◌, ℕ, ◌-◌, ◌≤◌, List, ◌++◌, length, take, replicate, ap, ◌∙◌, arith}
use Rattle.std.proofs.lemmas.List.{take_all}

-- a list of so many items that is filled up to a length
pub filled : {A : Type 0} (n k : ℕ) (xs ys : List A) (x : A) → xs ≡ ys → k ≡ length xs → k ≤ n → take n xs ++ replicate (n - k) x ≡ ys ++ replicate (n - length ys) x
filled n k xs ys x same long fits =
    ap (λ zs. zs ++ replicate (n - k) x) (take_all n xs (omega (arith, long, fits)) ∙ same) ∙ ap (λ m. ys ++ replicate (n - m) x) (long ∙ ap length same)
