-- Zero bytes: how many they are, and one more of them.
use Rattle.std.proofs.Common.{◌≡◌, ℕ, ◌+◌, ◌-◌, ◌≤◌, replicate, take, List, [], ◌∷◌, ◌++◌, length, ap, ◌∙◌, append_assoc, arith}
use Rattle.std.proofs.lemmas.List.{append-nil, length-replicate, replicate_more, take_all}
use Rattle.ad_base.specs.Image.{zeros}

pub length-zeros : (n : ℕ) → length (zeros n) ≡ n
unfolding zeros
length-zeros n = length-replicate n 0

-- no zero byte was appended yet
pub append-zeros_none : (xs : List ℕ) → xs ++ zeros 0 ≡ xs
unfolding zeros
append-zeros_none xs = append-nil xs

-- one more zero byte
pub append-zeros_more : (xs : List ℕ) (n : ℕ) → (xs ++ zeros n) ++ 0 ∷ [] ≡ xs ++ zeros (n + 1)
unfolding zeros
append-zeros_more xs n = append_assoc xs (zeros n) (0 ∷ []) ∙ ap (λ (ys : List ℕ). xs ++ ys) (replicate_more n 0)

-- a list that is filled up to a length, which isn't below its own
pub filled : (n long : ℕ) (xs : List ℕ) → long ≡ length xs → length xs ≤ n → take n xs ++ replicate (n - long) 0 ≡ xs ++ zeros (n - length xs)
unfolding zeros
filled n long xs same short = λ i. take_all n xs short i ++ replicate (n - same i) 0

-- where there was nothing, there are zeros alone
pub none-filled : (n : ℕ) (xs : List ℕ) → xs ≡ [] → xs ++ zeros (n - length xs) ≡ zeros n
none-filled n xs none = let all : n - 0 ≡ n = omega arith in ap (λ (ys : List ℕ). ys ++ zeros (n - length ys)) none ∙ ap zeros all
