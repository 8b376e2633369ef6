-- What is appended piece by piece is appended as one list.
use Rattle.std.proofs.Common.{◌≡◌, ℕ, List, ◌++◌, ap, ◌∙◌, append_assoc}

-- one more piece
pub append_more : (o p q x y : List ℕ) → x ≡ o ++ p → y ≡ x ++ q → y ≡ o ++ (p ++ q)
append_more o p q x y before here = here ∙ ap (λ (z : List ℕ). z ++ q) before ∙ append_assoc o p q

pub append_five : (o a b c d e u v w x y : List ℕ) → u ≡ o ++ a → v ≡ u ++ b → w ≡ v ++ c → x ≡ w ++ d → y ≡ x ++ e
    → y ≡ o ++ (a ++ b ++ c ++ d ++ e)
append_five o a b c d e u v w x y f g h i j =
    let two = append_more o a b u v f g in
    let three = append_more o (a ++ b) c v w two h in
    let four = append_more o (a ++ b ++ c) d w x three i in
    append_more o (a ++ b ++ c ++ d) e x y four j

pub append_four : (o a b c d u v w x : List ℕ) → u ≡ o ++ a → v ≡ u ++ b → w ≡ v ++ c → x ≡ w ++ d → x ≡ o ++ (a ++ b ++ c ++ d)
append_four o a b c d u v w x f g h i =
    let two = append_more o a b u v f g in
    let three = append_more o (a ++ b) c v w two h in
    append_more o (a ++ b ++ c) d w x three i
