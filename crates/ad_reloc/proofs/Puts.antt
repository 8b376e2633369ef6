-- Numbers that are put into a list of bytes.
use Rattle.std.proofs.Common.{◌≡◌, ℕ, ◌+◌, ◌-◌, ◌≤◌, List, [], ◌++◌, length, take, drop, sym, ap, ◌∙◌, arith, length-drop}
use Rattle.std.proofs.lemmas.List.{append-nil, append_assoc, drop_all}
use borrow.Rule.Slice.PartMut.{put_mid}
use lib.Seq.{drop-drop, take_all}

-- bytes that are written at the begin of the rest of a list
pub put-rest : (a size : ℕ) (xs bytes buf : List ℕ) → a + size ≤ length xs → buf ≡ bytes ++ drop size (take (length xs - a) (drop a xs))
    → put_mid a (length xs - a) xs buf ≡ take a xs ++ bytes ++ drop (a + size) xs
put-rest a size xs bytes buf fits is =
    let k = length xs - a in
    let none : drop k (drop a xs) ≡ [] = drop_all k (drop a xs) (omega (arith, length-drop a xs)) in
    let all : take k (drop a xs) ≡ drop a xs = take_all k (drop a xs) (omega (arith, length-drop a xs)) in
    let left = bytes ++ drop (a + size) xs in
    (λ j. take a xs ++ ((is ∙ ap (λ l. bytes ++ drop size l) all ∙ ap (λ l. bytes ++ l) (drop-drop size a xs)) j ++ none j))
    ∙ ap (λ l. take a xs ++ l) (append-nil left) ∙ sym (append_assoc (take a xs) bytes (drop (a + size) xs))
