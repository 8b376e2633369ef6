-- The symbols behind the first, which are gone through by place.
use Rattle.std.proofs.Common.{◌≡◌, ℕ, ◌+◌, ◌<◌, ◌≤◌, List, [], ◌∷◌, ◌++◌, drop, filter_map, get_or, length, take, Option, sym, ap, ◌∙◌, arith}
use Rattle.std.proofs.lemmas.List.{drop-append-le, length-take, take_more}
use Rattle.std.proofs.lemmas.List.Elements.{filter_map-append}

later_more : {X : Type 0} (xs : List X) (k : ℕ) (x : X) → 1 ≤ k → k < length xs → x ≡ get_or xs k x → drop 1 (take (k + 1) xs) ≡ drop 1 (take k xs) ++ x ∷ []
later_more xs k x some below is =
    let long : 1 ≤ length (take k xs) = omega (arith, length-take k xs) in
    ap (drop 1) (take_more xs k x below ∙ ap (λ y. take k xs ++ y ∷ []) (sym is)) ∙ drop-append-le 1 (take k xs) (x ∷ []) long

pub exports_more : {X Y : Type 0} (f : X → Option Y) (xs : List X) (k : ℕ) (x : X) (old new : List Y) → 1 ≤ k → k < length xs → x ≡ get_or xs k x → old ≡ filter_map f (drop 1 (take k xs)) → new ≡ old ++ filter_map f (x ∷ []) → new ≡ filter_map f (drop 1 (take (k + 1) xs))
exports_more f xs k x old new some below is before pushed =
    pushed ∙ ap (λ ys. ys ++ filter_map f (x ∷ [])) before ∙ sym (ap (filter_map f) (later_more xs k x some below is) ∙ filter_map-append f (drop 1 (take k xs)) (x ∷ []))
