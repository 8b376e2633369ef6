-- Texts that grow line by line.
use Rattle.std.proofs.Common.{◌≡◌, ℕ, ◌+◌, List, [], ◌∷◌, ◌++◌, take, Some, append_assoc, sym, ap, ◌∙◌}
use Rattle.std.specs.List.{flat_map, slice_get}
use Rattle.std.proofs.lemmas.List.{flat_map_more, take_more}
use Rattle.std.proofs.lemmas.Option.{get_or_from_slice_get, slice_get_within}
use Rattle.ad_elf.specs.Below.{joined}
use Rattle.ad_elf.proofs.Below.{joined-more}

-- the text of one item of a list more
pub flat_map_next : {X : Type 0} (f : X → List ℕ) (xs : List X) (start old new : List ℕ) (n : ℕ) (x : X) → slice_get xs n ≡ Some x
    → old ≡ start ++ flat_map f (take n xs) → new ≡ old ++ f x → new ≡ start ++ flat_map f (take (n + 1) xs)
flat_map_next f xs start old new n x at before pushed =
    let more : take (n + 1) xs ≡ take n xs ++ x ∷ [] = take_more xs n x (slice_get_within xs n x at) ∙ ap (λ y. take n xs ++ y ∷ []) (get_or_from_slice_get xs n x x at) in
    pushed ∙ ap (λ (text : List ℕ). text ++ f x) before ∙ flat_map_more f start (take n xs) x ∙ ap (λ ys. start ++ flat_map f ys) (sym more)

-- the text of one number more
pub joined_next : (f : ℕ → List ℕ) (start old new : List ℕ) (n : ℕ) → old ≡ start ++ joined f n → new ≡ old ++ f n → new ≡ start ++ joined f (n + 1)
joined_next f start old new n before pushed =
    pushed ∙ ap (λ (text : List ℕ). text ++ f n) before ∙ append_assoc start (joined f n) (f n) ∙ ap (λ (text : List ℕ). start ++ text) (sym (joined-more f n))
