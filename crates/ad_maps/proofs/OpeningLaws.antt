-- The table as it is opened meets the rule, and so does it behind each seat that is dealt.
use Rattle.std.proofs.Common.{◌≡◌, ℕ, zero, suc, ◌+◌, add-one, List, [], ◌∷◌, ◌++◌, map, ap, sym, ◌∙◌, refl, subst, arith}
use Rattle.std.specs.List.{range_with_len}
use Rattle.std.proofs.lemmas.List.FromFn.{map-range_with_len_more}
use Rattle.ad_maps.specs.declared.shape.Shape.{Shape}
use Rattle.ad_maps.specs.declared.view.Doing.{Doing}
use Rattle.ad_maps.specs.Names.{in_order}
use Rattle.ad_maps.specs.Opening.{mover_dealt, opening_words, worker_dealt, DealtLaw, OpenedLaw}
use Rattle.ad_maps.specs.Rule.{Kept, starting_plan}
use Rattle.ad_maps.proofs.Opened.{opening_kept}
use Rattle.ad_maps.proofs.OpeningWords.{opening-is_laid}
use Rattle.ad_maps.proofs.SeatLaws.{split_law}

pub opened_law : OpenedLaw
opened_law shape form = opening_kept shape form (in_order (opening_words shape)) (opening-is_laid shape form)

-- one worker's seat more
one_dealt : (shape : Shape) (k : ℕ) → mover_dealt shape (k + 1) ∷ (map (worker_dealt shape) (range_with_len 0 k) ++ worker_dealt shape k ∷ []) ≡ mover_dealt shape (suc k) ∷ map (worker_dealt shape) (range_with_len 0 (suc k))
one_dealt shape k =
    ap (λ (views : List Doing). mover_dealt shape (k + 1) ∷ views) (sym (map-range_with_len_more (worker_dealt shape) 0 k k (omega arith)))
    ∙ ap (λ (n : ℕ). mover_dealt shape n ∷ map (worker_dealt shape) (range_with_len 0 n)) (add-one k)

pub dealt_law : DealtLaw
dealt_law shape form zero few = opened_law shape form
dealt_law shape form (suc k) few =
    let views : List Doing = mover_dealt shape k ∷ map (worker_dealt shape) (range_with_len 0 k) in
    subst (λ (vs : List Doing). Kept shape (record { words = in_order (opening_words shape); homes = []; views = vs })) (one_dealt shape k)
    (split_law shape (record { words = in_order (opening_words shape); homes = []; views = views }) (dealt_law shape form k (omega arith)) 0 (record (starting_plan shape) { dealt = k }) refl (omega arith) refl).kept
