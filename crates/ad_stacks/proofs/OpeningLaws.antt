-- The table as it is opened meets the rule, and so does it behind each seat that is dealt.
use Rattle.std.proofs.Common.{◌≡◌, ℕ, zero, suc, ◌+◌, add-one, List, [], ◌∷◌, ◌++◌, map, ap, sym, ◌∙◌, refl, subst, arith}
use Rattle.std.specs.List.{range_with_len}
use Rattle.std.proofs.lemmas.List.FromFn.{map-range_with_len_more}
use Rattle.ad_base.specs.declared.place.Place.{Place}
use Rattle.ad_stacks.specs.declared.view.Doing.{Doing}
use Rattle.ad_stacks.specs.Names.{AreWords, in_order}
use Rattle.ad_stacks.specs.Opening.{mover_dealt, opening_words, worker_dealt, DealtLaw, OpenedLaw, OpeningWordsLaw}
use Rattle.ad_stacks.specs.Rule.{Kept, starting_plan}
use Rattle.ad_stacks.proofs.Openings.{opening_kept}
use Rattle.ad_stacks.proofs.OpeningWords.{all_laid, in_order_are, opening_read}
use Rattle.ad_stacks.proofs.StepLaws.{split_law}

pub opening_words_law : OpeningWordsLaw
opening_words_law openings may = opening_read openings may

pub opened_law : OpenedLaw
opened_law openings may =
    opening_kept openings may.places may.differ (in_order (opening_words openings)) may.few (subst (AreWords (in_order (opening_words openings))) (sym (all_laid openings may.differ)) (in_order_are (opening_words openings)))

-- one worker's seat more
one_dealt : (openings : List Place) (k : ℕ) → mover_dealt openings (k + 1) ∷ (map worker_dealt (range_with_len 0 k) ++ worker_dealt k ∷ []) ≡ mover_dealt openings (suc k) ∷ map worker_dealt (range_with_len 0 (suc k))
one_dealt openings k =
    ap (λ (views : List Doing). mover_dealt openings (k + 1) ∷ views) (sym (map-range_with_len_more worker_dealt 0 k k (omega arith)))
    ∙ ap (λ (n : ℕ). mover_dealt openings n ∷ map worker_dealt (range_with_len 0 n)) (add-one k)

pub dealt_law : DealtLaw
dealt_law openings may zero few = opened_law openings may
dealt_law openings may (suc k) few =
    let views : List Doing = mover_dealt openings k ∷ map worker_dealt (range_with_len 0 k) in
    subst (λ (vs : List Doing). Kept openings (record { words = in_order (opening_words openings); homes = []; views = vs })) (one_dealt openings k)
    (split_law openings (record { words = in_order (opening_words openings); homes = []; views = views }) (dealt_law openings may k (omega arith)) 0 (record (starting_plan openings) { dealt = k }) refl (omega arith) refl).0
