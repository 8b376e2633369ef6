use Rattle.std.proofs.Common.{List, sym, subst, [], ℕ, ◌∙◌}
use Rattle.atomic_table.specs.Table.{opening}
use Rattle.ad_base.specs.declared.place.Place.{Place}
use Rattle.ad_stacks.specs.Rule.{Kept, starting}
use Rattle.ad_stacks.proofs.OpeningLaws.{opened_law}
use Rattle.ad_stacks.proofs.stacks.Stacks.open.Goals as goal

pub of_words-requires : goal.of_words-requires
of_words-requires c =
    let places = c.args.places.now in
    subst (λ (ps : List Place). Kept ps (opening c.as_slice.result.now [] (starting ps))) (sym c.in_ok-key.ensures)
    (subst (λ (ws : List ℕ). Kept places (opening ws [] (starting places))) (sym (c.as_slice.ensures.value ∙ c.in_ok-words.ensures.value)) (opened_law places (record { few = c.requires.lanes; places = c.requires.places; differ = c.requires.numbers })))
