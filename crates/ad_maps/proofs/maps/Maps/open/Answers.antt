use Rattle.std.proofs.Common.{ℕ, List, [], sym, subst, ◌∙◌}
use Rattle.atomic_table.specs.Table.{opening}
use Rattle.ad_maps.specs.declared.shape.Opening.{Opening}
use Rattle.ad_maps.specs.declared.shape.Shape.{Shape}
use Rattle.ad_maps.specs.MapPlace.{IsShape}
use Rattle.ad_maps.specs.Rule.{Kept, starting}
use Rattle.ad_maps.proofs.OpeningLaws.{opened_law}
use Rattle.ad_maps.proofs.maps.Maps.open.Goals as goal

pub of_words-requires : goal.of_words-requires
of_words-requires c =
    let shape : Shape = record { slots = c.args.slots; frames = c.args.frames; workers = c.args.workers; modules = c.in_ok-copied.field-0 } in
    let form : IsShape shape = subst (λ (os : List Opening). IsShape (record { slots = c.args.slots; frames = c.args.frames; workers = c.args.workers; modules = os })) (sym (c.in_ok-copied.ensures)) c.requires in
    subst (λ (xs : List ℕ). Kept shape (opening xs [] (starting shape))) (sym (c.as_slice.ensures.value ∙ c.in_ok-words.ensures.value)) (opened_law shape form)
