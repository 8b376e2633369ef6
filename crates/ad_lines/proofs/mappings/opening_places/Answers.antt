use Rattle.std.proofs.Common.{◌≡◌, ◌∙◌, List, ap, map, subst}
use Rattle.std.specs.List.{filter, zip}
use Rattle.std.specs.Result.{IfOk}
use Rattle.ad_base.specs.declared.ledger.Row.{Row}
use Rattle.ad_base.specs.Ledger.{is_same_kind}
use Rattle.ad_lines.specs.Opening.{opening_mappings, opening_requests}
use Rattle.ad_lines.specs.Private.Places.{thing_row}
use Rattle.ad_lines.proofs.Opens.{kind-of-rows, rows-of-things}
use Rattle.ad_lines.proofs.mappings.opening_places.Goals as goal

pub returns : goal.returns
returns c =
    let kind = c.args.kind in
    let requests = opening_requests c.args.workers c.args.images.now in
    let places = c.args.places.now in
    let things = c.deref.ensures.value ∙ c.in_ok-things.ensures in
    let rows = c.deref-2.ensures.value ∙ c.in_ok-rows.ensures.rows ∙ (λ j. map thing_row (zip (things j) places)) ∙ rows-of-things requests places in
    let found = ap (λ (rs : List Row). map (λ (r : Row). r.place) (filter (λ (r : Row). is_same_kind kind r.kind) rs)) rows ∙ kind-of-rows kind (opening_mappings c.args.workers c.args.images.now places) in
    subst (λ ps. IfOk c.places_in.result (λ places. places.items ≡ ps)) found c.places_in.ensures
