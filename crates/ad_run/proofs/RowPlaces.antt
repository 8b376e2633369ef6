-- Where the mappings of rows lie: those of movable parts, stacks and immovable parts, each at a place for it.
use Rattle.std.proofs.Common.{◌≡◌, ℕ, zero, suc, ◌+◌, List, [], ◌∷◌, map, slice_get, Some, refl, sym, ap, subst, ◌∙◌}
use Rattle.std.specs.List.{All, Contains, enumerate_from}
use Rattle.std.proofs.lemmas.List.Elements.{All-head, All-tail}
use Rattle.std.proofs.lemmas.Simd.{map-map}
use Rattle.ad_base.specs.declared.image.Image.{Image}
use Rattle.ad_base.specs.declared.ledger.Kind.{Kind}
use Rattle.ad_base.specs.declared.ledger.Kind.TheVariants.{Code, Fixed, Stack}
use Rattle.ad_base.specs.declared.ledger.Row.{Row}
use Rattle.ad_base.specs.Image.{IsWhole}
use Rattle.ad_base.specs.Ledger.{Mapping, is_same_kind}
use Rattle.ad_base.specs.Place.{IsPlace}
use Rattle.ad_lines.specs.Sound.{Lines}
use Rattle.ad_lines.proofs.LedgerRuns.{kind-same}
use Rattle.ad_lines.proofs.ListReads.{Each}
use Rattle.ad_lines.proofs.PlacedApart.{IsPartOf, IsStackPlace}
use Rattle.ad_maps.specs.Ledger.{all_made}
use Rattle.ad_maps.proofs.Elements.{filter-from, filter-to}
use Rattle.ad_mover.specs.Moves.{Moving}
use Rattle.ad_run.specs.Opened.{shape_for}
use Rattle.ad_run.specs.Rows.{fixed_row, fixed_rows}
use Rattle.ad_run.proofs.AllRows.{IsMoverRun, fixed-are, last-mappings, last-places, last-rows}
use Rattle.ad_run.proofs.Framed.{of_mapping_kind}
use Rattle.ad_run.proofs.KeptMappings.{lane_places}
use Rattle.ad_run.proofs.KeptPlaces.{IsPartMade}
use Rattle.ad_run.proofs.KeptRows.{mappings_of}
use Rattle.ad_run.proofs.Ledgers.{ledger-kind, ledger-made, ledger-places, of_row_kind, row_made}
use Rattle.ad_run.proofs.Ordered.{each-member, map-from, map-to}
use Rattle.ad_run.proofs.SoundRows.{fixed-listed}
use Rattle.ad_script.specs.declared.script.Step.{Step}
use Rattle.ad_stacks.specs.declared.view.Given.{Given}
use Rattle.ad_stacks.specs.Ledger.{all_given, stack_mapping}

-- the immovable part of each whole image lies at a place
fixed-each : (n : ℕ) (images : List Image) → All IsWhole images → Each (λ (r : Row). IsPlace r.place) (map fixed_row (enumerate_from n images))
fixed-each n [] whole k r e = absurd cc
fixed-each n (i ∷ images) whole zero r e =
    let same : fixed_row (n, i) ≡ r = cc in
    subst (λ (x : Row). IsPlace x.place) same (All-head IsWhole i images whole).fixed_place.place
fixed-each n (i ∷ images) whole (suc k) r e = fixed-each (n + 1) images (All-tail IsWhole i images whole) k r e

module _ (slots frames : ℕ) (l : Lines) (script : List Step) (last : Moving) (run : IsMoverRun slots frames l script last) where
  abbrev all_mappings : List Mapping
  all_mappings = mappings_of frames l last.moves

  abbrev rs : List Row
  rs = (last-rows slots frames l script last run).rows

  of-kind : (kind : Kind) (r : Row) → Contains rs r → r.kind ≡ kind → Contains (of_row_kind kind rs) r
  of-kind kind r c is = filter-to (λ (x : Row). is_same_kind kind x.kind) rs r c (ap (is_same_kind kind) is ∙ kind-same kind)

  part-made : (r : Row) → Contains rs r → r.kind ≡ Code → IsPartMade frames l (row_made r)
  part-made r c is =
      let codes = of_row_kind Code rs in
      let gs = all_made (shape_for slots frames l) last.deeds in
      let ledger = ledger-kind Code all_mappings rs (last-rows slots frames l script last run).are.ledger in
      let made = ledger-made (of_mapping_kind Code all_mappings) codes ledger ∙ (last-mappings slots frames l script last run).codes in
      each-member (IsPartMade frames l) gs (row_made r) (last-places slots frames l script last run).parts
      (subst (λ xs. Contains xs (row_made r)) made (map-to row_made codes r (of-kind Code r c is)))

  -- the mapping of a module lies at a place for its movable part
  pub part-of-row : (r : Row) (i : Image) → Contains rs r → r.kind ≡ Code → slice_get l.images r.who ≡ Some i → IsPartOf i r.place
  part-of-row r i c is loaded =
      let part = part-made r c is in
      let same : Some part.image ≡ Some i = sym part.loaded_as ∙ loaded in
      let image : part.image ≡ i = cc in
      subst (λ x. IsPartOf x r.place) image part.part

  -- that of a worker at a place for a stack
  pub stack-of-row : (r : Row) → Contains rs r → r.kind ≡ Stack → IsStackPlace r.place
  stack-of-row r c is =
      let stacks = of_row_kind Stack rs in
      let given = all_given (lane_places l) last.refreshes in
      let ledger = ledger-kind Stack all_mappings rs (last-rows slots frames l script last run).are.ledger in
      let places : map (λ (x : Row). x.place) stacks ≡ map (λ (g : Given). g.place) given =
      ledger-places (of_mapping_kind Stack all_mappings) stacks ledger
      ∙ ap (map (λ (m : Mapping). m.place)) (last-mappings slots frames l script last run).stacks
      ∙ map-map (λ (m : Mapping). m.place) stack_mapping given in
      let g = map-from (λ (x : Given). x.place) given r.place (subst (λ ps. Contains ps r.place) places (map-to (λ (x : Row). x.place) stacks r (of-kind Stack r c is))) in
      subst IsStackPlace g.2 (each-member (λ (x : Given). IsStackPlace x.place) given g.0 (last-places slots frames l script last run).lanes g.1)

  -- and each immovable part has a row
  pub fixed-row : (m : ℕ) (i : Image) → slice_get l.images m ≡ Some i → Contains rs (fixed_row (m, i))
  fixed-row m i loaded =
      let among = subst (λ xs. Contains xs (fixed_row (m, i))) (fixed-are slots frames l script last run) (fixed-listed l.images m i loaded) in
      (filter-from (λ (x : Row). is_same_kind Fixed x.kind) rs (fixed_row (m, i)) among).0

  place-by-kind : (r : Row) → Contains rs r → (kind : Kind) → r.kind ≡ kind → IsPlace r.place
  place-by-kind r c Code is = (part-made r c is).part.for_modules.place
  place-by-kind r c Stack is = (stack-of-row r c is).place
  place-by-kind r c Fixed is =
      each-member (λ (x : Row). IsPlace x.place) (fixed_rows l.images) r (fixed-each 0 l.images run.loaded.whole)
      (subst (λ xs. Contains xs r) (sym (fixed-are slots frames l script last run)) (of-kind Fixed r c is))

  -- so each row's place is one
  pub place-of-row : (r : Row) → Contains rs r → IsPlace r.place
  place-of-row r c = place-by-kind r c r.kind refl
