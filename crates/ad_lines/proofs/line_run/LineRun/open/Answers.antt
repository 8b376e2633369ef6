use Rattle.std.proofs.Common.{◌≡◌, ◌∙◌, ap, sym, subst, List, [], length, map, arith}
use Rattle.std.specs.List.{filter}
use Rattle.ad_base.specs.declared.image.Image.{Image}
use Rattle.ad_base.specs.declared.ledger.Kind.{Kind}
use Rattle.ad_base.specs.declared.ledger.Kind.TheVariants.{Code, Stack}
use Rattle.ad_base.specs.declared.ledger.Row.{Row}
use Rattle.ad_base.specs.Ledger.{is_same_kind}
use Rattle.ad_place.specs.Choice.{Drawn}
use Rattle.ad_lines.specs.LineRun.{Placement}
use Rattle.ad_lines.specs.Opening.{opening_drawn, opening_mappings, opening_modules, opening_requests, opening_run, places_of_kind, row_of}
use Rattle.ad_lines.specs.Private.Places.{AreNumberedPlaces}
use Rattle.ad_lines.proofs.OpeningSound.{opening-sound}
use Rattle.ad_lines.proofs.Opens.{drawn-each, kind-of-rows, length-rows, numbered, parts-count}
use Rattle.ad_lines.proofs.line_run.LineRun.open.Goals as goal

pub open-requires-clause-numbered : goal.open-requires-clause-numbered
open-requires-clause-numbered c = subst (λ (d : Drawn). AreNumberedPlaces d.places) (sym c.requires.drawn) (numbered c.args.placer.seed c.args.workers c.args.images.items c.requires.loaded)

pub open-requires-clause-each : goal.open-requires-clause-each
open-requires-clause-each c =
    ap (λ (is : List Image). length (opening_requests c.args.workers is)) c.deref.ensures.value
    ∙ drawn-each c.args.placer.seed c.args.workers c.args.images.items c.requires.loaded
    ∙ ap (λ (d : Drawn). length d.places) (sym c.requires.drawn)

pub open_modules-requires : goal.open_modules-requires
open_modules-requires c =
    let seed = c.args.placer.seed in
    let workers = c.args.workers in
    let images = c.args.images.items in
    let rows = ap (λ (p : Placement). p.rows) c.in_ok-mappings.ensures.placement ∙ ap (λ (is : List Image). map row_of (opening_mappings workers is c.args.placer.places)) c.deref.ensures.value in
    let parts =
    c.deref-2.ensures.value ∙ c.in_ok-parts.ensures
    ∙ ap (λ (rs : List Row). map (λ (r : Row). r.place) (filter (λ (r : Row). is_same_kind Code r.kind) rs)) rows
    ∙ kind-of-rows Code (opening_mappings workers images c.args.placer.places)
    ∙ ap (λ (d : Drawn). places_of_kind Code (opening_mappings workers images d.places)) c.requires.drawn in
    omega (arith, ap length parts, parts-count seed workers images c.requires.loaded)

pub invariant_of-result : goal.invariant_of-result
invariant_of-result c =
    let seed = c.args.placer.seed in
    let workers = c.args.workers in
    let images = c.args.images.items in
    let places = c.args.placer.places in
    let drawn = (opening_drawn seed workers images).places in
    let count = length c.in_ok-mappings.mappings.placement.rows in
    let rows = ap (λ (p : Placement). p.rows) c.in_ok-mappings.ensures.placement
    ∙ ap (λ (is : List Image). map row_of (opening_mappings workers is places)) c.deref.ensures.value
    ∙ ap (λ (d : Drawn). map row_of (opening_mappings workers images d.places)) c.requires.drawn in
    let found = λ (kind : Kind). ap (λ (rs : List Row). map (λ (r : Row). r.place) (filter (λ (r : Row). is_same_kind kind r.kind) rs)) rows ∙ kind-of-rows kind (opening_mappings workers images drawn) in
    let long : count ≡ length drawn = ap length rows ∙ length-rows (opening_requests workers images) drawn (drawn-each seed workers images c.requires.loaded) in
    opening-sound seed workers images c.requires.loaded count (omega (arith, long)) c.in_ok-modules.modules.items c.in_ok-stacks.stacks.items
    (c.in_ok-modules.ensures.modules ∙ ap (opening_modules images) (c.deref-2.ensures.value ∙ c.in_ok-parts.ensures ∙ found Code))
    (c.in_ok-stacks.ensures ∙ found Stack)

pub returns-clause-state : goal.returns-clause-state
unfolding opening_run
returns-clause-state c =
    let workers = c.args.workers in
    let images = c.args.images.items in
    let places = c.args.placer.places in
    let placement = c.in_ok-mappings.ensures.placement ∙ ap (λ (is : List Image). record { drawn = c.args.placer; moves = []; rows = map row_of (opening_mappings workers is places) }) c.deref.ensures.value in
    let rows = ap (λ (p : Placement). p.rows) placement in
    let found = λ (kind : Kind). ap (λ (rs : List Row). map (λ (r : Row). r.place) (filter (λ (r : Row). is_same_kind kind r.kind) rs)) rows ∙ kind-of-rows kind (opening_mappings workers images places) in
    let modules = c.in_ok-modules.ensures.modules ∙ ap (opening_modules images) (c.deref-2.ensures.value ∙ c.in_ok-parts.ensures ∙ found Code) in
    let stacks = c.in_ok-stacks.ensures ∙ found Stack in
    λ j. record { modules = modules j; stacks = stacks j; placement = placement j }

pub returns-clause-room : goal.returns-clause-room
returns-clause-room c =
    let moves = c.in_ok-mappings.ensures.room ∙ c.moves_of.ensures in
    record {
      calls = λ m room e. let is = c.in_ok-modules.ensures.room m room e in omega (arith, is);
      moves = omega (arith, moves);
    }
