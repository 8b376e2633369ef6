use Rattle.std.proofs.Common.{ap, sym, ◌∙◌, subst, arith, get_or}
use Rattle.std.specs.FinMap as map
use Rattle.std.proofs.lemmas.List.{take_all}
use Rattle.ad_events.specs.declared.mapping.Status.TheVariants.{Current}
use Rattle.ad_events.specs.World.{mapping_of, opening_entries, WorldFits}
use Rattle.ad_events.proofs.OpeningWorld.{mappings_of-more, WorldFits-opening}
use Rattle.ad_events.proofs.world.World.new.Goals as goal

pub loop-module-preserved : goal.loop-module-preserved
loop-module-preserved c =
    let i = c.loop-module.module in
    c.in_ok-insert.ensures.ok ∙ ap (λ ms. map.insert ms (get_or c.args.current.now i 0) (mapping_of i Current)) c.loop-module.invariant
    ∙ sym (mappings_of-more c.args.current.now i (omega arith) c.requires)

pub invariant_of-result : goal.invariant_of-result
invariant_of-result c =
    let ps = c.args.current.now in
    let all = take_all c.loop-module.module ps (omega arith) in
    let mappings = c.loop-module.invariant ∙ ap (λ xs. map.from_entries (opening_entries 0 xs)) all in
    subst (λ xs. WorldFits xs c.loop-module.mappings c.new.result c.new-2.result) (sym c.in_ok-from_slice.ensures.items)
    (subst (λ ms. WorldFits ps ms c.new.result c.new-2.result) (sym mappings)
    (subst (λ pairs. WorldFits ps (map.from_entries (opening_entries 0 ps)) pairs c.new-2.result) (sym c.new.ensures)
    (subst (λ workers. WorldFits ps (map.from_entries (opening_entries 0 ps)) map.empty workers) (sym c.new-2.ensures) (WorldFits-opening ps c.requires))))
