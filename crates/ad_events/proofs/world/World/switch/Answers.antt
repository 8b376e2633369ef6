use Rattle.std.proofs.Common.{ap, ap₂, sym, set as put, length-set, ◌∙◌, subst, refl, length}
use Rattle.std.specs.Option.{is_some}
use Rattle.std.specs.FinMap as map
use Rattle.std.proofs.lemmas.List.{get_or_read}
use Rattle.ad_events.specs.declared.mapping.Status.TheVariants.{Fresh, Current}
use Rattle.ad_events.specs.declared.event.Event.TheVariants.{Switch}
use Rattle.ad_events.specs.World.{EventWorld, mapping_of, effect, WorldFits}
use Rattle.ad_events.proofs.Events.{WorldFits-after, some-kept, switch-same}
use Rattle.ad_events.proofs.world.World.switch.Goals as goal

pub set-requires-2 : goal.set-requires-2
set-requires-2 c =
    let s = c.self.inside in
    let fresh = ap (λ (w : EventWorld). map.get w.mappings c.args.mapping) c.self.view_is ∙ c.requires in
    ap (λ ms. is_some (map.get ms c.args.mapping)) c.set.ensures ∙ some-kept s.mappings _ _ c.args.mapping (ap is_some fresh)

pub invariant_of-self : goal.invariant_of-self
invariant_of-self c =
    let s = c.self.inside in
    let fresh = ap (λ (w : EventWorld). map.get w.mappings c.args.mapping) c.self.view_is ∙ c.requires in
    let l = c.self.invariant.of_module c.args.mapping (mapping_of c.args.module Fresh) fresh in
    let before = get_or_read s.current.items c.args.module c.index-before.result.now l c.index-before.ensures 0 in
    let same = switch-same s.current.items s.mappings s.inside s.entered c.self.invariant c.args.module c.args.mapping c.index-before.result.now fresh before in
    subst (λ ms. WorldFits (put s.current.items c.args.module c.args.mapping) ms s.inside s.entered)
    (sym (c.set-2.ensures ∙ ap (λ ms. map.insert ms c.args.mapping (mapping_of c.args.module Current)) c.set.ensures ∙ same))
    (WorldFits-after s.current.items (record { workers = s.workers; modules = length s.current.items; mappings = s.mappings; inside = s.inside; entered = s.entered }) c.args.self.now c.self.view_is refl c.self.invariant
    (Switch c.args.module c.args.mapping) c.requires)

pub returns : goal.returns
returns c =
    let s = c.self.inside in
    let fresh = ap (λ (w : EventWorld). map.get w.mappings c.args.mapping) c.self.view_is ∙ c.requires in
    let l = c.self.invariant.of_module c.args.mapping (mapping_of c.args.module Fresh) fresh in
    let before = get_or_read s.current.items c.args.module c.index-before.result.now l c.index-before.ensures 0 in
    let same = switch-same s.current.items s.mappings s.inside s.entered c.self.invariant c.args.module c.args.mapping c.index-before.result.now fresh before in
    ap₂ (λ n ms. let w : EventWorld = record { workers = s.workers; modules = n; mappings = ms; inside = s.inside; entered = s.entered } in w)
    (length-set s.current.items c.args.module c.args.mapping)
    (c.set-2.ensures ∙ ap (λ ms. map.insert ms c.args.mapping (mapping_of c.args.module Current)) c.set.ensures ∙ same)
    ∙ ap (λ w. effect w (Switch c.args.module c.args.mapping)) c.self.view_is
