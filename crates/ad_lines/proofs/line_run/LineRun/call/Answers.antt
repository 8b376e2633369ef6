use Rattle.std.proofs.Common.{◌≡◌, ◌-◌, ◌<◌, ◌∙◌, ap, subst, sym, length, map, slice_get, refl, IfSome, arith}
use Rattle.std.specs.Prelude.{slice_index}
use Rattle.std.proofs.Math.ListN.{set}
use Rattle.std.proofs.lemmas.Option.{slice_get_read}
use Rattle.ad_lines.specs.LineRun.{with_call}
use Rattle.ad_lines.specs.Room.{Running, images_of}
use Rattle.ad_lines.proofs.Steps.{called, image-found, room-found, room-here, room-set, room_of, within-images}
use Rattle.ad_lines.proofs.line_run.LineRun.call.Goals as goal

pub run_call-requires-clause-export : goal.run_call-requires-clause-export
run_call-requires-clause-export c =
    let r = c.self.inside in
    let m = c.index_mut-called.result.now in
    let p = r.mappings.placement in
    let within = within-images r.modules.items r.stacks.items p c.args.self.now.state c.args.«module» (ap (λ (v : Running). v.state) c.self.view_is) c.requires.called in
    let there = ap (λ (v : Running). slice_get (images_of v.state) c.args.«module») (sym c.self.view_is)
    ∙ image-found r.modules.items c.args.«module» m within c.index_mut-called.ensures.value r.stacks.items p in
    subst (λ o. IfSome o (λ i. c.args.export < length i.exports)) there c.requires.export

pub run_call-requires-clause-room : goal.run_call-requires-clause-room
run_call-requires-clause-room c =
    let r = c.self.inside in
    let m = c.index_mut-called.result.now in
    let p = r.mappings.placement in
    let within = within-images r.modules.items r.stacks.items p c.args.self.now.state c.args.«module» (ap (λ (v : Running). v.state) c.self.view_is) c.requires.called in
    let there = ap (λ (v : Running). slice_get v.call_room c.args.«module») (sym c.self.view_is) ∙ room-found r.modules.items c.args.«module» m within c.index_mut-called.ensures.value in
    subst (λ o. IfSome o (λ room. 0 < room)) there c.requires.room

pub returns-clause-state : goal.returns-clause-state
returns-clause-state c =
    let r = c.self.inside in
    let m = c.index_mut-called.result.now in
    let p = r.mappings.placement in
    let a = c.args in
    let within = within-images r.modules.items r.stacks.items p a.self.now.state a.«module» (ap (λ (v : Running). v.state) c.self.view_is) c.requires.called in
    let below : a.worker < length r.stacks.items = omega (arith, c.requires.worker, ap (λ (v : Running). length v.state.stacks) c.self.view_is) in
    let there = slice_get_read r.stacks.items (length r.stacks.items) a.worker c.index-stack.result.now refl below c.index-stack.ensures in
    called r.modules.items a.«module» m within c.index_mut-called.ensures.value r.fuel a.line a.worker a.export a.args.now r.stacks.items p c.index-stack.result.now c.run_call.new.book there c.run_call.ensures.after
    ∙ ap (λ (v : Running). with_call v.fuel v.state a.line a.worker a.«module» a.export a.args.now) c.self.view_is

pub returns-clause-call_room : goal.returns-clause-call_room
returns-clause-call_room c =
    let r = c.self.inside in
    let m = c.index_mut-called.result.now in
    let p = r.mappings.placement in
    let n = c.args.«module» in
    let within = within-images r.modules.items r.stacks.items p c.args.self.now.state n (ap (λ (v : Running). v.state) c.self.view_is) c.requires.called in
    let here = room-here r.modules.items n m within c.index_mut-called.ensures.value in
    let left : c.run_call.new.book.history.room ≡ slice_index (map room_of r.modules.items) n - 1 = omega (arith, here, c.run_call.ensures.room) in
    room-set r.modules.items n m within c.index_mut-called.ensures.value c.run_call.new.book m.movable
    ∙ ap (set (map room_of r.modules.items) n) left
    ∙ ap (λ (v : Running). set v.call_room n (slice_index v.call_room n - 1)) c.self.view_is
