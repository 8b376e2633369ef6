use Rattle.std.proofs.Common.{◌≡◌, ◌∙◌, ap, refl, subst, length, unwrap_or}
use Rattle.std.specs.Prelude.{IfSome}
use Rattle.std.proofs.lemmas.Option.{slice_get_read}
use Rattle.ad_base.specs.declared.ledger.Kind.TheVariants.{Code}
use Rattle.ad_base.specs.Ledger.{made_place}
use Rattle.ad_lines.specs.LineRun.{after_move, move_end, place_after, with_module_moved}
use Rattle.ad_lines.specs.Room.{Running}
use Rattle.ad_lines.specs.declared.line_run.ModuleRun.{ModuleRun}
use Rattle.ad_lines.proofs.Replacing.{module-replaced, read-twice}
use Rattle.ad_lines.proofs.Steps.{moved, room-kept, within-images}
use Rattle.ad_lines.proofs.line_run.LineRun.move_module.Goals as goal

pub invariant_of-self : goal.invariant_of-self
invariant_of-self c =
    let r = c.self.inside in
    let m = c.index_mut-moved.result.now in
    let p = r.mappings.placement in
    let n = c.args.«module» in
    let within = within-images r.modules.items r.stacks.items p c.args.self.now.state n (ap (λ (v : Running). v.state) c.self.view_is) c.requires.moved in
    let same = read-twice r.modules.items n c.index.result.now m within c.index.ensures c.index_mut-moved.ensures.value in
    let end = c.replace-end in
    let made = made_place end.result in
    module-replaced (length p.rows) (length end.new.self.placement.rows) end.ensures.grows r.modules.items r.stacks.items n m made c.unwrap_or-moved.result
    (slice_get_read r.modules.items (length r.modules.items) n m refl within c.index_mut-moved.ensures.value)
    end.ensures.place (subst (λ (y : ModuleRun). IfSome made (λ q. q.pages ≡ y.movable.pages)) same end.ensures.pages) end.ensures.mapped
    (c.unwrap_or-moved.ensures ∙ (λ j. unwrap_or (c.place.ensures j) (same j).movable)) c.self.invariant

pub returns-clause-state : goal.returns-clause-state
returns-clause-state c =
    let r = c.self.inside in
    let m = c.index_mut-moved.result.now in
    let p = r.mappings.placement in
    let n = c.args.«module» in
    let within = within-images r.modules.items r.stacks.items p c.args.self.now.state n (ap (λ (v : Running). v.state) c.self.view_is) c.requires.moved in
    let same = read-twice r.modules.items n c.index.result.now m within c.index.ensures c.index_mut-moved.ensures.value in
    let end = c.replace-end.ensures.end ∙ ap (λ (y : ModuleRun). move_end p.drawn Code y.movable.pages) same in
    let place = c.unwrap_or-moved.ensures ∙ (λ j. unwrap_or (c.place.ensures j) (same j).movable) ∙ ap (place_after m.movable) end in
    let after = c.replace-end.ensures.after ∙ ap (λ (y : ModuleRun). after_move p c.args.line Code n y.movable) same in
    moved r.modules.items n m within c.index_mut-moved.ensures.value c.args.line r.stacks.items p c.replace-end.new.self.placement c.unwrap_or-moved.result place after
    ∙ ap (λ (v : Running). with_module_moved c.args.line v.state n) c.self.view_is

pub returns-clause-call_room : goal.returns-clause-call_room
returns-clause-call_room c =
    let r = c.self.inside in
    let m = c.index_mut-moved.result.now in
    let n = c.args.«module» in
    let within = within-images r.modules.items r.stacks.items r.mappings.placement c.args.self.now.state n (ap (λ (v : Running). v.state) c.self.view_is) c.requires.moved in
    room-kept r.modules.items n m within c.index_mut-moved.ensures.value c.unwrap_or-moved.result ∙ ap (λ (v : Running). v.call_room) c.self.view_is
