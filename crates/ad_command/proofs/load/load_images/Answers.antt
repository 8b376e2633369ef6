use Rattle.std.proofs.Common.{◌+◌, [], ◌∷◌, ◌++◌}
use Rattle.ad_command.specs.declared.trouble.Trouble.TheVariants.{Memory}
use Rattle.ad_command.specs.Loading.{loaded_images}
use Rattle.ad_command.specs.Private.Asked.{module_from}
use Rattle.ad_command.proofs.Chains.{serves-memory}
use Rattle.ad_command.proofs.Loads.{handed_on, loading-done, loading-each, loading-from, loading-next, loading-room, loading-seed, loading-wanting, loading-wrong}
use Rattle.ad_command.proofs.load.load_images.Goals as goal

pub returns-in_err-placer-clause-serves : goal.returns-in_err-placer-clause-serves
returns-in_err-placer-clause-serves g c =
    let same = handed_on c.from_residual.result Memory c.from_residual.ensures.1 in
    rw same (serves-memory (g.F.Files.outside c.args.files.now) (loaded_images (module_from c.args.source) c.args.seed c.args.script.now))

pub loop-load-init : goal.loop-load-init
loop-load-init g c =
    rw (c.new-images.ensures.items) (loading-from (module_from c.args.source) c.args.seed c.args.script.now (g.F.Files.outside c.args.files.now) c.in_ok-placer.placer c.requires.some_worker c.requires.few_workers c.in_ok-placer.ensures)

pub load_image-requires-clause-room : goal.load_image-requires-clause-room
load_image-requires-clause-room g c =
    let within = rw (c.as_slice-load-items.ensures) at c.loop-load-test.true in
    loading-room (module_from c.args.source) c.args.seed c.args.script.now (g.F.Files.outside c.args.files.now) (g.F.Files.outside c.loop-load.files) c.loop-load.placer c.loop-load.images.items c.loop-load.load-index c.loop-load.invariant within c.requires.few_loads

pub returns-in_err-image-clause-serves : goal.returns-in_err-image-clause-serves
returns-in_err-image-clause-serves g c =
    let old = g.F.Files.outside c.args.files.now in
    let now = g.F.Files.outside c.loop-load.files in
    let new = g.F.Files.outside c.load_image.new.files in
    let t = c.in_err-image.field-0.0 in
    let same = handed_on c.from_residual-in_err-image.result t c.from_residual-in_err-image.ensures.1 in
    let within = rw (c.as_slice-load-items.ensures) at c.loop-load-test.true in
    let item = rw (c.as_slice-load-items.ensures) at c.load-item.is in
    rw same (loading-wrong (module_from c.args.source) c.args.seed c.args.script.now old now c.loop-load.placer c.loop-load.images.items c.loop-load.load-index c.loop-load.invariant c.load-item.result within item new t c.in_err-image.ensures.serves)

pub returns-in_err-push-clause-serves : goal.returns-in_err-push-clause-serves
returns-in_err-push-clause-serves g c =
    let old = g.F.Files.outside c.args.files.now in
    let now = g.F.Files.outside c.loop-load.files in
    let new = g.F.Files.outside c.load_image.new.files in
    let image = c.in_ok-image.image in
    let said = c.in_ok-image.ensures in
    let same = handed_on c.from_residual-in_err-push.result Memory c.from_residual-in_err-push.ensures.1 in
    let within = rw (c.as_slice-load-items.ensures) at c.loop-load-test.true in
    let item = rw (c.as_slice-load-items.ensures) at c.load-item.is in
    let next = loading-next (module_from c.args.source) c.args.seed c.args.script.now old now c.loop-load.placer c.loop-load.images.items c.loop-load.load-index c.loop-load.invariant c.load-item.result within item new c.load_image.new.placer image c.requires.few_loads said.serves said.loaded in
    rw same (loading-wanting (module_from c.args.source) c.args.seed c.args.script.now old new c.load_image.new.placer (c.loop-load.images.items ++ image ∷ []) (c.loop-load.load-index + 1) next)

pub loop-load-preserved : goal.loop-load-preserved
loop-load-preserved g c =
    let old = g.F.Files.outside c.args.files.now in
    let now = g.F.Files.outside c.loop-load.files in
    let new = g.F.Files.outside c.load_image.new.files in
    let said = c.in_ok-image.ensures in
    let within = rw (c.as_slice-load-items.ensures) at c.loop-load-test.true in
    let item = rw (c.as_slice-load-items.ensures) at c.load-item.is in
    let next = loading-next (module_from c.args.source) c.args.seed c.args.script.now old now c.loop-load.placer c.loop-load.images.items c.loop-load.load-index c.loop-load.invariant c.load-item.result within item new c.load_image.new.placer c.in_ok-image.image c.requires.few_loads said.serves said.loaded in
    rw (c.in_ok-push.ensures.items) next

pub returns-clause-serves : goal.returns-clause-serves
returns-clause-serves g c =
    let end = rw (c.as_slice-load-items.ensures) at c.loop-load-test.false in
    loading-done (module_from c.args.source) c.args.seed c.args.script.now (g.F.Files.outside c.args.files.now) (g.F.Files.outside c.loop-load.files) c.loop-load.placer c.loop-load.images.items c.loop-load.load-index c.loop-load.invariant end

pub returns-clause-seed : goal.returns-clause-seed
returns-clause-seed g c =
    loading-seed (module_from c.args.source) c.args.seed c.args.script.now (g.F.Files.outside c.args.files.now) (g.F.Files.outside c.loop-load.files) c.loop-load.placer c.loop-load.images.items c.loop-load.load-index c.loop-load.invariant

pub returns-clause-drawn : goal.returns-clause-drawn
returns-clause-drawn g c = c.loop-load.invariant.drawn

pub returns-clause-loaded : goal.returns-clause-loaded
returns-clause-loaded g c = c.loop-load.invariant.loaded

pub returns-clause-each : goal.returns-clause-each
returns-clause-each g c =
    let end = rw (c.as_slice-load-items.ensures) at c.loop-load-test.false in
    loading-each (module_from c.args.source) c.args.seed c.args.script.now (g.F.Files.outside c.args.files.now) (g.F.Files.outside c.loop-load.files) c.loop-load.placer c.loop-load.images.items c.loop-load.load-index c.loop-load.invariant end
