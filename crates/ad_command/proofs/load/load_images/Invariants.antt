use Rattle.ad_command.specs.Private.Asked.{module_from}
use Rattle.ad_command.proofs.Loads.{IsLoading}
use Rattle.ad_command.proofs.load.load_images.Given as goal

abbrev pub invariant-loop-load : goal.invariant-loop-load
invariant-loop-load g l = IsLoading (module_from l.fn.source) l.fn.seed l.fn.script (g.F.Files.outside l.fn.files) (g.F.Files.outside l.files) l.placer l.images.items l.load-index
