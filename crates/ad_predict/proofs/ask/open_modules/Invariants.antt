use Rattle.std.proofs.Common.{◌≡◌, map, take}
use Rattle.ad_predict.specs.Private.Asking.{opened_module}
use Rattle.ad_predict.proofs.ask.open_modules.Given as goal

-- the modules of the images so far
abbrev pub invariant-loop-image : goal.invariant-loop-image
invariant-loop-image l = l.modules.items ≡ map opened_module (take l.image-index l.images)
