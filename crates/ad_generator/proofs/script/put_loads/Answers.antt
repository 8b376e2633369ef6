use Rattle.ad_generator.specs.Modules.{modules}
use Rattle.ad_generator.specs.Script.{load_line}
use Rattle.ad_generator.proofs.Lines.{flat_map_next}
use Rattle.ad_generator.proofs.script.put_loads.Goals as goal

pub loop-number-preserved : goal.loop-number-preserved
loop-number-preserved c = flat_map_next load_line modules _ _ _ c.loop-number.number _ c.of.ensures c.loop-number.invariant c.in_ok-put_load.ensures
