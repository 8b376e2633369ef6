use Rattle.ad_maps.proofs.Trials.{may-retired}
use Rattle.ad_maps.proofs.tests.retired.Goals as goal

pub returns-then-len-le8 : goal.returns-then-len-le8
returns-then-len-le8 c = may-retired c.args.maps.now c.args.mover.now c.retire.new.mover c.args.outs.now.items c.retire.new.outs.items c.args.line c.retire.ensures.empty c.retire.ensures.table c.retire.ensures.current c.retire.ensures.deeds c.args.number c.requires.may
