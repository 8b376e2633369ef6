use Rattle.std.proofs.Common.{rules}
use Rattle.ad_elf.specs.Below.{joined}
use Rattle.ad_generator.specs.Script.{line_text}
use Rattle.ad_generator.proofs.Lines.{joined_next}
use Rattle.ad_generator.proofs.script.put_lines.Goals as goal

pub loop-k-preserved : goal.loop-k-preserved
loop-k-preserved c = joined_next line_text _ _ _ c.loop-k.k c.loop-k.invariant c.in_ok-put_line.ensures

pub loop-k-init : goal.loop-k-init
unfolding joined
loop-k-init c = search rules
