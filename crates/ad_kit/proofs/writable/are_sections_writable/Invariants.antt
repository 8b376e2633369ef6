use Rattle.std.proofs.Common.{take}
use Rattle.std.specs.List.{All}
use Rattle.ad_kit.specs.Private.Written.{IsSectionWritable}
use Rattle.ad_kit.proofs.writable.are_sections_writable.Given as goal

abbrev pub invariant-loop-k : goal.invariant-loop-k
invariant-loop-k l = All IsSectionWritable (take l.k l.sections)
