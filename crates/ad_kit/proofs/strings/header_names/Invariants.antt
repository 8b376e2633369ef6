use Rattle.std.proofs.Common.{◌≡◌, flat_map, take}
use Rattle.ad_kit.specs.ObjectFile.{names_of}
use Rattle.ad_kit.proofs.strings.header_names.Given as goal

abbrev pub invariant-loop-k : goal.invariant-loop-k
invariant-loop-k l = l.names.items ≡ flat_map names_of (take l.k l.sections)
