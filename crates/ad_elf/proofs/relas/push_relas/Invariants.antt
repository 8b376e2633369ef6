use Rattle.std.proofs.Common.{◌≡◌, ◌++◌}
use Rattle.ad_elf.specs.Below.{each}
use Rattle.ad_elf.specs.File.{rela}
use Rattle.ad_elf.proofs.relas.push_relas.Given as goal

abbrev pub invariant-loop-j : goal.invariant-loop-j
invariant-loop-j l = l.relas.items ≡ l.initial.relas.items ++ each (rela l.file l.i) l.j
