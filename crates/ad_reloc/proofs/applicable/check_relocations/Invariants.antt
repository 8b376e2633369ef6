use Rattle.std.proofs.Common.{◌≡◌, None}
use Rattle.std.specs.Option.{is_some}
use Rattle.ad_elf.specs.Below.{first}
use Rattle.ad_reloc.specs.Refusals.{entry_row}
use Rattle.ad_reloc.proofs.applicable.check_relocations.Given as goal

abbrev pub invariant-loop-k : goal.invariant-loop-k
invariant-loop-k l = record {
  same : l.relas ≡ l.object.relas;
  none : first (λ j. is_some (entry_row l.object l.layout l.tables l.fn.fixed j)) l.k ≡ None;
}
