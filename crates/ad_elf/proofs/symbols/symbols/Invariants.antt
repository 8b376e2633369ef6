use Rattle.std.proofs.Common.{◌≡◌, None, not}
use Rattle.ad_elf.specs.Below.{each, first}
use Rattle.ad_elf.specs.Fields.{symbol_entry}
use Rattle.ad_elf.specs.File.{has_string, symbol, symbol_names, table}
use Rattle.ad_elf.proofs.symbols.symbols.Given as goal

abbrev pub invariant-loop-j : goal.invariant-loop-j
invariant-loop-j l = record {
  items : l.symbols.items ≡ each (symbol l.file) l.j;
  named : first (λ j. not (has_string (symbol_names l.file) (symbol_entry l.file (table l.file) j).name)) l.j ≡ None;
}
