use Rattle.std.proofs.Common.{◌≡◌, ◌≤◌, None, length}
use Rattle.ad_elf.specs.Below.{first}
use Rattle.ad_elf.specs.Refusals.{is_out_of_bounds, stored_before}
use Rattle.ad_elf.proofs.sections.first_out_of_bounds.Given as goal

abbrev pub invariant-loop-i : goal.invariant-loop-i
invariant-loop-i l = record {
  none : first (is_out_of_bounds l.file) l.i ≡ None;
  sum : l.before ≡ stored_before l.file l.i;
  fits : l.before ≤ length l.file;
}
