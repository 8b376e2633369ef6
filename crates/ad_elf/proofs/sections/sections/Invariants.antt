use Rattle.std.proofs.Common.{◌≡◌, None}
use Rattle.ad_elf.specs.Below.{first, joined}
use Rattle.ad_elf.specs.File.{kept_section}
use Rattle.ad_elf.specs.Refusals.{is_unnamed}
use Rattle.ad_elf.proofs.sections.sections.Given as goal

abbrev pub invariant-loop-i : goal.invariant-loop-i
invariant-loop-i l = record {
  items : l.sections.items ≡ joined (kept_section l.file) l.i;
  named : first (is_unnamed l.file) l.i ≡ None;
}
