use Rattle.std.proofs.Common.{◌≡◌, None, take}
use Rattle.ad_elf.specs.Below.{first}
use Rattle.ad_parts.specs.Symbols.{has_name, name_of}
use Rattle.ad_parts.proofs.Repeated.{HasNames}
use Rattle.ad_parts.proofs.exports.first_repeated.Given as goal

abbrev pub invariant-loop-k : goal.invariant-loop-k
invariant-loop-k l = record {
  names : HasNames (take l.k l.exports) l.names;
  none : first (λ j. has_name (take j l.exports) (name_of l.exports j)) l.k ≡ None;
}
