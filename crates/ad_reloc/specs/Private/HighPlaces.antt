-- An index of the entries with high halves.
use Rattle.std.specs.Prelude.{◌≡◌, ℕ, List}
use Rattle.std.specs.BTreeMap.{BTreeMap, get}
use Rattle.std.specs.Ordering.{nat_cmp, ordering_then}
use Rattle.std.specs.declared.cmp.Ordering.{Ordering}
use Rattle.ad_elf.specs.declared.object.Rela.{Rela}
use Rattle.ad_elf.specs.Below.{first}
use Rattle.ad_reloc.specs.Highs.{has_high_at}

-- pairs are in the order of their first, then of their second numbers
abbrev pub by_both : (ℕ × ℕ) → (ℕ × ℕ) → Ordering
by_both x y = ordering_then (nat_cmp x.0 y.0) (nat_cmp x.1 y.1)

-- the index says for each offset of a section which is the first entry below n
pub record ArePlaces (n : ℕ) (rs : List Rela) (places : BTreeMap (ℕ × ℕ) ℕ) : Type 0 where
  pub each_one : (target offset : ℕ) → get by_both places (target, offset) ≡ first (has_high_at rs target offset) n
