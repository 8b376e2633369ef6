-- What is known of an object that was read, whatever its file says.
use Rattle.std.specs.Prelude.{◌≡◌, ◌≢◌, ◌+◌, ◌^◌, ◌<◌, ◌≤◌, List, [], length, sum_by}
use Rattle.std.specs.List.{All, AllPairs, AllWithin, Any}
use Rattle.ad_elf.specs.declared.elf.TheConstants.{SHN_LORESERVE, SHN_UNDEF, SHT_NOBITS, ZERO_BYTES}
use Rattle.ad_elf.specs.declared.object.Object.{Object}
use Rattle.ad_elf.specs.declared.object.Rela.{Rela}
use Rattle.ad_elf.specs.declared.object.Section.{Section}
use Rattle.ad_elf.specs.declared.object.Symbol.{Symbol}
use Rattle.ad_elf.specs.Relocation.{width}

-- A section has as many bytes as its size says, or it is of zeros and has none, and isn't too long.
pub record IsSectionInRange (s : Section) : Type 0 where
  pub number : s.index ≤ SHN_LORESERVE
  pub bytes : s.typ ≢ SHT_NOBITS → length s.bytes ≡ s.size
  pub no_bytes : s.typ ≡ SHT_NOBITS → s.bytes ≡ []
  pub few_zeros : s.typ ≡ SHT_NOBITS → s.size ≤ ZERO_BYTES

-- A symbol that is defined in one of these sections lies in it, or at its end.
abbrev pub IsSymbolInRange : List Section → Symbol → Type 0
IsSymbolInRange sections y = y.shndx ≢ SHN_UNDEF → All (λ (s : Section). s.index ≡ y.shndx → y.value ≤ s.size) sections

-- A relocation names a symbol, and its field lies in the bytes of the section that it applies to.
pub record IsRelaInRange (o : Object) (r : Rela) : Type 0 where
  pub symbol : r.symbol < length o.symbols
  pub target : Any (λ (s : Section). (s.index ≡ r.target) × (s.typ ≢ SHT_NOBITS) × (r.offset + width r.typ ≤ s.size)) o.sections

-- The object is in range: all of its sections, symbols other than symbol 0, and relocations are.
pub record IsInRange (o : Object) : Type 0 where
  pub indexes_rise : AllPairs (λ (s t : Section). s.index < t.index) o.sections
  pub sections_in : All IsSectionInRange o.sections
  pub sizes : sum_by (λ (s : Section). s.size) o.sections < 2 ^ 65
  pub symbols_in : AllWithin (IsSymbolInRange o.sections) o.symbols 1 (length o.symbols)
  pub relas_in : All (IsRelaInRange o) o.relas
