-- What is known while a file is written.
use Rattle.std.specs.Prelude.{◌≡◌, ℕ, ◌++◌, ◌<◌, ◌==◌, ◌^◌, true, List, length, map, take, slice_index, slice_index_or}
use Rattle.std.specs.Borrow.{Bor}
use Rattle.std.specs.BTreeMap.{get}
use Rattle.std.specs.Cmp.Lexicographic.{slice_cmp}
use Rattle.std.specs.List.{All, list_any}
use Rattle.std.specs.Ordering.{nat_cmp}
use Rattle.std.specs.declared.cmp.Ordering.{Ordering}
use Rattle.ad_kit.specs.ObjectFile.{begin_behind, end_of, find_place, place, relas_bytes, sections_bytes, strings, to_names, to_relas, to_strings, to_symbols, used}
use Rattle.ad_kit.specs.Writable.{HasNoZero, powers}
use Rattle.ad_kit.specs.declared.body.Places.{Places}
use Rattle.ad_kit.specs.declared.header.Header.{Header}
use Rattle.ad_kit.specs.declared.object.KitRela.{KitRela}
use Rattle.ad_kit.specs.declared.object.KitSection.{KitSection}
use Rattle.ad_kit.specs.declared.object.KitSymbol.{KitSymbol}
use Rattle.ad_kit.specs.declared.strings.Found.{Found}
use Rattle.ad_kit.specs.declared.strings.Strings.{Strings}

abbrev pub by_bytes : Bor (List ℕ) → Bor (List ℕ) → Ordering
by_bytes x y = slice_cmp nat_cmp x.now y.now

-- the section of strings of these names, and where each begins
pub record AreFound (ns : List (List ℕ)) (f : Found) : Type 0 where
  pub bytes : f.bytes.items ≡ strings ns
  pub places : (q : Bor (List ℕ)) → get by_bytes f.places q ≡ find_place 1 ns q.now

-- the section of strings of these names, which may be repeated and empty, and where each begins
pub record AreStrings (names : List (List ℕ)) (s : Strings) : Type 0 where
  pub bytes : s.bytes.items ≡ strings (used names)
  pub places : s.places.items ≡ map (place (used names)) names

-- where each of the first so many sections begins, and where its relocations do
pub record AreBegun (ss : List KitSection) (n : ℕ) (places : List ℕ) : Type 0 where
  pub all : length places ≡ n
  pub each_one : (k : ℕ) (s : KitSection) → k < n → slice_index places k ≡ begin_behind (slice_index_or ss k s).align (sections_bytes (take k ss))

pub record AreRelasBegun (ss : List KitSection) (n : ℕ) (places : List ℕ) : Type 0 where
  pub all : length places ≡ n
  pub each_one : (k : ℕ) → k < n → slice_index places k ≡ end_of (to_relas ss ++ relas_bytes (take k ss))

-- where the parts of the file begin
pub record ArePlaces (ss : List KitSection) (ys : List KitSymbol) (p : Places) : Type 0 where
  pub sections : AreBegun ss (length ss) p.sections.items
  pub relas : AreRelasBegun ss (length ss) p.relas.items
  pub symbols : p.symbols ≡ end_of (to_symbols ss)
  pub strings : p.strings ≡ end_of (to_strings ss ys)
  pub names : p.names ≡ end_of (to_names ss ys)

-- the section has few relocations
abbrev pub IsShort : KitSection → Type 0
IsShort s = length s.relas < 10000

-- the numbers of a header that come from a section fit their fields
pub record IsHeaderFit (h : Header) : Type 0 where
  pub typ : h.typ < 2 ^ 32
  pub flags : h.flags < 2 ^ 64
  pub size : h.size < 2 ^ 64

-- the section can be written
pub record IsSectionWritable (s : KitSection) : Type 0 where
  pub aligned : list_any (λ a. a == s.align) powers ≡ true
  pub name : HasNoZero s.name
  pub symbols : All (λ (r : KitRela). r.symbol < 2 ^ 32) s.relas
