-- What a written file says is its object.
use Rattle.std.proofs.Common.{◌≡◌, ◌⊎◌, inl, inr, ℕ, ◌+◌, ◌*◌, ◌<◌, ◌==◌, ◌&&◌, ◌||◌, not, true, false, Bool, if◌then◌else◌, List, [], ◌∷◌, ◌++◌, codes, count_by, length, take, refl, sym, ap, ap₂, ◌∙◌, arith}
use Rattle.std.proofs.Math.Seq.{take-append_seam}
use Rattle.std.proofs.lemmas.Bool.{and_parts, cases_Bool, eq-eqb, eqb-true, or_cases}
use Rattle.std.proofs.lemmas.List.{append-nil}
use Rattle.ad_elf.specs.declared.elf.TheConstants.{RELA_BYTES, SHF_ALLOC, SHT_NOBITS, SHT_NULL, SHT_PROGBITS, SHT_RELA, SHT_STRTAB, SHT_SYMTAB, SYMBOL_BYTES}
use Rattle.ad_elf.specs.declared.object.Section.{Section}
use Rattle.ad_elf.specs.Below.{joined}
use Rattle.ad_elf.specs.Fields.{header as read_at}
use Rattle.ad_elf.specs.File.{content, has_flag, is_frame, is_kept as is_kept_in, is_part, kept_section, string_at, section, section_names as names_in, sections}
use Rattle.ad_elf.proofs.Encoded.{section_header}
use Rattle.ad_kit.specs.ObjectFile.{to_relas, to_symbols, relas_bytes, is_local, end_of, has_relas, header_of, number, object_file, padded, place, rela_header, rela_name, section_names, sections_bytes, size_of, stored, strings, symbol_names, symbols_header, to_names, to_strings, to_table, begin_behind}
use Rattle.ad_kit.specs.ReadBack.{AreFit, header_behind, is_kept, no_section, number_behind, section_behind, section_of, sections_said}
use Rattle.ad_kit.specs.Writable.{IsWritable}
use Rattle.ad_kit.specs.declared.header.Header.{Header}
use Rattle.ad_kit.specs.declared.object.KitSection.{KitSection}
use Rattle.ad_kit.specs.declared.object.KitSymbol.{KitSymbol}
use Rattle.ad_kit.proofs.Counted.{header_given, header_last, header_relas, joined_numbers}
use Rattle.ad_kit.proofs.Headed.{IsAt-section, count-is, header-is, is_low, names_number-is, number_small}
use Rattle.ad_kit.proofs.Located.{Stands, begin_is, heads, part_behind, stands_names, stands_section, stands_strings}
use Rattle.ad_kit.proofs.Spelled.{starts_with-name, string_at-name}

-- the headers of the sections, by what they are of
pub read_null : (ss : List KitSection) (ys : List KitSymbol) → IsWritable ss ys → AreFit ss ys → read_at (object_file ss ys) 0 ≡ section_header 0 0 0 0 0 0 0 0 0
read_null ss ys w fit = header-is ss ys w fit 0 (omega arith)

pub read_given : (ss : List KitSection) (ys : List KitSymbol) → IsWritable ss ys → AreFit ss ys → (k : ℕ) → k < length ss → read_at (object_file ss ys) (number_behind ss k)
    ≡ (let s = section_behind ss k in section_header (place (section_names ss) s.name) s.typ s.flags (begin_behind s.align (sections_bytes (take k ss))) (size_of s) 0 0 s.align 0)
unfolding header_of
read_given ss ys w fit k below =
    header-is ss ys w fit (number_behind ss k) (omega (arith, number_small ss k below))
    ∙ ap (λ (h : Header). section_header h.name h.typ h.flags h.offset h.size h.link h.info h.align h.entry_size) (header_given ss ys k below)

pub read_relas : (ss : List KitSection) (ys : List KitSymbol) → IsWritable ss ys → AreFit ss ys → (k : ℕ) → k < length ss → has_relas (section_behind ss k) ≡ true → read_at (object_file ss ys) (number_behind ss k + 1)
    ≡ (let s = section_behind ss k in
    section_header (place (section_names ss) (rela_name s)) SHT_RELA 0 (end_of (to_relas ss ++ relas_bytes (take k ss))) (RELA_BYTES * length s.relas) (number ss) (number_behind ss k) 8 RELA_BYTES)
unfolding rela_header
read_relas ss ys w fit k below some =
    header-is ss ys w fit (number_behind ss k + 1) (omega (arith, number_small ss k below))
    ∙ ap (λ (h : Header). section_header h.name h.typ h.flags h.offset h.size h.link h.info h.align h.entry_size) (header_relas ss ys k below some)

pub read_symbols : (ss : List KitSection) (ys : List KitSymbol) → IsWritable ss ys → AreFit ss ys → read_at (object_file ss ys) (number ss)
    ≡ section_header (place (section_names ss) (codes ".symtab")) SHT_SYMTAB 0 (end_of (to_symbols ss)) (SYMBOL_BYTES * (1 + length ys)) (number ss + 1) (1 + count_by is_local ys) 8 SYMBOL_BYTES
unfolding symbols_header
read_symbols ss ys w fit =
    let none : number ss ≡ number ss + 0 = omega arith in
    header-is ss ys w fit (number ss) (omega arith)
    ∙ ap (λ (h : Header). section_header h.name h.typ h.flags h.offset h.size h.link h.info h.align h.entry_size) (ap (header_behind ss ys) none ∙ header_last ss ys 0)

pub read_strings : (ss : List KitSection) (ys : List KitSymbol) → IsWritable ss ys → AreFit ss ys → read_at (object_file ss ys) (number ss + 1)
    ≡ section_header (place (section_names ss) (codes ".strtab")) SHT_STRTAB 0 (end_of (to_strings ss ys)) (length (strings (symbol_names ys))) 0 0 1 0
read_strings ss ys w fit =
    header-is ss ys w fit (number ss + 1) (omega arith)
    ∙ ap (λ (h : Header). section_header h.name h.typ h.flags h.offset h.size h.link h.info h.align h.entry_size) (header_last ss ys 1)

pub read_names : (ss : List KitSection) (ys : List KitSymbol) → IsWritable ss ys → AreFit ss ys → read_at (object_file ss ys) (number ss + 2)
    ≡ section_header (place (section_names ss) (codes ".shstrtab")) SHT_STRTAB 0 (end_of (to_names ss ys)) (length (strings (section_names ss))) 0 0 1 0
read_names ss ys w fit =
    header-is ss ys w fit (number ss + 2) (omega arith)
    ∙ ap (λ (h : Header). section_header h.name h.typ h.flags h.offset h.size h.link h.info h.align h.entry_size) (header_last ss ys 2)

-- the bytes of a section that has some
content_part : (ss : List KitSection) (ys : List KitSymbol) (front part : List ℕ) → Stands (to_table ss ys) front part → (n t f l i a e : ℕ) → (not (t == SHT_NULL) && not (t == SHT_NOBITS)) ≡ true
    → content (object_file ss ys) (section_header n t f (end_of front) (length part) l i a e) ≡ part
unfolding content
content_part ss ys front part s n t f l i a e stored =
    rw stored (ap (λ (x : List ℕ). take (length part) x) (part_behind ss ys front part s) ∙ take-append_seam part (s.rest ++ heads ss ys))

-- the names of the sections and of the symbols
pub names-in : (ss : List KitSection) (ys : List KitSymbol) → IsWritable ss ys → AreFit ss ys → names_in (object_file ss ys) ≡ strings (section_names ss)
names-in ss ys w fit =
    let file = object_file ss ys in
    ap (λ (i : ℕ). content file (read_at file i)) (names_number-is ss ys w)
    ∙ ap (λ h. content file h) (read_names ss ys w fit)
    ∙ content_part ss ys (to_names ss ys) (strings (section_names ss)) (stands_names ss ys) _ SHT_STRTAB 0 0 0 1 0 refl

pub strings-in : (ss : List KitSection) (ys : List KitSymbol) → IsWritable ss ys → AreFit ss ys → content (object_file ss ys) (read_at (object_file ss ys) (number ss + 1)) ≡ strings (symbol_names ys)
strings-in ss ys w fit =
    let file = object_file ss ys in
    ap (λ h. content file h) (read_strings ss ys w fit) ∙ content_part ss ys (to_strings ss ys) (strings (symbol_names ys)) (stands_strings ss ys) _ SHT_STRTAB 0 0 0 1 0 refl

-- a section without flags isn't kept
pub unkept : (file : List ℕ) (i n t o s l j a e : ℕ) → read_at file i ≡ section_header n t 0 o s l j a e → is_kept_in file i ≡ false
unfolding is_part
unkept file i n t o s l j a e is = ap (λ h. is_part (names_in file) h) is

-- a section that is given is kept where it says so
pub kept_given : (ss : List KitSection) (ys : List KitSymbol) → IsWritable ss ys → AreFit ss ys → (k : ℕ) → k < length ss → is_kept_in (object_file ss ys) (number_behind ss k) ≡ is_kept (section_behind ss k)
unfolding is_part is_frame is_kept
kept_given ss ys w fit k below =
    let s = section_behind ss k in
    let at = place (section_names ss) s.name in
    ap₂ is_part (names-in ss ys w fit) (read_given ss ys w fit k below)
    ∙ ap (λ (b : Bool). has_flag s.flags SHF_ALLOC && ((s.typ == SHT_PROGBITS) || (s.typ == SHT_NOBITS)) && not b) (starts_with-name (strings (section_names ss)) at s.name (codes ".eh_frame") (IsAt-section ss k below) refl)

-- what an object says of a section that is kept
section_with : ℕ → List ℕ → ℕ → ℕ → ℕ → ℕ → List ℕ → Section
section_with i n t f s a b = record { index = i; name = n; typ = t; flags = f; size = s; align = a; bytes = b }

kept_typ : (s : KitSection) → is_kept s ≡ true → (s.typ ≡ SHT_PROGBITS) ⊎ (s.typ ≡ SHT_NOBITS)
unfolding is_kept
kept_typ s kept =
    let front = and_parts _ _ kept in
    let typ = and_parts _ _ front.0 in
    elim (or_cases (s.typ == SHT_PROGBITS) (s.typ == SHT_NOBITS) typ.1) [
      | inl e ↦ inl (eqb-true _ _ e)
      | inr e ↦ inr (eqb-true _ _ e)
    ]

content_zeros : (file : List ℕ) (n f o s l i a e : ℕ) → content file (section_header n SHT_NOBITS f o s l i a e) ≡ []
unfolding content
content_zeros file n f o s l i a e = refl

content_given : (ss : List KitSection) (ys : List KitSymbol) → IsWritable ss ys → AreFit ss ys → (k : ℕ) → k < length ss → is_kept (section_behind ss k) ≡ true → content (object_file ss ys) (read_at (object_file ss ys) (number_behind ss k)) ≡ stored (section_behind ss k)
content_given ss ys w fit k below kept =
    let file = object_file ss ys in
    let s = section_behind ss k in
    let body = sections_bytes (take k ss) in
    let name = place (section_names ss) s.name in
    let at = begin_behind s.align body in
    let begins : at ≡ end_of (padded s.align body) = begin_is s.align body (is_low s.align (w.aligned k no_section below)).some in
    let here : content file (read_at file (number_behind ss k)) ≡ content file (section_header name s.typ s.flags at (size_of s) 0 0 s.align 0) = ap (λ h. content file h) (read_given ss ys w fit k below) in
    elim (kept_typ s kept) [
      | inl program ↦ (
          let bytes : (s.typ == SHT_NOBITS) ≡ false = rw program refl in
          let size : size_of s ≡ length (stored s) = rw bytes refl in
          here
          ∙ ap₂ (λ (o z : ℕ). content file (section_header name s.typ s.flags o z 0 0 s.align 0)) begins size
          ∙ content_part ss ys (padded s.align body) (stored s) (stands_section ss ys k below) name s.typ s.flags 0 0 s.align 0 (rw program refl))
      | inr zeros ↦ (
          let none : stored s ≡ [] = rw (eq-eqb _ _ zeros) refl in
          here ∙ ap (λ (t : ℕ). content file (section_header name t s.flags at (size_of s) 0 0 s.align 0)) zeros ∙ content_zeros file name s.flags at (size_of s) 0 0 s.align 0 ∙ sym none)
    ]

section_given : (ss : List KitSection) (ys : List KitSymbol) → IsWritable ss ys → AreFit ss ys → (k : ℕ) → k < length ss → is_kept (section_behind ss k) ≡ true → section (object_file ss ys) (number_behind ss k) ≡ section_of (number_behind ss k) (section_behind ss k)
unfolding section section_of section_with
section_given ss ys w fit k below kept =
    let file = object_file ss ys in
    let s = section_behind ss k in
    let i = number_behind ss k in
    let name : string_at (names_in file) (read_at file i).name ≡ s.name =
    ap₂ (λ (x : List ℕ) h. string_at x h.name) (names-in ss ys w fit) (read_given ss ys w fit k below) ∙ string_at-name (strings (section_names ss)) (place (section_names ss) s.name) s.name (IsAt-section ss k below) (w.section_names k no_section below) in
    let bytes = content_given ss ys w fit k below kept in
    let same = read_given ss ys w fit k below in
    λ j. section_with i (name j) (same j).typ (same j).flags (same j).size (same j).align (bytes j)

kept_section-given : (ss : List KitSection) (ys : List KitSymbol) → IsWritable ss ys → AreFit ss ys → (k : ℕ) → k < length ss → kept_section (object_file ss ys) (number_behind ss k) ≡ sections_said ss k
unfolding sections_said
kept_section-given ss ys w fit k below =
    elim (cases_Bool (is_kept (section_behind ss k))) [
      | inl kept ↦ rw (kept_given ss ys w fit k below, kept) (ap (λ (s : Section). s ∷ []) (section_given ss ys w fit k below kept))
      | inr other ↦ rw (kept_given ss ys w fit k below, other) refl
    ]

unkept_section : (file : List ℕ) (i : ℕ) → is_kept_in file i ≡ false → kept_section file i ≡ []
unkept_section file i other = rw other refl

no_section_of_relas : (ss : List KitSection) (ys : List KitSymbol) → IsWritable ss ys → AreFit ss ys → (k : ℕ) → k < length ss
    → (if has_relas (section_behind ss k) then kept_section (object_file ss ys) (number_behind ss k + 1) else []) ≡ []
no_section_of_relas ss ys w fit k below =
    elim (cases_Bool (has_relas (section_behind ss k))) [
      | inl some ↦ rw some (unkept_section (object_file ss ys) (number_behind ss k + 1) (unkept (object_file ss ys) (number_behind ss k + 1) _ _ _ _ _ _ _ _ (read_relas ss ys w fit k below some)))
      | inr none ↦ rw none refl
    ]

pub sections-are : (ss : List KitSection) (ys : List KitSymbol) → IsWritable ss ys → AreFit ss ys → sections (object_file ss ys) ≡ joined (sections_said ss) (length ss)
sections-are ss ys w fit =
    let file = object_file ss ys in
    ap (λ (n : ℕ). joined (kept_section file) n) (count-is ss ys w)
    ∙ joined_numbers (kept_section file) (sections_said ss) ss
    (unkept_section file 0 (unkept file 0 _ _ _ _ _ _ _ _ (read_null ss ys w fit)))
    (λ k below. ap (λ (x : List Section). kept_section file (number_behind ss k) ++ x) (no_section_of_relas ss ys w fit k below) ∙ append-nil (kept_section file (number_behind ss k)) ∙ kept_section-given ss ys w fit k below)
    (unkept_section file (number ss) (unkept file (number ss) _ _ _ _ _ _ _ _ (read_symbols ss ys w fit)))
    (unkept_section file (number ss + 1) (unkept file (number ss + 1) _ _ _ _ _ _ _ _ (read_strings ss ys w fit)))
    (unkept_section file (number ss + 2) (unkept file (number ss + 2) _ _ _ _ _ _ _ _ (read_names ss ys w fit)))
