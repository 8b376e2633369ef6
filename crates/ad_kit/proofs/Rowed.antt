-- The rows of the table of refusals for a written file: those on its header and on its sections.
use Rattle.std.proofs.Common.{◌≡◌, inl, inr, ℕ, ◌+◌, ◌-◌, ◌*◌, ◌<◌, ◌≤◌, ◌==◌, ◌&&◌, ◌||◌, not, nat_le, nat_lt, Bool, true, false, if◌then◌else◌, List, [], ◌++◌, codes, flat_map, length, replicate, take, refl, subst, sym, ap, ap₂, ◌∙◌, arith, length-append}
use Rattle.std.proofs.lemmas.Bool.{and_from, and_left, and_parts, and_right, cases_Bool, cond-true, cond-false, eq-eqb, eqb-true, le-leb, le-ltb, lt-leb, lt-ltb, ne_eqb, not_from_true, or_from, or_left, or_right}
use Rattle.std.proofs.Math.Seq.{take-length}
use Rattle.std.proofs.lemmas.List.{get_or_default}
use Rattle.ad_elf.specs.declared.elf.TheConstants.{EM_RISCV, ET_REL, FILE_HEADER_BYTES, NAME_BYTES, SHF_ALLOC, SHF_COMPRESSED, SHF_TLS, SHN_LORESERVE, SHT_NOBITS, SHT_NOTE, SHT_NULL, SHT_PROGBITS, SHT_REL, SHT_STRTAB, ZERO_BYTES}
use Rattle.ad_elf.specs.Below.{total}
use Rattle.ad_elf.specs.Fields.{file_type, header as read_at, machine, names_number, section_count, table_at, u16_at, u32_at}
use Rattle.ad_elf.specs.File.{has_flag, has_string, section_names as names_in}
use Rattle.ad_elf.specs.Refusals.{has_other_flags, is_of_wrong_type, is_other_class, is_out_of_bounds, is_too_long, lacks_magic, lacks_table, stored_before, stored_size}
use Rattle.ad_elf.proofs.Encoded.{section_header}
use Rattle.ad_kit.specs.ObjectFile.{begin_behind, end_of, has_relas, number, object_file, padded, place, rela, rela_name, relas_bytes, section_names, sections_bytes, size_of, stored, strings, symbol_names, symbols_bytes, to_names, to_relas, to_strings, to_symbols, to_table}
use Rattle.ad_kit.specs.ReadBack.{AreFit, IsLoadable, IsSectionReadable, no_section, number_behind, section_behind}
use Rattle.ad_kit.specs.Writable.{HasNoZero, IsWritable}
use Rattle.ad_kit.specs.declared.object.KitSection.{KitSection}
use Rattle.ad_kit.specs.declared.object.KitSymbol.{KitSymbol}
use Rattle.ad_kit.proofs.Bytes.{relas_bytes-more, sections_bytes-more}
use Rattle.ad_kit.proofs.Counted.{each_number, total_numbers, total_within}
use Rattle.ad_kit.proofs.Headed.{IsAt-last, IsAt-relas, IsAt-section, count-is, file_size, header_size-is, is_low, length-relas, names_number-is, number_low, number_small, table_at-is}
use Rattle.ad_kit.proofs.Located.{begin_is, part_inside, stands_names, stands_relas, stands_section, stands_strings, stands_symbols}
use Rattle.ad_kit.proofs.Said.{names-in, read_given, read_names, read_null, read_relas, read_strings, read_symbols}
use Rattle.ad_kit.proofs.Spelled.{IsAt, IsAt-empty, has_string-name}
use Rattle.ad_kit.proofs.Tabled.{length-symbols_bytes}

-- the header of the file
pub begins-is : (ss : List KitSection) (ys : List KitSymbol) → FILE_HEADER_BYTES ≤ length (object_file ss ys)
begins-is ss ys = omega (arith, file_size ss ys)

pub magic-is : (ss : List KitSection) (ys : List KitSymbol) → lacks_magic (object_file ss ys) ≡ false
unfolding object_file
magic-is ss ys = refl

pub class-is : (ss : List KitSection) (ys : List KitSymbol) → is_other_class (object_file ss ys) ≡ false
unfolding object_file
class-is ss ys = refl

pub machine-is : (ss : List KitSection) (ys : List KitSymbol) → (machine (object_file ss ys) == EM_RISCV) ≡ true
unfolding object_file u16_at
machine-is ss ys = refl

pub type-is : (ss : List KitSection) (ys : List KitSymbol) → (file_type (object_file ss ys) == ET_REL) ≡ true
unfolding object_file u16_at
type-is ss ys = refl

pub flags-are : (ss : List KitSection) (ys : List KitSymbol) → has_other_flags (object_file ss ys) ≡ false
unfolding object_file u32_at
flags-are ss ys = refl

pub lacks_table-is : (ss : List KitSection) (ys : List KitSymbol) → IsWritable ss ys → AreFit ss ys → lacks_table (object_file ss ys) ≡ false
unfolding lacks_table
lacks_table-is ss ys w fit =
    let file = object_file ss ys in
    let count = count-is ss ys w in
    let size = ap (λ (n : ℕ). not (n == 64)) (header_size-is ss ys) in
    let some : (section_count file == 0) ≡ false = ne_eqb _ _ (λ e. omega (arith, e, count)) in
    let few : nat_le SHN_LORESERVE (section_count file) ≡ false = lt-leb _ _ (omega (arith, count, number_low ss ys w)) in
    let there : nat_lt (length file) (table_at file + 64 * section_count file) ≡ false = le-ltb _ _ (omega (arith, table_at-is ss ys fit, count, file_size ss ys)) in
    let below : nat_lt (names_number file) (section_count file) ≡ true = lt-ltb _ _ (omega (arith, names_number-is ss ys w, count)) in
    let typ : ((read_at file (names_number file)).typ == SHT_STRTAB) ≡ true = ap (λ (i : ℕ). (read_at file i).typ == SHT_STRTAB) (names_number-is ss ys w) ∙ ap (λ h. h.typ == SHT_STRTAB) (read_names ss ys w fit) in
    or_from _ _ (or_from _ _ (or_from _ _ (or_from _ _ size some) few) there) (not_from_true _ (and_from _ _ below typ))

-- where the sections are
abbrev has_bytes : ℕ → Bool
has_bytes t = not (t == SHT_NULL) && not (t == SHT_NOBITS)

in_bounds : (bytes before n t f o s l i a e : ℕ) → (has_bytes t ≡ true → o + s ≤ bytes) → (has_bytes t ≡ true → before + s ≤ bytes) → (t ≡ SHT_NOBITS → s ≤ ZERO_BYTES)
    → is_too_long bytes before (section_header n t f o s l i a e) ≡ false
in_bounds bytes before n t f o s l i a e inside together zeros =
    let front : (has_bytes t && (nat_lt bytes (o + s) || nat_lt bytes (before + s))) ≡ false =
    elim (cases_Bool (has_bytes t)) [
      | inl some ↦ and_right (has_bytes t) _ (or_from _ _ (le-ltb _ _ (inside some)) (le-ltb _ _ (together some)))
      | inr none ↦ and_left (has_bytes t) _ none
    ] in
    let back : ((t == SHT_NOBITS) && nat_lt ZERO_BYTES s) ≡ false =
    elim (cases_Bool (t == SHT_NOBITS)) [
      | inl some ↦ and_right (t == SHT_NOBITS) _ (le-ltb _ _ (zeros (eqb-true _ _ some)))
      | inr none ↦ and_left (t == SHT_NOBITS) _ none
    ] in
    or_from _ _ front back

abbrev size_in : List KitSection → List KitSymbol → ℕ → ℕ
size_in ss ys i = stored_size (read_at (object_file ss ys) i)

size_with : (n t f o s l i a e : ℕ) → stored_size (section_header n t f o s l i a e) ≤ s
size_with n t f o s l i a e =
    elim (cases_Bool (has_bytes t)) [
      | inl some ↦ rw some (omega arith)
      | inr none ↦ rw none (omega arith)
    ]

size_given : (s : KitSection) (n f o l i a e : ℕ) → stored_size (section_header n s.typ f o (size_of s) l i a e) ≤ length (stored s)
size_given s n f o l i a e =
    elim (cases_Bool (s.typ == SHT_NOBITS)) [
      | inl zeros ↦ (
          let none : has_bytes s.typ ≡ false = and_right (not (s.typ == SHT_NULL)) _ (not_from_true _ zeros) in
          rw (cond-false (has_bytes s.typ) (size_of s) 0 none) (omega arith))
      | inr bytes ↦ (
          let same : size_of s ≡ length (stored s) = rw bytes refl in
          omega (arith, same, size_with n s.typ f o (size_of s) l i a e))
    ]

abbrev bound : List KitSection → ℕ → ℕ
bound ss k = length (sections_bytes (take k ss)) + length (relas_bytes (take k ss))

length-padded : (align : ℕ) (body : List ℕ) → length body ≤ length (padded align body)
unfolding padded
length-padded align body = omega (arith, length-append body (replicate (begin_behind align body - end_of body) 0))

bound_more : (ss : List KitSection) (k : ℕ) → k < length ss → bound ss k + length (stored (section_behind ss k)) + length (flat_map rela (section_behind ss k).relas) ≤ bound ss (k + 1)
bound_more ss k below =
    let s = section_behind ss k in
    let front = padded s.align (sections_bytes (take k ss)) in
    let bytes = ap length (sections_bytes-more ss k s front below (get_or_default ss k no_section s below) refl) in
    let relas = ap length (relas_bytes-more ss k no_section below) in
    omega (arith, bytes, length-append front (stored s), length-padded s.align (sections_bytes (take k ss)), relas, length-append (relas_bytes (take k ss)) (flat_map rela s.relas))

size_step : (ss : List KitSection) (ys : List KitSymbol) → IsWritable ss ys → AreFit ss ys → (k : ℕ) → k < length ss
    → bound ss k + size_in ss ys (number_behind ss k) + (if has_relas (section_behind ss k) then size_in ss ys (number_behind ss k + 1) else 0) ≤ bound ss (k + 1)
size_step ss ys w fit k below =
    let s = section_behind ss k in
    let given : size_in ss ys (number_behind ss k) ≤ length (stored s) = subst (λ h. stored_size h ≤ length (stored s)) (sym (read_given ss ys w fit k below)) (size_given s (place (section_names ss) s.name) s.flags (begin_behind s.align (sections_bytes (take k ss))) 0 0 s.align 0) in
    elim (cases_Bool (has_relas s)) [
      | inl some ↦ (
          let size : size_in ss ys (number_behind ss k + 1) ≡ 24 * length s.relas = ap stored_size (read_relas ss ys w fit k below some) in
          rw some (omega (arith, given, size, length-relas s.relas, bound_more ss k below)))
      | inr none ↦ rw none (omega (arith, given, bound_more ss k below))
    ]

total_size : (ss : List KitSection) (ys : List KitSymbol) → IsWritable ss ys → AreFit ss ys → total (size_in ss ys) (number ss + 3) ≤ length (object_file ss ys)
total_size ss ys w fit =
    let null : size_in ss ys 0 ≡ 0 = ap stored_size (read_null ss ys w fit) in
    let symbols : size_in ss ys (number ss) ≡ 24 * (1 + length ys) = ap stored_size (read_symbols ss ys w fit) in
    let strs : size_in ss ys (number ss + 1) ≡ length (strings (symbol_names ys)) = ap stored_size (read_strings ss ys w fit) in
    let names : size_in ss ys (number ss + 2) ≡ length (strings (section_names ss)) = ap stored_size (read_names ss ys w fit) in
    let all : bound ss (length ss) ≡ length (sections_bytes ss) + length (relas_bytes ss) = ap₂ (λ (x y : List KitSection). length (sections_bytes x) + length (relas_bytes y)) (take-length ss) (take-length ss) in
    let sum = total_numbers (size_in ss ys) (bound ss) ss null (size_step ss ys w fit) in
    let relas_from : length (to_symbols ss) ≡ length (to_relas ss) + length (relas_bytes ss) = length-append (to_relas ss) (relas_bytes ss) in
    let inside = part_inside ss ys (to_symbols ss) (symbols_bytes (symbol_names ys) ys) (stands_symbols ss ys) in
    let strings_from : length (to_strings ss ys) ≡ length (to_symbols ss) + length (symbols_bytes (symbol_names ys) ys) = length-append (to_symbols ss) (symbols_bytes (symbol_names ys) ys) in
    let names_from : length (to_names ss ys) ≡ length (to_strings ss ys) + length (strings (symbol_names ys)) = length-append (to_strings ss ys) (strings (symbol_names ys)) in
    let end = part_inside ss ys (to_names ss ys) (strings (section_names ss)) (stands_names ss ys) in
    omega (arith, sum, all, symbols, strs, names, length-padded 8 (sections_bytes ss), relas_from, strings_from, names_from, end, length-symbols_bytes ys, file_size ss ys)

bounded : (ss : List KitSection) (ys : List KitSymbol) → IsWritable ss ys → AreFit ss ys → (i n t f o s l j a e : ℕ) → i < number ss + 3 → read_at (object_file ss ys) i ≡ section_header n t f o s l j a e
    → (has_bytes t ≡ true → o + s ≤ end_of (to_table ss ys)) → (t ≡ SHT_NOBITS → s ≤ ZERO_BYTES) → is_out_of_bounds (object_file ss ys) i ≡ false
unfolding is_out_of_bounds
bounded ss ys w fit i n t f o s l j a e below is inside zeros =
    let file = object_file ss ys in
    let together : has_bytes t ≡ true → stored_before file i + s ≤ length file =
    (λ some.
    let size : size_in ss ys i ≡ s = ap stored_size is ∙ cond-true (has_bytes t) s 0 some in
    omega (arith, size, total_within (size_in ss ys) (number ss + 3) i below, total_size ss ys w fit)) in
    ap (λ h. is_too_long (length file) (stored_before file i) h) is
    ∙ in_bounds (length file) (stored_before file i) n t f o s l j a e (λ some. let here = inside some in omega (arith, here, file_size ss ys)) together zeros

pub bounds-are : (ss : List KitSection) (ys : List KitSymbol) → IsWritable ss ys → AreFit ss ys → ((k : ℕ) → k < length ss → IsSectionReadable (section_behind ss k)) → (i : ℕ) → i < number ss + 3 → is_out_of_bounds (object_file ss ys) i ≡ false
bounds-are ss ys w fit good =
    each_number (λ i. is_out_of_bounds (object_file ss ys) i ≡ false) ss
    (bounded ss ys w fit 0 _ _ _ _ _ _ _ _ _ (omega arith) (read_null ss ys w fit) (λ some. cc) (λ zeros. omega (arith, zeros)))
    (λ k below.
    let s = section_behind ss k in
    let body = sections_bytes (take k ss) in
    let begins = begin_is s.align body (is_low s.align (w.aligned k no_section below)).some in
    let inside = part_inside ss ys (padded s.align body) (stored s) (stands_section ss ys k below) in
    bounded ss ys w fit (number_behind ss k) _ _ _ _ _ _ _ _ _ (omega (arith, number_small ss k below)) (read_given ss ys w fit k below)
    (λ some.
    let bytes : (s.typ == SHT_NOBITS) ≡ false = not_from (s.typ == SHT_NOBITS) (and_parts (not (s.typ == SHT_NULL)) (not (s.typ == SHT_NOBITS)) some).1 in
    let same : size_of s ≡ length (stored s) = rw bytes refl in
    omega (arith, same, begins, inside))
    (λ zeros.
    let same : size_of s ≡ s.size = rw (eq-eqb _ _ zeros) refl in
    let few = (good k below).zeros zeros in
    omega (arith, same, few)))
    (λ k below some.
    let s = section_behind ss k in
    let inside = part_inside ss ys (to_relas ss ++ relas_bytes (take k ss)) (flat_map rela s.relas) (stands_relas ss ys k below) in
    bounded ss ys w fit (number_behind ss k + 1) _ _ _ _ _ _ _ _ _ (omega (arith, number_small ss k below)) (read_relas ss ys w fit k below some) (λ stored. omega (arith, inside, length-relas s.relas)) (λ zeros. omega (arith, zeros)))
    (bounded ss ys w fit (number ss) _ _ _ _ _ _ _ _ _ (omega arith) (read_symbols ss ys w fit) (λ stored. omega (arith, part_inside ss ys (to_symbols ss) (symbols_bytes (symbol_names ys) ys) (stands_symbols ss ys), length-symbols_bytes ys)) (λ zeros. omega (arith, zeros)))
    (bounded ss ys w fit (number ss + 1) _ _ _ _ _ _ _ _ _ (omega arith) (read_strings ss ys w fit) (λ stored. part_inside ss ys (to_strings ss ys) (strings (symbol_names ys)) (stands_strings ss ys)) (λ zeros. omega (arith, zeros)))
    (bounded ss ys w fit (number ss + 2) _ _ _ _ _ _ _ _ _ (omega arith) (read_names ss ys w fit) (λ stored. part_inside ss ys (to_names ss ys) (strings (section_names ss)) (stands_names ss ys)) (λ zeros. omega (arith, zeros)))
  where
    not_from : (b : Bool) → not b ≡ true → b ≡ false
    not_from true e = cc
    not_from false e = refl

-- of which type they are
abbrev pub is_wrong : KitSection → Bool
is_wrong s =
    (s.typ == SHT_REL)
    || (has_flag s.flags SHF_ALLOC && (not ((s.typ == SHT_PROGBITS) || (s.typ == SHT_NOBITS) || (s.typ == SHT_NOTE)) || has_flag s.flags SHF_TLS || has_flag s.flags SHF_COMPRESSED))

pub wrong_given : (ss : List KitSection) (ys : List KitSymbol) → IsWritable ss ys → AreFit ss ys → (k : ℕ) → k < length ss → is_of_wrong_type (read_at (object_file ss ys) (number_behind ss k)) ≡ is_wrong (section_behind ss k)
wrong_given ss ys w fit k below = ap is_of_wrong_type (read_given ss ys w fit k below)

of_program : (s : KitSection) → IsLoadable s → ((s.typ == SHT_PROGBITS) || (s.typ == SHT_NOBITS) || (s.typ == SHT_NOTE)) ≡ true
of_program s good =
    elim good.typ [
      | inl p ↦ or_left _ _ (or_left _ _ (eq-eqb _ _ p))
      | inr (inl z) ↦ or_left _ _ (or_right (s.typ == SHT_PROGBITS) _ (eq-eqb _ _ z))
      | inr (inr n) ↦ or_right ((s.typ == SHT_PROGBITS) || (s.typ == SHT_NOBITS)) _ (eq-eqb _ _ n)
    ]

right_from : (s : KitSection) → IsSectionReadable s → is_wrong s ≡ false
right_from s good =
    let back : (has_flag s.flags SHF_ALLOC && (not ((s.typ == SHT_PROGBITS) || (s.typ == SHT_NOBITS) || (s.typ == SHT_NOTE)) || has_flag s.flags SHF_TLS || has_flag s.flags SHF_COMPRESSED)) ≡ false =
    elim (cases_Bool (has_flag s.flags SHF_ALLOC)) [
      | inl loaded ↦ (
          let fine = good.loaded loaded in
          and_right (has_flag s.flags SHF_ALLOC) _ (or_from _ _ (or_from _ _ (not_from_true _ (of_program s fine)) fine.shared) fine.plain))
      | inr other ↦ and_left (has_flag s.flags SHF_ALLOC) _ other
    ] in
    or_from _ _ (ne_eqb _ _ good.no_rels) back

pub types-are : (ss : List KitSection) (ys : List KitSymbol) → IsWritable ss ys → AreFit ss ys → ((k : ℕ) → k < length ss → IsSectionReadable (section_behind ss k)) → (i : ℕ) → i < number ss + 3 → is_of_wrong_type (read_at (object_file ss ys) i) ≡ false
types-are ss ys w fit good =
    each_number (λ i. is_of_wrong_type (read_at (object_file ss ys) i) ≡ false) ss
    (ap is_of_wrong_type (read_null ss ys w fit))
    (λ k below. wrong_given ss ys w fit k below ∙ right_from (section_behind ss k) (good k below))
    (λ k below some. ap is_of_wrong_type (read_relas ss ys w fit k below some))
    (ap is_of_wrong_type (read_symbols ss ys w fit))
    (ap is_of_wrong_type (read_strings ss ys w fit))
    (ap is_of_wrong_type (read_names ss ys w fit))

-- their names
unnamed : (ss : List KitSection) (ys : List KitSymbol) → IsWritable ss ys → AreFit ss ys → (i at : ℕ) (name : List ℕ) → (read_at (object_file ss ys) i).name ≡ at → IsAt (strings (section_names ss)) at name → HasNoZero name
    → not (has_string (names_in (object_file ss ys)) (read_at (object_file ss ys) i).name) ≡ not (nat_le (length name) NAME_BYTES)
unnamed ss ys w fit i at name is here none =
    ap₂ (λ (x : List ℕ) (n : ℕ). not (has_string x n)) (names-in ss ys w fit) is ∙ ap not (has_string-name (strings (section_names ss)) at name here none)

pub unnamed_given : (ss : List KitSection) (ys : List KitSymbol) → IsWritable ss ys → AreFit ss ys → (k : ℕ) → k < length ss
    → not (has_string (names_in (object_file ss ys)) (read_at (object_file ss ys) (number_behind ss k)).name) ≡ not (nat_le (length (section_behind ss k).name) NAME_BYTES)
unnamed_given ss ys w fit k below =
    unnamed ss ys w fit (number_behind ss k) (place (section_names ss) (section_behind ss k).name) (section_behind ss k).name (ap (λ h. h.name) (read_given ss ys w fit k below)) (IsAt-section ss k below) (w.section_names k no_section below)

pub unnamed_relas : (ss : List KitSection) (ys : List KitSymbol) → IsWritable ss ys → AreFit ss ys → (k : ℕ) → k < length ss → has_relas (section_behind ss k) ≡ true
    → not (has_string (names_in (object_file ss ys)) (read_at (object_file ss ys) (number_behind ss k + 1)).name) ≡ not (nat_le (length (rela_name (section_behind ss k))) NAME_BYTES)
unnamed_relas ss ys w fit k below some =
    unnamed ss ys w fit (number_behind ss k + 1) (place (section_names ss) (rela_name (section_behind ss k))) (rela_name (section_behind ss k)) (ap (λ h. h.name) (read_relas ss ys w fit k below some)) (IsAt-relas ss k below some) (w.section_names k no_section below)

pub names-are : (ss : List KitSection) (ys : List KitSymbol) → IsWritable ss ys → AreFit ss ys → ((k : ℕ) → k < length ss → IsSectionReadable (section_behind ss k)) → (i : ℕ) → i < number ss + 3
    → not (has_string (names_in (object_file ss ys)) (read_at (object_file ss ys) i).name) ≡ false
names-are ss ys w fit good =
    let file = object_file ss ys in
    each_number (λ i. not (has_string (names_in file) (read_at file i).name) ≡ false) ss
    (unnamed ss ys w fit 0 0 [] (ap (λ h. h.name) (read_null ss ys w fit)) (IsAt-empty (section_names ss)) refl)
    (λ k below. unnamed_given ss ys w fit k below ∙ not_from_true _ (le-leb _ _ (good k below).name))
    (λ k below some. unnamed_relas ss ys w fit k below some ∙ not_from_true _ (le-leb _ _ ((good k below).rela_name some)))
    (unnamed ss ys w fit (number ss) (place (section_names ss) (codes ".symtab")) (codes ".symtab") (ap (λ h. h.name) (read_symbols ss ys w fit)) (IsAt-last ss 0 (omega arith)) refl)
    (unnamed ss ys w fit (number ss + 1) (place (section_names ss) (codes ".strtab")) (codes ".strtab") (ap (λ h. h.name) (read_strings ss ys w fit)) (IsAt-last ss 1 (omega arith)) refl)
    (unnamed ss ys w fit (number ss + 2) (place (section_names ss) (codes ".shstrtab")) (codes ".shstrtab") (ap (λ h. h.name) (read_names ss ys w fit)) (IsAt-last ss 2 (omega arith)) refl)
