-- The rows of the table of refusals for a written file: those on symbols and relocations; and which files are read.
use Rattle.std.proofs.Common.{◌≡◌, inl, inr, ℕ, zero, suc, ◌+◌, ◌*◌, ◌%◌, ◌<◌, ◌≤◌, ◌==◌, ◌&&◌, ◌||◌, not, nat_le, nat_lt, Bool, true, false, is_none, is_some, None, List, [], get_or, length, refl, sym, ap, ap₂, ◌∙◌, arith}
use Rattle.std.specs.List.{All}
use Rattle.std.proofs.lemmas.Bool.{and_from, and_left, and_right, cases_Bool, eq-eqb, le-leb, le-ltb, lt-leb, lt-ltb, ne_eqb, not_from_true, or_from}
use Rattle.std.proofs.lemmas.List.Elements.{All-nil, All-same}
use Rattle.ad_elf.specs.declared.elf.TheConstants.{NAME_BYTES, RELA_BYTES, SHN_ABS, SHN_UNDEF, SHT_NOBITS, SHT_RELA, SHT_STRTAB, SYMBOL_BYTES}
use Rattle.ad_elf.specs.declared.object.Rela.{Rela}
use Rattle.ad_elf.specs.Below.{joined}
use Rattle.ad_elf.specs.Fields.{header as read_at, section_count, symbol_entry}
use Rattle.ad_elf.specs.File.{has_string, is_kept as is_kept_in, one_table, relas, symbol_count, symbol_names as symbol_names_in, table, table_number}
use Rattle.ad_elf.specs.Refusals.{IsObject, are_strings, ends_outside, first_unnamed, has_form, is_astray, is_misdirected, lacks_symbols, leaves_section, names_no_symbol}
use Rattle.ad_elf.specs.Relocation.{width}
use Rattle.ad_elf.proofs.Below.{none_where_fails}
use Rattle.ad_elf.proofs.Encoded.{section_header}
use Rattle.ad_elf.proofs.Found.{find_where_fails}
use Rattle.ad_elf.proofs.Sound.{IsSound, IsSound-rows}
use Rattle.ad_elf.proofs.Targets.{All-each, All-joined}
use Rattle.ad_kit.specs.ObjectFile.{has_relas, number, object_file, place, size_of, strings, symbol_names}
use Rattle.ad_kit.specs.ReadBack.{AreFit, IsPlaced, IsReadable, IsSectionReadable, header_behind, is_kept, no_rela, no_section, number_behind, object_of, rela_behind, rela_of, relas_said, section_behind}
use Rattle.ad_kit.specs.Writable.{IsWritable}
use Rattle.ad_kit.specs.declared.object.KitRela.{KitRela}
use Rattle.ad_kit.specs.declared.object.KitSection.{KitSection}
use Rattle.ad_kit.specs.declared.object.KitSymbol.{KitSymbol}
use Rattle.ad_kit.proofs.Counted.{each_number, length-headers}
use Rattle.ad_kit.proofs.Headed.{IsAt-symbol, count-is, header-is, number_small}
use Rattle.ad_kit.proofs.Related.{Says-written, relas-are}
use Rattle.ad_kit.proofs.Rowed.{begins-is, bounds-are, class-is, flags-are, lacks_table-is, machine-is, magic-is, names-are, type-is, types-are}
use Rattle.ad_kit.proofs.Said.{kept_given, read_given, read_names, read_null, read_relas, read_strings, read_symbols}
use Rattle.ad_kit.proofs.Spelled.{IsAt-empty, has_string-name}
use Rattle.ad_kit.proofs.Tabled.{HasNoTable, count_of_symbols, entry_first, entry_next, one_table-is, some_symbol, symbol_names-in, table_number-is}

-- the names of the symbols
unnamed_first : (ss : List KitSection) (ys : List KitSymbol) → IsWritable ss ys → AreFit ss ys → HasNoTable ss
    → not (has_string (symbol_names_in (object_file ss ys)) (symbol_entry (object_file ss ys) (table (object_file ss ys)) 0).name) ≡ false
unnamed_first ss ys w fit none =
    ap₂ (λ (x : List ℕ) h. not (has_string x h.name)) (symbol_names-in ss ys w fit none) (entry_first ss ys w fit none)
    ∙ ap not (has_string-name (strings (symbol_names ys)) 0 [] (IsAt-empty (symbol_names ys)) refl)

pub unnamed_next : (ss : List KitSection) (ys : List KitSymbol) → IsWritable ss ys → AreFit ss ys → HasNoTable ss → (m : ℕ) (d : KitSymbol) → m < length ys
    → not (has_string (symbol_names_in (object_file ss ys)) (symbol_entry (object_file ss ys) (table (object_file ss ys)) (suc m)).name) ≡ not (nat_le (length (get_or ys m d).name) NAME_BYTES)
unnamed_next ss ys w fit none m d below =
    let y = get_or ys m d in
    ap₂ (λ (x : List ℕ) h. not (has_string x h.name)) (symbol_names-in ss ys w fit none) (entry_next ss ys w fit none m d below)
    ∙ ap not (has_string-name (strings (symbol_names ys)) (place (symbol_names ys) y.name) y.name (IsAt-symbol ys m d below) (w.symbol_names m d below))

unnamed_by : (ss : List KitSection) (ys : List KitSymbol) → IsWritable ss ys → AreFit ss ys → HasNoTable ss → All (λ (y : KitSymbol). length y.name ≤ NAME_BYTES) ys → (j : ℕ) → j < suc (length ys)
    → not (has_string (symbol_names_in (object_file ss ys)) (symbol_entry (object_file ss ys) (table (object_file ss ys)) j).name) ≡ false
unnamed_by ss ys w fit none short zero below = unnamed_first ss ys w fit none
unnamed_by ss ys w fit none short (suc m) below =
    let less : m < length ys = omega arith in
    unnamed_next ss ys w fit none m some_symbol less ∙ not_from_true _ (le-leb _ _ (short m some_symbol less))

has_form-is : (ss : List KitSection) (ys : List KitSymbol) → IsWritable ss ys → AreFit ss ys → has_form (object_file ss ys) (read_at (object_file ss ys) (number ss)) ≡ true
has_form-is ss ys w fit =
    let file = object_file ss ys in
    let link : are_strings file (number ss + 1) ≡ true = and_from _ _ (lt-ltb _ _ (omega (arith, count-is ss ys w))) (ap (λ h. h.typ == SHT_STRTAB) (read_strings ss ys w fit)) in
    let whole : (SYMBOL_BYTES * (1 + length ys) % SYMBOL_BYTES == 0) ≡ true = eq-eqb _ _ (omega arith) in
    ap (λ h. has_form file h) (read_symbols ss ys w fit) ∙ and_from _ _ whole link

lacks_symbols-is : (ss : List KitSection) (ys : List KitSymbol) → IsWritable ss ys → AreFit ss ys → HasNoTable ss → All (λ (y : KitSymbol). length y.name ≤ NAME_BYTES) ys → lacks_symbols (object_file ss ys) ≡ false
unfolding lacks_symbols
lacks_symbols-is ss ys w fit none short =
    let file = object_file ss ys in
    let one : is_none (one_table file) ≡ false = ap is_none (one_table-is ss ys w fit none) in
    let form : has_form file (table file) ≡ true = ap (λ (i : ℕ). has_form file (read_at file i)) (table_number-is ss ys w fit none) ∙ has_form-is ss ys w fit in
    let names : first_unnamed file (symbol_names_in file) (table file) ≡ None = none_where_fails (λ j. not (has_string (symbol_names_in file) (symbol_entry file (table file) j).name)) (symbol_count file) (λ j below. unnamed_by ss ys w fit none short j (omega (arith, below, count_of_symbols ss ys w fit none))) in
    or_from _ _ (or_from _ _ one (not_from_true _ form)) (ap is_some names)

-- where the symbols are
abbrev pub is_lost : List KitSection → List KitSymbol → KitSymbol → Bool
is_lost ss ys y = not (y.shndx == SHN_UNDEF) && not (y.shndx == SHN_ABS) && (nat_le (section_count (object_file ss ys)) y.shndx || nat_lt (read_at (object_file ss ys) y.shndx).size y.value)

pub astray_next : (ss : List KitSection) (ys : List KitSymbol) → IsWritable ss ys → AreFit ss ys → HasNoTable ss → (m : ℕ) (d : KitSymbol) → m < length ys → is_astray (object_file ss ys) (suc m) ≡ is_lost ss ys (get_or ys m d)
unfolding leaves_section
astray_next ss ys w fit none m d below =
    let other : (suc m == 0) ≡ false = ne_eqb _ _ (λ e. omega (arith, e)) in
    ap (λ (b : Bool). not b && leaves_section (object_file ss ys) (symbol_entry (object_file ss ys) (table (object_file ss ys)) (suc m))) other
    ∙ ap (λ e. leaves_section (object_file ss ys) e) (entry_next ss ys w fit none m d below)

pub lost_size : (ss : List KitSection) (ys : List KitSymbol) → IsWritable ss ys → AreFit ss ys → (i : ℕ) → i < number ss + 3 → (read_at (object_file ss ys) i).size ≡ (header_behind ss ys i).size
lost_size ss ys w fit i below = ap (λ h. h.size) (header-is ss ys w fit i below)

not_lost : (ss : List KitSection) (ys : List KitSymbol) → IsWritable ss ys → AreFit ss ys → (y : KitSymbol) → IsPlaced ss ys y → is_lost ss ys y ≡ false
not_lost ss ys w fit y (inl undefined) = and_left _ _ (and_left _ _ (not_from_true _ (eq-eqb _ _ undefined)))
not_lost ss ys w fit y (inr (inl absolute)) = and_left _ _ (and_right (not (y.shndx == SHN_UNDEF)) _ (not_from_true _ (eq-eqb _ _ absolute)))
not_lost ss ys w fit y (inr (inr inside)) =
    let below : y.shndx < number ss + 3 = omega (arith, inside.0, length-headers ss ys) in
    let there : nat_le (section_count (object_file ss ys)) y.shndx ≡ false = lt-leb _ _ (omega (arith, below, count-is ss ys w)) in
    let low : nat_lt (read_at (object_file ss ys) y.shndx).size y.value ≡ false = le-ltb _ _ (omega (arith, inside.1, lost_size ss ys w fit y.shndx below)) in
    and_right (not (y.shndx == SHN_UNDEF) && not (y.shndx == SHN_ABS)) _ (or_from _ _ there low)

astray_by : (ss : List KitSection) (ys : List KitSymbol) → IsWritable ss ys → AreFit ss ys → HasNoTable ss → All (IsPlaced ss ys) ys → (j : ℕ) → j < suc (length ys) → is_astray (object_file ss ys) j ≡ false
astray_by ss ys w fit none placed zero below = refl
astray_by ss ys w fit none placed (suc m) below =
    let less : m < length ys = omega arith in
    astray_next ss ys w fit none m some_symbol less ∙ not_lost ss ys w fit (get_or ys m some_symbol) (placed m some_symbol less)

-- where the sections of relocations apply
directed : (file : List ℕ) (i n t f o s l j a e : ℕ) → read_at file i ≡ section_header n t f o s l j a e → (t == SHT_RELA) ≡ false → is_misdirected file (read_at file i) ≡ false
unfolding is_misdirected
directed file i n t f o s l j a e is other = ap (λ h. is_misdirected file h) is ∙ and_left (t == SHT_RELA) _ other

pub misdirected_relas : (ss : List KitSection) (ys : List KitSymbol) → IsWritable ss ys → AreFit ss ys → HasNoTable ss → (k : ℕ) → k < length ss → has_relas (section_behind ss k) ≡ true
    → is_misdirected (object_file ss ys) (read_at (object_file ss ys) (number_behind ss k + 1)) ≡ (is_kept (section_behind ss k) && ((section_behind ss k).typ == SHT_NOBITS))
unfolding is_misdirected
misdirected_relas ss ys w fit none k below some =
    let file = object_file ss ys in
    let s = section_behind ss k in
    let i = number_behind ss k in
    let first : (i == 0) ≡ false = ne_eqb _ _ (λ e. omega (arith, e)) in
    let there : nat_le (section_count file) i ≡ false = lt-leb _ _ (omega (arith, count-is ss ys w, number_small ss k below)) in
    let link : not (number ss == table_number file) ≡ false = not_from_true _ (eq-eqb _ _ (sym (table_number-is ss ys w fit none))) in
    let size : not (RELA_BYTES * length s.relas % RELA_BYTES == 0) ≡ false = not_from_true _ (eq-eqb _ _ (omega arith)) in
    let front : ((i == 0) || nat_le (section_count file) i || not (number ss == table_number file) || not (RELA_BYTES == RELA_BYTES) || not (RELA_BYTES * length s.relas % RELA_BYTES == 0)) ≡ false =
    or_from _ _ (or_from _ _ (or_from _ _ (or_from _ _ first there) link) refl) size in
    ap (λ h. is_misdirected file h) (read_relas ss ys w fit k below some)
    ∙ ap (λ (b : Bool). b || (is_kept_in file i && ((read_at file i).typ == SHT_NOBITS))) front
    ∙ ap₂ (λ (b : Bool) (t : ℕ). b && (t == SHT_NOBITS)) (kept_given ss ys w fit k below) (ap (λ h. h.typ) (read_given ss ys w fit k below))

directed_all : (ss : List KitSection) (ys : List KitSymbol) → IsWritable ss ys → AreFit ss ys → ((k : ℕ) → k < length ss → IsSectionReadable (section_behind ss k)) → (i : ℕ) → i < number ss + 3 → is_misdirected (object_file ss ys) (read_at (object_file ss ys) i) ≡ false
directed_all ss ys w fit good =
    let file = object_file ss ys in
    let none : HasNoTable ss = (λ k below. (good k below).no_symbols) in
    each_number (λ i. is_misdirected file (read_at file i) ≡ false) ss
    (directed file 0 _ _ _ _ _ _ _ _ _ (read_null ss ys w fit) refl)
    (λ k below. directed file (number_behind ss k) _ _ _ _ _ _ _ _ _ (read_given ss ys w fit k below) (ne_eqb _ _ (good k below).no_relas))
    (λ k below some. misdirected_relas ss ys w fit none k below some ∙ apart (is_kept (section_behind ss k)) (section_behind ss k).typ (λ kept zeros. true≢false_at (has_relas (section_behind ss k)) some ((good k below).relocated kept zeros)))
    (directed file (number ss) _ _ _ _ _ _ _ _ _ (read_symbols ss ys w fit) refl)
    (directed file (number ss + 1) _ _ _ _ _ _ _ _ _ (read_strings ss ys w fit) refl)
    (directed file (number ss + 2) _ _ _ _ _ _ _ _ _ (read_names ss ys w fit) refl)
  where
    true≢false_at : (b : Bool) → b ≡ true → b ≡ false → ⊥
    true≢false_at true e f = cc
    true≢false_at false e f = cc

    apart : (b : Bool) (t : ℕ) → (b ≡ true → t ≡ SHT_NOBITS → ⊥) → (b && (t == SHT_NOBITS)) ≡ false
    apart false t h = refl
    apart true t h = ne_eqb _ _ (h refl)

-- what the relocations name
relas_fine : (P : Rela → Type 0) (ss : List KitSection) (ys : List KitSymbol) → IsWritable ss ys → AreFit ss ys
    → ((k : ℕ) → k < length ss → is_kept (section_behind ss k) ≡ true → (j : ℕ) → j < length (section_behind ss k).relas → P (rela_of (number_behind ss k) j (rela_behind (section_behind ss k) j))) → All P (relas (object_file ss ys))
unfolding relas_said
relas_fine P ss ys w fit h =
    All-same P (relas (object_file ss ys)) (joined (relas_said ss) (length ss)) (relas-are ss ys w fit)
    (All-joined P (relas_said ss) (length ss) (λ k below.
    let s = section_behind ss k in
    elim (cases_Bool (is_kept s)) [
      | inl kept ↦ rw kept (All-each P (λ j. rela_of (number_behind ss k) j (rela_behind s j)) (length s.relas) (h k below kept))
      | inr other ↦ rw other (All-nil P)
    ]))

pub symbol_test : (ss : List KitSection) (ys : List KitSymbol) (i j : ℕ) (r : KitRela) → names_no_symbol (object_file ss ys) (rela_of i j r) ≡ nat_le (symbol_count (object_file ss ys)) r.symbol
unfolding rela_of
symbol_test ss ys i j r = refl

pub field_test : (ss : List KitSection) (ys : List KitSymbol) → IsWritable ss ys → AreFit ss ys → (k : ℕ) → k < length ss → (j : ℕ) (r : KitRela) → ends_outside (object_file ss ys) (rela_of (number_behind ss k) j r) ≡ nat_lt (size_of (section_behind ss k)) (r.offset + width r.typ)
unfolding rela_of
field_test ss ys w fit k below j r = ap (λ h. nat_lt h.size (r.offset + width r.typ)) (read_given ss ys w fit k below)

pub IsSound-written : (ss : List KitSection) (ys : List KitSymbol) → IsWritable ss ys → AreFit ss ys → IsReadable ss ys → IsSound (object_file ss ys)
IsSound-written ss ys w fit good =
    let file = object_file ss ys in
    let sections : (k : ℕ) → k < length ss → IsSectionReadable (section_behind ss k) = (λ k below. good.sections k no_section below) in
    let none : HasNoTable ss = (λ k below. (sections k below).no_symbols) in
    let count = count-is ss ys w in
    record {
      begins = begins-is ss ys;
      magic = magic-is ss ys;
      format = class-is ss ys;
      machines = machine-is ss ys;
      relocatable = type-is ss ys;
      flags = flags-are ss ys;
      table = lacks_table-is ss ys w fit;
      bounds = none_where_fails _ (section_count file) (λ i below. bounds-are ss ys w fit sections i (omega (arith, below, count)));
      types = none_where_fails _ (section_count file) (λ i below. types-are ss ys w fit sections i (omega (arith, below, count)));
      names = none_where_fails _ (section_count file) (λ i below. names-are ss ys w fit sections i (omega (arith, below, count)));
      symbols = lacks_symbols-is ss ys w fit none good.names;
      places = none_where_fails _ (symbol_count file) (λ j below. astray_by ss ys w fit none good.places j (omega (arith, below, count_of_symbols ss ys w fit none)));
      directed = none_where_fails _ (section_count file) (λ i below. directed_all ss ys w fit sections i (omega (arith, below, count)));
      named = find_where_fails (names_no_symbol file) (relas file) (relas_fine (λ (r : Rela). names_no_symbol file r ≡ false) ss ys w fit (λ k below kept j less.
          symbol_test ss ys (number_behind ss k) j (rela_behind (section_behind ss k) j) ∙ lt-leb _ _ (omega (arith, count_of_symbols ss ys w fit none, (good.relas k no_section below kept j no_rela less).symbol))));
      offsets = find_where_fails (ends_outside file) (relas file) (relas_fine (λ (r : Rela). ends_outside file r ≡ false) ss ys w fit (λ k below kept j less.
          field_test ss ys w fit k below j (rela_behind (section_behind ss k) j) ∙ le-ltb _ _ (good.relas k no_section below kept j no_rela less).field));
    }

pub IsObject-written : (ss : List KitSection) (ys : List KitSymbol) → IsWritable ss ys → AreFit ss ys → IsReadable ss ys → IsObject (object_file ss ys) (object_of ss ys)
IsObject-written ss ys w fit good = record {
  no_row = IsSound-rows (object_file ss ys) (IsSound-written ss ys w fit good);
  says = Says-written ss ys w fit (λ k below. (good.sections k no_section below).no_symbols);
}
