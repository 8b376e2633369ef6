-- The table of symbols of a written file.
use Rattle.std.proofs.Common.{◌≡◌, ◌≢◌, inl, inr, ℕ, zero, suc, ◌+◌, ◌*◌, ◌/◌, ◌%◌, ◌^◌, ◌<◌, ◌≤◌, ◌==◌, ◌&&◌, nat_le, true, false, Some, None, List, [], ◌∷◌, ◌++◌, drop, drop-drop, flat_map, get_or, length, map, replicate, take, refl, sym, ap, ap₂, ◌∙◌, arith, length-append}
use Rattle.std.proofs.Math.Seq.{drop-append-add, take-length}
use Rattle.std.proofs.lemmas.Bool.{and_from, and_left, and_right, cases_lt, le-leb, lt-leb, ne_eqb}
use Rattle.std.proofs.lemmas.List.{append_assoc, drop-append-le, get_or-map, length-map, take_more}
use Rattle.ad_elf.specs.declared.elf.TheConstants.{SHT_SYMTAB, SYMBOL_BYTES}
use Rattle.ad_elf.specs.declared.object.Symbol.{Symbol}
use Rattle.ad_elf.specs.Below.{each, first}
use Rattle.ad_elf.specs.Fields.{header as read_at, section_count, symbol_at, symbol_entry}
use Rattle.ad_elf.specs.File.{content, one_table, string_at, symbol as symbol_in, symbol_count, symbol_names as symbol_names_in, symbols, table, table_from, table_number}
use Rattle.ad_elf.specs.Worked.{no_symbol}
use Rattle.ad_elf.proofs.Below.{first_here, joined-more, joined-zero, none_where_fails}
use Rattle.ad_elf.proofs.Encoded.{symbol_at-bytes, symbol_at-zeros}
use Rattle.ad_elf.proofs.Encoded.{symbol_entry as entry_of}
use Rattle.ad_kit.specs.ObjectFile.{end_of, number, object_file, place, strings, symbol, symbol_names, symbols_bytes, to_symbols}
use Rattle.ad_kit.specs.ReadBack.{AreFit, section_behind, symbol_of}
use Rattle.ad_kit.specs.Writable.{IsWritable}
use Rattle.ad_kit.specs.declared.object.KitSection.{KitSection}
use Rattle.ad_kit.specs.declared.object.KitSymbol.{KitSymbol}
use Rattle.ad_kit.proofs.Counted.{each_number}
use Rattle.ad_kit.proofs.Headed.{IsAt-symbol, count-is, symbol_names-short}
use Rattle.ad_kit.proofs.Located.{heads, part_behind, stands_symbols}
use Rattle.ad_kit.proofs.Pieces.{drop-pieces, length-pieces}
use Rattle.ad_kit.proofs.Said.{read_given, read_names, read_null, read_relas, read_strings, read_symbols, strings-in}
use Rattle.ad_kit.proofs.Spelled.{place-below, string_at-name}

-- No section of symbols is given.
abbrev pub HasNoTable : List KitSection → Type 0
HasNoTable ss = (k : ℕ) → k < length ss → (section_behind ss k).typ ≢ SHT_SYMTAB

not_table : (ss : List KitSection) (ys : List KitSymbol) → IsWritable ss ys → AreFit ss ys → HasNoTable ss → (i : ℕ) → i < number ss + 3 → i ≢ number ss → ((read_at (object_file ss ys) i).typ == SHT_SYMTAB) ≡ false
not_table ss ys w fit none =
    let file = object_file ss ys in
    each_number (λ i. i ≢ number ss → ((read_at file i).typ == SHT_SYMTAB) ≡ false) ss
    (λ other. ap (λ h. h.typ == SHT_SYMTAB) (read_null ss ys w fit))
    (λ k below other. ap (λ h. h.typ == SHT_SYMTAB) (read_given ss ys w fit k below) ∙ ne_eqb _ _ (none k below))
    (λ k below some other. ap (λ h. h.typ == SHT_SYMTAB) (read_relas ss ys w fit k below some))
    (λ other. absurd (other refl))
    (λ other. ap (λ h. h.typ == SHT_SYMTAB) (read_strings ss ys w fit))
    (λ other. ap (λ h. h.typ == SHT_SYMTAB) (read_names ss ys w fit))

pub table_from-start : (ss : List KitSection) (ys : List KitSymbol) → IsWritable ss ys → AreFit ss ys → HasNoTable ss → table_from (object_file ss ys) 0 ≡ Some (number ss)
table_from-start ss ys w fit none =
    let file = object_file ss ys in
    let test = λ (i : ℕ). nat_le 0 i && ((read_at file i).typ == SHT_SYMTAB) in
    let before : first test (number ss) ≡ None = none_where_fails test (number ss) (λ i below. and_right (nat_le 0 i) _ (not_table ss ys w fit none i (omega arith) (λ same. omega (arith, same, below)))) in
    let here : test (number ss) ≡ true = and_from _ _ (le-leb 0 (number ss) (omega arith)) (ap (λ h. h.typ == SHT_SYMTAB) (read_symbols ss ys w fit)) in
    sym (first_here test (number ss) (section_count file) before here (omega (arith, count-is ss ys w)))

pub table_from-next : (ss : List KitSection) (ys : List KitSymbol) → IsWritable ss ys → AreFit ss ys → HasNoTable ss → table_from (object_file ss ys) (number ss + 1) ≡ None
table_from-next ss ys w fit none =
    let file = object_file ss ys in
    none_where_fails (λ i. nat_le (number ss + 1) i && ((read_at file i).typ == SHT_SYMTAB)) (section_count file) (λ i below.
    elim (cases_lt i (number ss + 1)) [
      | inl less ↦ and_left _ _ (lt-leb (number ss + 1) i less)
      | inr more ↦ and_right (nat_le (number ss + 1) i) _ (not_table ss ys w fit none i (omega (arith, below, count-is ss ys w)) (λ same. omega (arith, same, more)))
    ])

pub one_table-is : (ss : List KitSection) (ys : List KitSymbol) → IsWritable ss ys → AreFit ss ys → HasNoTable ss → one_table (object_file ss ys) ≡ Some (number ss)
unfolding one_table
one_table-is ss ys w fit none = rw (table_from-start ss ys w fit none, table_from-next ss ys w fit none) refl

pub table_number-is : (ss : List KitSection) (ys : List KitSymbol) → IsWritable ss ys → AreFit ss ys → HasNoTable ss → table_number (object_file ss ys) ≡ number ss
unfolding table_number
table_number-is ss ys w fit none = rw (one_table-is ss ys w fit none) refl

-- its header, how many symbols it has, and their names
pub table_offset : (ss : List KitSection) (ys : List KitSymbol) → IsWritable ss ys → AreFit ss ys → HasNoTable ss → (table (object_file ss ys)).offset ≡ end_of (to_symbols ss)
table_offset ss ys w fit none = ap (λ (i : ℕ). (read_at (object_file ss ys) i).offset) (table_number-is ss ys w fit none) ∙ ap (λ h. h.offset) (read_symbols ss ys w fit)

pub table_size : (ss : List KitSection) (ys : List KitSymbol) → IsWritable ss ys → AreFit ss ys → HasNoTable ss → (table (object_file ss ys)).size ≡ SYMBOL_BYTES * (1 + length ys)
table_size ss ys w fit none = ap (λ (i : ℕ). (read_at (object_file ss ys) i).size) (table_number-is ss ys w fit none) ∙ ap (λ h. h.size) (read_symbols ss ys w fit)

pub table_link : (ss : List KitSection) (ys : List KitSymbol) → IsWritable ss ys → AreFit ss ys → HasNoTable ss → (table (object_file ss ys)).link ≡ number ss + 1
table_link ss ys w fit none = ap (λ (i : ℕ). (read_at (object_file ss ys) i).link) (table_number-is ss ys w fit none) ∙ ap (λ h. h.link) (read_symbols ss ys w fit)

pub count_of_symbols : (ss : List KitSection) (ys : List KitSymbol) → IsWritable ss ys → AreFit ss ys → HasNoTable ss → symbol_count (object_file ss ys) ≡ suc (length ys)
count_of_symbols ss ys w fit none = omega (arith, table_size ss ys w fit none)

pub symbol_names-in : (ss : List KitSection) (ys : List KitSymbol) → IsWritable ss ys → AreFit ss ys → HasNoTable ss → symbol_names_in (object_file ss ys) ≡ strings (symbol_names ys)
symbol_names-in ss ys w fit none = ap (λ (i : ℕ). content (object_file ss ys) (read_at (object_file ss ys) i)) (table_link ss ys w fit none) ∙ strings-in ss ys w fit

-- the symbols, entry by entry
symbols_begin : (ss : List KitSection) (ys : List KitSymbol) → (r : List ℕ) × (drop (end_of (to_symbols ss)) (object_file ss ys) ≡ replicate SYMBOL_BYTES 0 ++ (flat_map (symbol (symbol_names ys)) ys ++ r))
unfolding symbols_bytes
symbols_begin ss ys =
    let s = stands_symbols ss ys in
    let zeros = replicate SYMBOL_BYTES 0 in
    let rest = s.rest ++ heads ss ys in
    (rest, part_behind ss ys (to_symbols ss) (symbols_bytes (symbol_names ys) ys) s ∙ append_assoc zeros (flat_map (symbol (symbol_names ys)) ys) rest)

length-symbol : (ns : List (List ℕ)) (y : KitSymbol) → length (symbol ns y) ≡ 24
length-symbol ns y = refl

pub entry_first : (ss : List KitSection) (ys : List KitSymbol) → IsWritable ss ys → AreFit ss ys → HasNoTable ss → symbol_entry (object_file ss ys) (table (object_file ss ys)) 0 ≡ entry_of 0 0 0 0 0
entry_first ss ys w fit none =
    let file = object_file ss ys in
    let begins = symbols_begin ss ys in
    let at : (table file).offset + SYMBOL_BYTES * 0 ≡ end_of (to_symbols ss) = omega (arith, table_offset ss ys w fit none) in
    ap (symbol_at file) at ∙ symbol_at-zeros file (flat_map (symbol (symbol_names ys)) ys ++ begins.0) (end_of (to_symbols ss)) begins.1

pub entry_next : (ss : List KitSection) (ys : List KitSymbol) → IsWritable ss ys → AreFit ss ys → HasNoTable ss → (m : ℕ) (d : KitSymbol) → m < length ys → symbol_entry (object_file ss ys) (table (object_file ss ys)) (suc m)
    ≡ (let y = get_or ys m d in entry_of (place (symbol_names ys) y.name) y.info y.shndx y.value y.size)
entry_next ss ys w fit none m d below =
    let file = object_file ss ys in
    let ns = symbol_names ys in
    let y = get_or ys m d in
    let begins = symbols_begin ss ys in
    let from = end_of (to_symbols ss) in
    let all = flat_map (symbol ns) ys in
    let zeros : List ℕ = replicate SYMBOL_BYTES 0 in
    let at : (table file).offset + SYMBOL_BYTES * suc m ≡ from + (length zeros + 24 * m) = omega (arith, table_offset ss ys w fit none) in
    let more = flat_map (symbol ns) (drop (m + 1) ys) in
    let inside : 24 * m ≤ length all = omega (arith, length-pieces (symbol ns) 24 (length-symbol ns) ys) in
    let here : drop (from + (length zeros + 24 * m)) file ≡ symbol ns y ++ (more ++ begins.0) =
    sym (drop-drop (length zeros + 24 * m) from file) ∙ ap (λ (x : List ℕ). drop (length zeros + 24 * m) x) begins.1 ∙ drop-append-add zeros (all ++ begins.0) (24 * m)
    ∙ drop-append-le (24 * m) all begins.0 inside ∙ ap (λ (x : List ℕ). x ++ begins.0) (drop-pieces (symbol ns) 24 (length-symbol ns) ys m d below) ∙ append_assoc (symbol ns y) more begins.0 in
    let named = IsAt-symbol ys m d below in
    let small : place ns y.name < 2 ^ 32 = omega (arith, place-below (strings ns) (place ns y.name) y.name named, symbol_names-short ss ys w) in
    let fits = fit.symbols m d below in
    ap (symbol_at file) at ∙ symbol_at-bytes file (more ++ begins.0) (from + (length zeros + 24 * m)) (place ns y.name) y.info y.shndx y.value y.size small fits.info fits.shndx fits.value fits.size here

-- what an object says of them
symbol_with : List ℕ → ℕ → ℕ → ℕ → ℕ → Symbol
symbol_with n i x v s = record { name = n; bind = i / 16; kind = i % 16; shndx = x; value = v; size = s }

symbol_first : (ss : List KitSection) (ys : List KitSymbol) → IsWritable ss ys → AreFit ss ys → HasNoTable ss → symbol_in (object_file ss ys) 0 ≡ no_symbol
unfolding symbol_in symbol_with string_at strings
symbol_first ss ys w fit none =
    let e = entry_first ss ys w fit none in
    let name : string_at (symbol_names_in (object_file ss ys)) (symbol_entry (object_file ss ys) (table (object_file ss ys)) 0).name ≡ [] = ap₂ (λ (x : List ℕ) h. string_at x h.name) (symbol_names-in ss ys w fit none) e in
    λ j. symbol_with (name j) (e j).info (e j).shndx (e j).value (e j).size

symbol_next : (ss : List KitSection) (ys : List KitSymbol) → IsWritable ss ys → AreFit ss ys → HasNoTable ss → (m : ℕ) (d : KitSymbol) → m < length ys → symbol_in (object_file ss ys) (suc m) ≡ symbol_of (get_or ys m d)
unfolding symbol_in symbol_of symbol_with
symbol_next ss ys w fit none m d below =
    let y = get_or ys m d in
    let e = entry_next ss ys w fit none m d below in
    let name : string_at (symbol_names_in (object_file ss ys)) (symbol_entry (object_file ss ys) (table (object_file ss ys)) (suc m)).name ≡ y.name =
    ap₂ (λ (x : List ℕ) h. string_at x h.name) (symbol_names-in ss ys w fit none) e ∙ string_at-name (strings (symbol_names ys)) (place (symbol_names ys) y.name) y.name (IsAt-symbol ys m d below) (w.symbol_names m d below) in
    λ j. symbol_with (name j) (e j).info (e j).shndx (e j).value (e j).size

-- a list by what its numbers give
each-take : {X : Type 0} (f : ℕ → X) (xs : List X) (d : X) → ((i : ℕ) → i < length xs → f i ≡ get_or xs i d) → (n : ℕ) → n ≤ length xs → each f n ≡ take n xs
each-take f xs d same zero le = joined-zero (λ i. f i ∷ [])
each-take f xs d same (suc n) le =
    let one : suc n ≡ n + 1 = omega arith in
    rw (one, joined-more (λ i. f i ∷ []) n) (ap₂ (λ (a : List _) (b : _). a ++ b ∷ []) (each-take f xs d same n (omega arith)) (same n (omega arith)) ∙ sym (take_more xs n d (omega arith)))

pub each-is : {X : Type 0} (f : ℕ → X) (xs : List X) (d : X) → ((i : ℕ) → i < length xs → f i ≡ get_or xs i d) → each f (length xs) ≡ xs
each-is f xs d same = each-take f xs d same (length xs) (omega arith) ∙ take-length xs

abbrev pub some_symbol : KitSymbol
some_symbol = record { name = []; info = 0; shndx = 0; value = 0; size = 0 }

symbol_by : (ss : List KitSection) (ys : List KitSymbol) → IsWritable ss ys → AreFit ss ys → HasNoTable ss → (i : ℕ) → i < length (no_symbol ∷ map symbol_of ys) → symbol_in (object_file ss ys) i ≡ get_or (no_symbol ∷ map symbol_of ys) i no_symbol
symbol_by ss ys w fit none zero below = symbol_first ss ys w fit none
symbol_by ss ys w fit none (suc m) below =
    let less : m < length ys = omega (arith, length-map ys symbol_of) in
    symbol_next ss ys w fit none m some_symbol less ∙ sym (get_or-map symbol_of ys m some_symbol no_symbol less)

pub symbols-are : (ss : List KitSection) (ys : List KitSymbol) → IsWritable ss ys → AreFit ss ys → HasNoTable ss → symbols (object_file ss ys) ≡ no_symbol ∷ map symbol_of ys
symbols-are ss ys w fit none =
    let file = object_file ss ys in
    let all = no_symbol ∷ map symbol_of ys in
    let count : symbol_count file ≡ length all = omega (arith, count_of_symbols ss ys w fit none, length-map ys symbol_of) in
    ap (λ (n : ℕ). each (symbol_in file) n) count ∙ each-is (symbol_in file) all no_symbol (symbol_by ss ys w fit none)

pub length-symbols_bytes : (ys : List KitSymbol) → length (symbols_bytes (symbol_names ys) ys) ≡ 24 * (1 + length ys)
unfolding symbols_bytes
length-symbols_bytes ys =
    let ns = symbol_names ys in
    omega (arith, length-append (replicate SYMBOL_BYTES 0) (flat_map (symbol ns) ys), length-pieces (symbol ns) 24 (length-symbol ns) ys)
