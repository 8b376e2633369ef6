-- The headers of a written file, as they are read.
use Rattle.std.proofs.Common.{◌≡◌, inl, inr, ℕ, ◌+◌, ◌-◌, ◌*◌, ◌^◌, ◌<◌, ◌≤◌, ◌==◌, true, List, [], ◌∷◌, ◌++◌, codes, drop, drop-drop, flat_map, get_or, length, take, refl, subst, sym, ap, ◌∙◌, arith, length-append}
use Rattle.std.specs.List.{AllByRecursion, list_any}
use Rattle.byteorder.specs.Numbers.{little_number-reads_back}
use Rattle.std.proofs.Math.Seq.{get_or-append-add}
use Rattle.std.proofs.lemmas.Bool.{eqb-true, or_cases}
use Rattle.std.proofs.lemmas.List.{append-nil, get_or-map, length-map}
use Rattle.std.proofs.lemmas.List.Folds.{length-flat_map-take}
use Rattle.std.proofs.lemmas.List.Sums.{count_by-le-length}
use Rattle.ad_elf.specs.Fields.{header as read_at, header_size, names_number, section_count, table_at, u16_at, u64_at}
use Rattle.ad_elf.proofs.Encoded.{IsHeaderFit, header_at-bytes, section_header}
use Rattle.ad_kit.specs.ObjectFile.{end_of, has_relas, header, header_names, header_of, headers, is_local, last_names, names, names_of, null_header, number, object_file, padded, place, rela, rela_header, rela_name, relas_bytes, section_names, sections_bytes, stored, strings, strings_header, symbol_names, symbols_bytes, symbols_header, to_names, to_relas, to_strings, to_symbols, to_table}
use Rattle.ad_kit.specs.ReadBack.{AreFit, header_behind, no_section, number_behind, section_behind}
use Rattle.ad_kit.specs.Writable.{IsWritable, powers}
use Rattle.ad_kit.specs.declared.header.Header.{Header}
use Rattle.ad_kit.specs.declared.object.KitRela.{KitRela}
use Rattle.ad_kit.specs.declared.object.KitSection.{KitSection}
use Rattle.ad_kit.specs.declared.object.KitSymbol.{KitSymbol}
use Rattle.ad_kit.proofs.Counted.{each_number, header_given, header_last, header_relas, length-headers}
use Rattle.ad_kit.proofs.Located.{begin_is, file_behind, heads, length-file, part_inside, stands_names, stands_relas, stands_section, stands_strings, stands_symbols}
use Rattle.ad_kit.proofs.Numbers.{few_names, first_name, header_names-short, name_at, name_below, names-short, names_before_last, second_name, some_name, two_names}
use Rattle.ad_kit.proofs.Pieces.{drop-pieces}
use Rattle.ad_kit.proofs.Spelled.{IsAt, IsAt-used, place-below, strings-short}

-- where the names of the sections begin
IsAt-header : (ss : List KitSection) (k j : ℕ) (n : List ℕ) → k < length ss → j < length (names_of (section_behind ss k)) → get_or (names_of (section_behind ss k)) j [] ≡ n
    → IsAt (strings (section_names ss)) (place (section_names ss) n) n
IsAt-header ss k j n below inside is =
    let i = length (flat_map names_of (take k ss)) + j in
    let found : get_or (header_names ss) i [] ≡ n = name_at ss k j no_section [] below inside ∙ is in
    subst (λ (m : List ℕ). IsAt (strings (section_names ss)) (place (section_names ss) m) m) found
    (IsAt-used (header_names ss) i [] (omega (arith, name_below ss k j no_section below inside, names_before_last ss)))

pub IsAt-section : (ss : List KitSection) (k : ℕ) → k < length ss → IsAt (strings (section_names ss)) (place (section_names ss) (section_behind ss k).name) (section_behind ss k).name
IsAt-section ss k below = IsAt-header ss k 0 (section_behind ss k).name below (some_name (section_behind ss k)) (first_name (section_behind ss k) [])

pub IsAt-relas : (ss : List KitSection) (k : ℕ) → k < length ss → has_relas (section_behind ss k) ≡ true
    → IsAt (strings (section_names ss)) (place (section_names ss) (rela_name (section_behind ss k))) (rela_name (section_behind ss k))
IsAt-relas ss k below some = IsAt-header ss k 1 (rela_name (section_behind ss k)) below (two_names (section_behind ss k) some) (second_name (section_behind ss k) [] some)

pub IsAt-last : (ss : List KitSection) (j : ℕ) → j < 3 → IsAt (strings (section_names ss)) (place (section_names ss) (get_or last_names j [])) (get_or last_names j [])
IsAt-last ss j below =
    let i = length (flat_map names_of ss) + j in
    let found : get_or (header_names ss) i [] ≡ get_or last_names j [] = get_or-append-add (flat_map names_of ss) last_names j [] in
    subst (λ (m : List ℕ). IsAt (strings (section_names ss)) (place (section_names ss) m) m) found
    (IsAt-used (header_names ss) i [] (omega (arith, names_before_last ss)))

pub IsAt-symbol : (ys : List KitSymbol) (k : ℕ) (d : KitSymbol) → k < length ys → IsAt (strings (symbol_names ys)) (place (symbol_names ys) (get_or ys k d).name) (get_or ys k d).name
IsAt-symbol ys k d below =
    let found : get_or (names ys) k [] ≡ (get_or ys k d).name = get_or-map (λ (y : KitSymbol). y.name) ys k d [] below in
    subst (λ (m : List ℕ). IsAt (strings (symbol_names ys)) (place (symbol_names ys) m) m) found
    (IsAt-used (names ys) k [] (omega (arith, length-map ys (λ (y : KitSymbol). y.name))))

-- places of names have 32 bits
pub section_names-short : (ss : List KitSection) (ys : List KitSymbol) → IsWritable ss ys → length (strings (section_names ss)) < 2 ^ 32
section_names-short ss ys w = omega (arith, strings-short (header_names ss), header_names-short ss, w.short_names, w.few)

pub symbol_names-short : (ss : List KitSection) (ys : List KitSymbol) → IsWritable ss ys → length (strings (symbol_names ys)) < 2 ^ 32
symbol_names-short ss ys w = omega (arith, strings-short (names ys), names-short ys, w.short_names, w.few)

name_small : (ss : List KitSection) (ys : List KitSymbol) (n : List ℕ) → IsWritable ss ys → IsAt (strings (section_names ss)) (place (section_names ss) n) n → place (section_names ss) n < 2 ^ 32
name_small ss ys n w is = omega (arith, place-below (strings (section_names ss)) (place (section_names ss) n) n is, section_names-short ss ys w)

-- an alignment is above 0, and at most 4,096
among : (P : ℕ → Type 0) (xs : List ℕ) (a : ℕ) → list_any (λ x. x == a) xs ≡ true → AllByRecursion P xs → P a
among P [] a e all = cc
among P (x ∷ xs) a e all =
    elim (or_cases (x == a) (list_any (λ y. y == a) xs) e) [
      | inl same ↦ subst P (eqb-true _ _ same) all.0
      | inr later ↦ among P xs a later all.1
    ]

pub record IsLow (a : ℕ) : Type 0 where
  pub some : 0 < a
  pub few : a ≤ 4096

low : (a : ℕ) → 0 < a → a ≤ 4096 → IsLow a
low a h k = record { some = h; few = k }

pub is_low : (a : ℕ) → list_any (λ x. x == a) powers ≡ true → IsLow a
is_low a e =
    among IsLow powers a e
    (low 1 (omega arith) (omega arith), (low 2 (omega arith) (omega arith), (low 4 (omega arith) (omega arith), (low 8 (omega arith) (omega arith), (low 16 (omega arith) (omega arith), (low 32 (omega arith) (omega arith), (low 64 (omega arith) (omega arith), (low 128 (omega arith) (omega arith), (low 256 (omega arith) (omega arith), (low 512 (omega arith) (omega arith), (low 1024 (omega arith) (omega arith), (low 2048 (omega arith) (omega arith), (low 4096 (omega arith) (omega arith), tt)))))))))))))

-- how long the section table is, and the file
length-header : (h : Header) → length (header h) ≡ 64
length-header h = refl

length-headers_bytes : (hs : List Header) → length (flat_map header hs) ≡ 64 * length hs
length-headers_bytes [] = refl
length-headers_bytes (h ∷ hs) = omega (arith, length-append (header h) (flat_map header hs), length-header h, length-headers_bytes hs)

pub file_size : (ss : List KitSection) (ys : List KitSymbol) → length (object_file ss ys) ≡ end_of (to_table ss ys) + 64 * (number ss + 3)
file_size ss ys = omega (arith, length-file ss ys, length-headers_bytes (headers ss ys), length-headers ss ys)

-- The numbers of a header fit their fields.
abbrev IsFit : Header → Type 0
IsFit h = IsHeaderFit h.name h.typ h.flags h.offset h.size h.link h.info h.align h.entry_size

pub number_small : (ss : List KitSection) (k : ℕ) → k < length ss → number_behind ss k ≤ number ss
number_small ss k below = omega (arith, length-flat_map-take names_of ss k no_section below)

names_few : (xs : List KitSection) → length (flat_map names_of xs) ≤ 2 * length xs
names_few [] = omega arith
names_few (s ∷ xs) = omega (arith, length-append (names_of s) (flat_map names_of xs), few_names s, names_few xs)

pub number_low : (ss : List KitSection) (ys : List KitSymbol) → IsWritable ss ys → number ss < 20000
number_low ss ys w = omega (arith, names_few ss, w.few)

table_small : (ss : List KitSection) (ys : List KitSymbol) → AreFit ss ys → end_of (to_table ss ys) < 2 ^ 64
table_small ss ys fit = omega (arith, fit.file, file_size ss ys)

fit_section : (ss : List KitSection) (ys : List KitSymbol) (k : ℕ) → IsWritable ss ys → AreFit ss ys → k < length ss → IsFit (header_of ss (take k ss) (section_behind ss k))
unfolding header_of
fit_section ss ys k w fit below =
    let s = section_behind ss k in
    let inside = part_inside ss ys (padded s.align (sections_bytes (take k ss))) (stored s) (stands_section ss ys k below) in
    let align = is_low s.align (w.aligned k no_section below) in
    record {
      name = name_small ss ys s.name w (IsAt-section ss k below);
      typ = (fit.sections k no_section below).typ;
      flags = (fit.sections k no_section below).flags;
      offset = omega (arith, begin_is s.align (sections_bytes (take k ss)) align.some, inside, table_small ss ys fit);
      size = (fit.sections k no_section below).size;
      link = omega arith;
      info = omega arith;
      align = omega (arith, align.few);
      entry_size = omega arith;
    }

pub length-rela : (r : KitRela) → length (rela r) ≡ 24
length-rela r = refl

pub length-relas : (rs : List KitRela) → length (flat_map rela rs) ≡ 24 * length rs
length-relas [] = refl
length-relas (r ∷ rs) = omega (arith, length-append (rela r) (flat_map rela rs), length-rela r, length-relas rs)

fit_relas : (ss : List KitSection) (ys : List KitSymbol) (k : ℕ) → IsWritable ss ys → AreFit ss ys → k < length ss → has_relas (section_behind ss k) ≡ true → IsFit (rela_header ss (take k ss) (section_behind ss k))
unfolding rela_header
fit_relas ss ys k w fit below some =
    let s = section_behind ss k in
    let inside = part_inside ss ys (to_relas ss ++ relas_bytes (take k ss)) (flat_map rela s.relas) (stands_relas ss ys k below) in
    record {
      name = name_small ss ys (rela_name s) w (IsAt-relas ss k below some);
      typ = omega arith;
      flags = omega arith;
      offset = omega (arith, inside, table_small ss ys fit);
      size = omega (arith, inside, length-relas s.relas, table_small ss ys fit);
      link = omega (arith, number_low ss ys w);
      info = omega (arith, number_low ss ys w, number_small ss k below);
      align = omega arith;
      entry_size = omega arith;
    }

fit_null : IsFit null_header
fit_null = record { name = omega arith; typ = omega arith; flags = omega arith; offset = omega arith; size = omega arith; link = omega arith; info = omega arith; align = omega arith; entry_size = omega arith }

fit_symbols : (ss : List KitSection) (ys : List KitSymbol) → IsWritable ss ys → AreFit ss ys → IsFit (symbols_header ss ys)
unfolding symbols_header
fit_symbols ss ys w fit =
    let inside = part_inside ss ys (to_symbols ss) (symbols_bytes (symbol_names ys) ys) (stands_symbols ss ys) in
    record {
      name = name_small ss ys (codes ".symtab") w (IsAt-last ss 0 (omega arith));
      typ = omega arith;
      flags = omega arith;
      offset = omega (arith, inside, table_small ss ys fit);
      size = omega (arith, w.few);
      link = omega (arith, number_low ss ys w);
      info = omega (arith, w.few, count_by-le-length is_local ys);
      align = omega arith;
      entry_size = omega arith;
    }

fit_strings : (name at size : ℕ) → name < 2 ^ 32 → at < 2 ^ 64 → size < 2 ^ 32 → IsFit (strings_header name at size)
fit_strings name at size n a s = record { name = n; typ = omega arith; flags = omega arith; offset = a; size = omega arith; link = omega arith; info = omega arith; align = omega arith; entry_size = omega arith }

fit_all : (ss : List KitSection) (ys : List KitSymbol) → IsWritable ss ys → AreFit ss ys → (i : ℕ) → i < number ss + 3 → IsFit (header_behind ss ys i)
fit_all ss ys w fit =
    let strings_inside = part_inside ss ys (to_strings ss ys) (strings (symbol_names ys)) (stands_strings ss ys) in
    let names_inside = part_inside ss ys (to_names ss ys) (strings (section_names ss)) (stands_names ss ys) in
    let table = table_small ss ys fit in
    let none : number ss ≡ number ss + 0 = omega arith in
    each_number (λ i. IsFit (header_behind ss ys i)) ss fit_null
    (λ k below. subst IsFit (sym (header_given ss ys k below)) (fit_section ss ys k w fit below))
    (λ k below some. subst IsFit (sym (header_relas ss ys k below some)) (fit_relas ss ys k w fit below some))
    (subst IsFit (sym (ap (header_behind ss ys) none ∙ header_last ss ys 0)) (fit_symbols ss ys w fit))
    (subst IsFit (sym (header_last ss ys 1)) (fit_strings (place (section_names ss) (codes ".strtab")) (end_of (to_strings ss ys)) (length (strings (symbol_names ys))) (name_small ss ys (codes ".strtab") w (IsAt-last ss 1 (omega arith))) (omega (arith, strings_inside, table)) (symbol_names-short ss ys w)))
    (subst IsFit (sym (header_last ss ys 2)) (fit_strings (place (section_names ss) (codes ".shstrtab")) (end_of (to_names ss ys)) (length (strings (section_names ss))) (name_small ss ys (codes ".shstrtab") w (IsAt-last ss 2 (omega arith))) (omega (arith, names_inside, table)) (section_names-short ss ys w)))

-- the header of the file
pub table_at-is : (ss : List KitSection) (ys : List KitSymbol) → AreFit ss ys → table_at (object_file ss ys) ≡ end_of (to_table ss ys)
unfolding object_file u64_at
table_at-is ss ys fit = little_number-reads_back 8 (end_of (to_table ss ys)) (drop 48 (object_file ss ys)) (table_small ss ys fit)

pub count-is : (ss : List KitSection) (ys : List KitSymbol) → IsWritable ss ys → section_count (object_file ss ys) ≡ number ss + 3
unfolding object_file u16_at
count-is ss ys w = little_number-reads_back 2 (number ss + 3) (drop 62 (object_file ss ys)) (omega (arith, number_low ss ys w))

pub names_number-is : (ss : List KitSection) (ys : List KitSymbol) → IsWritable ss ys → names_number (object_file ss ys) ≡ number ss + 2
unfolding object_file u16_at
names_number-is ss ys w =
    let last : number ss + 3 - 1 ≡ number ss + 2 = omega arith in
    little_number-reads_back 2 (number ss + 3 - 1) (drop 64 (object_file ss ys)) (omega (arith, number_low ss ys w)) ∙ last

pub header_size-is : (ss : List KitSection) (ys : List KitSymbol) → header_size (object_file ss ys) ≡ 64
unfolding object_file u16_at
header_size-is ss ys = refl

-- the header of each number
pub header-is : (ss : List KitSection) (ys : List KitSymbol) → IsWritable ss ys → AreFit ss ys → (i : ℕ) → i < number ss + 3
    → read_at (object_file ss ys) i ≡ (let h = header_behind ss ys i in section_header h.name h.typ h.flags h.offset h.size h.link h.info h.align h.entry_size)
header-is ss ys w fit i below =
    let file = object_file ss ys in
    let h = header_behind ss ys i in
    let table = end_of (to_table ss ys) in
    let whole : drop table file ≡ heads ss ys = file_behind ss ys (to_table ss ys) [] (sym (append-nil (to_table ss ys))) in
    let piece : drop (64 * i) (heads ss ys) ≡ header h ++ flat_map header (drop (i + 1) (headers ss ys)) = drop-pieces header 64 length-header (headers ss ys) i null_header (omega (arith, length-headers ss ys)) in
    let here : drop (table_at file + 64 * i) file ≡ header h ++ flat_map header (drop (i + 1) (headers ss ys)) =
    ap (λ (n : ℕ). drop (n + 64 * i) file) (table_at-is ss ys fit) ∙ sym (drop-drop (64 * i) table file) ∙ ap (λ (x : List ℕ). drop (64 * i) x) whole ∙ piece in
    header_at-bytes file (flat_map header (drop (i + 1) (headers ss ys))) (table_at file + 64 * i) h.name h.typ h.flags h.offset h.size h.link h.info h.align h.entry_size (fit_all ss ys w fit i below) here
