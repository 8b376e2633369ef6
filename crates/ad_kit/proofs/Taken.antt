-- A written file that no row of the table of refusals holds of is one that is read.
use Rattle.std.proofs.Common.{◌≡◌, ◌≢◌, ◌⊎◌, inl, inr, ℕ, suc, ◌+◌, ◌<◌, ◌≤◌, ◌==◌, ◌&&◌, ◌||◌, not, nat_le, Bool, true, false, is_none, is_some, Option, Some, None, option_and_then, if◌then◌else◌, List, get_or, length, refl, sym, ap, ◌∙◌, arith}
use Rattle.std.specs.List.{All}
use Rattle.std.proofs.lemmas.Bool.{and_from, cases_Bool, cases_eq, eq-eqb, eqb-true, eqb-false, leb-false, leb-true, le-leb, ltb-false, ne_eqb, not-false, not_from_false, or_cases, or_parts}
use Rattle.std.proofs.lemmas.List.Elements.{All-from_get_or, All-same}
use Rattle.std.proofs.lemmas.List.Folds.{length-flat_map-take}
use Rattle.ad_elf.specs.declared.elf.TheConstants.{NAME_BYTES, SHF_ALLOC, SHF_COMPRESSED, SHF_TLS, SHN_ABS, SHN_UNDEF, SHT_NOBITS, SHT_NOTE, SHT_PROGBITS, SHT_REL, SHT_RELA, SHT_SYMTAB}
use Rattle.ad_elf.specs.declared.object.Object.{Object}
use Rattle.ad_elf.specs.declared.object.Rela.{Rela}
use Rattle.ad_elf.specs.Below.{each, joined}
use Rattle.ad_elf.specs.Fields.{header as read_at, section_count, symbol_entry}
use Rattle.ad_elf.specs.File.{has_flag, has_string, one_table, relas, section_names as names_in, symbol_count, symbol_names as symbol_names_in, table, table_from}
use Rattle.ad_elf.specs.Refusals.{IsObject, ends_outside, first_unnamed, has_form, is_astray, is_misdirected, is_of_wrong_type, is_out_of_bounds, is_too_long, lacks_symbols, names_no_symbol, stored_before}
use Rattle.ad_elf.proofs.Below.{fails_before, fails_where_none}
use Rattle.ad_elf.proofs.Found.{find_none}
use Rattle.ad_elf.proofs.Sound.{IsSound, IsSound-from}
use Rattle.ad_elf.proofs.Tables.{few_zeros}
use Rattle.ad_elf.proofs.Targets.{All-from_each, All-from_joined}
use Rattle.ad_kit.specs.ObjectFile.{has_relas, headers, names_of, number, object_file, size_of}
use Rattle.ad_kit.specs.ReadBack.{AreFit, IsLoadable, IsPlaced, IsReadable, IsRelaReadable, IsSectionReadable, header_behind, is_kept, no_rela, no_section, number_behind, rela_behind, rela_of, relas_said, section_behind}
use Rattle.ad_kit.specs.Writable.{IsWritable}
use Rattle.ad_kit.specs.declared.object.KitSection.{KitSection}
use Rattle.ad_kit.specs.declared.object.KitSymbol.{KitSymbol}
use Rattle.ad_kit.proofs.Counted.{length-headers, names_with, names_without}
use Rattle.ad_kit.proofs.Headed.{count-is, number_small}
use Rattle.ad_kit.proofs.Readable.{astray_next, field_test, is_lost, lost_size, misdirected_relas, symbol_test, unnamed_next}
use Rattle.ad_kit.proofs.Related.{relas-are}
use Rattle.ad_kit.proofs.Rowed.{is_wrong, unnamed_given, unnamed_relas, wrong_given}
use Rattle.ad_kit.proofs.Said.{read_given, read_symbols}
use Rattle.ad_kit.proofs.Tabled.{HasNoTable, count_of_symbols, some_symbol}

-- no section of symbols was given
one_some : (o : Option ℕ) (test : ℕ → Bool) → is_none (option_and_then (λ (k : ℕ). if test k then Some k else None) o) ≡ false → (k : ℕ) × (o ≡ Some k) × (test k ≡ true)
one_some None test e = cc
one_some (Some k) test e =
    elim (cases_Bool (test k)) [
      | inl passes ↦ (k, refl, passes)
      | inr fails ↦ absurd (bad (rw fails at e))
    ]
  where
    bad : true ≡ false → ⊥
    bad e = cc

is_none-is : (o : Option ℕ) → is_none o ≡ true → o ≡ None
is_none-is None e = refl
is_none-is (Some k) e = cc

given_before : (ss : List KitSection) (k : ℕ) → k < length ss → number_behind ss k < number ss
given_before ss k below =
    let more = length-flat_map-take names_of ss k no_section below in
    elim (cases_Bool (has_relas (section_behind ss k))) [
      | inl some ↦ omega (arith, more, names_with (section_behind ss k) some)
      | inr none ↦ omega (arith, more, names_without (section_behind ss k) none)
    ]

passing : (a b : Bool) → a ≡ true → (a && b) ≡ false → b ≡ false
passing true b e f = f
passing false b e f = cc

HasNoTable-from : (ss : List KitSection) (ys : List KitSymbol) → IsWritable ss ys → AreFit ss ys → lacks_symbols (object_file ss ys) ≡ false → HasNoTable ss
unfolding lacks_symbols one_table
HasNoTable-from ss ys w fit fine k below same =
    let file = object_file ss ys in
    let front = or_parts _ (is_some (first_unnamed file (symbol_names_in file) (table file))) fine in
    let one = or_parts (is_none (one_table file)) (not (has_form file (table file))) front.0 in
    let found = one_some (table_from file 0) (λ n. is_none (table_from file (n + 1))) one.0 in
    let after = is_none-is (table_from file (found.0 + 1)) found.2 in
    let here = fails_where_none (λ i. nat_le (found.0 + 1) i && ((read_at file i).typ == SHT_SYMTAB)) (section_count file) (number ss) after (omega (arith, count-is ss ys w)) in
    let typ : ((read_at file (number ss)).typ == SHT_SYMTAB) ≡ true = ap (λ h. h.typ == SHT_SYMTAB) (read_symbols ss ys w fit) in
    let low : nat_le (found.0 + 1) (number ss) ≡ false = passing_right (nat_le (found.0 + 1) (number ss)) ((read_at file (number ss)).typ == SHT_SYMTAB) typ here in
    let before : number_behind ss k < found.0 = omega (arith, leb-false _ _ low, given_before ss k below) in
    let none = fails_before (λ i. nat_le 0 i && ((read_at file i).typ == SHT_SYMTAB)) (section_count file) found.0 (number_behind ss k) found.1 before in
    let other : ((read_at file (number_behind ss k)).typ == SHT_SYMTAB) ≡ false = passing (nat_le 0 (number_behind ss k)) _ (le-leb _ _ (omega arith)) none in
    eqb-false _ _ (ap (λ h. h.typ == SHT_SYMTAB) (sym (read_given ss ys w fit k below)) ∙ other) same
  where
    passing_right : (a b : Bool) → b ≡ true → (a && b) ≡ false → a ≡ false
    passing_right true b e f = let bad = sym e ∙ f in cc
    passing_right false b e f = refl

-- the sections
loadable_from : (s : KitSection) → is_wrong s ≡ false → has_flag s.flags SHF_ALLOC ≡ true → IsLoadable s
loadable_from s fine loaded =
    let parts = or_parts (s.typ == SHT_REL) _ fine in
    let three = passing (has_flag s.flags SHF_ALLOC) _ loaded parts.1 in
    let two = or_parts _ (has_flag s.flags SHF_COMPRESSED) three in
    let one = or_parts _ (has_flag s.flags SHF_TLS) two.0 in
    let typ : ((s.typ == SHT_PROGBITS) || (s.typ == SHT_NOBITS) || (s.typ == SHT_NOTE)) ≡ true = not-false _ one.0 in
    record { typ = of_three typ; shared = one.1; plain = two.1 }
  where
    of_three : ((s.typ == SHT_PROGBITS) || (s.typ == SHT_NOBITS) || (s.typ == SHT_NOTE)) ≡ true → (s.typ ≡ SHT_PROGBITS) ⊎ (s.typ ≡ SHT_NOBITS) ⊎ (s.typ ≡ SHT_NOTE)
    of_three typ =
        elim (or_cases ((s.typ == SHT_PROGBITS) || (s.typ == SHT_NOBITS)) (s.typ == SHT_NOTE) typ) [
          | inl two ↦
              elim (or_cases (s.typ == SHT_PROGBITS) (s.typ == SHT_NOBITS) two) [
                | inl p ↦ inl (eqb-true _ _ p)
                | inr z ↦ inr (inl (eqb-true _ _ z))
              ]
          | inr n ↦ inr (inr (eqb-true _ _ n))
        ]

no_relas_from : (ss : List KitSection) (ys : List KitSymbol) → IsWritable ss ys → AreFit ss ys → (k : ℕ) → k < length ss → is_misdirected (object_file ss ys) (read_at (object_file ss ys) (number_behind ss k)) ≡ false → (section_behind ss k).typ ≢ SHT_RELA
unfolding is_misdirected
no_relas_from ss ys w fit k below fine same =
    let file = object_file ss ys in
    let s = section_behind ss k in
    let test = ap (λ h. is_misdirected file h) (sym (read_given ss ys w fit k below)) ∙ fine in
    let rest = passing (s.typ == SHT_RELA) _ (eq-eqb _ _ same) test in
    cc

section_taken : (ss : List KitSection) (ys : List KitSymbol) → IsWritable ss ys → AreFit ss ys → IsSound (object_file ss ys) → (k : ℕ) → k < length ss → IsSectionReadable (section_behind ss k)
unfolding is_out_of_bounds
section_taken ss ys w fit sound k below =
    let file = object_file ss ys in
    let s = section_behind ss k in
    let i = number_behind ss k in
    let none = HasNoTable-from ss ys w fit sound.symbols in
    let low : i < section_count file = omega (arith, count-is ss ys w, number_small ss k below) in
    let next : i + 1 < section_count file = omega (arith, count-is ss ys w, number_small ss k below) in
    let wrong : is_wrong s ≡ false = sym (wrong_given ss ys w fit k below) ∙ fails_where_none (λ j. is_of_wrong_type (read_at file j)) (section_count file) i sound.types low in
    let bounds : is_too_long (length file) (stored_before file i) (read_at file i) ≡ false = fails_where_none (is_out_of_bounds file) (section_count file) i sound.bounds low in
    let misdirected = λ (j : ℕ) (less : j < section_count file). fails_where_none (λ j. is_misdirected file (read_at file j)) (section_count file) j sound.directed less in
    let unnamed = λ (j : ℕ) (less : j < section_count file). fails_where_none (λ j. not (has_string (names_in file) (read_at file j).name)) (section_count file) j sound.names less in
    record {
      no_symbols = none k below;
      no_relas = no_relas_from ss ys w fit k below (misdirected i low);
      no_rels = eqb-false _ _ (or_parts (s.typ == SHT_REL) _ wrong).0;
      loaded = loadable_from s wrong;
      zeros = λ zeros.
          let typ = ap (λ h. h.typ) (read_given ss ys w fit k below) ∙ zeros in
          let size = ap (λ h. h.size) (read_given ss ys w fit k below) in
          let same : size_of s ≡ s.size = rw (eq-eqb _ _ zeros) refl in
          omega (arith, few_zeros (length file) (stored_before file i) (read_at file i) bounds typ, size, same);
      name = leb-true _ _ (not-false _ (sym (unnamed_given ss ys w fit k below) ∙ unnamed i low));
      rela_name = λ some. leb-true _ _ (not-false _ (sym (unnamed_relas ss ys w fit k below some) ∙ unnamed (i + 1) next));
      relocated = λ kept zeros.
          elim (cases_Bool (has_relas s)) [
            | inl some ↦ absurd (apart (is_kept s) (s.typ == SHT_NOBITS) kept (eq-eqb _ _ zeros) (sym (misdirected_relas ss ys w fit none k below some) ∙ misdirected (i + 1) next))
            | inr other ↦ other
          ];
    }
  where
    apart : (a b : Bool) → a ≡ true → b ≡ true → (a && b) ≡ false → ⊥
    apart true true e f g = cc
    apart true false e f g = cc
    apart false b e f g = cc

-- the symbols
placed_from : (ss : List KitSection) (ys : List KitSymbol) → IsWritable ss ys → AreFit ss ys → (y : KitSymbol) → is_lost ss ys y ≡ false → IsPlaced ss ys y
placed_from ss ys w fit y fine =
    elim (cases_eq y.shndx SHN_UNDEF) [
      | inl undefined ↦ inl undefined
      | inr defined ↦
          elim (cases_eq y.shndx SHN_ABS) [
            | inl absolute ↦ inr (inl absolute)
            | inr relative ↦ (
                let front : (not (y.shndx == SHN_UNDEF) && not (y.shndx == SHN_ABS)) ≡ true = and_from _ _ (not_from_false _ (ne_eqb _ _ defined)) (not_from_false _ (ne_eqb _ _ relative)) in
                let both = passing _ _ front fine in
                let parts = or_parts (nat_le (section_count (object_file ss ys)) y.shndx) _ both in
                let below : y.shndx < number ss + 3 = omega (arith, leb-false _ _ parts.0, count-is ss ys w) in
                let inside : y.shndx < length (headers ss ys) = omega (arith, below, length-headers ss ys) in
                let size : y.value ≤ (header_behind ss ys y.shndx).size = omega (arith, ltb-false _ _ parts.1, lost_size ss ys w fit y.shndx below) in
                inr (inr (inside, size)))
          ]
    ]

symbol_named : (ss : List KitSection) (ys : List KitSymbol) → IsWritable ss ys → AreFit ss ys → HasNoTable ss → lacks_symbols (object_file ss ys) ≡ false → (m : ℕ) → m < length ys → length (get_or ys m some_symbol).name ≤ NAME_BYTES
unfolding lacks_symbols
symbol_named ss ys w fit none fine m below =
    let file = object_file ss ys in
    let back = or_parts _ (is_some (first_unnamed file (symbol_names_in file) (table file))) fine in
    let nowhere : first_unnamed file (symbol_names_in file) (table file) ≡ None = is_some-none (first_unnamed file (symbol_names_in file) (table file)) back.1 in
    let named = fails_where_none (λ j. not (has_string (symbol_names_in file) (symbol_entry file (table file) j).name)) (symbol_count file) (suc m) nowhere (omega (arith, count_of_symbols ss ys w fit none)) in
    leb-true _ _ (not-false _ (sym (unnamed_next ss ys w fit none m some_symbol below) ∙ named))
  where
    is_some-none : (o : Option ℕ) → is_some o ≡ false → o ≡ None
    is_some-none None e = refl
    is_some-none (Some k) e = cc

-- the relocations
relas_taken : (P : Rela → Type 0) (ss : List KitSection) (ys : List KitSymbol) → IsWritable ss ys → AreFit ss ys → All P (relas (object_file ss ys)) → (k : ℕ) → k < length ss → is_kept (section_behind ss k) ≡ true
    → (j : ℕ) → j < length (section_behind ss k).relas → P (rela_of (number_behind ss k) j (rela_behind (section_behind ss k) j))
unfolding relas_said
relas_taken P ss ys w fit all k below kept j less =
    let s = section_behind ss k in
    let here = All-from_joined P (relas_said ss) (length ss) (All-same P (joined (relas_said ss) (length ss)) (relas (object_file ss ys)) (sym (relas-are ss ys w fit)) all) k below in
    let those : All P (each (λ i. rela_of (number_behind ss k) i (rela_behind s i)) (length s.relas)) = (rw kept at here) in
    All-from_each P (λ i. rela_of (number_behind ss k) i (rela_behind s i)) (length s.relas) those j less

relas_readable : (ss : List KitSection) (ys : List KitSymbol) → IsWritable ss ys → AreFit ss ys → HasNoTable ss → IsSound (object_file ss ys) → (k : ℕ) → k < length ss → is_kept (section_behind ss k) ≡ true
    → All (IsRelaReadable ys (section_behind ss k)) (section_behind ss k).relas
relas_readable ss ys w fit none sound k below kept =
    let file = object_file ss ys in
    let s = section_behind ss k in
    let named = find_none (names_no_symbol file) (relas file) sound.named in
    let fields = find_none (ends_outside file) (relas file) sound.offsets in
    All-from_get_or (IsRelaReadable ys s) s.relas no_rela (λ j less.
    let r = rela_behind s j in
    let symbol = sym (symbol_test ss ys (number_behind ss k) j r) ∙ relas_taken (λ (e : Rela). names_no_symbol file e ≡ false) ss ys w fit named k below kept j less in
    let field = sym (field_test ss ys w fit k below j r) ∙ relas_taken (λ (e : Rela). ends_outside file e ≡ false) ss ys w fit fields k below kept j less in
    record { symbol = omega (arith, leb-false _ _ symbol, count_of_symbols ss ys w fit none); field = ltb-false _ _ field })

pub IsReadable-from : (ss : List KitSection) (ys : List KitSymbol) → IsWritable ss ys → AreFit ss ys → (o : Object) → IsObject (object_file ss ys) o → IsReadable ss ys
IsReadable-from ss ys w fit o read =
    let file = object_file ss ys in
    let sound = IsSound-from file read.no_row in
    let none = HasNoTable-from ss ys w fit sound.symbols in
    record {
      sections = All-from_get_or IsSectionReadable ss no_section (section_taken ss ys w fit sound);
      names = All-from_get_or (λ (y : KitSymbol). length y.name ≤ NAME_BYTES) ys some_symbol (symbol_named ss ys w fit none sound.symbols);
      places = All-from_get_or (IsPlaced ss ys) ys some_symbol (λ m below.
          placed_from ss ys w fit (get_or ys m some_symbol) (sym (astray_next ss ys w fit none m some_symbol below) ∙ fails_where_none (is_astray file) (symbol_count file) (suc m) sound.places (omega (arith, count_of_symbols ss ys w fit none))));
      relas = All-from_get_or (λ (s : KitSection). is_kept s ≡ true → All (IsRelaReadable ys s) s.relas) ss no_section (relas_readable ss ys w fit none sound);
    }
