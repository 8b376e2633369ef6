-- An object that was read is in range.
use Rattle.std.proofs.Common.{◌≡◌, ◌≢◌, inl, inr, ℕ, zero, suc, ◌+◌, ◌*◌, ◌^◌, ◌<◌, ◌≤◌, ◌==◌, ◌&&◌, ◌||◌, not, nat_lt, nat_le, true, false, List, [], ◌∷◌, get_or, length, take, drop, refl, subst, sym, ap, ◌∙◌, arith, sum_by}
use Rattle.std.specs.List.{All, AllPairs, Any, Contains}
use Rattle.std.proofs.lemmas.Bool.{and_from, and_parts, cases_Bool, cases_eq, cond-false, cond-true, eqb-true, eqb-false, eq-eqb, leb-false, ltb-false, ne_eqb, not_from_false, or_cases, or_parts}
use Rattle.std.proofs.lemmas.List.{append-nil, get_or_append_left, get_or_push, length-append, length-take, length-drop}
use Rattle.std.proofs.lemmas.List.Elements.{All-nil, All-weaker, Contains-append_left, Contains-append_right, Contains-push}
use Rattle.std.proofs.lemmas.List.Quantifiers.{all_pairs_push}
use Rattle.std.proofs.lemmas.List.Sums.{sum_by-append}
use Rattle.ad_elf.specs.declared.elf.TheConstants.{SHN_ABS, SHN_UNDEF, SHT_NOBITS, SHT_PROGBITS, SHT_RELA, ZERO_BYTES}
use Rattle.ad_elf.specs.declared.file.SectionHeader.{SectionHeader}
use Rattle.ad_elf.specs.declared.file.SymbolEntry.{SymbolEntry}
use Rattle.ad_elf.specs.declared.object.Object.{Object}
use Rattle.ad_elf.specs.declared.object.Rela.{Rela}
use Rattle.ad_elf.specs.declared.object.Section.{Section}
use Rattle.ad_elf.specs.Below.{each, joined, total}
use Rattle.ad_elf.specs.Fields.{header, section_count, symbol_entry}
use Rattle.ad_elf.specs.File.{content, has_kept_relas, is_frame, is_kept, is_part, is_stored, kept_section, rela, relas, section, sections, symbol, symbol_count, table}
use Rattle.ad_elf.specs.Range.{IsInRange, IsRelaInRange, IsSectionInRange, IsSymbolInRange}
use Rattle.ad_elf.specs.Refusals.{IsObject, ends_outside, is_astray, is_misdirected, is_out_of_bounds, is_too_long, leaves_section, names_no_symbol, stored_before, stored_size}
use Rattle.ad_elf.specs.Relocation.{width}
use Rattle.ad_elf.proofs.Below.{fails_where_none}
use Rattle.ad_elf.proofs.Found.{find_none}
use Rattle.ad_elf.proofs.Sound.{IsSound, IsSound-from}
use Rattle.ad_elf.proofs.Tables.{AreDirected-from, AreInFile_from, few_zeros, has_kept_relas-typ, info_below, section_count-below, stored_part, together_inside}
use Rattle.ad_elf.proofs.Targets.{All-joined, All-one, All-relas, rela-target}

-- what a section that is kept says of its header
section-index : (file : List ℕ) (i : ℕ) → (section file i).index ≡ i
unfolding section
section-index file i = refl

section-size : (file : List ℕ) (i : ℕ) → (section file i).size ≡ (header file i).size
unfolding section
section-size file i = refl

section-typ : (file : List ℕ) (i : ℕ) → (section file i).typ ≡ (header file i).typ
unfolding section
section-typ file i = refl

section-bytes : (file : List ℕ) (i : ℕ) → (section file i).bytes ≡ content file (header file i)
unfolding section
section-bytes file i = refl

-- what holds of each section that is kept holds of all sections
All-sections : (P : Section → Type 0) (file : List ℕ) → ((i : ℕ) → i < section_count file → is_kept file i ≡ true → P (section file i)) → All P (sections file)
All-sections P file h = All-joined P (kept_section file) (section_count file) (λ i below.
    elim (cases_Bool (is_kept file i)) [
      | inl kept ↦ (rw (cond-true (is_kept file i) (section file i ∷ []) [] kept) (All-one P (section file i) (h i below kept)))
      | inr other ↦ (rw (cond-false (is_kept file i) (section file i ∷ []) [] other) (All-nil P))
    ])

-- the numbers of the sections rise
sections_below : (file : List ℕ) (n : ℕ) → All (λ (s : Section). s.index < n) (joined (kept_section file) n)
sections_below file n = All-joined (λ (s : Section). s.index < n) (kept_section file) n (λ i below.
    elim (cases_Bool (is_kept file i)) [
      | inl kept ↦ (rw (cond-true (is_kept file i) (section file i ∷ []) [] kept) (All-one (λ (s : Section). s.index < n) (section file i) (rw (section-index file i) below)))
      | inr other ↦ (rw (cond-false (is_kept file i) (section file i ∷ []) [] other) (All-nil (λ (s : Section). s.index < n)))
    ])

indexes_rise : (file : List ℕ) (n : ℕ) → AllPairs (λ (s t : Section). s.index < t.index) (joined (kept_section file) n)
unfolding joined
indexes_rise file zero = λ i j d less below. absurd (omega arith)
indexes_rise file (suc n) =
    elim (cases_Bool (is_kept file n)) [
      | inl kept ↦ (rw (cond-true (is_kept file n) (section file n ∷ []) [] kept)
          (all_pairs_push (λ (s t : Section). s.index < t.index) (joined (kept_section file) n) (section file n) (indexes_rise file n) (λ k d below. rw (section-index file n) (sections_below file n k d below))))
      | inr other ↦ (rw (cond-false (is_kept file n) (section file n ∷ []) [] other, append-nil) (indexes_rise file n))
    ]

-- what bytes a section has
length-content : (file : List ℕ) (h : SectionHeader) → is_stored h ≡ true → h.offset + h.size ≤ length file → length (content file h) ≡ h.size
unfolding content
length-content file h stored inside =
    rw (cond-true (is_stored h) (take h.size (drop h.offset file)) [] stored) (omega (arith, length-take h.size (drop h.offset file), length-drop h.offset file))

content-zeros : (file : List ℕ) (h : SectionHeader) → h.typ ≡ SHT_NOBITS → content file h ≡ []
unfolding content
content-zeros file h zeros = rw zeros refl

is_part-typ : (names : List ℕ) (h : SectionHeader) → is_part names h ≡ true → h.typ ≢ SHT_NOBITS → h.typ ≡ SHT_PROGBITS
unfolding is_part
is_part-typ names h part other =
    let two = and_parts _ (not (is_frame names h)) part in
    let typ = and_parts _ ((h.typ == SHT_PROGBITS) || (h.typ == SHT_NOBITS)) two.0 in
    elim (or_cases (h.typ == SHT_PROGBITS) (h.typ == SHT_NOBITS) typ.1) [
      | inl e ↦ eqb-true _ _ e
      | inr e ↦ absurd (other (eqb-true _ _ e))
    ]

stored_program : (h : SectionHeader) → h.typ ≡ SHT_PROGBITS → is_stored h ≡ true
stored_program h e = rw e refl

-- nothing is too long
within : (file : List ℕ) → IsSound file → (i : ℕ) → i < section_count file → is_too_long (length file) (stored_before file i) (header file i) ≡ false
unfolding is_out_of_bounds
within file sound i below = fails_where_none (is_out_of_bounds file) (section_count file) i sound.bounds below

section_in_range : (file : List ℕ) → IsSound file → (i : ℕ) → i < section_count file → is_kept file i ≡ true → IsSectionInRange (section file i)
section_in_range file sound i below kept = record {
  number = rw (section-index file i) (omega (arith, section_count-below file sound.table));
  bytes = λ other.
      let program = is_part-typ _ (header file i) kept (λ e. other (section-typ file i ∙ e)) in
      let stored = stored_program (header file i) program in
      rw (section-bytes file i, section-size file i) (length-content file (header file i) stored ((AreInFile_from file sound.bounds).inside i below stored));
  no_bytes = λ zeros. section-bytes file i ∙ content-zeros file (header file i) (sym (section-typ file i) ∙ zeros);
  few_zeros = λ zeros. rw (section-size file i) (few_zeros (length file) (stored_before file i) (header file i) (within file sound i below) (sym (section-typ file i) ∙ zeros));
}

-- the sections are together not longer than the file and their zeros
stored_fits : (file : List ℕ) → IsSound file → (n : ℕ) → n ≤ section_count file → stored_before file n ≤ length file
unfolding total
stored_fits file sound zero below = omega arith
stored_fits file sound (suc n) below =
    together_inside (length file) (stored_before file n) (header file n) (stored_fits file sound n (omega arith)) (within file sound n (omega arith))

kept_size : (file : List ℕ) → IsSound file → (n : ℕ) → n < section_count file → sum_by (λ (s : Section). s.size) (kept_section file n) ≤ stored_size (header file n) + ZERO_BYTES
kept_size file sound n below =
    elim (cases_Bool (is_kept file n)) [
      | inl kept ↦ (rw (cond-true (is_kept file n) (section file n ∷ []) [] kept, section-size file n)
          (elim (cases_eq (header file n).typ SHT_NOBITS) [
            | inl zeros ↦ omega (arith, few_zeros (length file) (stored_before file n) (header file n) (within file sound n below) zeros)
            | inr other ↦ (rw (cond-true (is_stored (header file n)) (header file n).size 0 (stored_program (header file n) (is_part-typ _ (header file n) kept other))) (omega arith))
          ]))
      | inr none ↦ (rw (cond-false (is_kept file n) (section file n ∷ []) [] none) (omega arith))
    ]

sizes_fit : (file : List ℕ) → IsSound file → (n : ℕ) → n ≤ section_count file → sum_by (λ (s : Section). s.size) (joined (kept_section file) n) ≤ stored_before file n + n * ZERO_BYTES
unfolding joined total
sizes_fit file sound zero below = omega arith
sizes_fit file sound (suc n) below =
    rw (sum_by-append (λ (s : Section). s.size) (joined (kept_section file) n) (kept_section file n)) (omega (arith, sizes_fit file sound n (omega arith), kept_size file sound n (omega arith)))

sizes : (file : List ℕ) → IsSound file → length file < 2 ^ 64 → sum_by (λ (s : Section). s.size) (sections file) < 2 ^ 65
sizes file sound short =
    omega (arith, sizes_fit file sound (section_count file) (omega arith), stored_fits file sound (section_count file) (omega arith), section_count-below file sound.table)

-- how many symbols there are, and which one stands where
pub length-each : {X : Type 0} (f : ℕ → X) (n : ℕ) → length (each f n) ≡ n
unfolding joined
length-each f zero = refl
length-each f (suc n) = rw (length-append (each f n) (f n ∷ [])) (omega (arith, length-each f n))

get_or-each : {X : Type 0} (f : ℕ → X) (n k : ℕ) (d : X) → k < n → get_or (each f n) k d ≡ f k
unfolding joined
get_or-each f zero k d below = absurd (omega arith)
get_or-each f (suc n) k d below =
    elim (cases_eq k n) [
      | inl same ↦ (get_or_push (each f n) (f n) d k (length-each f n ∙ sym same) ∙ ap f (sym same))
      | inr other ↦ (get_or_append_left (each f n) (f n ∷ []) d k (omega (arith, length-each f n)) ∙ get_or-each f n k d (omega arith))
    ]

-- a symbol isn't past the end of its section
symbol-shndx : (file : List ℕ) (j : ℕ) → (symbol file j).shndx ≡ (symbol_entry file (table file) j).shndx
unfolding symbol
symbol-shndx file j = refl

symbol-value : (file : List ℕ) (j : ℕ) → (symbol file j).value ≡ (symbol_entry file (table file) j).value
unfolding symbol
symbol-value file j = refl

value_below : (file : List ℕ) (e : SymbolEntry) → leaves_section file e ≡ false → e.shndx ≢ SHN_UNDEF → e.shndx ≢ SHN_ABS → e.value ≤ (header file e.shndx).size
unfolding leaves_section
value_below file e fine defined placed =
    let both = and_from _ _ (not_from_false _ (ne_eqb e.shndx SHN_UNDEF defined)) (not_from_false _ (ne_eqb e.shndx SHN_ABS placed)) in
    let leaves = stored_part (not (e.shndx == SHN_UNDEF) && not (e.shndx == SHN_ABS)) (nat_le (section_count file) e.shndx || nat_lt (header file e.shndx).size e.value) both fine in
    ltb-false _ _ (or_parts (nat_le (section_count file) e.shndx) (nat_lt (header file e.shndx).size e.value) leaves).1

symbol_in_range : (file : List ℕ) → IsSound file → (j : ℕ) → 0 < j → j < symbol_count file → IsSymbolInRange (sections file) (symbol file j)
symbol_in_range file sound j some below defined =
    let e = symbol_entry file (table file) j in
    let astray = fails_where_none (is_astray file) (symbol_count file) j sound.places below in
    let fine = stored_part (not (j == 0)) (leaves_section file e) (not_from_false _ (ne_eqb j 0 (λ z. omega arith))) astray in
    All-sections (λ (s : Section). s.index ≡ (symbol file j).shndx → (symbol file j).value ≤ s.size) file (λ i lower kept same.
    let here : i ≡ e.shndx = sym (section-index file i) ∙ same ∙ symbol-shndx file j in
    let value = value_below file e fine (λ u. defined (symbol-shndx file j ∙ u)) (λ a. omega (arith, section_count-below file sound.table)) in
    rw (symbol-value file j, section-size file i, here) value)

-- some element of what one number gives is an element of the joined list
Contains-joined : {X : Type 0} (f : ℕ → List X) (n i : ℕ) (x : X) → i < n → Contains (f i) x → Contains (joined f n) x
unfolding joined
Contains-joined f zero i x below h = absurd (omega arith)
Contains-joined f (suc n) i x below h =
    elim (cases_eq i n) [
      | inl same ↦ Contains-append_right (joined f n) (f n) x (subst (λ (k : ℕ). Contains (f k) x) same h)
      | inr other ↦ Contains-append_left (joined f n) (f n) x (Contains-joined f n i x (omega arith) h)
    ]

section_there : (file : List ℕ) (i : ℕ) → i < section_count file → is_kept file i ≡ true → Contains (sections file) (section file i)
section_there file i below kept =
    Contains-joined (kept_section file) (section_count file) i (section file i) below
    (rw (cond-true (is_kept file i) (section file i ∷ []) [] kept) (Contains-push [] (section file i)))

-- a section whose relocations are kept applies to a section with bytes
has_kept_relas-kept : (file : List ℕ) (h : SectionHeader) → has_kept_relas file h ≡ true → is_kept file h.info ≡ true
unfolding has_kept_relas
has_kept_relas-kept file h kept = (and_parts (h.typ == SHT_RELA) (is_kept file h.info) kept).1

no_zeros : (file : List ℕ) (h : SectionHeader) → is_misdirected file h ≡ false → h.typ ≡ SHT_RELA → is_kept file h.info ≡ true → (header file h.info).typ ≢ SHT_NOBITS
unfolding is_misdirected
no_zeros file h fine rela kept zeros =
    let rest = stored_part (h.typ == SHT_RELA) _ (eq-eqb _ _ rela) fine in
    let last = (or_parts _ (is_kept file h.info && ((header file h.info).typ == SHT_NOBITS)) rest).1 in
    eqb-false _ _ (stored_part (is_kept file h.info) ((header file h.info).typ == SHT_NOBITS) kept last) zeros

rela_in_range : (file : List ℕ) → IsSound file → (i j : ℕ) → i < section_count file → has_kept_relas file (header file i) ≡ true
    → names_no_symbol file (rela file i j) ≡ false → ends_outside file (rela file i j) ≡ false
    → ((rela file i j).symbol < symbol_count file) × Any (λ (s : Section). (s.index ≡ (rela file i j).target) × (s.typ ≢ SHT_NOBITS) × ((rela file i j).offset + width (rela file i j).typ ≤ s.size)) (sections file)
rela_in_range file sound i j below kept named inside =
    let h = header file i in
    let directed = (AreDirected-from file sound.directed).each_one i below in
    let typ = has_kept_relas-typ file h kept in
    let target = info_below file h directed typ in
    let held = has_kept_relas-kept file h kept in
    let there = section_there file h.info target held in
    let same = rela-target file i j in
    (leb-false _ _ named, (there.0, section file h.info, there.1, there.2, (section-index file h.info ∙ sym same, (λ zeros. no_zeros file h directed typ held (sym (section-typ file h.info) ∙ zeros)), rw (section-size file h.info, ← same) (ltb-false _ _ inside))))

-- both hold of all
All-both : {X : Type 0} (P Q R : X → Type 0) (xs : List X) → ((x : X) → P x → Q x → R x) → All P xs → All Q xs → All R xs
All-both P Q R xs h p q k d below = h (get_or xs k d) (p k d below) (q k d below)

abbrev NamesPlace : List ℕ → Rela → Type 0
NamesPlace file r =
    (r.symbol < symbol_count file) × Any (λ (s : Section). (s.index ≡ r.target) × (s.typ ≢ SHT_NOBITS) × (r.offset + width r.typ ≤ s.size)) (sections file)

relas_in_range : (file : List ℕ) → IsSound file → All (NamesPlace file) (relas file)
relas_in_range file sound =
    let Fits : Rela → Type 0 = NamesPlace file in
    let Fine : Rela → Type 0 = λ (r : Rela). (names_no_symbol file r ≡ false) × (ends_outside file r ≡ false) in
    let fine = All-both (λ (r : Rela). names_no_symbol file r ≡ false) (λ (r : Rela). ends_outside file r ≡ false) Fine (relas file) (λ r p q. (p, q)) (find_none (names_no_symbol file) (relas file) sound.named) (find_none (ends_outside file) (relas file) sound.offsets) in
    All-both Fine (λ (r : Rela). Fine r → Fits r) Fits (relas file) (λ r p q. q p) fine
    (All-relas (λ (r : Rela). Fine r → Fits r) file (λ i j below kept lower p. rela_in_range file sound i j below kept p.0 p.1))

pub IsInRange-from : (file : List ℕ) (o : Object) → length file < 2 ^ 64 → IsObject file o → IsInRange o
IsInRange-from file o short h =
    let sound = IsSound-from file h.no_row in
    let s = h.says.sections_said in
    let y = h.says.symbols_said in
    let r = h.says.relas_said in
    let count : length o.symbols ≡ symbol_count file = ap length y ∙ length-each (symbol file) (symbol_count file) in
    record {
      indexes_rise = rw s (indexes_rise file (section_count file));
      sections_in = rw s (All-sections IsSectionInRange file (section_in_range file sound));
      sizes = rw s (sizes file sound short);
      symbols_in = λ k d from below.
          let lower : k < symbol_count file = omega (arith, count) in
          rw (s, y, get_or-each (symbol file) (symbol_count file) k d lower) (symbol_in_range file sound k from lower);
      relas_in = subst (λ (rs : List Rela). All (IsRelaInRange o) rs) (sym r) (All-weaker (NamesPlace file) (IsRelaInRange o) (λ x fits. record { symbol = rw count fits.0; target = rw s fits.1 }) (relas file) (relas_in_range file sound));
    }
