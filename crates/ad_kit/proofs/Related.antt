-- The relocations of a written file, and its object.
use Rattle.std.proofs.Common.{◌≡◌, inl, inr, ℕ, ℤ, zero, suc, ◌+◌, ◌*◌, ◌/◌, ◌%◌, ◌^◌, ◌<◌, ◌≤◌, ◌==◌, ◌&&◌, true, false, if◌then◌else◌, List, [], ◌∷◌, ◌++◌, append_assoc, drop, drop-drop, flat_map, length, take, refl, sym, ap, ap₂, ◌∙◌, arith}
use Rattle.std.proofs.lemmas.Bool.{and_left, and_right, cases_Bool, eqb-true, not-false}
use Rattle.std.proofs.lemmas.List.{drop-append-le}
use Rattle.ad_elf.specs.declared.elf.TheConstants.{RELA_BYTES, SHT_RELA}
use Rattle.ad_elf.specs.declared.object.Rela.{Rela}
use Rattle.ad_elf.specs.Below.{each, joined}
use Rattle.ad_elf.specs.Fields.{header as read_at, rela_at, rela_entry}
use Rattle.ad_elf.specs.File.{Says, has_kept_relas, is_kept as is_kept_in, kept_relas, rela as rela_in, relas, relas_of}
use Rattle.ad_elf.proofs.Below.{joined-more, joined-zero}
use Rattle.ad_elf.proofs.Encoded.{rela_at-bytes, section_header}
use Rattle.ad_elf.proofs.Encoded.{rela_entry as entry_of}
use Rattle.ad_kit.specs.ObjectFile.{end_of, has_relas, number, object_file, rela, relas_bytes, to_relas}
use Rattle.ad_kit.specs.ReadBack.{AreFit, is_kept, no_rela, no_section, number_behind, object_of, rela_behind, rela_of, relas_said, section_behind}
use Rattle.ad_kit.specs.Writable.{IsWritable}
use Rattle.ad_kit.specs.declared.object.KitSection.{KitSection}
use Rattle.ad_kit.specs.declared.object.KitSymbol.{KitSymbol}
use Rattle.ad_kit.proofs.Counted.{joined_numbers}
use Rattle.ad_kit.proofs.Headed.{count-is, length-rela, length-relas}
use Rattle.ad_kit.proofs.Located.{heads, part_behind, stands_relas}
use Rattle.ad_kit.proofs.Pieces.{drop-pieces}
use Rattle.ad_kit.proofs.Said.{kept_given, read_given, read_names, read_null, read_relas, read_strings, read_symbols, sections-are, unkept}
use Rattle.ad_kit.proofs.Tabled.{HasNoTable, symbols-are}

-- an entry of the relocations of a section
pub entry_given : (ss : List KitSection) (ys : List KitSymbol) → IsWritable ss ys → AreFit ss ys → (k : ℕ) → k < length ss → has_relas (section_behind ss k) ≡ true → (j : ℕ) → j < length (section_behind ss k).relas
    → rela_entry (object_file ss ys) (read_at (object_file ss ys) (number_behind ss k + 1)) j ≡ (let r = rela_behind (section_behind ss k) j in entry_of r.offset (r.symbol * 2 ^ 32 + r.typ) r.addend)
entry_given ss ys w fit k below some j less =
    let file = object_file ss ys in
    let s = section_behind ss k in
    let r = rela_behind s j in
    let front = to_relas ss ++ relas_bytes (take k ss) in
    let stands = stands_relas ss ys k below in
    let behind = stands.rest ++ heads ss ys in
    let all = flat_map rela s.relas in
    let more = flat_map rela (drop (j + 1) s.relas) in
    let inside : 24 * j ≤ length all = omega (arith, length-relas s.relas) in
    let at : (read_at file (number_behind ss k + 1)).offset + RELA_BYTES * j ≡ end_of front + 24 * j = omega (arith, ap (λ h. h.offset) (read_relas ss ys w fit k below some)) in
    let here : drop (end_of front + 24 * j) file ≡ rela r ++ (more ++ behind) =
    sym (drop-drop (24 * j) (end_of front) file) ∙ ap (λ (x : List ℕ). drop (24 * j) x) (part_behind ss ys front all stands)
    ∙ drop-append-le (24 * j) all behind inside ∙ ap (λ (x : List ℕ). x ++ behind) (drop-pieces rela 24 length-rela s.relas j no_rela less) ∙ append_assoc (rela r) more behind in
    let fits = fit.relas k no_section below j no_rela less in
    let low : r.symbol < 2 ^ 32 = w.symbols k no_section below j no_rela less in
    let small : r.symbol * 2 ^ 32 + r.typ < 2 ^ 64 = omega (arith, low, fits.typ) in
    ap (rela_at file) at ∙ rela_at-bytes file (more ++ behind) (end_of front + 24 * j) r.offset (r.symbol * 2 ^ 32 + r.typ) r.addend fits.offset small fits.addend here

-- what an object says of it
rela_with : ℕ → ℕ → ℕ → ℕ → ℕ → ℕ → ℤ → Rela
rela_with i j t o s y a = record { section = i; entry = j; target = t; offset = o; symbol = s; typ = y; addend = a }

pub rela_given : (ss : List KitSection) (ys : List KitSymbol) → IsWritable ss ys → AreFit ss ys → (k : ℕ) → k < length ss → has_relas (section_behind ss k) ≡ true → (j : ℕ) → j < length (section_behind ss k).relas
    → rela_in (object_file ss ys) (number_behind ss k + 1) j ≡ rela_of (number_behind ss k) j (rela_behind (section_behind ss k) j)
unfolding rela_in rela_of rela_with
rela_given ss ys w fit k below some j less =
    let r = rela_behind (section_behind ss k) j in
    let e = entry_given ss ys w fit k below some j less in
    let target = ap (λ h. h.info) (read_relas ss ys w fit k below some) in
    let low : r.symbol < 2 ^ 32 = w.symbols k no_section below j no_rela less in
    let typ_low : r.typ < 2 ^ 32 = (fit.relas k no_section below j no_rela less).typ in
    let high : (r.symbol * 2 ^ 32 + r.typ) / 2 ^ 32 ≡ r.symbol = omega arith in
    let rest : (r.symbol * 2 ^ 32 + r.typ) % 2 ^ 32 ≡ r.typ = omega arith in
    let symbol = ap (λ h. h.info / 2 ^ 32) e ∙ high in
    let typ = ap (λ h. h.info % 2 ^ 32) e ∙ rest in
    λ i. rela_with (number_behind ss k + 1) j (target i) (e i).offset (symbol i) (typ i) (e i).addend

each-same : {X : Type 0} (f g : ℕ → X) (n : ℕ) → ((i : ℕ) → i < n → f i ≡ g i) → each f n ≡ each g n
each-same f g zero same = joined-zero (λ i. f i ∷ []) ∙ sym (joined-zero (λ i. g i ∷ []))
each-same f g (suc n) same =
    let one : suc n ≡ n + 1 = omega arith in
    rw (one, joined-more (λ i. f i ∷ []) n, joined-more (λ i. g i ∷ []) n) (ap₂ (λ (a : List _) (b : _). a ++ b ∷ []) (each-same f g n (λ i below. same i (omega arith))) (same n (omega arith)))

relas_of-given : (ss : List KitSection) (ys : List KitSymbol) → IsWritable ss ys → AreFit ss ys → (k : ℕ) → k < length ss → has_relas (section_behind ss k) ≡ true
    → relas_of (object_file ss ys) (number_behind ss k + 1) ≡ each (λ j. rela_of (number_behind ss k) j (rela_behind (section_behind ss k) j)) (length (section_behind ss k).relas)
unfolding relas_of
relas_of-given ss ys w fit k below some =
    let file = object_file ss ys in
    let i = number_behind ss k + 1 in
    let s = section_behind ss k in
    let count : (read_at file i).size / RELA_BYTES ≡ length s.relas = omega (arith, ap (λ h. h.size) (read_relas ss ys w fit k below some)) in
    ap (λ (n : ℕ). each (rela_in file i) n) count ∙ each-same (rela_in file i) (λ j. rela_of (number_behind ss k) j (rela_behind s j)) (length s.relas) (rela_given ss ys w fit k below some)

-- the relocations of a section are kept where the section is
pub relas_kept : (ss : List KitSection) (ys : List KitSymbol) → IsWritable ss ys → AreFit ss ys → (k : ℕ) → k < length ss → has_relas (section_behind ss k) ≡ true
    → has_kept_relas (object_file ss ys) (read_at (object_file ss ys) (number_behind ss k + 1)) ≡ is_kept (section_behind ss k)
unfolding has_kept_relas
relas_kept ss ys w fit k below some =
    ap (λ h. (h.typ == SHT_RELA) && is_kept_in (object_file ss ys) h.info) (read_relas ss ys w fit k below some) ∙ kept_given ss ys w fit k below

kept_relas-given : (ss : List KitSection) (ys : List KitSymbol) → IsWritable ss ys → AreFit ss ys → (k : ℕ) → k < length ss → has_relas (section_behind ss k) ≡ true
    → kept_relas (object_file ss ys) (number_behind ss k + 1) ≡ relas_said ss k
unfolding relas_said
kept_relas-given ss ys w fit k below some =
    elim (cases_Bool (is_kept (section_behind ss k))) [
      | inl kept ↦ rw (relas_kept ss ys w fit k below some, kept) (relas_of-given ss ys w fit k below some)
      | inr other ↦ rw (relas_kept ss ys w fit k below some, other) refl
    ]

-- sections of other types have none
kept_relas-none : (file : List ℕ) (i : ℕ) → has_kept_relas file (read_at file i) ≡ false → kept_relas file i ≡ []
kept_relas-none file i none = rw none refl

no_relas : (file : List ℕ) (i n t f o s l j a e : ℕ) → read_at file i ≡ section_header n t f o s l j a e → (t == SHT_RELA) ≡ false → kept_relas file i ≡ []
unfolding has_kept_relas
no_relas file i n t f o s l j a e is other =
    kept_relas-none file i (ap (λ h. (h.typ == SHT_RELA) && is_kept_in file h.info) is ∙ and_left (t == SHT_RELA) (is_kept_in file j) other)

-- a section that is given applies to none
pub no_relas-given : (ss : List KitSection) (ys : List KitSymbol) → IsWritable ss ys → AreFit ss ys → (k : ℕ) → k < length ss → kept_relas (object_file ss ys) (number_behind ss k) ≡ []
unfolding has_kept_relas
no_relas-given ss ys w fit k below =
    let file = object_file ss ys in
    let s = section_behind ss k in
    let none : is_kept_in file 0 ≡ false = unkept file 0 _ _ _ _ _ _ _ _ (read_null ss ys w fit) in
    kept_relas-none file (number_behind ss k) (ap (λ h. (h.typ == SHT_RELA) && is_kept_in file h.info) (read_given ss ys w fit k below) ∙ and_right (s.typ == SHT_RELA) (is_kept_in file 0) none)

relas_said-none : (ss : List KitSection) (k : ℕ) → has_relas (section_behind ss k) ≡ false → relas_said ss k ≡ []
unfolding relas_said
relas_said-none ss k none =
    let s = section_behind ss k in
    let few : length s.relas ≡ 0 = eqb-true _ _ (not-false (length s.relas == 0) none) in
    let empty : each (λ j. rela_of (number_behind ss k) j (rela_behind s j)) (length s.relas) ≡ [] = ap (λ (n : ℕ). each (λ j. rela_of (number_behind ss k) j (rela_behind s j)) n) few ∙ joined-zero (λ j. rela_of (number_behind ss k) j (rela_behind s j) ∷ []) in
    elim (cases_Bool (is_kept s)) [
      | inl kept ↦ rw kept empty
      | inr other ↦ rw other refl
    ]

relas_by_section : (ss : List KitSection) (ys : List KitSymbol) → IsWritable ss ys → AreFit ss ys → (k : ℕ) → k < length ss
    → kept_relas (object_file ss ys) (number_behind ss k) ++ (if has_relas (section_behind ss k) then kept_relas (object_file ss ys) (number_behind ss k + 1) else []) ≡ relas_said ss k
relas_by_section ss ys w fit k below =
    elim (cases_Bool (has_relas (section_behind ss k))) [
      | inl some ↦ rw (no_relas-given ss ys w fit k below, some) (kept_relas-given ss ys w fit k below some)
      | inr none ↦ rw (no_relas-given ss ys w fit k below, none) (sym (relas_said-none ss k none))
    ]

pub relas-are : (ss : List KitSection) (ys : List KitSymbol) → IsWritable ss ys → AreFit ss ys → relas (object_file ss ys) ≡ joined (relas_said ss) (length ss)
relas-are ss ys w fit =
    let file = object_file ss ys in
    ap (λ (n : ℕ). joined (kept_relas file) n) (count-is ss ys w)
    ∙ joined_numbers (kept_relas file) (relas_said ss) ss
    (no_relas file 0 _ _ _ _ _ _ _ _ _ (read_null ss ys w fit) refl)
    (relas_by_section ss ys w fit)
    (no_relas file (number ss) _ _ _ _ _ _ _ _ _ (read_symbols ss ys w fit) refl)
    (no_relas file (number ss + 1) _ _ _ _ _ _ _ _ _ (read_strings ss ys w fit) refl)
    (no_relas file (number ss + 2) _ _ _ _ _ _ _ _ _ (read_names ss ys w fit) refl)

-- the file says its object
pub Says-written : (ss : List KitSection) (ys : List KitSymbol) → IsWritable ss ys → AreFit ss ys → HasNoTable ss → Says (object_file ss ys) (object_of ss ys)
unfolding object_of
Says-written ss ys w fit none = record {
  sections_said = sym (sections-are ss ys w fit);
  symbols_said = sym (symbols-are ss ys w fit none);
  relas_said = sym (relas-are ss ys w fit);
}
