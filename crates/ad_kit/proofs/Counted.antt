-- The sections of a written file, by their numbers.
use Rattle.std.proofs.Common.{◌≡◌, inl, inr, ℕ, zero, suc, ◌+◌, ◌<◌, ◌≤◌, true, false, if◌then◌else◌, List, [], ◌∷◌, ◌++◌, append_assoc, codes, flat_map, get_or, length, take, refl, subst, sym, ap, ap₂, ◌∙◌, arith, length-append}
use Rattle.std.proofs.Math.Seq.{get_or-append-add, take-length}
use Rattle.std.proofs.lemmas.Bool.{cases_Bool, cases_lt}
use Rattle.std.proofs.lemmas.List.{append-nil, get_or_append_left}
use Rattle.std.proofs.lemmas.List.Folds.{length-flat_map-take}
use Rattle.ad_elf.specs.Below.{joined, total}
use Rattle.ad_elf.proofs.Below.{joined-more, joined-zero, total-more, total-zero}
use Rattle.ad_kit.specs.ObjectFile.{end_of, has_relas, header_of, headers, headers_behind, headers_of, names_of, null_header, number, place, rela_header, section_names, strings, strings_header, symbol_names, symbols_header, to_names, to_strings}
use Rattle.ad_kit.specs.ReadBack.{no_section, number_behind, section_behind}
use Rattle.ad_kit.specs.declared.header.Header.{Header}
use Rattle.ad_kit.specs.declared.object.KitSection.{KitSection}
use Rattle.ad_kit.specs.declared.object.KitSymbol.{KitSymbol}
use Rattle.ad_kit.proofs.Numbers.{length-headers_of, number-more}

-- a header by its place among those of the sections that were given
behind_at : (ss before later : List KitSection) (k j : ℕ) (d : KitSection) (e : Header) → k < length later → j < length (names_of (get_or later k d))
    → get_or (headers_behind ss before later) (length (flat_map names_of (take k later)) + j) e ≡ get_or (headers_of ss (before ++ take k later) (get_or later k d)) j e
unfolding headers_behind
behind_at ss before [] k j d e below inside = absurd (omega arith)
behind_at ss before (s ∷ later) zero j d e below inside =
    let start : length (flat_map names_of (take 0 (s ∷ later))) + j ≡ j = omega arith in
    rw (start, append-nil before) (get_or_append_left (headers_of ss before s) (headers_behind ss (before ++ s ∷ []) later) e j (omega (arith, length-headers_of ss before s)))
behind_at ss before (s ∷ later) (suc k) j d e below inside =
    let behind = length (flat_map names_of (take k later)) + j in
    let index : length (flat_map names_of (take (suc k) (s ∷ later))) + j ≡ length (headers_of ss before s) + behind = omega (arith, length-append (names_of s) (flat_map names_of (take k later)), length-headers_of ss before s) in
    ap (λ (i : ℕ). get_or (headers_behind ss before (s ∷ later)) i e) index
    ∙ get_or-append-add (headers_of ss before s) (headers_behind ss (before ++ s ∷ []) later) behind e
    ∙ behind_at ss (before ++ s ∷ []) later k j d e (omega arith) inside
    ∙ ap (λ (b : List KitSection). get_or (headers_of ss b (get_or later k d)) j e) (append_assoc before (s ∷ []) (take k later))

length-behind : (ss before later : List KitSection) → length (headers_behind ss before later) ≡ length (flat_map names_of later)
unfolding headers_behind
length-behind ss before [] = refl
length-behind ss before (s ∷ later) =
    omega (arith, length-append (headers_of ss before s) (headers_behind ss (before ++ s ∷ []) later), length-headers_of ss before s, length-behind ss (before ++ s ∷ []) later, length-append (names_of s) (flat_map names_of later))

-- the last three headers
abbrev pub last_headers : List KitSection → List KitSymbol → List Header
last_headers ss ys =
    symbols_header ss ys
    ∷ strings_header (place (section_names ss) (codes ".strtab")) (end_of (to_strings ss ys)) (length (strings (symbol_names ys)))
    ∷ strings_header (place (section_names ss) (codes ".shstrtab")) (end_of (to_names ss ys)) (length (strings (section_names ss)))
    ∷ []

pub length-headers : (ss : List KitSection) (ys : List KitSymbol) → length (headers ss ys) ≡ number ss + 3
length-headers ss ys = omega (arith, length-append (headers_behind ss [] ss) (last_headers ss ys), length-behind ss [] ss)

names_below : (ss : List KitSection) (k j : ℕ) (d : KitSection) → k < length ss → j < length (names_of (get_or ss k d)) → length (flat_map names_of (take k ss)) + j < length (flat_map names_of ss)
names_below ss k j d below inside = omega (arith, length-flat_map-take names_of ss k d below)

-- the header of a section that was given, and that of its relocations
header_by : (ss : List KitSection) (ys : List KitSymbol) (k j : ℕ) → k < length ss → j < length (names_of (section_behind ss k)) → get_or (headers ss ys) (number_behind ss k + j) null_header ≡ get_or (headers_of ss (take k ss) (section_behind ss k)) j null_header
header_by ss ys k j below inside =
    let behind = length (flat_map names_of (take k ss)) + j in
    let index : number_behind ss k + j ≡ suc behind = omega arith in
    ap (λ (i : ℕ). get_or (headers ss ys) i null_header) index
    ∙ get_or_append_left (headers_behind ss [] ss) (last_headers ss ys) null_header behind (omega (arith, length-behind ss [] ss, names_below ss k j no_section below inside))
    ∙ behind_at ss [] ss k j no_section null_header below inside

some_name : (s : KitSection) → 0 < length (names_of s)
unfolding names_of
some_name s = omega arith

pub names_with : (s : KitSection) → has_relas s ≡ true → length (names_of s) ≡ 2
unfolding names_of
names_with s some = rw some refl

pub names_without : (s : KitSection) → has_relas s ≡ false → length (names_of s) ≡ 1
unfolding names_of
names_without s none = rw none refl

first_header : (ss before : List KitSection) (s : KitSection) → get_or (headers_of ss before s) 0 null_header ≡ header_of ss before s
unfolding headers_of
first_header ss before s = refl

second_header : (ss before : List KitSection) (s : KitSection) → has_relas s ≡ true → get_or (headers_of ss before s) 1 null_header ≡ rela_header ss before s
unfolding headers_of
second_header ss before s some = rw some refl

pub header_given : (ss : List KitSection) (ys : List KitSymbol) (k : ℕ) → k < length ss → get_or (headers ss ys) (number_behind ss k) null_header ≡ header_of ss (take k ss) (section_behind ss k)
header_given ss ys k below =
    let index : number_behind ss k ≡ number_behind ss k + 0 = omega arith in
    ap (λ (i : ℕ). get_or (headers ss ys) i null_header) index ∙ header_by ss ys k 0 below (some_name (section_behind ss k)) ∙ first_header ss (take k ss) (section_behind ss k)

pub header_relas : (ss : List KitSection) (ys : List KitSymbol) (k : ℕ) → k < length ss → has_relas (section_behind ss k) ≡ true → get_or (headers ss ys) (number_behind ss k + 1) null_header ≡ rela_header ss (take k ss) (section_behind ss k)
header_relas ss ys k below some =
    header_by ss ys k 1 below (omega (arith, names_with (section_behind ss k) some)) ∙ second_header ss (take k ss) (section_behind ss k) some

pub header_last : (ss : List KitSection) (ys : List KitSymbol) (j : ℕ) → get_or (headers ss ys) (number ss + j) null_header ≡ get_or (last_headers ss ys) j null_header
header_last ss ys j =
    let index : number ss + j ≡ suc (length (headers_behind ss [] ss) + j) = omega (arith, length-behind ss [] ss) in
    ap (λ (i : ℕ). get_or (headers ss ys) i null_header) index ∙ get_or-append-add (headers_behind ss [] ss) (last_headers ss ys) j null_header

-- the number behind one section more, and behind all
pub behind_more : (ss : List KitSection) (k : ℕ) → k < length ss → number_behind ss (suc k) ≡ number_behind ss k + length (names_of (section_behind ss k))
behind_more ss k below =
    let one : suc k ≡ k + 1 = omega arith in
    ap (λ (n : ℕ). number_behind ss n) one ∙ number-more ss k no_section below

pub behind_all : (ss : List KitSection) → number_behind ss (length ss) ≡ number ss
behind_all ss = ap number (take-length ss)

-- what holds of the numbers of the sections holds of all numbers up to there
holds_below : (P : ℕ → Type 0) (ss : List KitSection) → P 0 → ((k : ℕ) → k < length ss → P (number_behind ss k)) → ((k : ℕ) → k < length ss → has_relas (section_behind ss k) ≡ true → P (number_behind ss k + 1))
    → (m : ℕ) → m ≤ length ss → (i : ℕ) → i < number_behind ss m → P i
holds_below P ss none given relas zero le i below =
    let first : 0 ≡ i = omega arith in
    subst P first none
holds_below P ss none given relas (suc m) le i below =
    let more = behind_more ss m (omega arith) in
    elim (cases_lt i (number_behind ss m)) [
      | inl before ↦ holds_below P ss none given relas m (omega arith) i before
      | inr from ↦
          elim (cases_lt i (number_behind ss m + 1)) [
            | inl here ↦ (
                let same : number_behind ss m ≡ i = omega arith in
                subst P same (given m (omega arith)))
            | inr next ↦
                elim (cases_Bool (has_relas (section_behind ss m))) [
                  | inl some ↦ (
                      let same : number_behind ss m + 1 ≡ i = omega (arith, more, names_with (section_behind ss m) some, below, next) in
                      subst P same (relas m (omega arith) some))
                  | inr other ↦ absurd (omega (arith, more, names_without (section_behind ss m) other, below, next))
                ]
          ]
    ]

-- what holds of the number of each section holds of all numbers
pub each_number : (P : ℕ → Type 0) (ss : List KitSection) → P 0 → ((k : ℕ) → k < length ss → P (number_behind ss k)) → ((k : ℕ) → k < length ss → has_relas (section_behind ss k) ≡ true → P (number_behind ss k + 1))
    → P (number ss) → P (number ss + 1) → P (number ss + 2) → (i : ℕ) → i < number ss + 3 → P i
each_number P ss none given relas p q r i below =
    elim (cases_lt i (number ss)) [
      | inl before ↦ holds_below P ss none given relas (length ss) (omega arith) i (omega (arith, behind_all ss))
      | inr from ↦
          elim (cases_lt i (number ss + 1)) [
            | inl first ↦ (
                let same : number ss ≡ i = omega arith in
                subst P same p)
            | inr next ↦
                elim (cases_lt i (number ss + 2)) [
                  | inl second ↦ (
                      let same : number ss + 1 ≡ i = omega arith in
                      subst P same q)
                  | inr last ↦ (
                      let same : number ss + 2 ≡ i = omega arith in
                      subst P same r)
                ]
          ]
    ]

-- the lists that the numbers give, section by section
joined_below : {X : Type 0} (f g : ℕ → List X) (ss : List KitSection) → f 0 ≡ []
    → ((k : ℕ) → k < length ss → f (number_behind ss k) ++ (if has_relas (section_behind ss k) then f (number_behind ss k + 1) else []) ≡ g k)
    → (m : ℕ) → m ≤ length ss → joined f (number_behind ss m) ≡ joined g m
joined_below f g ss none same zero le = joined-more f 0 ∙ ap₂ (λ (a b : List _). a ++ b) (joined-zero f) none ∙ sym (joined-zero g)
joined_below f g ss none same (suc m) le =
    let n = number_behind ss m in
    let s = section_behind ss m in
    let one : suc m ≡ m + 1 = omega arith in
    let more = behind_more ss m (omega arith) in
    let before = joined_below f g ss none same m (omega arith) in
    let here = same m (omega arith) in
    let last : joined g (suc m) ≡ joined g m ++ g m = ap (λ (k : ℕ). joined g k) one ∙ joined-more g m in
    elim (cases_Bool (has_relas s)) [
      | inl some ↦ (
          let two : number_behind ss (suc m) ≡ n + 1 + 1 = omega (arith, more, names_with s some) in
          let both : f n ++ f (n + 1) ≡ g m = (rw some at here) in
          ap (λ (k : ℕ). joined f k) two ∙ joined-more f (n + 1) ∙ ap (λ (a : List _). a ++ f (n + 1)) (joined-more f n) ∙ append_assoc (joined f n) (f n) (f (n + 1)) ∙ ap₂ (λ (a b : List _). a ++ b) before both ∙ sym last)
      | inr other ↦ (
          let next : number_behind ss (suc m) ≡ n + 1 = omega (arith, more, names_without s other) in
          let alone : f n ++ [] ≡ g m = (rw other at here) in
          ap (λ (k : ℕ). joined f k) next ∙ joined-more f n ∙ ap₂ (λ (a b : List _). a ++ b) before (sym (append-nil (f n)) ∙ alone) ∙ sym last)
    ]

pub joined_numbers : {X : Type 0} (f g : ℕ → List X) (ss : List KitSection) → f 0 ≡ []
    → ((k : ℕ) → k < length ss → f (number_behind ss k) ++ (if has_relas (section_behind ss k) then f (number_behind ss k + 1) else []) ≡ g k)
    → f (number ss) ≡ [] → f (number ss + 1) ≡ [] → f (number ss + 2) ≡ [] → joined f (number ss + 3) ≡ joined g (length ss)
joined_numbers f g ss none same p q r =
    let n = number ss in
    let three : n + 3 ≡ n + 2 + 1 = omega arith in
    let two : n + 2 ≡ n + 1 + 1 = omega arith in
    let last : joined f (n + 3) ≡ joined f (n + 2) = ap (λ (k : ℕ). joined f k) three ∙ joined-more f (n + 2) ∙ ap (λ (a : List _). joined f (n + 2) ++ a) r ∙ append-nil (joined f (n + 2)) in
    let second : joined f (n + 2) ≡ joined f (n + 1) = ap (λ (k : ℕ). joined f k) two ∙ joined-more f (n + 1) ∙ ap (λ (a : List _). joined f (n + 1) ++ a) q ∙ append-nil (joined f (n + 1)) in
    let first : joined f (n + 1) ≡ joined f n = joined-more f n ∙ ap (λ (a : List _). joined f n ++ a) p ∙ append-nil (joined f n) in
    last ∙ second ∙ first ∙ ap (λ (k : ℕ). joined f k) (sym (behind_all ss)) ∙ joined_below f g ss none same (length ss) (omega arith)

-- a sum over the numbers, by what it may be behind each section
total_below : (f bound : ℕ → ℕ) (ss : List KitSection) → f 0 ≡ 0
    → ((k : ℕ) → k < length ss → bound k + f (number_behind ss k) + (if has_relas (section_behind ss k) then f (number_behind ss k + 1) else 0) ≤ bound (k + 1))
    → (m : ℕ) → m ≤ length ss → total f (number_behind ss m) ≤ bound m
total_below f bound ss none step zero le = omega (arith, total-more f 0, total-zero f, none)
total_below f bound ss none step (suc m) le =
    let n = number_behind ss m in
    let s = section_behind ss m in
    let one : bound (suc m) ≡ bound (m + 1) = (let e : suc m ≡ m + 1 = omega arith in ap bound e) in
    let more = behind_more ss m (omega arith) in
    let before = total_below f bound ss none step m (omega arith) in
    let here = step m (omega arith) in
    elim (cases_Bool (has_relas s)) [
      | inl some ↦ (
          let two : number_behind ss (suc m) ≡ n + 1 + 1 = omega (arith, more, names_with s some) in
          let both : bound m + f n + f (n + 1) ≤ bound (m + 1) = (rw some at here) in
          rw (two, one) (omega (arith, total-more f (n + 1), total-more f n, before, both)))
      | inr other ↦ (
          let next : number_behind ss (suc m) ≡ n + 1 = omega (arith, more, names_without s other) in
          let alone : bound m + f n + 0 ≤ bound (m + 1) = (rw other at here) in
          rw (next, one) (omega (arith, total-more f n, before, alone)))
    ]

pub total_numbers : (f bound : ℕ → ℕ) (ss : List KitSection) → f 0 ≡ 0
    → ((k : ℕ) → k < length ss → bound k + f (number_behind ss k) + (if has_relas (section_behind ss k) then f (number_behind ss k + 1) else 0) ≤ bound (k + 1))
    → total f (number ss + 3) ≤ bound (length ss) + f (number ss) + f (number ss + 1) + f (number ss + 2)
total_numbers f bound ss none step =
    let n = number ss in
    let three : n + 3 ≡ n + 2 + 1 = omega arith in
    let two : n + 2 ≡ n + 1 + 1 = omega arith in
    let below : total f n ≤ bound (length ss) = subst (λ (k : ℕ). total f k ≤ bound (length ss)) (behind_all ss) (total_below f bound ss none step (length ss) (omega arith)) in
    let last : total f (n + 3) ≡ total f (n + 2) + f (n + 2) = ap (λ (k : ℕ). total f k) three ∙ total-more f (n + 2) in
    let second : total f (n + 2) ≡ total f (n + 1) + f (n + 1) = ap (λ (k : ℕ). total f k) two ∙ total-more f (n + 1) in
    omega (arith, below, last, second, total-more f n)

-- a sum up to a number below another
pub total_within : (f : ℕ → ℕ) (n i : ℕ) → i < n → total f i + f i ≤ total f n
total_within f zero i below = absurd (omega arith)
total_within f (suc n) i below =
    let more : total f (suc n) ≡ total f n + f n = (let e : suc n ≡ n + 1 = omega arith in ap (λ (k : ℕ). total f k) e ∙ total-more f n) in
    elim (cases_lt i n) [
      | inl less ↦ omega (arith, more, total_within f n i less)
      | inr last ↦ (
          let same : i ≡ n = omega arith in
          rw same (omega (arith, more)))
    ]
