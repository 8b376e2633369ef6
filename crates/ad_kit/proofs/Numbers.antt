-- The headers of the section table, and the names of their sections.
use Rattle.std.proofs.Common.{◌≡◌, inl, inr, ℕ, ◌+◌, ◌*◌, ◌<◌, ◌≤◌, true, List, [], ◌∷◌, ◌++◌, append_assoc, add-one, drop, flat_map, get_or, length, map, sum_by, take, refl, sym, ap, ap₂, ◌∙◌, arith}
use Rattle.std.proofs.Math.Seq.{drop-cons}
use Rattle.std.proofs.lemmas.Bool.{cases_Bool}
use Rattle.std.proofs.lemmas.List.{append-nil, drop_all, flat_map_more, get_or-append-add, get_or-map, get_or_append_left, length-append, length-map, take_more}
use Rattle.std.proofs.lemmas.List.Concat.{get_or-flat_map}
use Rattle.std.proofs.lemmas.List.Folds.{length-flat_map-take}
use Rattle.std.proofs.lemmas.List.Sums.{sum_by-append, sum_by-cons}
use Rattle.ad_kit.specs.ObjectFile.{has_relas, header_names, headers_behind, headers_of, last_names, names, names_of, number, place, rela_name}
use Rattle.ad_kit.specs.declared.header.Header.{Header}
use Rattle.ad_kit.specs.declared.object.KitSection.{KitSection}
use Rattle.ad_kit.specs.declared.object.KitSymbol.{KitSymbol}

-- a section has as many headers as names
pub length-headers_of : (ss before : List KitSection) (s : KitSection) → length (headers_of ss before s) ≡ length (names_of s)
unfolding headers_of names_of
length-headers_of ss before s =
    elim (cases_Bool (has_relas s)) [
      | inl some ↦ (rw some refl)
      | inr none ↦ (rw none refl)
    ]

pub few_names : (s : KitSection) → length (names_of s) ≤ 2
unfolding names_of
few_names s =
    elim (cases_Bool (has_relas s)) [
      | inl some ↦ (rw some (omega arith))
      | inr none ↦ (rw none (omega arith))
    ]

pub number-more : (ss : List KitSection) (k : ℕ) (d : KitSection) → k < length ss → number (take (k + 1) ss) ≡ number (take k ss) + length (names_of (get_or ss k d))
number-more ss k d below =
    let pieces = flat_map_more names_of [] (take k ss) (get_or ss k d) in
    rw (take_more ss k d below) (omega (arith, ap length (sym pieces), length-append (flat_map names_of (take k ss)) (names_of (get_or ss k d))))

-- one section more
pub headers_more : (ss : List KitSection) (k : ℕ) (d : KitSection) (old new whole : List Header) → k < length ss → new ≡ old ++ headers_of ss (take k ss) (get_or ss k d)
    → old ++ headers_behind ss (take k ss) (drop k ss) ≡ whole → new ++ headers_behind ss (take (k + 1) ss) (drop (k + 1) ss) ≡ whole
unfolding headers_behind
headers_more ss k d old new whole below pushed before =
    let s = get_or ss k d in
    let rest : drop k ss ≡ s ∷ drop (k + 1) ss = rw add-one (drop-cons ss k d below) in
    let more : take (k + 1) ss ≡ take k ss ++ s ∷ [] = take_more ss k d below in
    let split : headers_behind ss (take k ss) (drop k ss) ≡ headers_of ss (take k ss) s ++ headers_behind ss (take (k + 1) ss) (drop (k + 1) ss) = rw (rest, more) refl in
    rw (pushed, append_assoc) (ap (λ (x : List Header). old ++ x) (sym split) ∙ before)

pub headers_all : (ss : List KitSection) (k : ℕ) (old whole : List Header) → length ss ≤ k → old ++ headers_behind ss (take k ss) (drop k ss) ≡ whole → old ≡ whole
unfolding headers_behind
headers_all ss k old whole all e =
    let none : drop k ss ≡ [] = drop_all k ss all in
    let rest : headers_behind ss (take k ss) (drop k ss) ≡ [] = rw none refl in
    sym (append-nil old) ∙ ap (λ (x : List Header). old ++ x) (sym rest) ∙ e

-- the name of a section, and that of its relocations
pub name_below : (ss : List KitSection) (k j : ℕ) (d : KitSection) → k < length ss → j < length (names_of (get_or ss k d)) → length (flat_map names_of (take k ss)) + j < length (flat_map names_of ss)
name_below ss k j d below inside = omega (arith, inside, length-flat_map-take names_of ss k d below)

pub name_at : (ss : List KitSection) (k j : ℕ) (d : KitSection) (n : List ℕ) → k < length ss → j < length (names_of (get_or ss k d)) → get_or (header_names ss) (length (flat_map names_of (take k ss)) + j) n ≡ get_or (names_of (get_or ss k d)) j n
name_at ss k j d n below inside =
    get_or_append_left (flat_map names_of ss) last_names n (length (flat_map names_of (take k ss)) + j) (name_below ss k j d below inside)
    ∙ get_or-flat_map names_of ss k j d n below inside

place_at : (ns names : List (List ℕ)) (places : List ℕ) (i : ℕ) (n : List ℕ) → places ≡ map (place ns) names → i < length names → get_or places i 0 ≡ place ns (get_or names i n)
place_at ns names places i n are below = ap (λ (xs : List ℕ). get_or xs i 0) are ∙ get_or-map (place ns) names i n 0 below

pub names_before_last : (ss : List KitSection) → length (header_names ss) ≡ number ss + 2
names_before_last ss = omega (arith, length-append (flat_map names_of ss) last_names)

pub some_name : (s : KitSection) → 0 < length (names_of s)
unfolding names_of
some_name s = omega arith

pub two_names : (s : KitSection) → has_relas s ≡ true → 1 < length (names_of s)
unfolding names_of
two_names s some = rw some (omega arith)

pub first_name : (s : KitSection) (n : List ℕ) → get_or (names_of s) 0 n ≡ s.name
unfolding names_of
first_name s n = refl

pub second_name : (s : KitSection) (n : List ℕ) → has_relas s ≡ true → get_or (names_of s) 1 n ≡ rela_name s
unfolding names_of
second_name s n some = rw some refl

pub place_of_section : (ss : List KitSection) (ns : List (List ℕ)) (places : List ℕ) (k i : ℕ) (s : KitSection) → places ≡ map (place ns) (header_names ss) → k < length ss → s ≡ get_or ss k s → i ≡ length (flat_map names_of (take k ss))
    → (i < length (header_names ss)) × (get_or places i 0 ≡ place ns s.name)
place_of_section ss ns places k i s are below is at =
    let inside : 0 < length (names_of (get_or ss k s)) = some_name (get_or ss k s) in
    let low : i < length (header_names ss) = omega (arith, at, name_below ss k 0 s below inside, names_before_last ss) in
    let here : i ≡ length (flat_map names_of (take k ss)) + 0 = omega (arith, at) in
    let found = ap (λ (n : ℕ). get_or (header_names ss) n []) here ∙ name_at ss k 0 s [] below inside ∙ first_name (get_or ss k s) [] ∙ ap (λ (t : KitSection). t.name) (sym is) in
    (low, place_at ns (header_names ss) places i [] are low ∙ ap (place ns) found)

pub place_of_relas : (ss : List KitSection) (ns : List (List ℕ)) (places : List ℕ) (k i : ℕ) (s : KitSection) → places ≡ map (place ns) (header_names ss) → k < length ss → s ≡ get_or ss k s → has_relas s ≡ true → i ≡ length (flat_map names_of (take k ss)) + 1
    → (i < length (header_names ss)) × (get_or places i 0 ≡ place ns (rela_name s))
place_of_relas ss ns places k i s are below is some at =
    let more : has_relas (get_or ss k s) ≡ true = ap has_relas (sym is) ∙ some in
    let inside : 1 < length (names_of (get_or ss k s)) = two_names (get_or ss k s) more in
    let low : i < length (header_names ss) = omega (arith, at, name_below ss k 1 s below inside, names_before_last ss) in
    let found = ap (λ (n : ℕ). get_or (header_names ss) n []) at ∙ name_at ss k 1 s [] below inside ∙ second_name (get_or ss k s) [] more ∙ ap rela_name (sym is) in
    (low, place_at ns (header_names ss) places i [] are low ∙ ap (place ns) found)

-- the last three names
pub place_of_last : (ss : List KitSection) (ns : List (List ℕ)) (places : List ℕ) (i j : ℕ) → places ≡ map (place ns) (header_names ss) → i ≡ length (flat_map names_of ss) + j → j < 3
    → (i < length (header_names ss)) × (get_or places i 0 ≡ place ns (get_or last_names j []))
place_of_last ss ns places i j are at below =
    let low : i < length (header_names ss) = omega (arith, at, below, names_before_last ss) in
    let found = ap (λ (n : ℕ). get_or (header_names ss) n []) at ∙ get_or-append-add (flat_map names_of ss) last_names j [] in
    (low, place_at ns (header_names ss) places i [] are low ∙ ap (place ns) found)

-- the names are short
abbrev measure : List ℕ → ℕ
measure n = length n + 1

names_of_one : (s : KitSection) → sum_by measure (names_of s) ≤ 2 * length s.name + 7
unfolding names_of
names_of_one s =
    elim (cases_Bool (has_relas s)) [
      | inl some ↦ (rw some (omega arith))
      | inr none ↦ (rw none (omega arith))
    ]

names_of_all : (ss : List KitSection) → sum_by measure (flat_map names_of ss) ≤ 2 * sum_by (λ (s : KitSection). length s.name) ss + 7 * length ss
names_of_all [] = omega arith
names_of_all (s ∷ ss) =
    omega (arith, sum_by-append measure (names_of s) (flat_map names_of ss), names_of_one s, names_of_all ss, sum_by-cons (λ (t : KitSection). length t.name) s ss)

pub header_names-short : (ss : List KitSection) → sum_by measure (header_names ss) ≤ 2 * sum_by (λ (s : KitSection). length s.name) ss + 7 * length ss + 26
header_names-short ss = omega (arith, sum_by-append measure (flat_map names_of ss) last_names, names_of_all ss)

pub names-short : (ys : List KitSymbol) → sum_by measure (names ys) ≤ sum_by (λ (y : KitSymbol). length y.name) ys + length ys
names-short [] = omega arith
names-short (y ∷ ys) =
    omega (arith, sum_by-cons measure y.name (names ys), names-short ys, sum_by-cons (λ (z : KitSymbol). length z.name) y ys)

-- where the name of a symbol stands
pub place_of_symbol : (ys : List KitSymbol) (ns : List (List ℕ)) (places : List ℕ) (k : ℕ) (d : KitSymbol) → places ≡ map (place ns) (names ys) → k < length ys → get_or places k 0 ≡ place ns (get_or ys k d).name
place_of_symbol ys ns places k d are below =
    let low : k < length (names ys) = omega (arith, length-map ys (λ (y : KitSymbol). y.name)) in
    place_at ns (names ys) places k [] are low ∙ ap (place ns) (get_or-map (λ (y : KitSymbol). y.name) ys k d [] below)

pub count_more : (ss : List KitSection) (k : ℕ) (d : KitSection) (old new : List Header) → k < length ss → new ≡ old ++ headers_of ss (take k ss) (get_or ss k d) → length old ≡ number (take k ss) → length new ≡ number (take (k + 1) ss)
count_more ss k d old new below pushed had =
    omega (arith, ap length pushed, length-append old (headers_of ss (take k ss) (get_or ss k d)), length-headers_of ss (take k ss) (get_or ss k d), number-more ss k d below, had)

pub small_more : (ss : List KitSection) (k : ℕ) (d : KitSection) (old new : List Header) → new ≡ old ++ headers_of ss (take k ss) (get_or ss k d) → length old ≤ 2 * k + 1 → length new ≤ 2 * (k + 1) + 1
small_more ss k d old new pushed had =
    omega (arith, ap length pushed, length-append old (headers_of ss (take k ss) (get_or ss k d)), length-headers_of ss (take k ss) (get_or ss k d), few_names (get_or ss k d), had)

-- the last three headers, behind the others
pub three_more : (w x0 x1 x2 x3 : List Header) (a b c a' b' c' : Header) → x0 ≡ w → x1 ≡ x0 ++ a ∷ [] → x2 ≡ x1 ++ b ∷ [] → x3 ≡ x2 ++ c ∷ [] → a ≡ a' → b ≡ b' → c ≡ c' → x3 ≡ w ++ a' ∷ b' ∷ c' ∷ []
three_more w x0 x1 x2 x3 a b c a' b' c' e0 e1 e2 e3 ea eb ec =
    let one = e1 ∙ ap₂ (λ (z : List Header) (y : Header). z ++ y ∷ []) e0 ea in
    let two = e2 ∙ ap₂ (λ (z : List Header) (y : Header). z ++ y ∷ []) one eb in
    e3 ∙ ap₂ (λ (z : List Header) (y : Header). z ++ y ∷ []) two ec ∙ append_assoc (w ++ a' ∷ []) (b' ∷ []) (c' ∷ []) ∙ append_assoc w (a' ∷ []) (b' ∷ c' ∷ [])
