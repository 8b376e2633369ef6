-- The words in the order in which they stand.
use Rattle.std.proofs.Common.{◌≡◌, inl, inr, ℕ, zero, suc, ◌+◌, ◌-◌, ◌*◌, ◌/◌, ◌%◌, ◌<◌, ◌≤◌, List, ◌++◌, map, length, length-append, get_or, sym, refl, ap, ◌∙◌, subst, arith}
use Rattle.std.specs.List.{flat_map, range_with_len}
use Rattle.std.proofs.Math.Nat.{div-add-mod, mul-suc, suc-mul}
use Rattle.std.proofs.lemmas.Bool.{cases_lt}
use Rattle.std.proofs.lemmas.List.{ext_get_or, get_or-append-add, get_or_append_left}
use Rattle.std.proofs.lemmas.List.FromFn.{get_or-map-range_with_len, length-map-range_with_len}
use Rattle.ad_maps.specs.Names.{Name, Slot, Current, Directory, Owner, Cell, Count, Member, index, read, IsName, Words, AreWords, in_order}

-- what stands in an area, and past it
within : (xs rest : List ℕ) (n i x : ℕ) → length xs ≡ n → i < n → get_or xs i 0 ≡ x → get_or (xs ++ rest) i 0 ≡ x
within xs rest n i x long low is = get_or_append_left xs rest 0 i (omega arith) ∙ is

past : (xs rest : List ℕ) (n i j x : ℕ) → length xs ≡ n → j ≡ n + i → get_or rest i 0 ≡ x → get_or (xs ++ rest) j 0 ≡ x
past xs rest n i j x long at is = ap (λ (k : ℕ). get_or (xs ++ rest) k 0) (omega arith) ∙ (get_or-append-add xs rest i 0 ∙ is)

longer : (xs rest : List ℕ) (n m k : ℕ) → length xs ≡ n → length rest ≡ m → n + m ≡ k → length (xs ++ rest) ≡ k
longer xs rest n m k long rest_long sum = omega (arith, length-append xs rest)

-- an area of one word for each number
line-long : (f : ℕ → ℕ) (n : ℕ) → length (map f (range_with_len 0 n)) ≡ n
line-long f n = length-map-range_with_len f 0 n

line-at : (f : ℕ → ℕ) (n i : ℕ) → i < n → get_or (map f (range_with_len 0 n)) i 0 ≡ f i
line-at f n i low = get_or-map-range_with_len f 0 n i i 0 low (omega arith)

-- an area of rows, each of c words
module _ (f : ℕ → ℕ → ℕ) (c : ℕ) where
  abbrev rows : ℕ → ℕ → List ℕ
  rows a n = flat_map (λ (i : ℕ). map (f i) (range_with_len 0 c)) (range_with_len a n)

  rows-long : (n a : ℕ) → length (rows a n) ≡ n * c
  rows-long zero a = omega arith
  rows-long (suc n) a = omega (arith, length-append (map (f a) (range_with_len 0 c)) (rows (a + 1) n), line-long (f a) c, rows-long n (a + 1), suc-mul n c)

  rows-from : (n a k e : ℕ) → k < n → e < c → get_or (rows a n) (c * k + e) 0 ≡ f (a + k) e
  rows-from zero a k e low inside = absurd (omega arith)
  rows-from (suc n) a zero e low inside =
      let start : c * 0 + e ≡ e = omega arith in
      let same : a + 0 ≡ a = omega arith in
      ap (λ (j : ℕ). get_or (rows a (suc n)) j 0) start ∙ (within (map (f a) (range_with_len 0 c)) (rows (a + 1) n) c e (f a e) (line-long (f a) c) inside (line-at (f a) c e inside) ∙ ap (λ (j : ℕ). f j e) (sym same))
  rows-from (suc n) a (suc k) e low inside =
      let same : a + 1 + k ≡ a + suc k = omega arith in
      past (map (f a) (range_with_len 0 c)) (rows (a + 1) n) c (c * k + e) (c * suc k + e) (f (a + suc k) e) (line-long (f a) c) (omega (arith, mul-suc c k))
      (rows-from n (a + 1) k e (omega arith) inside ∙ ap (λ (j : ℕ). f j e) same)

  rows-at : (n k e : ℕ) → k < n → e < c → get_or (rows 0 n) (c * k + e) 0 ≡ f k e
  rows-at n k e low inside = rows-from n 0 k e low inside ∙ (let same : 0 + k ≡ k = omega arith in ap (λ (j : ℕ). f j e) same)

pub in_order-are : (ws : Words) → AreWords (in_order ws) ws
unfolding in_order
in_order-are ws = (to_members_long, by_name)
  where
    slots : List ℕ
    slots = map ws.slot (range_with_len 0 16)

    currents : List ℕ
    currents = map ws.current (range_with_len 0 8)

    directory : List ℕ
    directory = map ws.directory (range_with_len 0 65536)

    owners : List ℕ
    owners = map ws.owner (range_with_len 0 128)

    cells : List ℕ
    cells = rows ws.cell 512 0 128

    counts : List ℕ
    counts = map ws.count (range_with_len 0 4096)

    members : List ℕ
    members = rows ws.member 8 0 4096

    -- up to an area
    to_currents_long : length (slots ++ currents) ≡ 24
    to_currents_long = longer slots currents 16 8 24 (line-long ws.slot 16) (line-long ws.current 8) refl

    to_directory_long : length (slots ++ currents ++ directory) ≡ 65560
    to_directory_long = longer (slots ++ currents) directory 24 65536 65560 to_currents_long (line-long ws.directory 65536) refl

    to_owners_long : length (slots ++ currents ++ directory ++ owners) ≡ 65688
    to_owners_long = longer (slots ++ currents ++ directory) owners 65560 128 65688 to_directory_long (line-long ws.owner 128) refl

    to_cells_long : length (slots ++ currents ++ directory ++ owners ++ cells) ≡ 131224
    to_cells_long = longer (slots ++ currents ++ directory ++ owners) cells 65688 65536 131224 to_owners_long (rows-long ws.cell 512 128 0) refl

    to_counts_long : length (slots ++ currents ++ directory ++ owners ++ cells ++ counts) ≡ 135320
    to_counts_long = longer (slots ++ currents ++ directory ++ owners ++ cells) counts 131224 4096 135320 to_cells_long (line-long ws.count 4096) refl

    to_members_long : length (in_order ws) ≡ 168088
    to_members_long = longer (slots ++ currents ++ directory ++ owners ++ cells ++ counts) members 135320 32768 168088 to_counts_long (rows-long ws.member 8 4096 0) refl

    -- what stands up to an area stands there in the whole
    to_counts : (i x : ℕ) → i < 135320 → get_or (slots ++ currents ++ directory ++ owners ++ cells ++ counts) i 0 ≡ x → get_or (in_order ws) i 0 ≡ x
    to_counts i x low is = within (slots ++ currents ++ directory ++ owners ++ cells ++ counts) members 135320 i x to_counts_long low is

    to_cells : (i x : ℕ) → i < 131224 → get_or (slots ++ currents ++ directory ++ owners ++ cells) i 0 ≡ x → get_or (in_order ws) i 0 ≡ x
    to_cells i x low is = to_counts i x (omega arith) (within (slots ++ currents ++ directory ++ owners ++ cells) counts 131224 i x to_cells_long low is)

    to_owners : (i x : ℕ) → i < 65688 → get_or (slots ++ currents ++ directory ++ owners) i 0 ≡ x → get_or (in_order ws) i 0 ≡ x
    to_owners i x low is = to_cells i x (omega arith) (within (slots ++ currents ++ directory ++ owners) cells 65688 i x to_owners_long low is)

    to_directory : (i x : ℕ) → i < 65560 → get_or (slots ++ currents ++ directory) i 0 ≡ x → get_or (in_order ws) i 0 ≡ x
    to_directory i x low is = to_owners i x (omega arith) (within (slots ++ currents ++ directory) owners 65560 i x to_directory_long low is)

    to_currents : (i x : ℕ) → i < 24 → get_or (slots ++ currents) i 0 ≡ x → get_or (in_order ws) i 0 ≡ x
    to_currents i x low is = to_directory i x (omega arith) (within (slots ++ currents) directory 24 i x to_currents_long low is)

    by_name : (n : Name) → IsName n → get_or (in_order ws) (index n) 0 ≡ read ws n
    by_name (Slot s) h = let low : s < 16 = h in to_currents s (ws.slot s) (omega arith) (within slots currents 16 s (ws.slot s) (line-long ws.slot 16) low (line-at ws.slot 16 s low))
    by_name (Current m) h = let low : m < 8 = h in to_currents (16 + m) (ws.current m) (omega arith) (past slots currents 16 m (16 + m) (ws.current m) (line-long ws.slot 16) refl (line-at ws.current 8 m low))
    by_name (Directory r) h =
        let low : r < 65536 = h in
        to_directory (24 + r) (ws.directory r) (omega arith) (past (slots ++ currents) directory 24 r (24 + r) (ws.directory r) to_currents_long refl (line-at ws.directory 65536 r low))
    by_name (Owner f) h =
        let low : f < 128 = h in
        to_owners (65560 + f) (ws.owner f) (omega arith) (past (slots ++ currents ++ directory) owners 65560 f (65560 + f) (ws.owner f) to_directory_long refl (line-at ws.owner 128 f low))
    by_name (Cell f e) h =
        let low : f < 128 = h.0 in
        let inside : e < 512 = h.1 in
        let i : ℕ = 512 * f + e in
        to_cells (65688 + i) (ws.cell f e) (omega arith) (past (slots ++ currents ++ directory ++ owners) cells 65688 i (65688 + i) (ws.cell f e) to_owners_long refl (rows-at ws.cell 512 128 f e low inside))
    by_name (Count b) h =
        let low : b < 4096 = h in
        to_counts (131224 + b) (ws.count b) (omega arith) (past (slots ++ currents ++ directory ++ owners ++ cells) counts 131224 b (131224 + b) (ws.count b) to_cells_long refl (line-at ws.count 4096 b low))
    by_name (Member b k) h =
        let i : ℕ = 8 * b + k in
        past (slots ++ currents ++ directory ++ owners ++ cells ++ counts) members 135320 i (135320 + i) (ws.member b k) to_counts_long refl (rows-at ws.member 8 4096 b k h.0 h.1)

-- each word has a name
abbrev HasName : ℕ → Type 0
HasName i = (n : Name) × IsName n × (index n ≡ i)

behind_owners : (i : ℕ) → i < 168088 → 65688 ≤ i → HasName i
behind_owners i low far =
    elim (cases_lt i 131224) [
      | inl a ↦ (Cell ((i - 65688) / 512) ((i - 65688) % 512), (omega arith, omega arith), omega (arith, div-add-mod (i - 65688) 512))
      | inr b ↦
          elim (cases_lt i 135320) [
            | inl c ↦ (Count (i - 131224), omega arith, omega arith)
            | inr d ↦ (Member ((i - 135320) / 8) ((i - 135320) % 8), (omega arith, omega arith), omega (arith, div-add-mod (i - 135320) 8))
          ]
    ]

behind_currents : (i : ℕ) → i < 168088 → 24 ≤ i → HasName i
behind_currents i low far =
    elim (cases_lt i 65560) [
      | inl a ↦ (Directory (i - 24), omega arith, omega arith)
      | inr b ↦
          elim (cases_lt i 65688) [
            | inl c ↦ (Owner (i - 65560), omega arith, omega arith)
            | inr d ↦ behind_owners i low d
          ]
    ]

named : (i : ℕ) → i < 168088 → HasName i
named i low =
    elim (cases_lt i 16) [
      | inl a ↦ (Slot i, a, refl)
      | inr b ↦
          elim (cases_lt i 24) [
            | inl c ↦ (Current (i - 16), omega arith, omega arith)
            | inr d ↦ behind_currents i low d
          ]
    ]

-- so two lists of the same words are one
pub are-in_order : (xs : List ℕ) (ws : Words) → AreWords xs ws → xs ≡ in_order ws
are-in_order xs ws are =
    let same = in_order-are ws in
    ext_get_or 0 xs (in_order ws) (are.0 ∙ sym same.0) (λ i l.
    let n = named i (let long = are.0 in omega arith) in
    subst (λ (j : ℕ). get_or xs j 0 ≡ get_or (in_order ws) j 0) n.2 (are.1 n.0 n.1 ∙ sym (same.1 n.0 n.1)))
