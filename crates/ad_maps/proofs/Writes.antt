-- A write to the word of one name.
use Rattle.std.proofs.Common.{◌≡◌, ◌≢◌, ℕ, ◌+◌, ◌*◌, ◌<◌, List, get_or, set, sym, ap, ◌∙◌, subst, arith, inl, inr}
use Rattle.std.proofs.Math.ListN.{length-set}
use Rattle.std.proofs.lemmas.Bool.{cases_eq}
use Rattle.std.proofs.lemmas.List.{get_or-set_same, get_or-set_other, set-get_or}
use Rattle.ad_events.specs.Functions.{changed}
use Rattle.ad_events.proofs.Functions.{changed-here, changed-else}
use Rattle.ad_maps.specs.Names.{Name, Slot, Current, Directory, Owner, Cell, Count, Member, index, IsName, Words, read, wrote, AreWords}

-- each name's word is one of the table's
pub fits : (n : Name) → IsName n → index n < 168088
fits (Slot s1) a = let s1_low : s1 < 16 = a in omega arith
fits (Current m1) a = let m1_low : m1 < 8 = a in omega arith
fits (Directory r1) a = let r1_low : r1 < 65536 = a in omega arith
fits (Owner f1) a = let f1_low : f1 < 128 = a in omega arith
fits (Cell f1 e1) a = let f1_low : f1 < 128 = a.0 in let e1_low : e1 < 512 = a.1 in omega arith
fits (Count b1) a = let b1_low : b1 < 4096 = a in omega arith
fits (Member b1 k1) a = let b1_low : b1 < 4096 = a.0 in let k1_low : k1 < 8 = a.1 in omega arith

-- f of two numbers, but x at (k, l)
pub row-here : (f : ℕ → ℕ → ℕ) (k l x i j : ℕ) → i ≡ k → j ≡ l → changed f k (changed (f k) l x) i j ≡ x
row-here f k l x i j e d = ap (λ (g : ℕ → ℕ). g j) (changed-here f k (changed (f k) l x) i e) ∙ changed-here (f k) l x j d

pub row-column : (f : ℕ → ℕ → ℕ) (k l x i j : ℕ) → j ≢ l → changed f k (changed (f k) l x) i j ≡ f i j
row-column f k l x i j apart =
    elim (cases_eq i k) [
      | inl e ↦ ap (λ (g : ℕ → ℕ). g j) (changed-here f k (changed (f k) l x) i e) ∙ (changed-else (f k) l x j apart ∙ ap (λ (n : ℕ). f n j) (sym e))
      | inr other ↦ ap (λ (g : ℕ → ℕ). g j) (changed-else f k (changed (f k) l x) i other)
    ]

pub row-else : (f : ℕ → ℕ → ℕ) (k l x i j : ℕ) → i ≢ k → changed f k (changed (f k) l x) i j ≡ f i j
row-else f k l x i j apart = ap (λ (g : ℕ → ℕ). g j) (changed-else f k (changed (f k) l x) i apart)

-- the word of another area, or of another number of the area
module _ (xs : List ℕ) (ws : Words) (x : ℕ) (are : AreWords xs ws) where
  same : (i j : ℕ) → i < 168088 → j ≡ i → get_or (set xs i x) j 0 ≡ x
  same i j l e = ap (λ (k : ℕ). get_or (set xs i x) k 0) e ∙ get_or-set_same xs i x 0 (let n = are.0 in omega arith)

  other : (i j y : ℕ) → j ≢ i → get_or xs j 0 ≡ y → get_or (set xs i x) j 0 ≡ y
  other i j y ne e = get_or-set_other xs i j x 0 ne ∙ e

  at_area : (f : ℕ → ℕ) (base k j : ℕ) → base + k < 168088 → get_or xs (base + j) 0 ≡ f j → get_or (set xs (base + k) x) (base + j) 0 ≡ changed f k x j
  at_area f base k j l e =
      elim (cases_eq j k) [
        | inl here ↦ same (base + k) (base + j) l (omega arith) ∙ sym (changed-here f k x j here)
        | inr else ↦ other (base + k) (base + j) (f j) (λ d. else (omega arith)) e ∙ sym (changed-else f k x j else)
      ]

  at_slot : (f : ℕ → ℕ) (k j : ℕ) → k < 168088 → get_or xs j 0 ≡ f j → get_or (set xs k x) j 0 ≡ changed f k x j
  at_slot f k j l e =
      elim (cases_eq j k) [
        | inl here ↦ same k j l here ∙ sym (changed-here f k x j here)
        | inr else ↦ other k j (f j) else e ∙ sym (changed-else f k x j else)
      ]

  at_row : (f : ℕ → ℕ → ℕ) (base wide k l i j : ℕ) → base + (wide * k + l) < 168088
      → (i ≢ k → base + (wide * i + j) ≢ base + (wide * k + l)) → (j ≢ l → base + (wide * i + j) ≢ base + (wide * k + l))
      → get_or xs (base + (wide * i + j)) 0 ≡ f i j → get_or (set xs (base + (wide * k + l)) x) (base + (wide * i + j)) 0 ≡ changed f k (changed (f k) l x) i j
  at_row f base wide k l i j low apart_row apart_column e =
      elim (cases_eq i k) [
        | inl here ↦
            elim (cases_eq j l) [
              | inl there ↦ same (base + (wide * k + l)) (base + (wide * i + j)) low (λ t. base + (wide * here t + there t)) ∙ sym (row-here f k l x i j here there)
              | inr else ↦ other (base + (wide * k + l)) (base + (wide * i + j)) (f i j) (apart_column else) e ∙ sym (row-column f k l x i j else)
            ]
        | inr else ↦ other (base + (wide * k + l)) (base + (wide * i + j)) (f i j) (apart_row else) e ∙ sym (row-else f k l x i j else)
      ]

  reads_after : (n k : Name) → IsName n → IsName k → get_or (set xs (index n) x) (index k) 0 ≡ read (wrote ws n x) k
  reads_after (Slot s1) (Slot s2) a b = at_slot ws.slot s1 s2 (let s1_low : s1 < 16 = a in omega arith) (are.1 (Slot s2) b)
  reads_after (Slot s1) (Current m2) a b = let s1_low : s1 < 16 = a in let m2_low : m2 < 8 = b in other (s1) (16 + m2) (ws.current m2) (λ d. omega arith) (are.1 (Current m2) b)
  reads_after (Slot s1) (Directory r2) a b = let s1_low : s1 < 16 = a in let r2_low : r2 < 65536 = b in other (s1) (24 + r2) (ws.directory r2) (λ d. omega arith) (are.1 (Directory r2) b)
  reads_after (Slot s1) (Owner f2) a b = let s1_low : s1 < 16 = a in let f2_low : f2 < 128 = b in other (s1) (65560 + f2) (ws.owner f2) (λ d. omega arith) (are.1 (Owner f2) b)
  reads_after (Slot s1) (Cell f2 e2) a b = let s1_low : s1 < 16 = a in let f2_low : f2 < 128 = b.0 in let e2_low : e2 < 512 = b.1 in other (s1) (65688 + (512 * f2 + e2)) (ws.cell f2 e2) (λ d. omega arith) (are.1 (Cell f2 e2) b)
  reads_after (Slot s1) (Count b2) a b = let s1_low : s1 < 16 = a in let b2_low : b2 < 4096 = b in other (s1) (131224 + b2) (ws.count b2) (λ d. omega arith) (are.1 (Count b2) b)
  reads_after (Slot s1) (Member b2 k2) a b = let s1_low : s1 < 16 = a in let b2_low : b2 < 4096 = b.0 in let k2_low : k2 < 8 = b.1 in other (s1) (135320 + (8 * b2 + k2)) (ws.member b2 k2) (λ d. omega arith) (are.1 (Member b2 k2) b)
  reads_after (Current m1) (Slot s2) a b = let m1_low : m1 < 8 = a in let s2_low : s2 < 16 = b in other (16 + m1) (s2) (ws.slot s2) (λ d. omega arith) (are.1 (Slot s2) b)
  reads_after (Current m1) (Current m2) a b = at_area ws.current 16 m1 m2 (let m1_low : m1 < 8 = a in omega arith) (are.1 (Current m2) b)
  reads_after (Current m1) (Directory r2) a b = let m1_low : m1 < 8 = a in let r2_low : r2 < 65536 = b in other (16 + m1) (24 + r2) (ws.directory r2) (λ d. omega arith) (are.1 (Directory r2) b)
  reads_after (Current m1) (Owner f2) a b = let m1_low : m1 < 8 = a in let f2_low : f2 < 128 = b in other (16 + m1) (65560 + f2) (ws.owner f2) (λ d. omega arith) (are.1 (Owner f2) b)
  reads_after (Current m1) (Cell f2 e2) a b = let m1_low : m1 < 8 = a in let f2_low : f2 < 128 = b.0 in let e2_low : e2 < 512 = b.1 in other (16 + m1) (65688 + (512 * f2 + e2)) (ws.cell f2 e2) (λ d. omega arith) (are.1 (Cell f2 e2) b)
  reads_after (Current m1) (Count b2) a b = let m1_low : m1 < 8 = a in let b2_low : b2 < 4096 = b in other (16 + m1) (131224 + b2) (ws.count b2) (λ d. omega arith) (are.1 (Count b2) b)
  reads_after (Current m1) (Member b2 k2) a b = let m1_low : m1 < 8 = a in let b2_low : b2 < 4096 = b.0 in let k2_low : k2 < 8 = b.1 in other (16 + m1) (135320 + (8 * b2 + k2)) (ws.member b2 k2) (λ d. omega arith) (are.1 (Member b2 k2) b)
  reads_after (Directory r1) (Slot s2) a b = let r1_low : r1 < 65536 = a in let s2_low : s2 < 16 = b in other (24 + r1) (s2) (ws.slot s2) (λ d. omega arith) (are.1 (Slot s2) b)
  reads_after (Directory r1) (Current m2) a b = let r1_low : r1 < 65536 = a in let m2_low : m2 < 8 = b in other (24 + r1) (16 + m2) (ws.current m2) (λ d. omega arith) (are.1 (Current m2) b)
  reads_after (Directory r1) (Directory r2) a b = at_area ws.directory 24 r1 r2 (let r1_low : r1 < 65536 = a in omega arith) (are.1 (Directory r2) b)
  reads_after (Directory r1) (Owner f2) a b = let r1_low : r1 < 65536 = a in let f2_low : f2 < 128 = b in other (24 + r1) (65560 + f2) (ws.owner f2) (λ d. omega arith) (are.1 (Owner f2) b)
  reads_after (Directory r1) (Cell f2 e2) a b = let r1_low : r1 < 65536 = a in let f2_low : f2 < 128 = b.0 in let e2_low : e2 < 512 = b.1 in other (24 + r1) (65688 + (512 * f2 + e2)) (ws.cell f2 e2) (λ d. omega arith) (are.1 (Cell f2 e2) b)
  reads_after (Directory r1) (Count b2) a b = let r1_low : r1 < 65536 = a in let b2_low : b2 < 4096 = b in other (24 + r1) (131224 + b2) (ws.count b2) (λ d. omega arith) (are.1 (Count b2) b)
  reads_after (Directory r1) (Member b2 k2) a b = let r1_low : r1 < 65536 = a in let b2_low : b2 < 4096 = b.0 in let k2_low : k2 < 8 = b.1 in other (24 + r1) (135320 + (8 * b2 + k2)) (ws.member b2 k2) (λ d. omega arith) (are.1 (Member b2 k2) b)
  reads_after (Owner f1) (Slot s2) a b = let f1_low : f1 < 128 = a in let s2_low : s2 < 16 = b in other (65560 + f1) (s2) (ws.slot s2) (λ d. omega arith) (are.1 (Slot s2) b)
  reads_after (Owner f1) (Current m2) a b = let f1_low : f1 < 128 = a in let m2_low : m2 < 8 = b in other (65560 + f1) (16 + m2) (ws.current m2) (λ d. omega arith) (are.1 (Current m2) b)
  reads_after (Owner f1) (Directory r2) a b = let f1_low : f1 < 128 = a in let r2_low : r2 < 65536 = b in other (65560 + f1) (24 + r2) (ws.directory r2) (λ d. omega arith) (are.1 (Directory r2) b)
  reads_after (Owner f1) (Owner f2) a b = at_area ws.owner 65560 f1 f2 (let f1_low : f1 < 128 = a in omega arith) (are.1 (Owner f2) b)
  reads_after (Owner f1) (Cell f2 e2) a b = let f1_low : f1 < 128 = a in let f2_low : f2 < 128 = b.0 in let e2_low : e2 < 512 = b.1 in other (65560 + f1) (65688 + (512 * f2 + e2)) (ws.cell f2 e2) (λ d. omega arith) (are.1 (Cell f2 e2) b)
  reads_after (Owner f1) (Count b2) a b = let f1_low : f1 < 128 = a in let b2_low : b2 < 4096 = b in other (65560 + f1) (131224 + b2) (ws.count b2) (λ d. omega arith) (are.1 (Count b2) b)
  reads_after (Owner f1) (Member b2 k2) a b = let f1_low : f1 < 128 = a in let b2_low : b2 < 4096 = b.0 in let k2_low : k2 < 8 = b.1 in other (65560 + f1) (135320 + (8 * b2 + k2)) (ws.member b2 k2) (λ d. omega arith) (are.1 (Member b2 k2) b)
  reads_after (Cell f1 e1) (Slot s2) a b = let f1_low : f1 < 128 = a.0 in let e1_low : e1 < 512 = a.1 in let s2_low : s2 < 16 = b in other (65688 + (512 * f1 + e1)) (s2) (ws.slot s2) (λ d. omega arith) (are.1 (Slot s2) b)
  reads_after (Cell f1 e1) (Current m2) a b = let f1_low : f1 < 128 = a.0 in let e1_low : e1 < 512 = a.1 in let m2_low : m2 < 8 = b in other (65688 + (512 * f1 + e1)) (16 + m2) (ws.current m2) (λ d. omega arith) (are.1 (Current m2) b)
  reads_after (Cell f1 e1) (Directory r2) a b = let f1_low : f1 < 128 = a.0 in let e1_low : e1 < 512 = a.1 in let r2_low : r2 < 65536 = b in other (65688 + (512 * f1 + e1)) (24 + r2) (ws.directory r2) (λ d. omega arith) (are.1 (Directory r2) b)
  reads_after (Cell f1 e1) (Owner f2) a b = let f1_low : f1 < 128 = a.0 in let e1_low : e1 < 512 = a.1 in let f2_low : f2 < 128 = b in other (65688 + (512 * f1 + e1)) (65560 + f2) (ws.owner f2) (λ d. omega arith) (are.1 (Owner f2) b)
  reads_after (Cell f1 e1) (Cell f2 e2) a b = let f1_low : f1 < 128 = a.0 in let e1_low : e1 < 512 = a.1 in let f2_low : f2 < 128 = b.0 in let e2_low : e2 < 512 = b.1 in at_row ws.cell 65688 512 f1 e1 f2 e2 (omega arith) (λ d. omega arith) (λ d. omega arith) (are.1 (Cell f2 e2) b)
  reads_after (Cell f1 e1) (Count b2) a b = let f1_low : f1 < 128 = a.0 in let e1_low : e1 < 512 = a.1 in let b2_low : b2 < 4096 = b in other (65688 + (512 * f1 + e1)) (131224 + b2) (ws.count b2) (λ d. omega arith) (are.1 (Count b2) b)
  reads_after (Cell f1 e1) (Member b2 k2) a b = let f1_low : f1 < 128 = a.0 in let e1_low : e1 < 512 = a.1 in let b2_low : b2 < 4096 = b.0 in let k2_low : k2 < 8 = b.1 in other (65688 + (512 * f1 + e1)) (135320 + (8 * b2 + k2)) (ws.member b2 k2) (λ d. omega arith) (are.1 (Member b2 k2) b)
  reads_after (Count b1) (Slot s2) a b = let b1_low : b1 < 4096 = a in let s2_low : s2 < 16 = b in other (131224 + b1) (s2) (ws.slot s2) (λ d. omega arith) (are.1 (Slot s2) b)
  reads_after (Count b1) (Current m2) a b = let b1_low : b1 < 4096 = a in let m2_low : m2 < 8 = b in other (131224 + b1) (16 + m2) (ws.current m2) (λ d. omega arith) (are.1 (Current m2) b)
  reads_after (Count b1) (Directory r2) a b = let b1_low : b1 < 4096 = a in let r2_low : r2 < 65536 = b in other (131224 + b1) (24 + r2) (ws.directory r2) (λ d. omega arith) (are.1 (Directory r2) b)
  reads_after (Count b1) (Owner f2) a b = let b1_low : b1 < 4096 = a in let f2_low : f2 < 128 = b in other (131224 + b1) (65560 + f2) (ws.owner f2) (λ d. omega arith) (are.1 (Owner f2) b)
  reads_after (Count b1) (Cell f2 e2) a b = let b1_low : b1 < 4096 = a in let f2_low : f2 < 128 = b.0 in let e2_low : e2 < 512 = b.1 in other (131224 + b1) (65688 + (512 * f2 + e2)) (ws.cell f2 e2) (λ d. omega arith) (are.1 (Cell f2 e2) b)
  reads_after (Count b1) (Count b2) a b = at_area ws.count 131224 b1 b2 (let b1_low : b1 < 4096 = a in omega arith) (are.1 (Count b2) b)
  reads_after (Count b1) (Member b2 k2) a b = let b1_low : b1 < 4096 = a in let b2_low : b2 < 4096 = b.0 in let k2_low : k2 < 8 = b.1 in other (131224 + b1) (135320 + (8 * b2 + k2)) (ws.member b2 k2) (λ d. omega arith) (are.1 (Member b2 k2) b)
  reads_after (Member b1 k1) (Slot s2) a b = let b1_low : b1 < 4096 = a.0 in let k1_low : k1 < 8 = a.1 in let s2_low : s2 < 16 = b in other (135320 + (8 * b1 + k1)) (s2) (ws.slot s2) (λ d. omega arith) (are.1 (Slot s2) b)
  reads_after (Member b1 k1) (Current m2) a b = let b1_low : b1 < 4096 = a.0 in let k1_low : k1 < 8 = a.1 in let m2_low : m2 < 8 = b in other (135320 + (8 * b1 + k1)) (16 + m2) (ws.current m2) (λ d. omega arith) (are.1 (Current m2) b)
  reads_after (Member b1 k1) (Directory r2) a b = let b1_low : b1 < 4096 = a.0 in let k1_low : k1 < 8 = a.1 in let r2_low : r2 < 65536 = b in other (135320 + (8 * b1 + k1)) (24 + r2) (ws.directory r2) (λ d. omega arith) (are.1 (Directory r2) b)
  reads_after (Member b1 k1) (Owner f2) a b = let b1_low : b1 < 4096 = a.0 in let k1_low : k1 < 8 = a.1 in let f2_low : f2 < 128 = b in other (135320 + (8 * b1 + k1)) (65560 + f2) (ws.owner f2) (λ d. omega arith) (are.1 (Owner f2) b)
  reads_after (Member b1 k1) (Cell f2 e2) a b = let b1_low : b1 < 4096 = a.0 in let k1_low : k1 < 8 = a.1 in let f2_low : f2 < 128 = b.0 in let e2_low : e2 < 512 = b.1 in other (135320 + (8 * b1 + k1)) (65688 + (512 * f2 + e2)) (ws.cell f2 e2) (λ d. omega arith) (are.1 (Cell f2 e2) b)
  reads_after (Member b1 k1) (Count b2) a b = let b1_low : b1 < 4096 = a.0 in let k1_low : k1 < 8 = a.1 in let b2_low : b2 < 4096 = b in other (135320 + (8 * b1 + k1)) (131224 + b2) (ws.count b2) (λ d. omega arith) (are.1 (Count b2) b)
  reads_after (Member b1 k1) (Member b2 k2) a b = let b1_low : b1 < 4096 = a.0 in let k1_low : k1 < 8 = a.1 in let b2_low : b2 < 4096 = b.0 in let k2_low : k2 < 8 = b.1 in at_row ws.member 135320 8 b1 k1 b2 k2 (omega arith) (λ d. omega arith) (λ d. omega arith) (are.1 (Member b2 k2) b)

-- the words once the word of a name was written
pub writes : (xs : List ℕ) (ws : Words) (n : Name) (x : ℕ) → IsName n → AreWords xs ws → AreWords (set xs (index n) x) (wrote ws n x)
writes xs ws n x a are = (length-set xs (index n) x ∙ are.0, λ k b. reads_after xs ws x are n k a b)

-- and once it was only read
pub rereads : (xs : List ℕ) (ws : Words) (i : ℕ) → AreWords xs ws → AreWords (set xs i (get_or xs i 0)) ws
rereads xs ws i are = subst (λ (ys : List ℕ). AreWords ys ws) (sym (set-get_or xs i 0)) are
