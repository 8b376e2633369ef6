-- A write to the word of one name.
use Rattle.std.proofs.Common.{◌≡◌, ◌≢◌, ℕ, ◌+◌, ◌<◌, List, get_or, set, sym, ap, ◌∙◌, arith}
use Rattle.std.proofs.Math.ListN.{length-set}
use Rattle.std.proofs.lemmas.List.{get_or-set_same, get_or-set_other}
use Rattle.ad_stacks.specs.Names.{Name, Lane, Record, Mark, index, IsName, changed, Words, read, wrote, AreWords}
use Rattle.ad_stacks.proofs.Changed.{changed_here, changed_else, either_way}

fits : (n : Name) → IsName n → index n < 8256
fits (Lane w) h = let b : w < 64 = h in omega arith
fits (Record m) h = let b : m < 4096 = h in omega arith
fits (Mark m) h = let b : m < 4096 = h in omega arith

-- the word of another area, or of another number of the area
module _ (xs : List ℕ) (ws : Words) (x : ℕ) (are : AreWords xs ws) where
  same : (i j : ℕ) → i < 8256 → j ≡ i → get_or (set xs i x) j 0 ≡ x
  same i j l e = ap (λ (k : ℕ). get_or (set xs i x) k 0) e ∙ get_or-set_same xs i x 0 (let n = are.0 in omega arith)

  other : (i j y : ℕ) → j ≢ i → get_or xs j 0 ≡ y → get_or (set xs i x) j 0 ≡ y
  other i j y ne e = get_or-set_other xs i j x 0 ne ∙ e

  at_area : (f : ℕ → ℕ) (base k j : ℕ) → base + k < 8256 → get_or xs (base + j) 0 ≡ f j → get_or (set xs (base + k) x) (base + j) 0 ≡ changed f k x j
  at_area f base k j l e = either_way j k
      (λ here. same (base + k) (base + j) l (omega arith) ∙ sym (changed_here f k x j here))
      (λ else. other (base + k) (base + j) (f j) (λ d. else (omega arith)) e ∙ sym (changed_else f k x j else))

  at_lane : (f : ℕ → ℕ) (k j : ℕ) → k < 8256 → get_or xs j 0 ≡ f j → get_or (set xs k x) j 0 ≡ changed f k x j
  at_lane f k j l e = either_way j k
      (λ here. same k j l here ∙ sym (changed_here f k x j here))
      (λ else. other k j (f j) else e ∙ sym (changed_else f k x j else))

  reads_after : (n k : Name) → IsName n → IsName k → get_or (set xs (index n) x) (index k) 0 ≡ read (wrote ws n x) k
  reads_after (Lane w) (Lane v) a b = at_lane ws.lane w v (fits (Lane w) a) (are.1 (Lane v) b)
  reads_after (Lane w) (Record m) a b = let l : w < 64 = a in other w (64 + m) (ws.recorded m) (λ e. omega arith) (are.1 (Record m) b)
  reads_after (Lane w) (Mark m) a b = let l : w < 64 = a in other w (4160 + m) (ws.mark m) (λ e. omega arith) (are.1 (Mark m) b)
  reads_after (Record n) (Lane v) a b = let l : v < 64 = b in other (64 + n) v (ws.lane v) (λ e. omega arith) (are.1 (Lane v) b)
  reads_after (Record n) (Record m) a b = at_area ws.recorded 64 n m (fits (Record n) a) (are.1 (Record m) b)
  reads_after (Record n) (Mark m) a b = let l : n < 4096 = a in other (64 + n) (4160 + m) (ws.mark m) (λ e. omega arith) (are.1 (Mark m) b)
  reads_after (Mark n) (Lane v) a b = let l : v < 64 = b in other (4160 + n) v (ws.lane v) (λ e. omega arith) (are.1 (Lane v) b)
  reads_after (Mark n) (Record m) a b = let l : m < 4096 = b in other (4160 + n) (64 + m) (ws.recorded m) (λ e. omega arith) (are.1 (Record m) b)
  reads_after (Mark n) (Mark m) a b = at_area ws.mark 4160 n m (fits (Mark n) a) (are.1 (Mark m) b)

-- the words once the word of a name was written
pub writes : (xs : List ℕ) (ws : Words) (n : Name) (x : ℕ) → IsName n → AreWords xs ws → AreWords (set xs (index n) x) (wrote ws n x)
writes xs ws n x a are = (length-set xs (index n) x ∙ are.0, λ k b. reads_after xs ws x are n k a b)
