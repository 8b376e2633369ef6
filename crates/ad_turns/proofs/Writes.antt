-- A write to the word of one name.
use Rattle.std.proofs.Common.{◌≡◌, ◌≢◌, ℕ, ◌+◌, ◌<◌, List, get_or, set, sym, ap, ◌∙◌, subst, arith}
use Rattle.std.proofs.Math.ListN.{length-set}
use Rattle.std.proofs.lemmas.List.{get_or-set_same, get_or-set_other}
use Rattle.ad_turns.specs.Names.{Name, Ticket, Serving, index, IsName, changed, Words, read, wrote, AreWords}
use Rattle.ad_turns.proofs.Changed.{changed_here, changed_else, either_way}
use Rattle.ad_turns.proofs.Lists.{set_same}

fits : (n : Name) → IsName n → index n < 17
fits (Ticket m) h = let b : m < 8 = h in omega arith
fits (Serving m) h = let b : m < 8 = h in omega arith

-- the word of another area, or of another number of the area
module _ (xs : List ℕ) (ws : Words) (x : ℕ) (are : AreWords xs ws) where
  same : (i j : ℕ) → i < 17 → j ≡ i → get_or (set xs i x) j 0 ≡ x
  same i j l e = ap (λ (k : ℕ). get_or (set xs i x) k 0) e ∙ get_or-set_same xs i x 0 (let n = are.0 in omega arith)

  other : (i j y : ℕ) → j ≢ i → get_or xs j 0 ≡ y → get_or (set xs i x) j 0 ≡ y
  other i j y ne e = get_or-set_other xs i j x 0 ne ∙ e

  at_area : (f : ℕ → ℕ) (base k j : ℕ) → base + k < 17 → get_or xs (base + j) 0 ≡ f j → get_or (set xs (base + k) x) (base + j) 0 ≡ changed f k x j
  at_area f base k j l e = either_way j k
      (λ here. same (base + k) (base + j) l (omega arith) ∙ sym (changed_here f k x j here))
      (λ else. other (base + k) (base + j) (f j) (λ d. else (omega arith)) e ∙ sym (changed_else f k x j else))

  reads_after : (n k : Name) → IsName n → IsName k → get_or (set xs (index n) x) (index k) 0 ≡ read (wrote ws n x) k
  reads_after (Ticket n) (Ticket m) a b = at_area ws.ticket 1 n m (fits (Ticket n) a) (are.1 (Ticket m) b)
  reads_after (Ticket n) (Serving m) a b = let l : n < 8 = a in other (1 + n) (9 + m) (ws.serving m) (λ e. omega arith) (are.1 (Serving m) b)
  reads_after (Serving n) (Ticket m) a b = let l : m < 8 = b in other (9 + n) (1 + m) (ws.ticket m) (λ e. omega arith) (are.1 (Ticket m) b)
  reads_after (Serving n) (Serving m) a b = at_area ws.serving 9 n m (fits (Serving n) a) (are.1 (Serving m) b)

  zero_after : (n : Name) → get_or (set xs (index n) x) 0 0 ≡ 0
  zero_after (Ticket n) = other (1 + n) 0 0 (λ e. omega arith) are.2
  zero_after (Serving n) = other (9 + n) 0 0 (λ e. omega arith) are.2

-- the words once the word of a name was written
pub writes : (xs : List ℕ) (ws : Words) (n : Name) (x : ℕ) → IsName n → AreWords xs ws → AreWords (set xs (index n) x) (wrote ws n x)
writes xs ws n x a are = (length-set xs (index n) x ∙ are.0, (λ k b. reads_after xs ws x are n k a b), zero_after xs ws x are n)

-- the words once the word of a name was read
pub reads : (xs : List ℕ) (ws : Words) (n : Name) → AreWords xs ws → AreWords (set xs (index n) (get_or xs (index n) 0)) ws
reads xs ws n are = subst (λ (ys : List ℕ). AreWords ys ws) (sym (set_same xs (index n))) are
