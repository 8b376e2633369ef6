-- The lists of turns and of draws, once one more is appended.
use Rattle.std.proofs.Common.{◌≡◌, ◌≢◌, ◌⊎◌, inl, inr, ℕ, zero, suc, ◌+◌, ◌<◌, ◌==◌, Bool, true, false, cond, eq-eqb, ne_eqb, List, [], ◌∷◌, ◌++◌, length, length-append, filter, map, get_or, set, sym, refl, ap, ◌∙◌, subst, arith}
use Rattle.std.specs.List.{All, AllPairs, Contains}
use Rattle.std.proofs.lemmas.List.{get_or_append_left}
use Rattle.std.proofs.lemmas.List.Elements.{filter-append}
use Rattle.std.proofs.Math.Seq.{get_or-append_seam}
use Rattle.atomic_table.specs.Table.{rest}
use Rattle.ad_base.specs.Book.{Contents, contents_of}
use Rattle.ad_turns.specs.declared.view.Turn.{Turn}
use Rattle.ad_turns.specs.Turns.{is_of, turns_at, turns_by, turns_of, AreNumbered, Made, Reaches}
use Rattle.ad_turns.proofs.Changed.{either_way}

-- a list stays as it is where an item is set to what it is
pub set_same : (xs : List ℕ) (i : ℕ) → set xs i (get_or xs i 0) ≡ xs
set_same [] i = refl
set_same (x ∷ xs) zero = refl
set_same (x ∷ xs) (suc i) = ap (λ (ys : List ℕ). x ∷ ys) (set_same xs i)

-- an item that isn't 0 stands in the list
pub nonzero_inside : (xs : List ℕ) (i : ℕ) → 0 < get_or xs i 0 → i < length xs
nonzero_inside [] i l = absurd (omega arith)
nonzero_inside (x ∷ xs) zero l = omega arith
nonzero_inside (x ∷ xs) (suc i) l = let a = nonzero_inside xs i l in omega arith

-- ---- one turn more
map_more : {A B : Type 0} (f : A → B) (xs : List A) (x : A) → map f (xs ++ x ∷ []) ≡ map f xs ++ f x ∷ []
map_more f [] x = refl
map_more f (y ∷ ys) x = ap (λ zs. f y ∷ zs) (map_more f ys x)

append_none : {A : Type 0} (xs : List A) → xs ++ [] ≡ xs
append_none [] = refl
append_none (x ∷ xs) = ap (λ ys. x ∷ ys) (append_none xs)

module _ {A : Type 0} (p : A → Bool) (xs : List A) (x : A) where
  filter_yes : p x ≡ true → filter p (xs ++ x ∷ []) ≡ filter p xs ++ x ∷ []
  filter_yes e = filter-append p xs (x ∷ []) ∙ ap (λ (b : Bool). filter p xs ++ cond b (x ∷ []) []) e

  filter_no : p x ≡ false → filter p (xs ++ x ∷ []) ≡ filter p xs
  filter_no e = filter-append p xs (x ∷ []) ∙ (ap (λ (b : Bool). filter p xs ++ cond b (x ∷ []) []) e ∙ append_none (filter p xs))

pub turns_of_more : (made : List Made) (w : ℕ) (t : Turn) → turns_of (made ++ record { worker = w; turn = t } ∷ []) ≡ turns_of made ++ t ∷ []
turns_of_more made w t = map_more (λ (e : Made). e.turn) made (record { worker = w; turn = t })

pub turns_by_own : (made : List Made) (w : ℕ) (t : Turn) → turns_by w (made ++ record { worker = w; turn = t } ∷ []) ≡ turns_by w made ++ t ∷ []
turns_by_own made w t = ap turns_of (filter_yes (λ (e : Made). e.worker == w) made (record { worker = w; turn = t }) (eq-eqb w w refl))
    ∙ turns_of_more (filter (λ (e : Made). e.worker == w) made) w t

pub turns_by_other : (made : List Made) (v w : ℕ) (t : Turn) → v ≢ w → turns_by v (made ++ record { worker = w; turn = t } ∷ []) ≡ turns_by v made
turns_by_other made v w t ne = ap turns_of (filter_no (λ (e : Made). e.worker == v) made (record { worker = w; turn = t }) (ne_eqb w v (λ e. ne (sym e))))

pub turns_at_here : (turns : List Turn) (m : ℕ) (t : Turn) → t.«module» ≡ m → turns_at m (turns ++ t ∷ []) ≡ turns_at m turns ++ t ∷ []
turns_at_here turns m t e = filter_yes (is_of m) turns t (eq-eqb t.«module» m e)

pub turns_at_else : (turns : List Turn) (m : ℕ) (t : Turn) → t.«module» ≢ m → turns_at m (turns ++ t ∷ []) ≡ turns_at m turns
turns_at_else turns m t ne = filter_no (is_of m) turns t (ne_eqb t.«module» m ne)

pub numbered_more : (n : ℕ) (made : List Made) (e : Made) → AreNumbered n made → e.turn.position ≡ n + length made → AreNumbered n (made ++ e ∷ [])
numbered_more n [] e are is = (omega arith, tt)
numbered_more n (f ∷ made) e are is = (are.0, numbered_more (n + 1) made e are.1 (omega arith))

pub reaches_more : (first last : Contents) (turns : List Turn) (t : Turn) → Reaches first turns last → contents_of t.before ≡ last → Reaches first (turns ++ t ∷ []) (contents_of t.after)
reaches_more first last [] t h e = (e ∙ sym h, refl)
reaches_more first last (u ∷ turns) t h e = (h.0, reaches_more (contents_of u.after) last turns t h.1 e)

module _ {A : Type 0} where
  -- what holds of each pair, and of each item with the last one
  pub pairs_more : (R : A → A → Type 0) (xs : List A) (x : A) → AllPairs R xs → All (λ y. R y x) xs → AllPairs R (xs ++ x ∷ [])
  pairs_more R xs x pairs with_last i j d before inside = either_way j (length xs)
      (λ e. let low : i < length xs = omega arith in subst (λ (y : A). R y (get_or (xs ++ x ∷ []) j d)) (sym (get_or_append_left xs (x ∷ []) d i low))
      (subst (λ (y : A). R (get_or xs i d) y) (sym (ap (λ (k : ℕ). get_or (xs ++ x ∷ []) k d) e ∙ get_or-append_seam xs x [] d)) (with_last i d low)))
      (λ ne. let low : j < length xs = let l = length-append xs (x ∷ []) in omega arith in
      subst (λ (y : A). R y (get_or (xs ++ x ∷ []) j d)) (sym (get_or_append_left xs (x ∷ []) d i (omega arith)))
      (subst (λ (y : A). R (get_or xs i d) y) (sym (get_or_append_left xs (x ∷ []) d j low)) (pairs i j d before low)))

  -- ---- an item of a list with one item more
  pub contains_earlier : (xs : List A) (y x : A) → Contains xs x → Contains (xs ++ y ∷ []) x
  contains_earlier xs y x h = (h.0, (let a = h.1 in let l = length-append xs (y ∷ []) in omega arith), get_or_append_left xs (y ∷ []) x h.0 h.1 ∙ h.2)

  pub contains_last : (xs : List A) (x : A) → Contains (xs ++ x ∷ []) x
  contains_last xs x = (length xs, (let l = length-append xs (x ∷ []) in omega arith), get_or-append_seam xs x [] x)

  pub contains_either : (xs : List A) (y x : A) → Contains (xs ++ y ∷ []) x → Contains xs x ⊎ (y ≡ x)
  contains_either xs y x h = either_way h.0 (length xs)
      (λ e. inr (sym (get_or-append_seam xs y [] x) ∙ (ap (λ (k : ℕ). get_or (xs ++ y ∷ []) k x) (sym e) ∙ h.2)))
      (λ ne. let low : h.0 < length xs = let a = h.1 in let l = length-append xs (y ∷ []) in omega arith in
      inl (h.0, low, sym (get_or_append_left xs (y ∷ []) x h.0 low) ∙ h.2))

-- the slot that is the only one is the one that was taken last
pub own_slot : {A : Type 0} (m : ℕ) (x : A) (held : List (ℕ × A)) → held ≡ (m, x) ∷ [] → held ≡ (m, x) ∷ rest held
own_slot m x held e = e ∙ (λ i. (m, x) ∷ rest (sym e i))
