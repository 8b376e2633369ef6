-- The elements of lists, and what a list of acts or deeds tells once one more is added.
use Rattle.std.proofs.Common.{◌≡◌, ◌≢◌, ◌⊎◌, ⊎_elim, inl, inr, ℕ, ◌≤◌, Bool, true, false, cond, not, eqb, List, [], ◌∷◌, ◌++◌, map, append-nil, refl, sym, ap, ◌∙◌, subst, arith, true≢false, eqb-true, eq-eqb, ne_eqb}
use Rattle.std.specs.List.{All, Contains, filter}
use Rattle.std.proofs.lemmas.Bool.{cases_Bool}
use Rattle.std.proofs.lemmas.List.Elements.{Contains-append_left, Contains-append_right, Contains-append_cases, Contains-push_cases, Contains-push, All-nil, All-cons}
use Rattle.std.proofs.lemmas.List.Quantifiers.{all_pairs_push}
use Rattle.ad_base.specs.declared.place.Place.{Place}
use Rattle.ad_maps.specs.declared.view.Act.{Act}
use Rattle.ad_maps.specs.declared.view.Act.TheVariants as act
use Rattle.ad_maps.specs.declared.view.Deed.{Deed}
use Rattle.ad_maps.specs.declared.view.Deed.TheVariants as deed
use Rattle.ad_maps.specs.declared.view.Made.{Made}
use Rattle.ad_maps.specs.Ledger.{maps_in, line_in, reads_of, retires_in, NeverFall}
use Rattle.ad_maps.specs.Steps.{made, but, without}

module _ {X : Type 0} where
  pub none-in : (x : X) → Contains [] x → ⊥
  none-in x c = let l = c.1 in omega arith

  pub cons-cases : (y : X) (ys : List X) (x : X) → Contains (y ∷ ys) x → (y ≡ x) ⊎ Contains ys x
  cons-cases y ys x c = ⊎_elim (λ one. ⊎_elim (λ none. absurd (none-in x none)) inl (Contains-push_cases [] y x one)) inr (Contains-append_cases (y ∷ []) ys x c)

  pub cons-here : (y : X) (ys : List X) (x : X) → y ≡ x → Contains (y ∷ ys) x
  cons-here y ys x e = subst (Contains (y ∷ ys)) e (Contains-append_left (y ∷ []) ys y (Contains-push [] y))

  pub cons-later : (y : X) (ys : List X) (x : X) → Contains ys x → Contains (y ∷ ys) x
  cons-later y ys x c = Contains-append_right (y ∷ []) ys x c

  pub filter-from : (test : X → Bool) (xs : List X) (x : X) → Contains (filter test xs) x → Contains xs x × (test x ≡ true)
  filter-from test [] x c = absurd (none-in x c)
  filter-from test (y ∷ ys) x c =
      let later : Contains (filter test ys) x → Contains (y ∷ ys) x × (test x ≡ true) = λ d. let t = filter-from test ys x d in (cons-later y ys x t.0, t.1) in
      elim (cases_Bool (test y)) [
        | inl passes ↦
            ⊎_elim (λ e. (cons-here y ys x e, ap test (sym e) ∙ passes)) later
            (cons-cases y (filter test ys) x (subst (λ (b : Bool). Contains (cond b (y ∷ filter test ys) (filter test ys)) x) passes c))
        | inr fails ↦ later (subst (λ (b : Bool). Contains (cond b (y ∷ filter test ys) (filter test ys)) x) fails c)
      ]

  pub filter-to : (test : X → Bool) (xs : List X) (x : X) → Contains xs x → test x ≡ true → Contains (filter test xs) x
  filter-to test [] x c e = absurd (none-in x c)
  filter-to test (y ∷ ys) x c e = ⊎_elim
      (λ same. subst (λ (b : Bool). Contains (cond b (y ∷ filter test ys) (filter test ys)) x) (sym (ap test same ∙ e)) (cons-here y (filter test ys) x same))
      (λ there.
      let later = filter-to test ys x there e in
      elim (cases_Bool (test y)) [
        | inl passes ↦ subst (λ (b : Bool). Contains (cond b (y ∷ filter test ys) (filter test ys)) x) (sym passes) (cons-later y (filter test ys) x later)
        | inr fails ↦ subst (λ (b : Bool). Contains (cond b (y ∷ filter test ys) (filter test ys)) x) (sym fails) later
      ])
      (cons-cases y ys x c)

-- ---- the mappings but one, the frames but one

not-eqb : (k n : ℕ) → not (eqb k n) ≡ true → k ≢ n
not-eqb k n e same = true≢false (sym e ∙ ap not (eq-eqb k n same))

pub but-from : (n : ℕ) (gs : List Made) (g : Made) → Contains (but n gs) g → Contains gs g × (g.place.mapping ≢ n)
but-from n gs g c = let t = filter-from (λ (x : Made). not (eqb x.place.mapping n)) gs g c in (t.0, not-eqb g.place.mapping n t.1)

pub but-to : (n : ℕ) (gs : List Made) (g : Made) → Contains gs g → g.place.mapping ≢ n → Contains (but n gs) g
but-to n gs g c apart = filter-to (λ (x : Made). not (eqb x.place.mapping n)) gs g c (ap not (ne_eqb g.place.mapping n apart))

pub without-from : (f : ℕ) (fs : List ℕ) (g : ℕ) → Contains (without f fs) g → Contains fs g × (g ≢ f)
without-from f fs g c = let t = filter-from (λ (x : ℕ). not (eqb x f)) fs g c in (t.0, not-eqb g f t.1)

-- ---- what a list of acts tells

pub reads-push : (m : ℕ) (acts : List Act) (a : Act) → reads_of m (acts ++ a ∷ []) ≡ reads_of m acts ++ reads_of m (a ∷ [])
reads-push m [] a = refl
reads-push m (act.Enter ∷ acts) a = reads-push m acts a
reads-push m (act.Read n p ∷ acts) a =
    let later = reads-push m acts a in
    elim (eqb n m) as (λ (b : Bool). cond b (p.mapping ∷ reads_of m (acts ++ a ∷ [])) (reads_of m (acts ++ a ∷ [])) ≡ cond b (p.mapping ∷ reads_of m acts) (reads_of m acts) ++ reads_of m (a ∷ [])) [
      | true ↦ ap (λ (ns : List ℕ). p.mapping ∷ ns) later
      | false ↦ later
    ]
reads-push m (act.Page va ∷ acts) a = reads-push m acts a
reads-push m (act.Cell e ∷ acts) a = reads-push m acts a
reads-push m (act.Leave ∷ acts) a = reads-push m acts a
reads-push m (act.Unmap n ∷ acts) a = reads-push m acts a

-- a bound on the numbers of the mappings of a module that were read
pub reads-bound : (m n : ℕ) (acts : List Act) → ((p : Place) → Contains acts (act.Read m p) → p.mapping ≤ n) → All (λ (x : ℕ). x ≤ n) (reads_of m acts)
reads-bound m n [] h = All-nil (λ (x : ℕ). x ≤ n)
reads-bound m n (act.Enter ∷ acts) h = reads-bound m n acts (λ p c. h p (cons-later act.Enter acts (act.Read m p) c))
reads-bound m n (act.Read k q ∷ acts) h =
    let later = reads-bound m n acts (λ p c. h p (cons-later (act.Read k q) acts (act.Read m p) c)) in
    elim (cases_Bool (eqb k m)) [
      | inl passes ↦
          subst (λ (b : Bool). All (λ (x : ℕ). x ≤ n) (cond b (q.mapping ∷ reads_of m acts) (reads_of m acts))) (sym passes)
          (All-cons (λ (x : ℕ). x ≤ n) q.mapping (reads_of m acts) (h q (cons-here (act.Read k q) acts (act.Read m q) (ap (λ (i : ℕ). act.Read i q) (eqb-true k m passes)))) later)
      | inr fails ↦ subst (λ (b : Bool). All (λ (x : ℕ). x ≤ n) (cond b (q.mapping ∷ reads_of m acts) (reads_of m acts))) (sym fails) later
    ]
reads-bound m n (act.Page va ∷ acts) h = reads-bound m n acts (λ p c. h p (cons-later (act.Page va) acts (act.Read m p) c))
reads-bound m n (act.Cell e ∷ acts) h = reads-bound m n acts (λ p c. h p (cons-later (act.Cell e) acts (act.Read m p) c))
reads-bound m n (act.Leave ∷ acts) h = reads-bound m n acts (λ p c. h p (cons-later act.Leave acts (act.Read m p) c))
reads-bound m n (act.Unmap k ∷ acts) h = reads-bound m n acts (λ p c. h p (cons-later (act.Unmap k) acts (act.Read m p) c))

-- one number more, which is none below those before
pub falls-push : (ns : List ℕ) (n : ℕ) → NeverFall ns → All (λ (x : ℕ). x ≤ n) ns → NeverFall (ns ++ n ∷ [])
falls-push ns n falls below = all_pairs_push (λ (x y : ℕ). x ≤ y) ns n falls below

-- ---- what a list of deeds tells

pub maps-append : (xs ys : List Deed) → maps_in (xs ++ ys) ≡ maps_in xs ++ maps_in ys
maps-append [] ys = refl
maps-append (deed.Look f o ∷ xs) ys = maps-append xs ys
maps-append (deed.Map m p ∷ xs) ys = ap (λ (gs : List Made). made m p ∷ gs) (maps-append xs ys)
maps-append (deed.Switch m p ∷ xs) ys = maps-append xs ys
maps-append (deed.Retire n line ∷ xs) ys = maps-append xs ys
maps-append (deed.Unmap n ∷ xs) ys = maps-append xs ys

-- a deed that retires nothing leaves each line
pub lines-push : (deeds : List Deed) (d : Deed) → ((n : ℕ) → line_in (d ∷ []) n ≡ 0) → (n : ℕ) → line_in (deeds ++ d ∷ []) n ≡ line_in deeds n
lines-push [] d none n = none n
lines-push (deed.Look f o ∷ ds) d none n = lines-push ds d none n
lines-push (deed.Map m p ∷ ds) d none n = lines-push ds d none n
lines-push (deed.Switch m p ∷ ds) d none n = lines-push ds d none n
lines-push (deed.Retire k line ∷ ds) d none n = ap (λ (i : ℕ). cond (eqb k n) line i) (lines-push ds d none n)
lines-push (deed.Unmap k ∷ ds) d none n = lines-push ds d none n

pub retires-push : (deeds : List Deed) (d : Deed) → retires_in (deeds ++ d ∷ []) ≡ retires_in deeds ++ retires_in (d ∷ [])
retires-push [] d = refl
retires-push (deed.Look f o ∷ ds) d = retires-push ds d
retires-push (deed.Map m p ∷ ds) d = retires-push ds d
retires-push (deed.Switch m p ∷ ds) d = retires-push ds d
retires-push (deed.Retire n line ∷ ds) d = ap (λ (ns : List ℕ). n ∷ ns) (retires-push ds d)
retires-push (deed.Unmap n ∷ ds) d = retires-push ds d

-- a deed that retires nothing leaves what was retired
pub retires-same : (deeds : List Deed) (d : Deed) → retires_in (d ∷ []) ≡ [] → retires_in (deeds ++ d ∷ []) ≡ retires_in deeds
retires-same deeds d none = retires-push deeds d ∙ (ap (λ (ns : List ℕ). retires_in deeds ++ ns) none ∙ append-nil (retires_in deeds))

-- a mapping that a deed retires is one of those that were
pub retires-there : (deeds : List Deed) (n line : ℕ) → Contains deeds (deed.Retire n line) → Contains (retires_in deeds) n
retires-there [] n line c = absurd (none-in (deed.Retire n line) c)
retires-there (deed.Look f o ∷ ds) n line c = ⊎_elim (λ e. absurd (let z : ⊥ = cc in z)) (retires-there ds n line) (cons-cases (deed.Look f o) ds (deed.Retire n line) c)
retires-there (deed.Map m p ∷ ds) n line c = ⊎_elim (λ e. absurd (let z : ⊥ = cc in z)) (retires-there ds n line) (cons-cases (deed.Map m p) ds (deed.Retire n line) c)
retires-there (deed.Switch m p ∷ ds) n line c = ⊎_elim (λ e. absurd (let z : ⊥ = cc in z)) (retires-there ds n line) (cons-cases (deed.Switch m p) ds (deed.Retire n line) c)
retires-there (deed.Retire k l ∷ ds) n line c = ⊎_elim
    (λ e. cons-here k (retires_in ds) n (let same : k ≡ n = cc in same))
    (λ d. cons-later k (retires_in ds) n (retires-there ds n line d))
    (cons-cases (deed.Retire k l) ds (deed.Retire n line) c)
retires-there (deed.Unmap k ∷ ds) n line c = ⊎_elim (λ e. absurd (let z : ⊥ = cc in z)) (retires-there ds n line) (cons-cases (deed.Unmap k) ds (deed.Retire n line) c)

-- the line of a mapping that wasn't retired before is that of the deed that retires it
pub lines-retire : (deeds : List Deed) (n line : ℕ) → (Contains (retires_in deeds) n → ⊥) → line_in (deeds ++ deed.Retire n line ∷ []) n ≡ line
lines-retire [] n line new = ap (λ (b : Bool). cond b line 0) (eq-eqb n n refl)
lines-retire (deed.Look f o ∷ ds) n line new = lines-retire ds n line new
lines-retire (deed.Map m p ∷ ds) n line new = lines-retire ds n line new
lines-retire (deed.Switch m p ∷ ds) n line new = lines-retire ds n line new
lines-retire (deed.Retire k l ∷ ds) n line new =
    ap (λ (b : Bool). cond b l (line_in (ds ++ deed.Retire n line ∷ []) n)) (ne_eqb k n (λ e. new (cons-here k (retires_in ds) n e)))
    ∙ lines-retire ds n line (λ c. new (cons-later k (retires_in ds) n c))
lines-retire (deed.Unmap k ∷ ds) n line new = lines-retire ds n line new

-- unmaps leave each line
pub lines-unmaps : (deeds : List Deed) (numbers : List ℕ) (n : ℕ) → line_in (deeds ++ map (λ (k : ℕ). deed.Unmap k) numbers) n ≡ line_in deeds n
lines-unmaps [] [] n = refl
lines-unmaps [] (k ∷ ks) n = lines-unmaps [] ks n
lines-unmaps (deed.Look f o ∷ ds) ks n = lines-unmaps ds ks n
lines-unmaps (deed.Map m p ∷ ds) ks n = lines-unmaps ds ks n
lines-unmaps (deed.Switch m p ∷ ds) ks n = lines-unmaps ds ks n
lines-unmaps (deed.Retire k line ∷ ds) ks n = ap (λ (x : ℕ). cond (eqb k n) line x) (lines-unmaps ds ks n)
lines-unmaps (deed.Unmap k ∷ ds) ks n = lines-unmaps ds ks n

-- the line of another mapping stays
pub lines-else : (deeds : List Deed) (n line i : ℕ) → i ≢ n → line_in (deeds ++ deed.Retire n line ∷ []) i ≡ line_in deeds i
lines-else deeds n line i ne = go deeds
  where
    go : (deeds : List Deed) → line_in (deeds ++ deed.Retire n line ∷ []) i ≡ line_in deeds i
    go [] = ap (λ (b : Bool). cond b line 0) (ne_eqb n i (λ e. ne (sym e)))
    go (deed.Look f o ∷ ds) = go ds
    go (deed.Map m p ∷ ds) = go ds
    go (deed.Switch m p ∷ ds) = go ds
    go (deed.Retire k l ∷ ds) = ap (λ (x : ℕ). cond (eqb k i) l x) (go ds)
    go (deed.Unmap k ∷ ds) = go ds
