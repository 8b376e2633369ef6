-- What the rule says of batches: there are fewer than mapping numbers, and each mapping that is listed in one is in the world.
use Rattle.std.proofs.Common.{◌≡◌, ◌≢◌, ⊎_elim, inl, inr, ℕ, zero, suc, ◌+◌, ◌<◌, ◌≤◌, Bool, cond, not, eq-eqb, ne_eqb, List, [], ◌∷◌, length, Some, refl, sym, ap, ◌∙◌, subst, arith}
use Rattle.std.specs.List.{Contains}
use Rattle.std.specs.Prelude.{AllPairs}
use Rattle.std.specs.FinMap as map
use Rattle.std.proofs.lemmas.Bool.{cases_eq}
use Rattle.ad_events.specs.declared.mapping.Status.TheVariants.{Retired, Gone}
use Rattle.ad_events.specs.declared.mapping.Mapping.{Mapping}
use Rattle.ad_events.specs.World.{mapping_of}
use Rattle.ad_events.specs.Owed.{last_batch}
use Rattle.ad_events.specs.Reclaim as machine
use Rattle.ad_events.specs.ReclaimLaws.{maker_of}
use Rattle.std.specs.Option.{option_map}
use Rattle.ad_events.specs.Mapping.{rank_of}
use Rattle.ad_events.proofs.ReclaimSteps.{not-listed}
use Rattle.ad_events.proofs.WorldLemmas.{from_status}
use Rattle.ad_maps.specs.declared.shape.Shape.{Shape}
use Rattle.ad_maps.specs.Ledger.{retires_in}
use Rattle.ad_maps.specs.declared.view.Passing.{Passing}
use Rattle.ad_maps.specs.declared.view.Passing.TheVariants as passing
use Rattle.ad_maps.specs.Rule.{St, Kept, Batching, Freed, IsMember, PassingStands, listed_in}
use Rattle.ad_maps.proofs.Elements.{cons-cases, cons-here, cons-later, without-from}
use Rattle.ad_maps.proofs.Freeings.{BringsNothing, freed-after, batching-other}
use Rattle.ad_maps.proofs.Machine.{holds_of}
use Rattle.ad_maps.specs.Steps.{without}

-- ---- numbers that differ are no more than there are

abbrev Differ : List ℕ → Type 0
Differ [] = Unit {0}
Differ (x ∷ xs) = (Contains xs x → ⊥) × Differ xs

differ-from : (xs : List ℕ) → AllPairs (λ (n k : ℕ). n ≢ k) xs → Differ xs
differ-from [] h = tt
differ-from (x ∷ xs) h = ((λ c. h 0 (suc c.0) x (omega arith) (let l = c.1 in omega arith) (sym c.2)), differ-from xs (λ i j d lt within. h (suc i) (suc j) d (omega arith) (omega arith)))

-- the others of a list
without-same : (n : ℕ) (xs : List ℕ) → (Contains xs n → ⊥) → without n xs ≡ xs
without-same n [] none = refl
without-same n (x ∷ xs) none =
    ap (λ (b : Bool). cond (not b) (x ∷ without n xs) (without n xs)) (ne_eqb x n (λ e. none (cons-here x xs n e)))
    ∙ ap (λ (ys : List ℕ). x ∷ ys) (without-same n xs (λ c. none (cons-later x xs n c)))

-- without one number a list in which numbers differ is shorter by one at most
without-long : (n : ℕ) (xs : List ℕ) → Differ xs → length xs ≤ length (without n xs) + 1
without-long n [] h = omega arith
without-long n (x ∷ xs) h =
    elim (cases_eq x n) [
      | inl e ↦
          let here : without n (x ∷ xs) ≡ without n xs = ap (λ (b : Bool). cond (not b) (x ∷ without n xs) (without n xs)) (eq-eqb x n e) in
          let rest = without-same n xs (λ c. h.0 (subst (Contains xs) (sym e) c)) in
          let long : length (without n (x ∷ xs)) ≡ length xs = ap length (here ∙ rest) in omega arith
      | inr ne ↦
          let here : without n (x ∷ xs) ≡ x ∷ without n xs = ap (λ (b : Bool). cond (not b) (x ∷ without n xs) (without n xs)) (ne_eqb x n ne) in
          let long : length (without n (x ∷ xs)) ≡ suc (length (without n xs)) = ap length here in
          let rest = without-long n xs h.1 in omega arith
    ]

without-differ : (n : ℕ) (xs : List ℕ) → Differ xs → Differ (without n xs)
without-differ n [] h = tt
without-differ n (x ∷ xs) h =
    elim (cases_eq x n) [
      | inl e ↦ subst Differ (sym (ap (λ (b : Bool). cond (not b) (x ∷ without n xs) (without n xs)) (eq-eqb x n e))) (without-differ n xs h.1)
      | inr ne ↦ subst Differ (sym (ap (λ (b : Bool). cond (not b) (x ∷ without n xs) (without n xs)) (ne_eqb x n ne))) ((λ c. h.0 (without-from n xs x c).0), without-differ n xs h.1)
    ]

few-numbers : (n : ℕ) (xs : List ℕ) → Differ xs → ((x : ℕ) → Contains xs x → (1 ≤ x) × (x ≤ n)) → length xs ≤ n
few-numbers zero [] h small = omega arith
few-numbers zero (x ∷ xs) h small = let b = small x (cons-here x xs x refl) in let low = b.0 in let high = b.1 in absurd (omega arith)
few-numbers (suc n) xs h small =
    let rest = few-numbers n (without (suc n) xs) (without-differ (suc n) xs h) (λ x c.
    let t = without-from (suc n) xs x c in let b = small x t.0 in let ne = t.1 in (b.0, let high = b.1 in omega arith)) in
    let long = without-long (suc n) xs h in omega arith

module _ (shape : Shape) (s : St) (r : Kept shape s) where
  -- a mapping that is listed in a batch is retired or gone, and in the world
  pub listed-there : (n b : ℕ) → r.state.batch n ≡ Some b → (x : Mapping) × (map.get r.state.world.mappings n ≡ Some x)
  listed-there n b is = ⊎_elim
      (λ e. let t = from_status (map.get r.state.world.mappings n) Retired e in (mapping_of t.0 Retired, t.1))
      (λ e. let t = from_status (map.get r.state.world.mappings n) Gone e in (mapping_of t.0 Gone, t.1))
      ((holds_of shape r.form r.state r.reached).told n b is)

  number-of : (n : ℕ) → Contains (retires_in r.plan.deeds) n → (1 ≤ n) × (n ≤ 4095)
  number-of n c =
      let t = r.batching.retired n c in
      let there = listed-there n t.0 t.1 in
      let stands = r.mappings.each n there.0 there.1 in
      let from = stands.form.place.place.mapping_from in let to = stands.form.place.place.mapping_to in let number = stands.number in (omega arith, omega arith)

  -- fewer batches than mapping numbers were opened
  pub few-retired : length (retires_in r.plan.deeds) ≤ 4095
  few-retired = few-numbers 4095 (retires_in r.plan.deeds) (differ-from (retires_in r.plan.deeds) r.batching.differ) number-of

  -- and one more, where a mapping isn't retired yet
  pub few-more : (n : ℕ) (x : Mapping) → map.get r.state.world.mappings n ≡ Some x → (Contains (retires_in r.plan.deeds) n → ⊥) → length (retires_in r.plan.deeds) < 4095
  few-more n x there new =
      let stands = r.mappings.each n x there in
      let from = stands.form.place.place.mapping_from in
      let to = stands.form.place.place.mapping_to in
      let number = stands.number in
      let few = few-numbers 4095 (n ∷ retires_in r.plan.deeds) (new, differ-from (retires_in r.plan.deeds) r.batching.differ)
      (λ i c. ⊎_elim (λ e. (omega arith, omega arith)) (λ d. number-of i d) (cons-cases n (retires_in r.plan.deeds) i c)) in
      let long : length (n ∷ retires_in r.plan.deeds) ≡ suc (length (retires_in r.plan.deeds)) = refl in omega arith

  pub few-batches : last_batch r.state.owed ≤ 4095
  few-batches = let few = few-retired in let enough = r.batching.enough in omega arith

  -- a mapping that isn't retired yet: there is a number for one more batch
  pub room-for : (n : ℕ) (x : Mapping) → map.get r.state.world.mappings n ≡ Some x → rank_of x.status < 3 → length (retires_in r.plan.deeds) < 4095
  room-for n x there low = few-more n x there (λ c.
      let t = r.batching.retired n c in
      not-listed r.state.world n x.status (ap (option_map (λ (y : Mapping). y.status)) there) low ((holds_of shape r.form r.state r.reached).told n t.0 t.1))

  -- a step that brings no batch to zero leaves what is to be freed
  pub freed-same : (x : machine.Step) → machine.MayStep r.state x → BringsNothing r.state x → Freed (machine.after r.state x) r.words.member r.lines r.places r.gives r.frees
  freed-same x may none = freed-after r.state (holds_of shape r.form r.state r.reached) x may r.words.member r.words.member r.lines r.lines r.places r.places (λ b i opened. refl) (λ n b is. refl) none r.gives r.frees r.freed

  -- a worker's step leaves the mover's batches
  pub batching-worker : (x : machine.Step) → machine.MayStep r.state x → maker_of x ≢ machine.Mover → length (machine.after r.state x).owed.slots ≡ length r.state.owed.slots
      → Batching (machine.after r.state x).owed (machine.after r.state x).batch r.words.member r.plan
  batching-worker x may apart slots = batching-other r.state (holds_of shape r.form r.state r.reached) x may apart slots r.words.member r.plan r.batching

  -- the batch of a mapping has a number below that of mappings, since the next one has
  pub few-opened : (n b : ℕ) → r.state.batch n ≡ Some b → b < 4096
  few-opened n b is =
      let few = few-retired in
      by_case r.plan.passing r.batching.stands r.batching.next (let enough = r.batching.enough in omega arith) (r.owing.each_listed n b is)
    where
      next : b ≡ last_batch r.state.owed + 1 → (i : ℕ) × (i < 8) × IsMember r.words.member r.lines r.places b i n → ((k : ℕ) → 0 ≤ k → r.words.member (last_batch r.state.owed + 1) k ≡ 0) → ⊥
      next e t none = let some_line = r.owing.some_line n b is in let zero = ap (λ (c : ℕ). r.words.member c t.0) e ∙ none t.0 (omega arith) in let word = t.2 in omega arith

      by_case : (d : Passing) → PassingStands r.state.owed (length (retires_in r.plan.deeds)) d → ((k : ℕ) → listed_in d ≤ k → r.words.member (last_batch r.state.owed + 1) k ≡ 0) → last_batch r.state.owed ≤ 4095 → (i : ℕ) × (i < 8) × IsMember r.words.member r.lines r.places b i n → b < 4096
      by_case passing.Rest stands none few t = elim (cases_eq b (last_batch r.state.owed + 1)) [ inl e ↦ absurd (next e t none) | inr ne ↦ (let range = ((holds_of shape r.form r.state r.reached).numbered n b is).1 in omega arith) ]
      by_case (passing.Listing k) stands none few t = (let range = ((holds_of shape r.form r.state r.reached).numbered n b is).1 in let most = stands.1 in let retired = few-retired in omega arith)
      by_case (passing.Settled s) stands none few t = elim (cases_eq b (last_batch r.state.owed + 1)) [ inl e ↦ absurd (next e t none) | inr ne ↦ (let range = ((holds_of shape r.form r.state r.reached).numbered n b is).1 in omega arith) ]
      by_case (passing.Pushed s found) stands none few t = elim (cases_eq b (last_batch r.state.owed + 1)) [ inl e ↦ absurd (next e t none) | inr ne ↦ (let range = ((holds_of shape r.form r.state r.reached).numbered n b is).1 in omega arith) ]
