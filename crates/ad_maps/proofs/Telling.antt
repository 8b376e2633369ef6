-- What the seats' lists tell of unmaps, once a step was made.
use Rattle.std.proofs.Common.{◌≡◌, ◌≢◌, ℕ, ◌+◌, Bool, true, false, cond, ◌&&◌, eqb, eq-eqb, ne_eqb, List, [], ◌∷◌, ◌++◌, refl, sym, ap, ◌∙◌, subst, arith}
use Rattle.std.specs.List.{count_by}
use Rattle.std.proofs.lemmas.List.Sums.{sum_by_push}
use Rattle.ad_events.specs.Reclaim as machine
use Rattle.ad_events.specs.Reclaim.{Agent, ReclaimState}
use Rattle.ad_maps.specs.declared.shape.Shape.{Shape}
use Rattle.ad_maps.specs.declared.view.Deed.{Deed}
use Rattle.ad_maps.specs.declared.view.Plan.{Plan}
use Rattle.ad_maps.specs.Ledger.{deed_unmaps, unmaps_in_deeds}
use Rattle.ad_maps.specs.Rule.{is_same, unmaps_by, unmaps_made, Reached}
use Rattle.ad_maps.proofs.Machine.{past_after, reached_after}

-- ---- agents

pub same-agent : (a : Agent) → is_same a a ≡ true
same-agent (machine.Worker w) = eq-eqb w w refl
same-agent machine.Mover = refl

pub other-agent : (c a : Agent) → c ≢ a → is_same a c ≡ false
other-agent (machine.Worker v) (machine.Worker w) ne = ne_eqb w v (λ e. ne (ap (λ (u : ℕ). machine.Worker u) (sym e)))
other-agent (machine.Worker v) machine.Mover ne = refl
other-agent machine.Mover (machine.Worker w) ne = refl
other-agent machine.Mover machine.Mover ne = absurd (ne refl)

-- ---- one more in a list

-- one that doesn't count
pub count-same : {X : Type 0} (p : X → Bool) (xs : List X) (x : X) → p x ≡ false → count_by p (xs ++ x ∷ []) ≡ count_by p xs
count-same p xs x none = let zero : cond (p x) 1 0 ≡ 0 = ap (λ (b : Bool). cond b 1 0) none in let same : count_by p xs + 0 ≡ count_by p xs = omega arith in sum_by_push (λ y. cond (p y) 1 0) xs x ∙ (ap (λ (k : ℕ). count_by p xs + k) zero ∙ same)

-- the mover's list stays
pub deeds-stay : (q p : Plan) → q ≡ p → (n : ℕ) → unmaps_in_deeds q.deeds n ≡ unmaps_in_deeds p.deeds n
deeds-stay q p is n = ap (λ (o : Plan). unmaps_in_deeds o.deeds n) is

-- or grows by what is no unmap
pub deeds-more : (q p : Plan) (d : Deed) → q ≡ p → ((n : ℕ) → deed_unmaps n d ≡ false) → (n : ℕ) → unmaps_in_deeds (q.deeds ++ d ∷ []) n ≡ unmaps_in_deeds p.deeds n
deeds-more q p d is none n = count-same (deed_unmaps n) q.deeds d (none n) ∙ deeds-stay q p is n

-- ---- a step

-- These steps were made before, and those now; an agent's list told so many unmaps, and tells so many now. Where it told what
-- the agent made it still does, and no other agent has made one more
pub record Told (a : Agent) (past past' : List machine.Step) (before after : ℕ → ℕ) : Type 0 where
  pub mine : (n : ℕ) → before n ≡ unmaps_made a past n → after n ≡ unmaps_made a past' n
  pub others : (c : Agent) → c ≢ a → (n : ℕ) → unmaps_made c past' n ≡ unmaps_made c past n

-- no step of the machine was made
pub told-none : (a : Agent) (past : List machine.Step) (before after : ℕ → ℕ) → ((n : ℕ) → after n ≡ before n) → Told a past past before after
told-none a past before after same = record { mine = λ n is. same n ∙ is; others = λ c ne n. refl }

module _ (shape : Shape) (j : ReclaimState) (reached : Reached shape j) where
  -- a step was made that is no unmap
  pub told-quiet : (a : Agent) (x : machine.Step) (may : machine.MayStep j x) (before after : ℕ → ℕ) → ((c : Agent) (n : ℕ) → unmaps_by c n x ≡ false) → ((n : ℕ) → after n ≡ before n) → Told a reached.past (reached_after shape j x reached may).past before after
  told-quiet a x may before after none same =
      subst (λ (past : List machine.Step). Told a reached.past past before after) (sym (past_after shape j x reached may)) (record {
        mine = λ n is. same n ∙ (is ∙ sym (count-same (unmaps_by a n) reached.past x (none a n)));
        others = λ c ne n. count-same (unmaps_by c n) reached.past x (none c n);
      })

  -- the agent unmapped a mapping
  pub told-unmap : (a : Agent) (k : ℕ) (may : machine.MayStep j (machine.Unmap k a)) (before after : ℕ → ℕ) → ((n : ℕ) → after n ≡ before n + cond (eqb k n) 1 0) → Told a reached.past (reached_after shape j (machine.Unmap k a) reached may).past before after
  told-unmap a k may before after grew =
      let x : machine.Step = machine.Unmap k a in
      let here : (n : ℕ) → cond (unmaps_by a n x) 1 0 ≡ cond (eqb k n) 1 0 = λ n. ap (λ (b : Bool). cond (b && eqb k n) 1 0) (same-agent a) in
      let more : (n : ℕ) → unmaps_made a (reached.past ++ x ∷ []) n ≡ unmaps_made a reached.past n + cond (eqb k n) 1 0 = λ n.
      sum_by_push (λ y. cond (unmaps_by a n y) 1 0) reached.past x ∙ ap (λ (i : ℕ). unmaps_made a reached.past n + i) (here n) in
      subst (λ (past : List machine.Step). Told a reached.past past before after) (sym (past_after shape j x reached may)) (record {
        mine = λ n is. grew n ∙ (ap (λ (i : ℕ). i + cond (eqb k n) 1 0) is ∙ sym (more n));
        others = λ c ne n. count-same (unmaps_by c n) reached.past x (ap (λ (b : Bool). b && eqb k n) (other-agent c a ne));
      })
