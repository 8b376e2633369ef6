-- The views of the seats, once a seat has made a step, was split off, was made or was joined.
use Rattle.std.proofs.Common.{◌≡◌, ◌≢◌, ⊎_elim, ℕ, ◌+◌, ◌<◌, Bool, true, false, List, [], ◌∷◌, ◌++◌, length, set, sym, refl, ap, ◌∙◌, subst, length-append, arith}
use mathlib.Core.Option.{some}
use lib.ListN.{get_elem?}
use Rattle.atomic_table.proofs.Lists.{at_set, at_longer, at_last}
use Rattle.ad_base.proofs.ListItems.{at_end}
use Rattle.ad_turns.specs.declared.view.Stage.TheVariants.{Rests}
use Rattle.ad_turns.specs.declared.view.Hand.{Hand}
use Rattle.ad_turns.specs.declared.view.Doing.{Doing}
use Rattle.ad_turns.specs.declared.view.Doing.TheVariants.{Spent, Worker, Dealer, Gatherer}
use Rattle.ad_turns.specs.Names.{changed}
use Rattle.ad_turns.specs.Rule.{Knows, new_hand}
use Rattle.ad_turns.proofs.Changed.{changed_here, changed_else, at_changed, either_way}

-- what each seat knows
abbrev pub AllKnow : List (List ℕ) → (ℕ → Hand) → (ℕ → ℕ) → (ℕ → Bool) → ℕ → ℕ → List Doing → Type 0
AllKnow calls hands owner joined dealt dealer views = (j : ℕ) (view : Doing) → get_elem? views j ≡ some view → Knows calls hands owner joined dealt dealer j view

-- a number was not joined that another was
not_joined : (joined : ℕ → Bool) (u w : ℕ) → joined u ≡ true → joined w ≡ false → u ≢ w
not_joined joined u w is not e = let f : true ≡ false = sym is ∙ (ap joined e ∙ not) in let b : ⊥ = cc in b

module _ (calls : List (List ℕ)) (hands : ℕ → Hand) (owner : ℕ → ℕ) (joined : ℕ → Bool) (dealt dealer : ℕ) (views : List Doing) (know : AllKnow calls hands owner joined dealt dealer views) where
  -- a worker's seat makes a step
  pub worker_steps : (id w : ℕ) (h h' : Hand) → get_elem? views id ≡ some (Worker w h) → AllKnow calls (changed hands w h') owner joined dealt dealer (set views id (Worker w h'))
  worker_steps id w h h' at j view e =
      let mine = know id (Worker w h) at in
      ⊎_elim
      (λ t. subst (Knows calls (changed hands w h') owner joined dealt dealer j) t.1 (mine.0, mine.1, mine.2 ∙ sym t.0, sym (changed_here hands w h' w refl)))
      (λ t. others j view t.0 (know j view t.1))
      (at_set views id j (Worker w h') view e)
    where
      others : (j : ℕ) (view : Doing) → j ≢ id → Knows calls hands owner joined dealt dealer j view → Knows calls (changed hands w h') owner joined dealt dealer j view
      others j Spent ne k = tt
      others j (Worker v g) ne k = let mine = know id (Worker w h) at in (k.0, k.1, k.2, k.3 ∙ sym (changed_else hands w h' v (λ e. ne (sym k.2 ∙ (ap owner e ∙ mine.2)))))
      others j (Dealer n cs) ne k = k
      others j (Gatherer back) ne k = λ u l.
          let old = k u l in
          let same : hands u ≡ changed hands w h' u = sym (changed_else hands w h' u (not_joined joined u w old.0 (know id (Worker w h) at).1)) in
          (old.0, ap (λ (g : Hand). g.stage) (sym same) ∙ old.1, old.2 ∙ ap some same)

  -- the next worker's seat is split off the dealer's
  pub dealer_splits : (id k : ℕ) (cs : List (List ℕ)) → get_elem? views id ≡ some (Dealer k cs) → hands k ≡ new_hand calls k → joined k ≡ false
      → AllKnow calls hands (changed owner k (length (set views id (Dealer (k + 1) cs)))) joined (dealt + 1) dealer (set views id (Dealer (k + 1) cs) ++ Worker k (new_hand cs k) ∷ [])
  dealer_splits id k cs at fresh free j view e =
      let mine = know id (Dealer k cs) at in
      let more = set views id (Dealer (k + 1) cs) in
      ⊎_elim
      (λ there. ⊎_elim
      (λ t. subst (Knows calls hands (changed owner k (length more)) joined (dealt + 1) dealer j) t.1 (ap (λ (n : ℕ). n + 1) mine.0, mine.1, t.0 ∙ mine.2))
      (λ t. others j view t.0 (know j view t.1))
      (at_set views id j (Dealer (k + 1) cs) view there))
      (λ t. subst (Knows calls hands (changed owner k (length more)) joined (dealt + 1) dealer j) t.1
      ((let d = mine.0 in omega arith), free, changed_here owner k (length more) k refl ∙ sym t.0, ap (λ (c : List (List ℕ)). new_hand c k) mine.1 ∙ sym fresh))
      (at_end more (Worker k (new_hand cs k)) view j e)
    where
      others : (j : ℕ) (view : Doing) → j ≢ id → Knows calls hands owner joined dealt dealer j view → Knows calls hands (changed owner k (length (set views id (Dealer (k + 1) cs)))) joined (dealt + 1) dealer j view
      others j Spent ne h = tt
      others j (Worker v g) ne h = ((let l = h.0 in omega arith), h.1, changed_else owner k (length (set views id (Dealer (k + 1) cs))) v (λ e. let l = h.0 in let d = (know id (Dealer k cs) at).0 in omega arith) ∙ h.2, h.3)
      others j (Dealer n ds) ne h = absurd (ne (h.2 ∙ sym (know id (Dealer k cs) at).2))
      others j (Gatherer back) ne h = h

  -- a seat is made that is to join the others
  pub gatherer_enters : AllKnow calls hands owner joined dealt dealer (views ++ Gatherer [] ∷ [])
  gatherer_enters j view e = ⊎_elim
      (λ there. know j view there)
      (λ t. subst (Knows calls hands owner joined dealt dealer j) t.1 (λ u l. absurd (omega arith)))
      (at_end views (Gatherer []) view j e)

  -- the next worker's seat is joined to the gatherer's
  pub gatherer_joins : (id other w : ℕ) (back : List Hand) (h : Hand) → get_elem? views id ≡ some (Gatherer back) → get_elem? views other ≡ some (Worker w h) → h.stage ≡ Rests → w ≡ length back
      → AllKnow calls hands owner (changed joined w true) dealt dealer (set (set views id (Gatherer (back ++ h ∷ []))) other Spent)
  gatherer_joins id other w back h at there rests next j view e = ⊎_elim
      (λ t. subst (Knows calls hands owner (changed joined w true) dealt dealer j) t.1 tt)
      (λ t. ⊎_elim
      (λ u. subst (Knows calls hands owner (changed joined w true) dealt dealer j) u.1 gathered)
      (λ u. others j view t.0 (know j view u.1))
      (at_set views id j (Gatherer (back ++ h ∷ [])) view t.1))
      (at_set (set views id (Gatherer (back ++ h ∷ []))) other j Spent view e)
    where
      still : (u : ℕ) → joined u ≡ true → changed joined w true u ≡ true
      still u is = at_changed joined w true u (λ (b : Bool). b ≡ true) (λ _. refl) (λ _. is)

      gathered : (u : ℕ) → u < length (back ++ h ∷ []) → (changed joined w true u ≡ true) × ((hands u).stage ≡ Rests) × (get_elem? (back ++ h ∷ []) u ≡ some (hands u))
      gathered u l =
          let mine = know other (Worker w h) there in
          either_way u (length back)
          (λ e.
          let same : h ≡ hands u = mine.3 ∙ ap hands (next ∙ sym e) in
          (changed_here joined w true u (e ∙ sym next), ap (λ (g : Hand). g.stage) (sym same) ∙ rests, at_last back h u (sym e) ∙ ap some same))
          (λ ne.
          let old = know id (Gatherer back) at u (let n = length-append back (h ∷ []) in omega arith) in
          (still u old.0, old.1, at_longer back (h ∷ []) u (hands u) old.2))

      others : (j : ℕ) (view : Doing) → j ≢ other → Knows calls hands owner joined dealt dealer j view → Knows calls hands owner (changed joined w true) dealt dealer j view
      others j Spent ne k = tt
      others j (Worker v g) ne k = let mine = know other (Worker w h) there in (k.0, changed_else joined w true v (λ e. ne (sym k.2 ∙ (ap owner e ∙ mine.2))) ∙ k.1, k.2, k.3)
      others j (Dealer n cs) ne k = k
      others j (Gatherer more) ne k = λ u l. let old = k u l in (still u old.0, old.1, old.2)
