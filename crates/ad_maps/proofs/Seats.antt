-- The views of the seats, once a seat has made a step, was split off or was joined.
use Rattle.std.proofs.Common.{◌≡◌, ◌≢◌, ⊎_elim, inl, inr, ℕ, ◌+◌, ◌<◌, ◌≤◌, List, [], ◌∷◌, ◌++◌, length, set, sym, refl, ap, ◌∙◌, subst, arith}
use Rattle.std.proofs.lemmas.Bool.{cases_eq}
use mathlib.Core.Option.{some, some-injective}
use lib.ListN.{get_elem?}
use Rattle.atomic_table.proofs.Lists.{at_set, set_here, set_else, at_longer, at_last}
use Rattle.ad_base.proofs.ListItems.{at_end, inside_of}
use Rattle.ad_maps.specs.declared.view.Hand.{Hand}
use Rattle.ad_maps.specs.declared.view.Plan.{Plan}
use Rattle.ad_maps.specs.declared.view.Doing.{Doing}
use Rattle.ad_maps.specs.declared.view.Doing.TheVariants.{Spent, Worker, Mover}
use Rattle.ad_maps.specs.Rule.{Knows, Seated}

-- what each seat knows
abbrev pub AllKnow : (ℕ → Hand) → (ℕ → ℕ) → Plan → ℕ → List Doing → Type 0
AllKnow hands seater plan mover views = (i : ℕ) (view : Doing) → get_elem? views i ≡ some view → Knows hands seater plan mover i view

module _ (hands : ℕ → Hand) (seater : ℕ → ℕ) (plan : Plan) (mover : ℕ) (views : List Doing) (know : AllKnow hands seater plan mover views) where
  -- a worker's seat makes a step
  pub worker_steps : (hands' : ℕ → Hand) (id w : ℕ) (h h' : Hand) → get_elem? views id ≡ some (Worker w h) → h' ≡ hands' w → ((v : ℕ) → v ≢ w → hands' v ≡ hands v)
      → AllKnow hands' seater plan mover (set views id (Worker w h'))
  worker_steps hands' id w h h' at is rest j view e =
      let mine = know id (Worker w h) at in
      ⊎_elim
      (λ t. subst (Knows hands' seater plan mover j) t.1 (mine.0, mine.1, mine.2 ∙ sym t.0, is))
      (λ t. others j view t.0 (know j view t.1))
      (at_set views id j (Worker w h') view e)
    where
      others : (j : ℕ) (view : Doing) → j ≢ id → Knows hands seater plan mover j view → Knows hands' seater plan mover j view
      others j Spent ne k = tt
      others j (Worker v g) ne k = let mine = know id (Worker w h) at in (k.0, k.1, k.2, k.3 ∙ sym (rest v (λ e. ne (sym k.2 ∙ (ap seater e ∙ mine.2)))))
      others j (Mover q) ne k = k

  -- the mover's seat makes a step, or another seat is split off it
  mover_others : (seater' : ℕ → ℕ) (plan' : Plan) (id : ℕ) → id ≡ mover → plan.dealt ≤ plan'.dealt → length plan'.back ≤ length plan.back → ((v : ℕ) → v < plan.dealt → seater' v ≡ seater v)
      → (j : ℕ) (view : Doing) → j ≢ id → Knows hands seater plan mover j view → Knows hands seater' plan' mover j view
  mover_others seater' plan' id mine more back seaters j Spent ne k = tt
  mover_others seater' plan' id mine more back seaters j (Worker v g) ne k = (let l = k.0 in omega arith, let l = k.1 in omega arith, seaters v k.0 ∙ k.2, k.3)
  mover_others seater' plan' id mine more back seaters j (Mover q) ne k = absurd (ne (k.1 ∙ sym mine))

  mover_steps_as : (seater' : ℕ → ℕ) (plan' : Plan) (id : ℕ) → id ≡ mover → plan.dealt ≤ plan'.dealt → length plan'.back ≤ length plan.back → ((v : ℕ) → v < plan.dealt → seater' v ≡ seater v)
      → AllKnow hands seater' plan' mover (set views id (Mover plan'))
  mover_steps_as seater' plan' id mine more back seaters j view e = ⊎_elim
      (λ t. subst (Knows hands seater' plan' mover j) t.1 (refl, t.0 ∙ mine))
      (λ t. mover_others seater' plan' id mine more back seaters j view t.0 (know j view t.1))
      (at_set views id j (Mover plan') view e)

  pub mover_steps : (plan' : Plan) (id : ℕ) → id ≡ mover → plan'.dealt ≡ plan.dealt → plan'.back ≡ plan.back
      → AllKnow hands seater plan' mover (set views id (Mover plan'))
  mover_steps plan' id mine dealt back = mover_steps_as seater plan' id mine (omega arith) (let l = ap length back in omega arith) (λ v l. refl)

  -- another seat is split off the mover's: that of the worker w, the next
  pub mover_splits : (seater' : ℕ → ℕ) (plan' : Plan) (id w : ℕ) (h : Hand) → id ≡ mover → w ≡ plan.dealt → plan'.dealt ≡ plan.dealt + 1 → plan'.back ≡ plan.back → length plan.back ≤ w
      → ((v : ℕ) → v < plan.dealt → seater' v ≡ seater v) → seater' w ≡ length (set views id (Mover plan')) → h ≡ hands w
      → AllKnow hands seater' plan' mover (set views id (Mover plan') ++ Worker w h ∷ [])
  mover_splits seater' plan' id w h mine next dealt back few seaters new is j view e = ⊎_elim
      (λ t. mover_steps_as seater' plan' id mine (omega arith) (let l = ap length back in omega arith) seaters j view t)
      (λ t. subst (Knows hands seater' plan' mover j) t.1 (omega arith, let l = ap length back in omega arith, new ∙ sym t.0, is))
      (at_end (set views id (Mover plan')) (Worker w h) view j e)

  -- the seat of the worker w, the next, is joined to the mover's
  pub mover_joins : (plan' : Plan) (id other w : ℕ) (h : Hand) → id ≡ mover → get_elem? views other ≡ some (Worker w h) → w ≡ length plan.back → plan'.dealt ≡ plan.dealt → length plan'.back ≡ w + 1
      → AllKnow hands seater plan' mover (set (set views id (Mover plan')) other Spent)
  mover_joins plan' id other w h mine at next dealt back j view e = ⊎_elim
      (λ t. subst (Knows hands seater plan' mover j) t.1 tt)
      (λ t. ⊎_elim
      (λ u. subst (Knows hands seater plan' mover j) u.1 (refl, u.0 ∙ mine))
      (λ u. others j view t.0 u.0 (know j view u.1))
      (at_set views id j (Mover plan') view t.1))
      (at_set (set views id (Mover plan')) other j Spent view e)
    where
      others : (j : ℕ) (view : Doing) → j ≢ other → j ≢ id → Knows hands seater plan mover j view → Knows hands seater plan' mover j view
      others j Spent n m k = tt
      others j (Worker v g) n m k =
          let theirs = know other (Worker w h) at in
          let apart : v ≢ w = λ e. n (sym k.2 ∙ (ap seater e ∙ theirs.2)) in
          (let l = k.0 in omega arith, let l = k.1 in omega arith, k.2, k.3)
      others j (Mover q) n m k = absurd (m (k.1 ∙ sym mine))

-- two views of one seat are one
same_view : (views : List Doing) (i j : ℕ) (a b : Doing) → get_elem? views i ≡ some a → get_elem? views j ≡ some b → i ≡ j → a ≡ b
same_view views i j a b e f same = some-injective a b (sym e ∙ (ap (λ (k : ℕ). get_elem? views k) same ∙ f))

-- one and the same worker's view at a seat
at_worker : (views : List Doing) (i v : ℕ) (f g : ℕ → Hand) → f v ≡ g v → get_elem? views i ≡ some (Worker v (f v)) → get_elem? views i ≡ some (Worker v (g v))
at_worker views i v f g same at = at ∙ ap (λ (h : Hand). some (Worker v h)) same

module _ (hands : ℕ → Hand) (seater : ℕ → ℕ) (plan : Plan) (mover : ℕ) (views : List Doing) (old : Seated hands seater plan mover views) where
  pub worker_sits : (hands' : ℕ → Hand) (id w : ℕ) (h h' : Hand) → get_elem? views id ≡ some (Worker w h) → seater w ≡ id → h' ≡ hands' w → ((v : ℕ) → v ≢ w → hands' v ≡ hands v)
      → Seated hands' seater plan mover (set views id (Worker w h'))
  worker_sits hands' id w h h' at mine is rest = record { worker = sits; own = set_else views id mover (Worker w h') (λ e. let f = same_view views mover id (Mover plan) (Worker w h) old.own at e in let g : ⊥ = cc in g) ∙ old.own }
    where
      sits : (v : ℕ) → length plan.back ≤ v → v < plan.dealt → get_elem? (set views id (Worker w h')) (seater v) ≡ some (Worker v (hands' v))
      sits v low high =
          elim (cases_eq v w) [
            | inl e ↦
                ap (λ (k : ℕ). get_elem? (set views id (Worker w h')) k) (ap seater e ∙ mine)
                ∙ (set_here views id (Worker w h') (inside_of views id (Worker w h) at) ∙ (ap (λ (g : Hand). some (Worker w g)) is ∙ ap (λ (k : ℕ). some (Worker k (hands' k))) (sym e)))
            | inr ne ↦
                set_else views id (seater v) (Worker w h') (λ e. ne (let f = same_view views (seater v) id (Worker v (hands v)) (Worker w h) (old.worker v low high) at e in let g : v ≡ w = cc in g))
                ∙ at_worker views (seater v) v hands hands' (sym (rest v ne)) (old.worker v low high)
          ]

  mover_sits_as : (seater' : ℕ → ℕ) (plan' : Plan) (id w : ℕ) → id ≡ mover → length plan.back ≤ length plan'.back → ((v : ℕ) → v < plan.dealt → seater' v ≡ seater v)
      → length plan'.back ≤ w → w < plan.dealt → get_elem? (set views id (Mover plan')) (seater' w) ≡ some (Worker w (hands w))
  mover_sits_as seater' plan' id w mine back seaters low high =
      let was = old.worker w (omega arith) high in
      ap (λ (k : ℕ). get_elem? (set views id (Mover plan')) k) (seaters w high)
      ∙ (set_else views id (seater w) (Mover plan') (λ e. let f = same_view views (seater w) mover (Worker w (hands w)) (Mover plan) was old.own (e ∙ mine) in let g : ⊥ = cc in g)
      ∙ was)

  own_sits : (plan' : Plan) (id : ℕ) → id ≡ mover → get_elem? (set views id (Mover plan')) mover ≡ some (Mover plan')
  own_sits plan' id mine = ap (λ (k : ℕ). get_elem? (set views id (Mover plan')) k) (sym mine) ∙ set_here views id (Mover plan') (inside_of views id (Mover plan) (ap (get_elem? views) mine ∙ old.own))

  pub mover_sits : (plan' : Plan) (id : ℕ) → id ≡ mover → plan'.dealt ≡ plan.dealt → plan'.back ≡ plan.back → Seated hands seater plan' mover (set views id (Mover plan'))
  mover_sits plan' id mine dealt back = record {
    worker = λ w low high. mover_sits_as seater plan' id w mine (let l = ap length back in omega arith) (λ v l. refl) low (omega arith);
    own = own_sits plan' id mine;
  }

  pub split_sits : (seater' : ℕ → ℕ) (plan' : Plan) (id w : ℕ) (h : Hand) → id ≡ mover → w ≡ plan.dealt → plan'.dealt ≡ plan.dealt + 1 → plan'.back ≡ plan.back
      → ((v : ℕ) → v < plan.dealt → seater' v ≡ seater v) → seater' w ≡ length (set views id (Mover plan')) → h ≡ hands w
      → Seated hands seater' plan' mover (set views id (Mover plan') ++ Worker w h ∷ [])
  split_sits seater' plan' id w h mine next dealt back seaters new is = record { worker = sits; own = at_longer (set views id (Mover plan')) (Worker w h ∷ []) mover (Mover plan') (own_sits plan' id mine) }
    where
      sits : (v : ℕ) → length plan'.back ≤ v → v < plan'.dealt → get_elem? (set views id (Mover plan') ++ Worker w h ∷ []) (seater' v) ≡ some (Worker v (hands v))
      sits v low high =
          elim (cases_eq v w) [
            | inl e ↦
                ap (λ (k : ℕ). get_elem? (set views id (Mover plan') ++ Worker w h ∷ []) k) (ap seater' e)
                ∙ (at_last (set views id (Mover plan')) (Worker w h) (seater' w) (sym new) ∙ (ap (λ (g : Hand). some (Worker w g)) is ∙ ap (λ (k : ℕ). some (Worker k (hands k))) (sym e)))
            | inr ne ↦
                at_longer (set views id (Mover plan')) (Worker w h ∷ []) (seater' v) (Worker v (hands v)) (mover_sits_as seater' plan' id v mine (let l = ap length back in omega arith) seaters low (omega arith))
          ]

  pub join_sits : (plan' : Plan) (id other w : ℕ) (h : Hand) → id ≡ mover → ¬ (other ≡ id) → get_elem? views other ≡ some (Worker w h) → w ≡ length plan.back → plan'.dealt ≡ plan.dealt → length plan'.back ≡ w + 1
      → Seated hands seater plan' mover (set (set views id (Mover plan')) other Spent)
  join_sits plan' id other w h mine apart there next dealt back = record {
    worker = λ v low high. set_else (set views id (Mover plan')) other (seater v) Spent
        (λ e. let f = same_view views (seater v) other (Worker v (hands v)) (Worker w h) (old.worker v (omega arith) (omega arith)) there e in let g : v ≡ w = cc in omega arith)
        ∙ mover_sits_as seater plan' id v mine (omega arith) (λ u l. refl) low (omega arith);
    own = set_else (set views id (Mover plan')) other mover Spent (λ e. apart (sym (mine ∙ e))) ∙ own_sits plan' id mine;
  }
