-- The views of the seats, once a seat has made a step, was split off or was joined.
use Rattle.std.proofs.Common.{◌≡◌, ◌≢◌, ⊎_elim, ℕ, ◌+◌, ◌<◌, ◌≤◌, List, [], ◌∷◌, ◌++◌, length, set, sym, refl, ap, ◌∙◌, subst, arith}
use mathlib.Core.Option.{some, some-injective}
use lib.ListN.{get_elem?}
use Rattle.atomic_table.proofs.Lists.{at_set, set_here, set_else, at_longer, at_last}
use Rattle.ad_base.proofs.ListItems.{at_end, inside_of}
use Rattle.ad_base.specs.declared.place.Place.{Place}
use Rattle.ad_stacks.specs.declared.view.Hand.{Hand}
use Rattle.ad_stacks.specs.declared.view.Stance.{Stance}
use Rattle.ad_stacks.specs.declared.view.Plan.{Plan}
use Rattle.ad_stacks.specs.declared.view.Doing.{Doing}
use Rattle.ad_stacks.specs.declared.view.Doing.TheVariants.{Spent, Worker, Mover}
use Rattle.ad_stacks.specs.History.{Event, takes_of}
use Rattle.ad_stacks.specs.Rule.{Knows, Seated}
use Rattle.ad_stacks.specs.Steps.{hand}
use Rattle.ad_stacks.proofs.Changed.{either_way}

-- what each seat knows
abbrev pub AllKnow : List Event → (ℕ → Stance) → (ℕ → ℕ) → Plan → ℕ → List Doing → Type 0
AllKnow past stances owner plan mover views = (j : ℕ) (view : Doing) → get_elem? views j ≡ some view → Knows past stances owner plan mover j view

same_hand : {a b : Stance} {x y : List Place} → a ≡ b → x ≡ y → hand a x ≡ hand b y
same_hand e f = λ i. hand (e i) (f i)

module _ (past : List Event) (stances : ℕ → Stance) (owner : ℕ → ℕ) (plan : Plan) (mover : ℕ) (views : List Doing) (know : AllKnow past stances owner plan mover views) where
  -- a worker's seat makes a step
  pub worker_steps : (past' : List Event) (stances' : ℕ → Stance) (id w : ℕ) (h h' : Hand) → get_elem? views id ≡ some (Worker w h) → h' ≡ hand (stances' w) (takes_of past' w)
      → ((v : ℕ) → v ≢ w → (stances' v ≡ stances v) × (takes_of past' v ≡ takes_of past v))
      → AllKnow past' stances' owner plan mover (set views id (Worker w h'))
  worker_steps past' stances' id w h h' at is rest j view e =
      let mine = know id (Worker w h) at in
      ⊎_elim
      (λ t. subst (Knows past' stances' owner plan mover j) t.1 (mine.0, mine.1, mine.2 ∙ sym t.0, is))
      (λ t. others j view t.0 (know j view t.1))
      (at_set views id j (Worker w h') view e)
    where
      others : (j : ℕ) (view : Doing) → j ≢ id → Knows past stances owner plan mover j view → Knows past' stances' owner plan mover j view
      others j Spent ne k = tt
      others j (Worker v g) ne k = let mine = know id (Worker w h) at in let t = rest v (λ e. ne (sym k.2 ∙ (ap owner e ∙ mine.2))) in (k.0, k.1, k.2, k.3 ∙ sym (same_hand t.0 t.1))
      others j (Mover q) ne k = k

  -- the mover's seat makes a step, or another seat is split off it
  mover_others : (past' : List Event) (owner' : ℕ → ℕ) (plan' : Plan) (id : ℕ) → id ≡ mover → plan.dealt ≤ plan'.dealt → length plan'.back ≤ length plan.back → ((v : ℕ) → v < plan.dealt → owner' v ≡ owner v) → ((v : ℕ) → takes_of past' v ≡ takes_of past v)
      → (j : ℕ) (view : Doing) → j ≢ id → Knows past stances owner plan mover j view → Knows past' stances owner' plan' mover j view
  mover_others past' owner' plan' id mine more back owners same j Spent ne k = tt
  mover_others past' owner' plan' id mine more back owners same j (Worker v g) ne k = (let l = k.0 in omega arith, let l = k.1 in omega arith, owners v k.0 ∙ k.2, k.3 ∙ same_hand refl (sym (same v)))
  mover_others past' owner' plan' id mine more back owners same j (Mover q) ne k = absurd (ne (k.1 ∙ sym mine))

  mover_steps_as : (past' : List Event) (owner' : ℕ → ℕ) (plan' : Plan) (id : ℕ) → id ≡ mover → plan.dealt ≤ plan'.dealt → length plan'.back ≤ length plan.back → ((v : ℕ) → v < plan.dealt → owner' v ≡ owner v) → ((v : ℕ) → takes_of past' v ≡ takes_of past v)
      → AllKnow past' stances owner' plan' mover (set views id (Mover plan'))
  mover_steps_as past' owner' plan' id mine more back owners same j view e = ⊎_elim
      (λ t. subst (Knows past' stances owner' plan' mover j) t.1 (refl, t.0 ∙ mine))
      (λ t. mover_others past' owner' plan' id mine more back owners same j view t.0 (know j view t.1))
      (at_set views id j (Mover plan') view e)

  pub mover_steps : (past' : List Event) (plan' : Plan) (id : ℕ) → id ≡ mover → plan'.dealt ≡ plan.dealt → plan'.back ≡ plan.back → ((v : ℕ) → takes_of past' v ≡ takes_of past v)
      → AllKnow past' stances owner plan' mover (set views id (Mover plan'))
  mover_steps past' plan' id mine dealt back same = mover_steps_as past' owner plan' id mine (omega arith) (let l = ap length back in omega arith) (λ v l. refl) same

  -- another seat is split off the mover's: that of the worker w, the next
  pub mover_splits : (owner' : ℕ → ℕ) (plan' : Plan) (id w : ℕ) (h : Hand) → id ≡ mover → w ≡ plan.dealt → plan'.dealt ≡ plan.dealt + 1 → plan'.back ≡ plan.back → length plan.back ≤ w
      → ((v : ℕ) → v < plan.dealt → owner' v ≡ owner v) → owner' w ≡ length (set views id (Mover plan')) → h ≡ hand (stances w) (takes_of past w)
      → AllKnow past stances owner' plan' mover (set views id (Mover plan') ++ Worker w h ∷ [])
  mover_splits owner' plan' id w h mine next dealt back few owners new is j view e = ⊎_elim
      (λ t. mover_steps_as past owner' plan' id mine (omega arith) (let l = ap length back in omega arith) owners (λ v. refl) j view t)
      (λ t. subst (Knows past stances owner' plan' mover j) t.1 (omega arith, let l = ap length back in omega arith, new ∙ sym t.0, is))
      (at_end (set views id (Mover plan')) (Worker w h) view j e)

  -- the seat of the worker w, the next, is joined to the mover's
  pub mover_joins : (plan' : Plan) (id other w : ℕ) (h : Hand) → id ≡ mover → get_elem? views other ≡ some (Worker w h) → w ≡ length plan.back → plan'.dealt ≡ plan.dealt → length plan'.back ≡ w + 1
      → AllKnow past stances owner plan' mover (set (set views id (Mover plan')) other Spent)
  mover_joins plan' id other w h mine at next dealt back j view e = ⊎_elim
      (λ t. subst (Knows past stances owner plan' mover j) t.1 tt)
      (λ t. ⊎_elim
      (λ u. subst (Knows past stances owner plan' mover j) u.1 (refl, u.0 ∙ mine))
      (λ u. others j view t.0 u.0 (know j view u.1))
      (at_set views id j (Mover plan') view t.1))
      (at_set (set views id (Mover plan')) other j Spent view e)
    where
      others : (j : ℕ) (view : Doing) → j ≢ other → j ≢ id → Knows past stances owner plan mover j view → Knows past stances owner plan' mover j view
      others j Spent n m k = tt
      others j (Worker v g) n m k =
          let theirs = know other (Worker w h) at in
          let apart : v ≢ w = λ e. n (sym k.2 ∙ (ap owner e ∙ theirs.2)) in
          (let l = k.0 in omega arith, let l = k.1 in omega arith, k.2, k.3)
      others j (Mover q) n m k = absurd (m (k.1 ∙ sym mine))

-- two views of one seat are one
same_view : (views : List Doing) (i j : ℕ) (a b : Doing) → get_elem? views i ≡ some a → get_elem? views j ≡ some b → i ≡ j → a ≡ b
same_view views i j a b e f same = some-injective a b (sym e ∙ (ap (λ (k : ℕ). get_elem? views k) same ∙ f))

module _ (past : List Event) (stances : ℕ → Stance) (owner : ℕ → ℕ) (plan : Plan) (mover : ℕ) (views : List Doing) (old : Seated past stances owner plan mover views) where
  pub worker_sits : (past' : List Event) (stances' : ℕ → Stance) (id w : ℕ) (h h' : Hand) → get_elem? views id ≡ some (Worker w h) → owner w ≡ id → h' ≡ hand (stances' w) (takes_of past' w)
      → ((v : ℕ) → v ≢ w → (stances' v ≡ stances v) × (takes_of past' v ≡ takes_of past v))
      → Seated past' stances' owner plan mover (set views id (Worker w h'))
  worker_sits past' stances' id w h h' at mine is rest = record {
    worker = λ v low high. either_way v w
        (λ e. ap (λ (k : ℕ). get_elem? (set views id (Worker w h')) k) (ap owner e ∙ mine) ∙ (set_here views id (Worker w h') (inside_of views id (Worker w h) at) ∙ (ap (λ (g : Hand). some (Worker w g)) is ∙ ap (λ (k : ℕ). some (Worker k (hand (stances' k) (takes_of past' k)))) (sym e))))
        (λ ne. let t = rest v ne in set_else views id (owner v) (Worker w h') (λ e. ne (let f = same_view views (owner v) id (Worker v (hand (stances v) (takes_of past v))) (Worker w h) (old.worker v low high) at e in let g : v ≡ w = cc in g))
        ∙ (old.worker v low high ∙ (λ i. some (Worker v (hand (sym t.0 i) (sym t.1 i))))));
    own = set_else views id mover (Worker w h') (λ e. let f = same_view views mover id (Mover plan) (Worker w h) old.own at e in let g : ⊥ = cc in g) ∙ old.own;
  }

  mover_sits_as : (past' : List Event) (owner' : ℕ → ℕ) (plan' : Plan) (id w : ℕ) → id ≡ mover → length plan.back ≤ length plan'.back → ((v : ℕ) → v < plan.dealt → owner' v ≡ owner v) → ((v : ℕ) → takes_of past' v ≡ takes_of past v)
      → length plan'.back ≤ w → w < plan.dealt → get_elem? (set views id (Mover plan')) (owner' w) ≡ some (Worker w (hand (stances w) (takes_of past' w)))
  mover_sits_as past' owner' plan' id w mine back owners same low high =
      let was = old.worker w (omega arith) high in
      ap (λ (k : ℕ). get_elem? (set views id (Mover plan')) k) (owners w high)
      ∙ (set_else views id (owner w) (Mover plan') (λ e. let f = same_view views (owner w) mover (Worker w (hand (stances w) (takes_of past w))) (Mover plan) was old.own (e ∙ mine) in let g : ⊥ = cc in g)
      ∙ (was ∙ (λ i. some (Worker w (hand (stances w) (sym (same w) i))))))

  own_sits : (plan' : Plan) (id : ℕ) → id ≡ mover → get_elem? (set views id (Mover plan')) mover ≡ some (Mover plan')
  own_sits plan' id mine = ap (λ (k : ℕ). get_elem? (set views id (Mover plan')) k) (sym mine) ∙ set_here views id (Mover plan') (inside_of views id (Mover plan) (ap (get_elem? views) mine ∙ old.own))

  pub mover_sits : (past' : List Event) (plan' : Plan) (id : ℕ) → id ≡ mover → plan'.dealt ≡ plan.dealt → plan'.back ≡ plan.back → ((v : ℕ) → takes_of past' v ≡ takes_of past v)
      → Seated past' stances owner plan' mover (set views id (Mover plan'))
  mover_sits past' plan' id mine dealt back same = record {
    worker = λ w low high. mover_sits_as past' owner plan' id w mine (let l = ap length back in omega arith) (λ v l. refl) same low (omega arith);
    own = own_sits plan' id mine;
  }

  pub split_sits : (owner' : ℕ → ℕ) (plan' : Plan) (id w : ℕ) (h : Hand) → id ≡ mover → w ≡ plan.dealt → plan'.dealt ≡ plan.dealt + 1 → plan'.back ≡ plan.back
      → ((v : ℕ) → v < plan.dealt → owner' v ≡ owner v) → owner' w ≡ length (set views id (Mover plan')) → h ≡ hand (stances w) (takes_of past w)
      → Seated past stances owner' plan' mover (set views id (Mover plan') ++ Worker w h ∷ [])
  split_sits owner' plan' id w h mine next dealt back owners new is = record {
    worker = λ v low high. either_way v w
        (λ e. ap (λ (k : ℕ). get_elem? (set views id (Mover plan') ++ Worker w h ∷ []) k) (ap owner' e) ∙ (at_last (set views id (Mover plan')) (Worker w h) (owner' w) (sym new) ∙ (ap (λ (g : Hand). some (Worker w g)) is ∙ ap (λ (k : ℕ). some (Worker k (hand (stances k) (takes_of past k)))) (sym e))))
        (λ ne. at_longer (set views id (Mover plan')) (Worker w h ∷ []) (owner' v) (Worker v (hand (stances v) (takes_of past v))) (mover_sits_as past owner' plan' id v mine (let l = ap length back in omega arith) owners (λ u. refl) low (omega arith)));
    own = at_longer (set views id (Mover plan')) (Worker w h ∷ []) mover (Mover plan') (own_sits plan' id mine);
  }

  pub join_sits : (plan' : Plan) (id other w : ℕ) (h : Hand) → id ≡ mover → ¬ (other ≡ id) → get_elem? views other ≡ some (Worker w h) → w ≡ length plan.back → plan'.dealt ≡ plan.dealt → length plan'.back ≡ w + 1
      → Seated past stances owner plan' mover (set (set views id (Mover plan')) other Spent)
  join_sits plan' id other w h mine apart there next dealt back = record {
    worker = λ v low high. set_else (set views id (Mover plan')) other (owner v) Spent
        (λ e. let f = same_view views (owner v) other (Worker v (hand (stances v) (takes_of past v))) (Worker w h) (old.worker v (omega arith) (omega arith)) there e in let g : v ≡ w = cc in omega arith)
        ∙ mover_sits_as past owner plan' id v mine (omega arith) (λ u l. refl) (λ u. refl) low (omega arith);
    own = set_else (set views id (Mover plan')) other mover Spent (λ e. apart (sym (mine ∙ e))) ∙ own_sits plan' id mine;
  }
