-- The mover's seat, once the worker's seats were joined to it.
use Rattle.std.proofs.Common.{◌≡◌, ℕ, List, [], ◌∷◌, ◌++◌, length, map, IfSome, Option, Some, refl, sym, ap, ◌∙◌, subst}
use Rattle.std.specs.List.{slice_get}
use Rattle.std.proofs.lemmas.List.{length-map}
use Rattle.atomic_table.specs.Seated.{TableId}
use Rattle.atomic_table.specs.Table.{Joins}
use Rattle.atomic_table.proofs.Lists.{set_else}
use Rattle.ad_maps.specs.declared.shape.Shape.{Shape}
use Rattle.ad_maps.specs.declared.view.Act.{Act}
use Rattle.ad_maps.specs.declared.view.Stance.TheVariants as stance
use Rattle.ad_maps.specs.declared.view.Hand.{Hand}
use Rattle.ad_maps.specs.declared.view.Plan.{Plan}
use Rattle.ad_maps.specs.declared.view.Doing.TheVariants.{Spent, Worker, Mover}
use Rattle.ad_maps.specs.Rule.{Kept}
use Rattle.ad_maps.specs.Seen.{SeatSeen}
use Rattle.ad_maps.specs.Steps.{Sat, hand, after_join}
use Rattle.ad_maps.specs.Private.Handles.{acts_of, plan_of, worker_of, IsWorker}
use Rattle.ad_maps.specs.Private.Numbered.{acts_back, HasBack}
use Rattle.ad_maps.proofs.SeatLaws.{join_law}

-- an element in the middle of a list
pub at_seam : {A : Type 0} (xs : List A) (y : A) (ys : List A) → slice_get (xs ++ y ∷ ys) (length xs) ≡ Some y
at_seam [] y ys = refl
at_seam (x ∷ xs) y ys = at_seam xs y ys

map_one_more : {A B : Type 0} (f : A → B) (xs : List A) (x : A) → map f (xs ++ x ∷ []) ≡ map f xs ++ f x ∷ []
map_one_more f [] x = refl
map_one_more f (y ∷ ys) x = ap (λ zs. f y ∷ zs) (map_one_more f ys x)

-- no seat came back yet
pub none_back : (me : Sat) → me ≡ (Mover (plan_of me.0), []) → (plan_of me.0).back ≡ [] → HasBack (plan_of me.0) [] me
none_back me is none = record { view = is; acts = ap acts_back none }

-- as many seats came back as were joined
pub back_count : (before : Plan) (seats : List SeatSeen) (me : Sat) → HasBack before seats me → length (plan_of me.0).back ≡ length seats
back_count before seats me has =
    sym (length-map (plan_of me.0).back (λ (h : Hand). h.acts)) ∙ (ap (λ (xs : List (List Act)). length xs) has.acts ∙ length-map seats (λ (s : SeatSeen). s.acts))

module _ (before : Plan) (seats : List SeatSeen) (me me' : Sat) (slot : ℕ) (has : HasBack before seats me) (is : IsWorker me' slot stance.Away) where
  abbrev theirs : Hand
  theirs = hand slot stance.Away [] (acts_of me'.0)

  abbrev mine : Plan
  mine = record before { back = (plan_of me.0).back }

  -- the seat of the next worker may be joined
  pub allows_join : (shape : Shape) (id other : ℕ) → worker_of me'.0 ≡ length seats → Joins (Kept shape) id me.0 other me'.0 (after_join me.0 me'.0) Spent
  allows_join shape id other next =
      let w = worker_of me'.0 in
      let q : Plan = mine in
      let both : Sat → Sat → Type 0 = λ m n. Joins (Kept shape) id m.0 other n.0 (after_join m.0 n.0) Spent in
      subst (λ (m : Sat). both m me') (sym has.view)
      (subst (λ (n : Sat). both (Mover q, []) n) (sym is.view) (λ s r at apart there.
      (join_law shape s r id q other w slot (acts_of me'.0) at apart
      (sym (set_else s.views id other (after_join (Mover q) (Worker w theirs)) apart) ∙ there)
      (next ∙ sym (back_count before seats me has))).kept))

  -- and then it came back
  pub joined : (me'' : Sat) (one : SeatSeen) → me'' ≡ (after_join me.0 me'.0, me.1) → acts_of me'.0 ≡ one.acts → HasBack before (seats ++ one ∷ []) me''
  joined me'' one e acts =
      let hands = (plan_of me.0).back in
      let now : me'' ≡ (Mover (record before { back = hands ++ theirs ∷ [] }), []) = e ∙ (λ i. (after_join (has.view i).0 (is.view i).0, (has.view i).1)) in
      let back : (plan_of me''.0).back ≡ hands ++ theirs ∷ [] = ap (λ (m : Sat). (plan_of m.0).back) now in record {
        view = now ∙ ap (λ (hs : List Hand). (Mover (record before { back = hs }), [])) (sym back);
        acts = ap acts_back back
            ∙ (map_one_more (λ (h : Hand). h.acts) hands theirs
            ∙ ((λ i. has.acts i ++ acts i ∷ []) ∙ sym (map_one_more (λ (s : SeatSeen). s.acts) seats one)));
      }

-- the seat that comes next is the next worker's
pub next_one : (table : TableId) (seats done rest : List SeatSeen) (one : SeatSeen) → ((w : ℕ) → IfSome (slice_get seats w) (λ s. (s.table ≡ table) × (s.worker ≡ w))) → seats ≡ done ++ one ∷ rest → (one.table ≡ table) × (one.worker ≡ length done)
next_one table seats done rest one each e = subst (λ (o : Option SeatSeen). IfSome o (λ s. (s.table ≡ table) × (s.worker ≡ length done))) (ap (λ (xs : List SeatSeen). slice_get xs (length done)) e ∙ at_seam done one rest) (each (length done))
