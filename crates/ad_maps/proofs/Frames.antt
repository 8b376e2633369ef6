-- What stays of the rule at a step: a worker's, or the mover's.
use Rattle.std.proofs.Common.{arith, ◌≡◌, ◌≢◌, ℕ, ◌%◌, ◌<◌, ◌≤◌, List, length, set, refl, sym, ap, ◌∙◌, subst, inl, inr}
use Rattle.std.proofs.lemmas.Bool.{cases_eq, cases_lt}
use mathlib.Core.Option.{some}
use lib.ListN.{get_elem?}
use Rattle.ad_base.specs.declared.place.Place.{Place}
use Rattle.ad_events.specs.Functions.{changed}
use Rattle.ad_events.specs.Owed.{seat_at}
use Rattle.ad_events.specs.Reclaim as machine
use Rattle.ad_events.specs.Reclaim.{Agent, ReclaimState}
use Rattle.ad_events.proofs.Functions.{changed-here, changed-else}
use Rattle.ad_maps.specs.declared.shape.Shape.{Shape}
use Rattle.ad_maps.specs.declared.view.Freeing.{Freeing}
use Rattle.ad_maps.specs.declared.view.Hand.{Hand}
use Rattle.ad_maps.specs.declared.view.Made.{Made}
use Rattle.ad_maps.specs.declared.view.Plan.{Plan}
use Rattle.ad_maps.specs.declared.view.Doing.TheVariants.{Worker, Mover}
use Rattle.ad_maps.specs.Names.{Words, AreWords}
use Rattle.ad_maps.specs.Ledger.{all_made, line_in, unmaps_in_acts, unmaps_in_deeds}
use Rattle.ad_maps.specs.Rule.{St, Kept, Reached, Mappings, Owing, Batching, Freed, HandStands, IsAtRest, seat_of, unmaps_made}
use Rattle.ad_maps.proofs.Seats.{worker_steps, worker_sits, mover_steps, mover_sits}
use Rattle.ad_maps.proofs.Telling.{Told}

-- the rule holds, of this state of the machine
pub record KeptWith (shape : Shape) (s : St) (j : ReclaimState) : Type 0 where
  pub kept : Kept shape s
  pub state : kept.state ≡ j

-- what a worker's seat knows
pub record WorkerKnows (shape : Shape) (s : St) (r : Kept shape s) (id w : ℕ) (h : Hand) : Type 0 where
  pub dealt : w < r.plan.dealt
  pub out : length r.plan.back ≤ w
  pub few : w < shape.workers
  pub mine : r.seater w ≡ id
  pub view : h ≡ r.hands w
  pub hand : HandStands shape r.state.world r.places r.ledger r.plan.current r.gives w h
  pub seat : seat_at r.state.owed w ≡ seat_of (w % shape.slots) h.stance
  pub freeing : h.freeing ≡ r.frees (machine.Worker w)

pub worker_knows : (shape : Shape) (s : St) (r : Kept shape s) (id w : ℕ) (h : Hand) → get_elem? s.views id ≡ some (Worker w h) → WorkerKnows shape s r id w h
worker_knows shape s r id w h at =
    let k = r.each_seat id (Worker w h) at in record {
      dealt = k.0;
      out = k.1;
      few = let a = k.0 in let b = r.dealt.few in omega arith;
      mine = k.2;
      view = k.3;
      hand = subst (HandStands shape r.state.world r.places r.ledger r.plan.current r.gives w) (sym k.3) (r.each_hand w);
      seat = r.each_stance w ∙ ap (λ (g : Hand). seat_of (w % shape.slots) g.stance) (sym k.3);
      freeing = ap (λ (g : Hand). g.freeing) k.3 ∙ r.tells.hand w;
    }

-- a worker whose seat isn't at rest has it
pub seat-there : (shape : Shape) (s : St) (r : Kept shape s) (w : ℕ) → (IsAtRest (r.hands w) → ⊥) → get_elem? s.views (r.seater w) ≡ some (Worker w (r.hands w))
seat-there shape s r w busy =
    elim (cases_lt w (length r.plan.back)) [
      | inl low ↦ absurd (busy (r.dealt.back w low).0)
      | inr out ↦
          elim (cases_lt w r.plan.dealt) [
            | inl dealt ↦ r.seated.worker w out dealt
            | inr far ↦ absurd (busy (subst IsAtRest (sym (r.dealt.undealt w far)) (record { away = refl; freed = refl; given = refl })))
          ]
    ]

-- a worker makes a step: its view is h' now, the machine's state is j', and the words are these
module _ (shape : Shape) (s : St) (r : Kept shape s) (id w : ℕ) (h h' : Hand) (at : get_elem? s.views id ≡ some (Worker w h)) (xs : List ℕ) (words : Words) (j : ReclaimState) where
  module _ (gives : Agent → List Place) (frees : Agent → Freeing) where
    pub worker_step_as : AreWords xs words → (reached : Reached shape j)
        → Told (machine.Worker w) r.reached.past reached.past (unmaps_in_acts h.acts) (unmaps_in_acts h'.acts)
        → Mappings shape j.world.mappings r.places r.ledger r.plan gives words.current words.directory words.owner words.cell
        → Owing shape j.owed j.batch r.places r.lines words.slot words.count words.member
        → Batching j.owed j.batch words.member r.plan
        → Freed j words.member r.lines r.places gives frees
        → h'.freeing ≡ frees (machine.Worker w)
        → ((v : ℕ) → v ≢ w → frees (machine.Worker v) ≡ r.frees (machine.Worker v))
        → frees machine.Mover ≡ r.frees machine.Mover → gives machine.Mover ≡ r.gives machine.Mover
        → seat_at j.owed w ≡ seat_of (w % shape.slots) h'.stance
        → ((v : ℕ) → v ≢ w → seat_at j.owed v ≡ seat_at r.state.owed v)
        → HandStands shape j.world r.places r.ledger r.plan.current gives w h'
        → ((v : ℕ) → v ≢ w → HandStands shape r.state.world r.places r.ledger r.plan.current r.gives v (r.hands v) → HandStands shape j.world r.places r.ledger r.plan.current gives v (r.hands v))
        → KeptWith shape (record { words = xs; homes = s.homes; views = set s.views id (Worker w h') }) j
    worker_step_as reads reached told mappings owing batching freed tied others_tied own own_gives mine others mine_stands others_stand =
        let k = worker_knows shape s r id w h at in
        let hands : ℕ → Hand = changed r.hands w h' in
        let here : (v : ℕ) → v ≡ w → hands v ≡ h' = λ v e. changed-here r.hands w h' v e in
        let else : (v : ℕ) → v ≢ w → hands v ≡ r.hands v = λ v ne. changed-else r.hands w h' v ne in record {
          state = refl;
          kept = record {
            words = words;
            state = j;
            places = r.places;
            ledger = r.ledger;
            lines = r.lines;
            gives = gives;
            frees = frees;
            hands = hands;
            seater = r.seater;
            plan = r.plan;
            mover = r.mover;
            form = r.form;
            reads = reads;
            reached = reached;
            mappings = mappings;
            owing = owing;
            batching = batching;
            freed = freed;
            tells = record {
              hand = λ v.
                  elim (cases_eq v w) [
                    | inl e ↦ ap (λ (g : Hand). g.freeing) (here v e) ∙ (tied ∙ ap (λ (u : ℕ). frees (machine.Worker u)) (sym e))
                    | inr ne ↦ ap (λ (g : Hand). g.freeing) (else v ne) ∙ (r.tells.hand v ∙ sym (others_tied v ne))
                  ];
              own = r.tells.own ∙ sym own;
              own_gives = r.tells.own_gives ∙ sym own_gives;
            };
            unmaps = record {
              worker = λ v n.
                  elim (cases_eq v w) [
                    | inl e ↦ ap (λ (g : Hand). unmaps_in_acts g.acts n) (here v e) ∙ (told.mine n (ap (λ (g : Hand). unmaps_in_acts g.acts n) k.view ∙ r.unmaps.worker w n) ∙ ap (λ (u : ℕ). unmaps_made (machine.Worker u) reached.past n) (sym e))
                    | inr ne ↦ ap (λ (g : Hand). unmaps_in_acts g.acts n) (else v ne) ∙ (r.unmaps.worker v n ∙ sym (told.others (machine.Worker v) (λ e. ne (let same : v ≡ w = cc in same)) n))
                  ];
              mover = λ n. r.unmaps.mover n ∙ sym (told.others machine.Mover (λ e. let z : ⊥ = cc in z) n);
            };
            ledger_is = r.ledger_is;
            lines_are = r.lines_are;
            each_stance = λ v.
                elim (cases_eq v w) [
                  | inl e ↦ ap (seat_at j.owed) e ∙ (mine ∙ (ap (λ (u : ℕ). seat_of (u % shape.slots) h'.stance) (sym e) ∙ ap (λ (g : Hand). seat_of (v % shape.slots) g.stance) (sym (here v e))))
                  | inr ne ↦ others v ne ∙ (r.each_stance v ∙ ap (λ (g : Hand). seat_of (v % shape.slots) g.stance) (sym (else v ne)))
                ];
            each_hand = λ v.
                elim (cases_eq v w) [
                  | inl e ↦ subst (HandStands shape j.world r.places r.ledger r.plan.current gives v) (sym (here v e)) (subst (λ (u : ℕ). HandStands shape j.world r.places r.ledger r.plan.current gives u h') (sym e) mine_stands)
                  | inr ne ↦ subst (HandStands shape j.world r.places r.ledger r.plan.current gives v) (sym (else v ne)) (others_stand v ne (r.each_hand v))
                ];
            each_seat = worker_steps r.hands r.seater r.plan r.mover s.views r.each_seat hands id w h h' at (sym (here w refl)) else;
            seated = worker_sits r.hands r.seater r.plan r.mover s.views r.seated hands id w h h' at k.mine (sym (here w refl)) else;
            dealt = record {
              slots = r.dealt.slots;
              few = r.dealt.few;
              undealt = λ v l. else v (λ e. let d = k.dealt in omega arith) ∙ r.dealt.undealt v l;
              back = λ v l. (let ne : v ≢ w = λ e. let o = k.out in omega arith in let b = r.dealt.back v l in (subst IsAtRest (sym (else v ne)) b.0, b.1 ∙ ap some (sym (else v ne))));
            };
          };
        }

  -- the same, where nothing is freed or given back
  pub worker_step : AreWords xs words → (reached : Reached shape j)
      → Told (machine.Worker w) r.reached.past reached.past (unmaps_in_acts h.acts) (unmaps_in_acts h'.acts)
      → Mappings shape j.world.mappings r.places r.ledger r.plan r.gives words.current words.directory words.owner words.cell
      → Owing shape j.owed j.batch r.places r.lines words.slot words.count words.member
      → Batching j.owed j.batch words.member r.plan
      → Freed j words.member r.lines r.places r.gives r.frees
      → h'.freeing ≡ h.freeing
      → seat_at j.owed w ≡ seat_of (w % shape.slots) h'.stance
      → ((v : ℕ) → v ≢ w → seat_at j.owed v ≡ seat_at r.state.owed v)
      → HandStands shape j.world r.places r.ledger r.plan.current r.gives w h'
      → ((v : ℕ) → v ≢ w → HandStands shape r.state.world r.places r.ledger r.plan.current r.gives v (r.hands v) → HandStands shape j.world r.places r.ledger r.plan.current r.gives v (r.hands v))
      → KeptWith shape (record { words = xs; homes = s.homes; views = set s.views id (Worker w h') }) j
  worker_step reads reached told mappings owing batching freed same mine others mine_stands others_stand =
      worker_step_as r.gives r.frees reads reached told mappings owing batching freed (same ∙ (worker_knows shape s r id w h at).freeing) (λ v ne. refl) refl refl mine others mine_stands others_stand

-- what the mover's seat knows
pub mover_is : (shape : Shape) (s : St) (r : Kept shape s) (id : ℕ) (q : Plan) → get_elem? s.views id ≡ some (Mover q) → (q ≡ r.plan) × (id ≡ r.mover)
mover_is shape s r id q at = r.each_seat id (Mover q) at

-- the mover makes a step: its view is q' now, the machine's state is j', and the words are these
module _ (shape : Shape) (s : St) (r : Kept shape s) (id : ℕ) (q' : Plan) (mine : id ≡ r.mover) (xs : List ℕ) (words : Words) (j : ReclaimState) (places : ℕ → Place) (ledger : List Made) where
  module _ (lines : ℕ → ℕ) (gives : Agent → List Place) (frees : Agent → Freeing) where
    pub mover_step_as : q'.slots ≡ r.plan.slots → q'.dealt ≡ r.plan.dealt → q'.back ≡ r.plan.back → AreWords xs words → (reached : Reached shape j)
        → Told machine.Mover r.reached.past reached.past (unmaps_in_deeds r.plan.deeds) (unmaps_in_deeds q'.deeds)
        → Mappings shape j.world.mappings places ledger q' gives words.current words.directory words.owner words.cell
        → Owing shape j.owed j.batch places lines words.slot words.count words.member
        → Batching j.owed j.batch words.member q'
        → Freed j words.member lines places gives frees
        → ((v : ℕ) → frees (machine.Worker v) ≡ r.frees (machine.Worker v))
        → q'.freeing ≡ frees machine.Mover → q'.gives ≡ gives machine.Mover
        → ledger ≡ all_made shape q'.deeds
        → ((n : ℕ) → lines n ≡ line_in q'.deeds n)
        → ((v : ℕ) → seat_at j.owed v ≡ seat_at r.state.owed v)
        → ((v : ℕ) → HandStands shape r.state.world r.places r.ledger r.plan.current r.gives v (r.hands v) → HandStands shape j.world places ledger q'.current gives v (r.hands v))
        → KeptWith shape (record { words = xs; homes = s.homes; views = set s.views id (Mover q') }) j
    mover_step_as slots dealt back reads reached told mappings owing batching freed tied own own_gives ledger_is lines_are seats stand =
        record {
          state = refl;
          kept = record {
            words = words;
            state = j;
            places = places;
            ledger = ledger;
            lines = lines;
            gives = gives;
            frees = frees;
            hands = r.hands;
            seater = r.seater;
            plan = q';
            mover = r.mover;
            form = r.form;
            reads = reads;
            reached = reached;
            mappings = mappings;
            owing = owing;
            batching = batching;
            freed = freed;
            tells = record { hand = λ v. r.tells.hand v ∙ sym (tied v); own = own; own_gives = own_gives };
            unmaps = record {
              worker = λ v n. r.unmaps.worker v n ∙ sym (told.others (machine.Worker v) (λ e. let z : ⊥ = cc in z) n);
              mover = λ n. told.mine n (r.unmaps.mover n);
            };
            ledger_is = ledger_is;
            lines_are = lines_are;
            each_stance = λ v. seats v ∙ r.each_stance v;
            each_hand = λ v. stand v (r.each_hand v);
            each_seat = mover_steps r.hands r.seater r.plan r.mover s.views r.each_seat q' id mine dealt back;
            seated = mover_sits r.hands r.seater r.plan r.mover s.views r.seated q' id mine dealt back;
            dealt = record {
              slots = slots ∙ r.dealt.slots;
              few = let a = r.dealt.few in omega arith;
              undealt = λ v l. r.dealt.undealt v (omega arith);
              back = λ v l. (let b = r.dealt.back v (subst (λ (hs : List Hand). v < length hs) back l) in (b.0, ap (λ (hs : List Hand). get_elem? hs v) back ∙ b.1));
            };
          };
        }

  -- the same, where nothing is listed, freed or given back
  pub mover_step : q'.slots ≡ r.plan.slots → q'.dealt ≡ r.plan.dealt → q'.back ≡ r.plan.back → AreWords xs words → (reached : Reached shape j)
      → Told machine.Mover r.reached.past reached.past (unmaps_in_deeds r.plan.deeds) (unmaps_in_deeds q'.deeds)
      → Mappings shape j.world.mappings places ledger q' r.gives words.current words.directory words.owner words.cell
      → Owing shape j.owed j.batch places r.lines words.slot words.count words.member
      → Batching j.owed j.batch words.member q'
      → Freed j words.member r.lines places r.gives r.frees
      → q'.freeing ≡ r.plan.freeing → q'.gives ≡ r.plan.gives
      → ledger ≡ all_made shape q'.deeds
      → ((n : ℕ) → r.lines n ≡ line_in q'.deeds n)
      → ((v : ℕ) → seat_at j.owed v ≡ seat_at r.state.owed v)
      → ((v : ℕ) → HandStands shape r.state.world r.places r.ledger r.plan.current r.gives v (r.hands v) → HandStands shape j.world places ledger q'.current r.gives v (r.hands v))
      → KeptWith shape (record { words = xs; homes = s.homes; views = set s.views id (Mover q') }) j
  mover_step slots dealt back reads reached told mappings owing batching freed same same_gives = mover_step_as r.lines r.gives r.frees slots dealt back reads reached told mappings owing batching freed (λ v. refl) (same ∙ r.tells.own) (same_gives ∙ r.tells.own_gives)
