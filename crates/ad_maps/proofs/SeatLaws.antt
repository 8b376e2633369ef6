-- Splitting and joining a seat keeps the rule.
use Rattle.std.proofs.Common.{◌≡◌, ℕ, ◌+◌, ◌%◌, List, [], ◌∷◌, ◌++◌, length, length-append, set, refl, sym, ap, ◌∙◌, subst, inl, inr, arith}
use Rattle.std.proofs.lemmas.Bool.{cases_eq}
use mathlib.Core.Option.{some}
use lib.ListN.{get_elem?}
use Rattle.atomic_table.proofs.Lists.{at_longer, at_last}
use Rattle.ad_events.specs.Functions.{changed}
use Rattle.ad_events.proofs.Functions.{changed-here, changed-else}
use Rattle.ad_maps.specs.declared.shape.Shape.{Shape}
use Rattle.ad_maps.specs.declared.view.Stance.TheVariants as stance
use Rattle.ad_maps.specs.declared.view.Hand.{Hand}
use Rattle.ad_maps.specs.declared.view.Plan.{Plan}
use Rattle.ad_maps.specs.declared.view.Doing.{Doing}
use Rattle.ad_maps.specs.declared.view.Doing.TheVariants.{Spent, Worker, Mover}
use Rattle.ad_maps.specs.Laws.{SplitLaw, JoinLaw, Stays}
use Rattle.ad_maps.specs.Ledger.{all_made, line_in, unmaps_in_deeds}
use Rattle.ad_maps.specs.Rule.{St, Kept, Mappings, HandStands, IsAtRest, Batching, Seated, Dealt}
use Rattle.ad_maps.specs.Steps.{hand, new_hand, dealing, gathering}
use Rattle.ad_maps.proofs.Freeings.{batching-plan}
use Rattle.ad_maps.proofs.MappingFrames.{mappings-stay}
use Rattle.ad_maps.proofs.Seats.{AllKnow, mover_splits, mover_joins, split_sits, join_sits}

-- what the mover's seat knows of the seats
record SeatsKnown (shape : Shape) (s : St) (r : Kept shape s) (id : ℕ) (q : Plan) : Type 0 where
  mine : id ≡ r.mover
  is : q ≡ r.plan
  know : AllKnow r.hands r.seater q r.mover s.views
  seated : Seated r.hands r.seater q r.mover s.views
  dealt : Dealt shape r.hands q

seats_known : (shape : Shape) (s : St) (r : Kept shape s) (id : ℕ) (q : Plan) → get_elem? s.views id ≡ some (Mover q) → SeatsKnown shape s r id q
seats_known shape s r id q at =
    let k = r.each_seat id (Mover q) at in
    subst (SeatsKnown shape s r id) (sym k.0) (record { mine = k.1; is = refl; know = r.each_seat; seated = r.seated; dealt = r.dealt })

-- the rule holds with other seats: other views, and a plan that differs in what it says of the seats
with_seats : (shape : Shape) (s : St) (r : Kept shape s) (views : List Doing) (seater : ℕ → ℕ) (dealt : ℕ) (back : List Hand) (q : Plan) → record r.plan { dealt = dealt; back = back } ≡ q
    → AllKnow r.hands seater q r.mover views → Seated r.hands seater q r.mover views → Dealt shape r.hands q → Stays shape s r (record { words = s.words; homes = s.homes; views = views })
with_seats shape s r views seater dealt back q same know seated dealt_is = record {
  kept = record {
    words = r.words;
    state = r.state;
    places = r.places;
    ledger = r.ledger;
    lines = r.lines;
    gives = r.gives;
    frees = r.frees;
    hands = r.hands;
    seater = seater;
    plan = q;
    mover = r.mover;
    form = r.form;
    reads = r.reads;
    reached = r.reached;
    mappings = subst (λ (p : Plan). Mappings shape r.state.world.mappings r.places r.ledger p r.gives r.words.current r.words.directory r.words.owner r.words.cell) same
        (mappings-stay shape s r r.plan r.mappings r.mappings.rooms);
    owing = r.owing;
    batching = subst (Batching r.state.owed r.state.batch r.words.member) same (batching-plan r.state.owed r.state.batch r.words.member r.plan (record r.plan { dealt = dealt; back = back }) refl refl refl r.batching);
    freed = r.freed;
    tells = record { hand = r.tells.hand; own = ap (λ (p : Plan). p.freeing) (sym same) ∙ r.tells.own; own_gives = ap (λ (p : Plan). p.gives) (sym same) ∙ r.tells.own_gives };
    unmaps = record { worker = r.unmaps.worker; mover = λ i. ap (λ (p : Plan). unmaps_in_deeds p.deeds i) (sym same) ∙ r.unmaps.mover i };
    ledger_is = r.ledger_is ∙ ap (λ (p : Plan). all_made shape p.deeds) same;
    lines_are = λ i. r.lines_are i ∙ ap (λ (p : Plan). line_in p.deeds i) same;
    each_stance = r.each_stance;
    each_hand = λ v. subst (λ (p : Plan). HandStands shape r.state.world r.places r.ledger p.current r.gives v (r.hands v)) same (r.each_hand v);
    each_seat = know;
    seated = seated;
    dealt = dealt_is;
  };
  state = refl;
}

pub split_law : SplitLaw
split_law shape s r id q at inside none =
    let k = seats_known shape s r id q at in
    let w = q.dealt in
    let q' : Plan = dealing q in
    let n = length (set s.views id (Mover q')) in
    let seater' : ℕ → ℕ = changed r.seater w n in
    let free : new_hand (w % q.slots) ≡ r.hands w = ap (λ (i : ℕ). new_hand (w % i)) k.dealt.slots ∙ sym (k.dealt.undealt w (omega arith)) in
    with_seats shape s r (set s.views id (Mover q') ++ Worker w (new_hand (w % q.slots)) ∷ []) seater' (r.plan.dealt + 1) r.plan.back q' (ap dealing (sym k.is))
    (mover_splits r.hands r.seater q r.mover s.views k.know seater' q' id w (new_hand (w % q.slots)) k.mine refl refl refl (let l = ap length none in omega arith)
    (λ v l. changed-else r.seater w n v (λ e. omega arith)) (changed-here r.seater w n w refl) free)
    (split_sits r.hands r.seater q r.mover s.views k.seated seater' q' id w (new_hand (w % q.slots)) k.mine refl refl refl
    (λ v l. changed-else r.seater w n v (λ e. omega arith)) (changed-here r.seater w n w refl) free)
    (record { slots = k.dealt.slots; few = omega arith; undealt = λ v l. k.dealt.undealt v (omega arith); back = k.dealt.back })

pub join_law : JoinLaw
join_law shape s r id q other w slot acts at apart there next =
    let k = seats_known shape s r id q at in
    let h : Hand = hand slot stance.Away [] acts in
    let theirs = k.know other (Worker w h) there in
    let q' : Plan = gathering q h in
    let long = length-append q.back (h ∷ []) in
    with_seats shape s r (set (set s.views id (Mover q')) other Spent) r.seater r.plan.dealt (r.plan.back ++ h ∷ []) q' (ap (λ (p : Plan). gathering p h) (sym k.is))
    (mover_joins r.hands r.seater q r.mover s.views k.know q' id other w h k.mine there next refl (omega arith))
    (join_sits r.hands r.seater q r.mover s.views k.seated q' id other w h k.mine apart there next refl (omega arith))
    (record {
      slots = k.dealt.slots;
      few = k.dealt.few;
      undealt = k.dealt.undealt;
      back = λ v l.
          elim (cases_eq v (length q.back)) [
            | inl e ↦
                let is : r.hands v ≡ h = ap r.hands (e ∙ sym next) ∙ sym theirs.3 in
                (subst IsAtRest (sym is) (record { away = refl; freed = refl; given = refl }), ap (λ (i : ℕ). get_elem? (q.back ++ h ∷ []) i) e ∙ (at_last q.back h (length q.back) refl ∙ ap some (sym is)))
            | inr ne ↦ let b = k.dealt.back v (omega arith) in (b.0, at_longer q.back (h ∷ []) v (r.hands v) b.1)
          ];
    })
