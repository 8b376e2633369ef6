-- A worker's read keeps the rule.
use Rattle.std.proofs.Common.{◌≡◌, ⊎_elim, inl, inr, ℕ, ◌+◌, ◌<◌, Bool, cond, eqb, eqb-true, List, [], ◌∷◌, ◌++◌, length, get_or, set, refl, sym, ap, ◌∙◌, subst, arith}
use Rattle.std.specs.List.{Contains}
use Rattle.std.specs.FinMap as map
use Rattle.std.proofs.lemmas.Bool.{cases_Bool}
use Rattle.std.proofs.lemmas.List.{append-nil}
use Rattle.std.proofs.lemmas.List.Elements.{Contains-push_cases}
use mathlib.Core.Option.{some}
use lib.ListN.{get_elem?}
use Rattle.ad_base.specs.declared.place.Place.{Place}
use Rattle.ad_base.specs.Place.{packed, place_at}
use Rattle.ad_events.specs.declared.mapping.Status.TheVariants.{Current}
use Rattle.ad_events.specs.World.{mapping_of}
use Rattle.ad_events.specs.Reclaim as machine
use Rattle.ad_events.proofs.WorldReads.{read-here, read-other, entered-other}
use Rattle.ad_maps.specs.declared.shape.Shape.{Shape}
use Rattle.ad_maps.specs.declared.view.Act.{Act}
use Rattle.ad_maps.specs.declared.view.Act.TheVariants as act
use Rattle.ad_maps.specs.declared.view.Stance.TheVariants as stance
use Rattle.ad_maps.specs.declared.view.Hand.{Hand}
use Rattle.ad_maps.specs.declared.view.Doing.TheVariants.{Worker}
use Rattle.ad_maps.specs.Laws.{Adds, ReadLaw}
use Rattle.ad_maps.specs.Ledger.{act_unmaps, reads_of, unmaps_in_acts, NeverFall}
use Rattle.ad_maps.specs.MapPlace.{IsPlaceOf}
use Rattle.ad_maps.specs.Names.{Current as CurrentWord}
use Rattle.ad_maps.specs.Rule.{St, Kept, IsAs, ReadStands}
use Rattle.ad_maps.specs.Steps.{hand, made}
use Rattle.ad_maps.proofs.Elements.{reads-push, reads-bound, falls-push}
use Rattle.ad_maps.proofs.Batches.{batching-worker, freed-same}
use Rattle.ad_maps.proofs.Frames.{worker_knows, worker_step}
use Rattle.ad_maps.proofs.Freeings.{read-brings}
use Rattle.ad_maps.proofs.Hands.{hand_stays}
use Rattle.ad_maps.proofs.Machine.{reached_after, lawful_of}
use Rattle.ad_base.proofs.Packing.{place_at-packed}
use Rattle.ad_maps.proofs.Writes.{rereads}
use Rattle.ad_maps.proofs.Telling.{count-same, told-quiet}

-- what the word of a module's current mapping says
pub record CurrentKnown (shape : Shape) (s : St) (r : Kept shape s) (m : ℕ) (q : Place) : Type 0 where
  pub number : q.mapping ≡ get_or r.plan.current m 0
  pub is : IsAs r.state.world.mappings r.places (made m q) Current
  pub form : IsPlaceOf shape m q
  pub listed : Contains r.ledger (made m q)
  pub word : get_or s.words (16 + m) 0 ≡ packed q

pub current_known : (shape : Shape) (s : St) (r : Kept shape s) (m : ℕ) → m < length shape.modules → CurrentKnown shape s r m (place_at (get_or s.words (16 + m) 0))
current_known shape s r m low =
    let few = r.form.few_modules in
    let cur = get_or r.plan.current m 0 in
    let now = r.mappings.each_current m low in
    let stands = r.mappings.each cur (mapping_of m Current) now.there in
    let old : Place = r.places cur in
    let word : get_or s.words (16 + m) 0 ≡ packed old = r.reads.1 (CurrentWord m) (let l : m < 8 = omega arith in l) ∙ now.word in
    let same : place_at (get_or s.words (16 + m) 0) ≡ old = ap place_at word ∙ place_at-packed old stands.form.place.place in
    subst (CurrentKnown shape s r m) (sym same) (record {
      number = stands.number;
      is = record { there = ap (map.get r.state.world.mappings) stands.number ∙ now.there; placed = ap r.places stands.number };
      form = stands.form;
      listed = stands.listed;
      word = word;
    })

-- the seat's list, once a read was added
module _ (shape : Shape) (s : St) (r : Kept shape s) (w m : ℕ) (q : Place) (known : CurrentKnown shape s r m q) (acts : List Act)
    (reads : (n : ℕ) (p : Place) → Contains acts (act.Read n p) → ReadStands r.ledger r.plan.current n p) (falls : (n : ℕ) → NeverFall (reads_of n acts)) where
  pub read_more : (n : ℕ) (p : Place) → Contains (acts ++ act.Read m q ∷ []) (act.Read n p) → ReadStands r.ledger r.plan.current n p
  read_more n p c = ⊎_elim (reads n p)
      (λ e.
      let of : m ≡ n = cc in
      let place : q ≡ p = cc in
      record {
        listed = subst (Contains r.ledger) (λ i. made (of i) (place i)) known.listed;
        past = let a = known.number in let b = ap (λ (x : Place). x.mapping) place in let c = ap (λ (k : ℕ). get_or r.plan.current k 0) of in omega arith;
      })
      (Contains-push_cases acts (act.Read m q) (act.Read n p) c)

  pub falls_more : (n : ℕ) → NeverFall (reads_of n (acts ++ act.Read m q ∷ []))
  falls_more n = subst NeverFall (sym (reads-push n acts (act.Read m q)))
      (elim (cases_Bool (eqb m n)) [
        | inl here ↦
            let of = eqb-true m n here in
            subst (λ (b : Bool). NeverFall (reads_of n acts ++ cond b (q.mapping ∷ []) [])) (sym here)
            (falls-push (reads_of n acts) q.mapping (falls n) (reads-bound n q.mapping acts (λ p c. let a = (reads n p c).past in let b = known.number in let d = ap (λ (k : ℕ). get_or r.plan.current k 0) of in omega arith)))
        | inr else ↦ subst (λ (b : Bool). NeverFall (reads_of n acts ++ cond b (q.mapping ∷ []) [])) (sym else) (subst NeverFall (sym (append-nil (reads_of n acts))) (falls n))
      ])

pub read_law : ReadLaw
read_law shape s r id w slot entry m gives acts at low = read_with shape s r id w slot entry m gives acts at (place_at (get_or s.words (16 + m) 0)) (current_known shape s r m low)
  where
    read_with : (shape : Shape) (s : St) (r : Kept shape s) (id w slot entry m : ℕ) (gives : List Place) (acts : List Act) → get_elem? s.views id ≡ some (Worker w (hand slot (stance.Entered entry) gives acts)) → (q : Place) → CurrentKnown shape s r m q
        → Adds shape s r (record { words = set s.words (16 + m) (get_or s.words (16 + m) 0); homes = s.homes; views = set s.views id (Worker w (hand slot (stance.Inside entry m q) gives (acts ++ act.Read m q ∷ []))) }) (machine.Read w m q.mapping)
    read_with shape s r id w slot entry m gives acts at q known =
        let h : Hand = hand slot (stance.Entered entry) gives acts in
        let k = worker_knows shape s r id w h at in
        let x : machine.Step = machine.Read w m q.mapping in
        let may : machine.MayStep r.state x = (k.hand.stance, known.is.there) in
        let j = machine.after r.state x in
        let h' : Hand = hand slot (stance.Inside entry m q) gives (acts ++ act.Read m q ∷ []) in
        let step = worker_step shape s r id w h h' at (set s.words (16 + m) (get_or s.words (16 + m) 0)) r.words j
        (rereads s.words r.words (16 + m) r.reads)
        (reached_after shape r.state x r.reached may)
        (told-quiet shape r.state r.reached (machine.Worker w) x may (unmaps_in_acts acts) (unmaps_in_acts (acts ++ act.Read m q ∷ [])) (λ c n. refl) (λ n. count-same (act_unmaps n) acts (act.Read m q) refl))
        r.mappings
        r.owing
        (batching-worker shape s r x may (λ e. let f : ⊥ = cc in f) refl)
        (freed-same shape s r x may (read-brings r.state w m q.mapping))
        refl
        k.seat
        (λ v ne. refl)
        (record {
          slot = k.hand.slot;
          to_give = k.hand.to_give;
          stance = (read-here r.state.world w m q.mapping w refl, (Current, known.is));
          reads = read_more shape s r w m q known acts k.hand.reads k.hand.falls;
          falls = falls_more shape s r w m q known acts k.hand.reads k.hand.falls;
        })
        (λ v ne. hand_stays shape r.state.world j.world r.places r.places r.ledger r.ledger r.plan.current r.plan.current r.gives v (entered-other r.state.world w m q.mapping v ne) (read-other r.state.world w m q.mapping v ne) (λ g st is. (st, is)) (λ g c. c) (λ m. omega arith) (r.hands v)) in
        record { may = may; lawful = lawful_of shape r.form r.state r.reached x may; kept = step.kept; state = step.state }
