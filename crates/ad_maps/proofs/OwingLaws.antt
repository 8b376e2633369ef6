-- What is owed, read off the words and the views.
use Rattle.std.proofs.Common.{◌≡◌, ◌≢◌, ◌⊎◌, ⊎_elim, inl, inr, ℕ, ◌+◌, ◌*◌, ◌%◌, ◌^◌, true, ◌&&◌, List, [], ◌∷◌, length, get_or, Option, Some, None, refl, sym, ap, ◌∙◌, subst, arith, true≢false, unwrap_or}
use Rattle.std.specs.Option.{option_map}
use Rattle.std.specs.List.{Contains}
use Rattle.std.specs.FinMap as map
use Rattle.std.proofs.lemmas.Bool.{cases_eq, cases_lt, and_parts}
use mathlib.Core.Option.{some}
use lib.ListN.{get_elem?}
use Rattle.ad_base.specs.declared.place.Place.{Place}
use Rattle.ad_base.specs.Place.{packed}
use Rattle.ad_events.specs.declared.mapping.Status.{Status}
use Rattle.ad_events.specs.declared.mapping.Status.TheVariants.{Fresh, Current, Out, Retired, Gone}
use Rattle.ad_events.specs.declared.mapping.Mapping.{Mapping}
use Rattle.ad_events.specs.World.{mapping_of, status_of, MayBeInside, MayHold}
use Rattle.ad_events.specs.Owed as owing
use Rattle.ad_events.specs.Owed.{seat_at, count_of, owes, last_batch, IsOpened, WaitsFor}
use Rattle.ad_events.specs.Reclaim as machine
use Rattle.ad_events.specs.Reclaim.{Agent}
use Rattle.ad_events.proofs.OwedLaws.{zero_is_done}
use Rattle.ad_events.proofs.ReclaimLaws.{noted_by_maker, not_gone_inside, only_who_zeroed_unmaps, who_zeroed_may_unmap}
use Rattle.ad_maps.specs.declared.shape.Shape.{Shape}
use Rattle.ad_maps.specs.declared.view.Freeing.{Freeing}
use Rattle.ad_maps.specs.declared.view.Freeing.TheVariants as freeing
use Rattle.ad_maps.specs.declared.view.Hand.{Hand}
use Rattle.ad_maps.specs.declared.view.Passing.{Passing}
use Rattle.ad_maps.specs.declared.view.Passing.TheVariants as passing
use Rattle.ad_maps.specs.declared.view.Plan.{Plan}
use Rattle.ad_maps.specs.declared.view.Doing.{Doing}
use Rattle.ad_maps.specs.declared.view.Doing.TheVariants.{Spent, Worker, Mover}
use Rattle.ad_maps.specs.declared.view.Stage.{Stage}
use Rattle.ad_maps.specs.declared.view.Stage.TheVariants as stage
use Rattle.ad_maps.specs.declared.view.Stance.{Stance}
use Rattle.ad_maps.specs.declared.view.Stance.TheVariants as stance
use Rattle.ad_maps.specs.Ledger.{retires_in}
use Rattle.ad_maps.specs.MapPlace.{directory_word, module_of_frame}
use Rattle.ad_maps.specs.Names.{Count, Directory, Owner}
use Rattle.ad_maps.specs.Owing.{CountsLaw, HasFreed, IsFreeing, IsOwned, MoverOwesNothingLaw, PinnedLaw, QuietLaw, WorkerOwesNothingLaw}
use Rattle.ad_maps.specs.Rule.{St, Kept, FreeingStands, FreesFrom, IsAtRest, IsTaken, PassingStands, StageStands, StanceStands, seat_of}
use Rattle.ad_maps.specs.Steps.{agent_of, freeing_of, has_freed, has_given, is_at_rest, is_away, is_idle, is_resting, made}
use Rattle.ad_maps.proofs.Batches.{few-batches, listed-there}
use Rattle.ad_maps.proofs.Elements.{none-in, retires-there}
use Rattle.ad_maps.proofs.Ended.{IsStill, listed-gone, none-above}
use Rattle.ad_maps.proofs.Frames.{seat-there, worker_knows}
use Rattle.ad_maps.proofs.Machine.{holds_of}
use Rattle.ad_maps.proofs.MappingFrames.{mover_knows, one-current}
use Rattle.ad_maps.proofs.Numbers.{frame-few, region-few}
use Rattle.ad_maps.proofs.Pinned.{gone-or}

-- ---- pinned

pub pinned_law : PinnedLaw
pinned_law shape s r id w entry m h p at is =
    let holds = holds_of shape r.form r.state r.reached in
    let k = worker_knows shape s r id w h at in
    let inside = (subst (StanceStands r.state.world r.places w) is k.hand.stance).0 in
    by_status (map.get r.state.world.mappings p.mapping) refl (not_gone_inside r.state holds w p.mapping inside).0 inside
  where
    by_status : (o : Option Mapping) → map.get r.state.world.mappings p.mapping ≡ o → MayBeInside o → map.get r.state.world.inside w ≡ Some p.mapping
        → (status_of r.state.world p.mapping ≡ Some Current) ⊎ ((status_of r.state.world p.mapping ≡ Some Out) ⊎ ((status_of r.state.world p.mapping ≡ Some Retired) × ((b : ℕ) × (r.state.batch p.mapping ≡ Some b) × WaitsFor r.state.owed b w)))
    by_status None e held inside = absurd held
    by_status (Some x) e held inside = at_status x.status (ap (option_map (λ (y : Mapping). y.status)) e) held inside
      where
        at_status : (t : Status) → status_of r.state.world p.mapping ≡ Some t → MayHold t → map.get r.state.world.inside w ≡ Some p.mapping
            → (status_of r.state.world p.mapping ≡ Some Current) ⊎ ((status_of r.state.world p.mapping ≡ Some Out) ⊎ ((status_of r.state.world p.mapping ≡ Some Retired) × ((b : ℕ) × (r.state.batch p.mapping ≡ Some b) × WaitsFor r.state.owed b w)))
        at_status Fresh e held inside = absurd held
        at_status Current e held inside = inl e
        at_status Out e held inside = inr (inl e)
        at_status Retired e held inside =
            let holds = holds_of shape r.form r.state r.reached in
            let t = holds.listed p.mapping (inl e) in
            inr (inr (e, (t.0, t.1, holds.pinned w p.mapping t.0 inside t.1)))
        at_status Gone e held inside = absurd held

-- ---- counts

module _ (shape : Shape) (s : St) (r : Kept shape s) where
  count-is : (b : ℕ) → IsOpened r.state.owed b → get_or s.words (131224 + b) 0 ≡ count_of r.state.owed b
  count-is b there = let most = few-batches shape s r in let within = there.within in r.reads.1 (Count b) (omega arith) ∙ r.owing.each_count b there

  freer-is : (id b k : ℕ) (view : Doing) → get_elem? s.views id ≡ some view → freeing_of view ≡ freeing.Batch b k → r.state.zeroed b ≡ Some (agent_of view)
  freer-is id b k Spent at is = absurd (let z : ⊥ = cc in z)
  freer-is id b k (Worker w h) at is = (let f : FreesFrom r.state r.words.member r.lines r.places (machine.Worker w) b k = subst (FreeingStands r.state r.words.member r.lines r.places (machine.Worker w)) (sym (worker_knows shape s r id w h at).freeing ∙ is) (r.freed.each (machine.Worker w)) in f.brought)
  freer-is id b k (Mover q) at is = (let f : FreesFrom r.state r.words.member r.lines r.places machine.Mover b k = subst (FreeingStands r.state r.words.member r.lines r.places machine.Mover) (sym (mover_knows shape s r id q at).freeing ∙ is) (r.freed.each machine.Mover) in f.brought)

  finder-is : (id b k word : ℕ) (view : Doing) → get_elem? s.views id ≡ some view → freeing_of view ≡ freeing.Found b k word → r.state.zeroed b ≡ Some (agent_of view)
  finder-is id b k word Spent at is = absurd (let z : ⊥ = cc in z)
  finder-is id b k word (Worker w h) at is = (let f = subst (FreeingStands r.state r.words.member r.lines r.places (machine.Worker w)) (sym (worker_knows shape s r id w h at).freeing ∙ is) (r.freed.each (machine.Worker w)) in f.0.brought)
  finder-is id b k word (Mover q) at is = (let f = subst (FreeingStands r.state r.words.member r.lines r.places machine.Mover) (sym (mover_knows shape s r id q at).freeing ∙ is) (r.freed.each machine.Mover) in f.0.brought)

  -- an agent that has something to free has a view, which says so
  view-there : (a : Agent) → r.frees a ≢ freeing.Nothing → (id : ℕ) × (view : Doing) × (get_elem? s.views id ≡ some view) × (agent_of view ≡ a) × (freeing_of view ≡ r.frees a)
  view-there (machine.Worker w) has = (r.seater w, Worker w (r.hands w), seat-there shape s r w (λ rest. has (sym (r.tells.hand w) ∙ rest.freed)), refl, r.tells.hand w)
  view-there machine.Mover has = (r.mover, Mover r.plan, r.seated.own, refl, r.tells.own)

  frees-or : (b : ℕ) (a : Agent) (f : Freeing) → r.frees a ≡ f → FreeingStands r.state r.words.member r.lines r.places a f → r.state.zeroed b ≡ Some a
      → IsFreeing s a b ⊎ ((n : ℕ) → r.state.batch n ≡ Some b → status_of r.state.world n ≡ Some Gone)
  frees-or b a freeing.Nothing e stands zeroed = inr (λ n is. stands n b is zeroed)
  frees-or b a (freeing.Batch c k) e stands zeroed =
      elim (cases_eq b c) [
        | inl same ↦
            let v = view-there a (λ none. let no : freeing.Batch c k ≡ freeing.Nothing = sym e ∙ none in let z : ⊥ = cc in z) in
            inl (v.0, v.1, v.2, v.3, (k, inl (v.4 ∙ (e ∙ ap (λ (i : ℕ). freeing.Batch i k) (sym same)))))
        | inr ne ↦ inr (λ n is. stands.other n b is zeroed ne)
      ]
  frees-or b a (freeing.Found c k word) e stands zeroed =
      elim (cases_eq b c) [
        | inl same ↦
            let v = view-there a (λ none. let no : freeing.Found c k word ≡ freeing.Nothing = sym e ∙ none in let z : ⊥ = cc in z) in
            inl (v.0, v.1, v.2, v.3, (k, inr (word, v.4 ∙ (e ∙ ap (λ (i : ℕ). freeing.Found i k word) (sym same)))))
        | inr ne ↦ inr (λ n is. stands.0.other n b is zeroed ne)
      ]

pub counts_law : CountsLaw
counts_law shape s r =
    let holds = holds_of shape r.form r.state r.reached in record {
      counts = λ b there. count-is shape s r b there ∙ holds.owed.counted b there;
      zero = λ b there. (let both = zero_is_done r.state.owed holds.owed b there in (λ none. both.0 (sym (count-is shape s r b there) ∙ none), λ done. count-is shape s r b there ∙ both.1 done));
      brought = λ b there. (λ none. holds.zero b there (sym (count-is shape s r b there) ∙ none), λ zeroed. count-is shape s r b there ∙ (holds.zeroed b zeroed).1);
      only_opened = λ b zeroed. (holds.zeroed b zeroed).0;
      noted = noted_by_maker r.state holds;
      may = who_zeroed_may_unmap r.state holds;
      only = only_who_zeroed_unmaps r.state holds;
      freer = freer-is shape s r;
      finder = finder-is shape s r;
      frees = λ b a zeroed. frees-or shape s r b a (r.frees a) refl (r.freed.each a) zeroed;
      once = λ v low.
          elim (cases_eq (r.words.directory v) 0) [
            | inl none ↦ inl (r.reads.1 (Directory v) low ∙ none)
            | inr has ↦
                let t = r.mappings.each_region v has in
                let stands = r.mappings.each t.0 t.1 t.2 in
                let p = r.places t.0 in
                let here : get_or s.words (24 + v) 0 ≡ r.words.directory p.region = r.reads.1 (Directory v) low ∙ ap r.words.directory (sym t.3) in
                inr (⊎_elim
                (λ gone. (p, 1, stands.form.place.place, t.3, omega arith, here ∙ gone.1))
                (λ there. (p, 0, stands.form.place.place, t.3, omega arith, here ∙ (there.1.word ∙ (let same : packed p ≡ packed p + 0 * 2 ^ 56 = omega arith in same))))
                (gone-or shape r.words.directory r.words.owner r.words.cell t.1.module p t.1.status stands.words))
          ];
    }

-- ---- at rest

away-is : (d : Stance) → is_away d ≡ true → d ≡ stance.Away
away-is stance.Away e = refl
away-is (stance.Entered entry) e = absurd (true≢false (sym e))
away-is (stance.Inside entry m p) e = absurd (true≢false (sym e))
away-is (stance.Paying paid last) e = absurd (true≢false (sym e))

freed-is : (f : Freeing) → has_freed f ≡ true → f ≡ freeing.Nothing
freed-is freeing.Nothing e = refl
freed-is (freeing.Batch b k) e = absurd (true≢false (sym e))
freed-is (freeing.Found b k word) e = absurd (true≢false (sym e))

given-is : (ps : List Place) → has_given ps ≡ true → ps ≡ []
given-is [] e = refl
given-is (p ∷ ps) e = absurd (true≢false (sym e))

resting-is : (d : Passing) → is_resting d ≡ true → d ≡ passing.Rest
resting-is passing.Rest e = refl
resting-is (passing.Listing k) e = absurd (true≢false (sym e))
resting-is (passing.Settled t) e = absurd (true≢false (sym e))
resting-is (passing.Pushed t found) e = absurd (true≢false (sym e))

idle-is : (d : Stage) → is_idle d ≡ true → d ≡ stage.Idle
idle-is stage.Idle e = refl
idle-is (stage.Taken g filled) e = absurd (true≢false (sym e))

worker-rest : (w : ℕ) (h : Hand) → is_at_rest (Worker w h) ≡ true → IsAtRest h
worker-rest w h e =
    let a = and_parts (is_away h.stance) (has_freed h.freeing && has_given h.gives) e in
    let b = and_parts (has_freed h.freeing) (has_given h.gives) a.1 in record { away = away-is h.stance a.0; freed = freed-is h.freeing b.0; given = given-is h.gives b.1 }

record MoverRests (q : Plan) : Type 0 where
  idle : q.stage ≡ stage.Idle
  rest : q.passing ≡ passing.Rest
  freed : q.freeing ≡ freeing.Nothing
  given : q.gives ≡ []

mover-rest : (q : Plan) → is_at_rest (Mover q) ≡ true → MoverRests q
mover-rest q e =
    let a = and_parts (is_idle q.stage) (is_resting q.passing && (has_freed q.freeing && has_given q.gives)) e in
    let b = and_parts (is_resting q.passing) (has_freed q.freeing && has_given q.gives) a.1 in
    let c = and_parts (has_freed q.freeing) (has_given q.gives) b.1 in record { idle = idle-is q.stage a.0; rest = resting-is q.passing b.0; freed = freed-is q.freeing c.0; given = given-is q.gives c.1 }

module _ (shape : Shape) (s : St) (r : Kept shape s) where
  -- a mapping that isn't in the directory yet has a number above those that are
  taken-above : (d : Stage) (f n : ℕ) (x : Mapping) → StageStands shape r.ledger r.words.owner r.words.cell d → map.get r.state.world.mappings n ≡ Some x → IsTaken d f n → ⊥
  taken-above stage.Idle f n x stands there taken = taken
  taken-above (stage.Taken g filled) f n x stands there taken =
      let old = r.mappings.each n x there in
      let below = stands.above (made x.module (r.places n)) old.listed in
      let number = old.number in let same = taken.1 in omega arith

  -- the word of a mapping that is Gone
  gone-word : (n : ℕ) → status_of r.state.world n ≡ Some Gone → (x : Mapping) → map.get r.state.world.mappings n ≡ Some x → get_or s.words (24 + (r.places n).region) 0 ≡ directory_word (r.places n) 1
  gone-word n gone x there =
      let stands = r.mappings.each n x there in
      let is : x.status ≡ Gone = ap (λ (o : Option Status). unwrap_or o x.status) (sym (ap (option_map (λ (y : Mapping). y.status)) there) ∙ gone) in
      r.reads.1 (Directory (r.places n).region) (region-few shape x.module (r.places n) stands.form)
      ∙ ⊎_elim (λ t. t.1) (λ t. absurd (t.0 is)) (gone-or shape r.words.directory r.words.owner r.words.cell x.module (r.places n) x.status stands.words)

  -- an agent that has nothing to free and nothing to give back
  has-freed : (a : Agent) → r.frees a ≡ freeing.Nothing → r.gives a ≡ [] → HasFreed shape s r a
  has-freed a freed given =
      let left = subst (FreeingStands r.state r.words.member r.lines r.places a) freed (r.freed.each a) in record {
        left = left;
        once = λ n b is zeroed. (let t = listed-there shape s r n b is in gone-word n (left n b is zeroed) t.0 t.1);
        given = λ n b is zeroed owns. (
            let t = listed-there shape s r n b is in
            let old = r.mappings.each n t.0 t.1 in
            let from = old.form.place.place.mapping_from in
            let number = old.number in
            let f = (r.places n).frame in
            let low = frame-few shape t.0.module (r.places n) r.form old.form in
            let owner : r.words.owner f ≡ n = sym (r.reads.1 (Owner f) low) ∙ owns in
            ⊎_elim
            (λ none. let zero = owner in omega arith)
            (λ c. ⊎_elim
            (λ u. u.2 (ap (λ (o : Option Status). unwrap_or o u.0.status) (sym (ap (option_map (λ (y : Mapping). y.status)) u.1) ∙ (ap (status_of r.state.world) owner ∙ left n b is zeroed))))
            (λ c. ⊎_elim
            (λ u.
            let theirs = r.freed.each_give u.1.0 u.0 u.1.1 in
            let batch : theirs.0 ≡ b = ap (λ o. unwrap_or o theirs.0) (sym theirs.1 ∙ (ap r.state.batch (u.3 ∙ owner) ∙ is)) in
            let same : u.1.0 ≡ a = ap (λ o. unwrap_or o u.1.0) (sym theirs.2 ∙ (ap r.state.zeroed batch ∙ zeroed)) in
            none-in u.0 (subst (λ (ps : List Place). Contains ps u.0) (ap r.gives same ∙ given) u.1.1))
            (λ u. taken-above r.plan.stage f n t.0 r.mappings.stage t.1 (subst (IsTaken r.plan.stage f) owner u))
            c) c)
            (r.mappings.each_owner f));
      }

pub worker_owes_nothing_law : WorkerOwesNothingLaw
worker_owes_nothing_law shape s r id w h at rest =
    let k = worker_knows shape s r id w h at in
    let still = worker-rest w h rest in
    let seat : seat_at r.state.owed w ≡ owing.Away = k.seat ∙ ap (seat_of (w % shape.slots)) still.away in
    ((λ b. ap (owes r.state.owed b) seat), has-freed shape s r (machine.Worker w) (sym k.freeing ∙ still.freed) (sym k.hand.to_give ∙ still.given))

pub mover_owes_nothing_law : MoverOwesNothingLaw
mover_owes_nothing_law shape s r id q at rest =
    let m = mover_knows shape s r id q at in
    let still = mover-rest q rest in
    let opened = none-above shape s r (ap (λ (p : Plan). p.passing) (sym m.is) ∙ still.rest) in
    (λ n b is. record { positive = ((holds_of shape r.form r.state r.reached).numbered n b is).0; within = opened n b is }, subst (PassingStands r.state.owed (length (retires_in q.deeds))) still.rest m.batching.stands, has-freed shape s r machine.Mover (sym m.freeing ∙ still.freed) (sym m.gives ∙ still.given))

-- ---- quiet

module _ (shape : Shape) (s : St) (r : Kept shape s) (rest : (id : ℕ) (view : Doing) → get_elem? s.views id ≡ some view → is_at_rest view ≡ true) where
  hands-rest : (w : ℕ) → IsAtRest (r.hands w)
  hands-rest w =
      elim (cases_lt w (length r.plan.back)) [
        | inl low ↦ (r.dealt.back w low).0
        | inr far ↦
            elim (cases_lt w r.plan.dealt) [
              | inl dealt ↦ worker-rest w (r.hands w) (rest (r.seater w) (Worker w (r.hands w)) (r.seated.worker w far dealt))
              | inr new ↦ subst IsAtRest (sym (r.dealt.undealt w new)) (record { away = refl; freed = refl; given = refl })
            ]
      ]

  plan-rest : MoverRests r.plan
  plan-rest = mover-rest r.plan (rest r.mover (Mover r.plan) r.seated.own)

  is-still : IsStill shape s r
  is-still = record { passing = plan-rest.rest; freed = plan-rest.freed; away = λ w. (hands-rest w).away; free = λ w. (hands-rest w).freed }

  none-to-give : (a : Agent) → r.gives a ≡ []
  none-to-give (machine.Worker w) = sym (r.each_hand w).to_give ∙ (hands-rest w).given
  none-to-give machine.Mover = sym r.tells.own_gives ∙ plan-rest.given

  none-retired : (n : ℕ) → status_of r.state.world n ≢ Some Retired
  none-retired n retired =
      let t = (holds_of shape r.form r.state r.reached).listed n (inl retired) in
      let gone = listed-gone shape s r is-still n t.0 t.1 in
      let e : Some Retired ≡ Some Gone = sym retired ∙ gone in let same : Retired ≡ Gone = cc in let z : ⊥ = cc in z

  -- the owner of a frame that is neither Fresh nor Out is the current mapping of the frame's module
  record IsCurrentIn (f n : ℕ) : Type 0 where
    there : map.get r.state.world.mappings n ≡ Some (mapping_of (module_of_frame shape f) Current)
    frame : (r.places n).frame ≡ f

  owner-is : (f n : ℕ) → IsOwned shape s r f → get_or s.words (65560 + f) 0 ≡ n → IsCurrentIn f n
  owner-is f n owned is =
      let owner : r.words.owner f ≡ n = sym (r.reads.1 (Owner f) owned.low) ∙ is in
      ⊎_elim
      (λ none. absurd (owned.owned (is ∙ (sym owner ∙ none))))
      (λ c. ⊎_elim
      (λ u.
      let there : map.get r.state.world.mappings n ≡ Some u.0 = ap (map.get r.state.world.mappings) (sym owner) ∙ u.1 in
      let frame : (r.places n).frame ≡ f = ap (λ (i : ℕ). (r.places i).frame) (sym owner) ∙ u.3 in
      current u.0 there frame u.2 u.0.status refl)
      (λ c. ⊎_elim
      (λ u. absurd (none-in u.0 (subst (λ (ps : List Place). Contains ps u.0) (none-to-give u.1.0) u.1.1)))
      (λ u. absurd (let no : ⊥ = subst (λ (d : Stage). IsTaken d f (r.words.owner f)) plan-rest.idle u in no))
      c) c)
      (r.mappings.each_owner f)
    where
      current : (x : Mapping) → map.get r.state.world.mappings n ≡ Some x → (r.places n).frame ≡ f → x.status ≢ Gone → (t : Status) → x.status ≡ t → IsCurrentIn f n
      current x there frame ne Fresh e = absurd (owned.fresh (ap (status_of r.state.world) is ∙ (ap (option_map (λ (y : Mapping). y.status)) there ∙ ap (λ (t : Status). Some t) e)))
      current x there frame ne Current e =
          let of : module_of_frame shape f ≡ x.module = ap (module_of_frame shape) (sym frame) ∙ (r.mappings.each n x there).form.frame in
          record { there = there ∙ (λ i. Some (mapping_of (sym of i) (e i))); frame = frame }
      current x there frame ne Out e = absurd (owned.out (ap (status_of r.state.world) is ∙ (ap (option_map (λ (y : Mapping). y.status)) there ∙ ap (λ (t : Status). Some t) e)))
      current x there frame ne Retired e = absurd (none-retired n (ap (option_map (λ (y : Mapping). y.status)) there ∙ ap (λ (t : Status). Some t) e))
      current x there frame ne Gone e = absurd (ne e)

  pub one-frame : (f g : ℕ) → module_of_frame shape f ≡ module_of_frame shape g → IsOwned shape s r f → IsOwned shape s r g → f ≡ g
  one-frame f g same owned_f owned_g =
      let a = owner-is f (get_or s.words (65560 + f) 0) owned_f refl in
      let b = owner-is g (get_or s.words (65560 + g) 0) owned_g refl in
      let n = one-current shape s r (module_of_frame shape f) (get_or s.words (65560 + f) 0) (get_or s.words (65560 + g) 0) a.there (b.there ∙ ap (λ (m : ℕ). Some (mapping_of m Current)) (sym same)) in
      sym a.frame ∙ (ap (λ (i : ℕ). (r.places i).frame) n ∙ b.frame)

  gone-once : (n b : ℕ) → r.state.batch n ≡ Some b → (status_of r.state.world n ≡ Some Gone) × (get_or s.words (24 + (r.places n).region) 0 ≡ directory_word (r.places n) 1)
  gone-once n b is =
      let gone = listed-gone shape s r is-still n b is in
      let t = listed-there shape s r n b is in
      (gone, gone-word shape s r n gone t.0 t.1)

pub quiet_law : QuietLaw
quiet_law shape s r rest = record {
  none_retired = none-retired shape s r rest;
  gone = gone-once shape s r rest;
  retired = λ id n line q at c. (
      let m = mover_knows shape s r id q at in
      let t = m.batching.retired n (retires-there q.deeds n line c) in gone-once shape s r rest n t.0 t.1);
  one_frame = one-frame shape s r rest;
}
