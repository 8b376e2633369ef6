-- The calls that a worker made, one by one, and what its hands tell of them.
use Rattle.std.proofs.Common.{◌≡◌, inl, inr, ℕ, ◌==◌, Bool, true, false, cond, List, [], ◌∷◌, ◌++◌, map, Some, slice_get, refl, sym, ap, ◌∙◌, subst, append_assoc, append-nil, eqb-true, arith}
use Rattle.std.specs.List.{All, Contains, filter, flat_map}
use Rattle.std.proofs.lemmas.Bool.{cases_Bool}
use Rattle.std.proofs.lemmas.List.Elements.{All-cons, All-nil}
use Rattle.ad_base.specs.declared.book.Entry.{Entry}
use Rattle.ad_base.specs.declared.image.Image.{Image}
use Rattle.ad_base.specs.declared.place.Place.{Place}
use Rattle.ad_base.specs.Book.{contents_of}
use Rattle.ad_call.specs.declared.asked.Asked.{Asked}
use Rattle.ad_call.specs.declared.asked.Asked.TheVariants as asked
use Rattle.ad_call.specs.declared.call.Call.{Call}
use Rattle.ad_call.specs.Asked.{asked_in_call}
use Rattle.ad_call.specs.Call.{after_call, entry_of, outcome_of}
use Rattle.ad_lines.specs.Sound.{Lines}
use Rattle.ad_maps.specs.declared.view.Act.{Act}
use Rattle.ad_maps.specs.declared.view.Act.TheVariants as act
use Rattle.ad_maps.specs.Ledger.{reads_of}
use Rattle.ad_maps.specs.Ledger as reads
use Rattle.ad_maps.specs.MapPlace.{IsPlaceOf}
use Rattle.ad_maps.specs.Seen as maps
use Rattle.ad_maps.proofs.Elements.{cons-here, cons-later}
use Rattle.ad_run.specs.Calls.{PerformsAll}
use Rattle.ad_run.specs.Opened.{AreNewHands}
use Rattle.ad_stacks.specs.History as taken
use Rattle.ad_stacks.specs.Seen as stacks
use Rattle.ad_stacks.specs.StackPlace.{IsStackPlace}
use Rattle.ad_turns.specs.declared.view.Turn.{Turn}
use Rattle.ad_turns.specs.Seen as turns
use Rattle.ad_wrapper.specs.declared.hands.Hands.{Hands}
use Rattle.ad_wrapper.specs.declared.hands.Ready.{Ready}
use Rattle.ad_wrapper.specs.declared.shared.Shared.{Shared}
use Rattle.ad_wrapper.specs.Asking.{act_of}
use Rattle.ad_wrapper.specs.Performed.{Performed, acts_of_call, call_for}

-- a call that was made: its step, the image that it called, the places that it ran at, its turn, and the mappings that it unmapped
pub record Done : Type 0 where
  pub step : Ready
  pub image : Image
  pub under : Place
  pub stack : Place
  pub turn : Turn
  pub unmapped : List ℕ

abbrev pub step_done : Done → Ready
step_done d = d.step

abbrev pub stack_done : Done → Place
stack_done d = d.stack

abbrev pub turn_done : Done → Turn
turn_done d = d.turn

-- it was of module m
abbrev pub is_done_at : ℕ → Done → Bool
is_done_at m d = d.step.«module» == m

-- the calls of module m, in order
abbrev pub done_at : ℕ → List Done → List Done
done_at m done = filter (is_done_at m) done

-- the call that worker w made
abbrev pub call_done : ℕ → Done → Call
call_done w d = call_for w d.step d.under d.stack

-- what it did in the mapping table
abbrev pub acts_done : Shared → ℕ → Done → List Act
acts_done s w d = acts_of_call d.step.«module» d.under (asked_in_call d.image s.fuel (contents_of d.turn.before) (call_done w d) d.step.args) d.unmapped

-- its entry
abbrev pub entry_done : Shared → ℕ → Done → Entry
entry_done s w d = entry_of (call_done w d) d.step.args (outcome_of d.image s.fuel (contents_of d.turn.before) (call_done w d) d.step.args)

-- what is known of each call of worker w
pub record IsDone (s : Shared) (w : ℕ) (d : Done) : Type 0 where
  pub loaded : slice_get s.images d.step.«module» ≡ Some d.image
  pub is_place : IsPlaceOf s.maps.shape d.step.«module» d.under
  pub is_stack : IsStackPlace d.stack
  pub at_module : d.turn.«module» ≡ d.step.«module»
  pub called : contents_of d.turn.after ≡ after_call d.image s.fuel (contents_of d.turn.before) (call_done w d) d.step.args

-- ---- the places that acts tell

reads-append : (m : ℕ) (xs ys : List Act) → reads_of m (xs ++ ys) ≡ reads_of m xs ++ reads_of m ys
reads-append m [] ys = refl
reads-append m (act.Enter ∷ xs) ys = reads-append m xs ys
reads-append m (act.Read n p ∷ xs) ys =
    let later = reads-append m xs ys in
    elim (n == m) as (λ (b : Bool). cond b (p.mapping ∷ reads_of m (xs ++ ys)) (reads_of m (xs ++ ys)) ≡ cond b (p.mapping ∷ reads_of m xs) (reads_of m xs) ++ reads_of m ys) [
      | true ↦ ap (λ (ns : List ℕ). p.mapping ∷ ns) later
      | false ↦ later
    ]
reads-append m (act.Page va ∷ xs) ys = reads-append m xs ys
reads-append m (act.Cell e ∷ xs) ys = reads-append m xs ys
reads-append m (act.Leave ∷ xs) ys = reads-append m xs ys
reads-append m (act.Unmap n ∷ xs) ys = reads-append m xs ys

reads-asked : (m : ℕ) (list : List Asked) (rest : List Act) → reads_of m (map act_of list ++ rest) ≡ reads_of m rest
reads-asked m [] rest = refl
reads-asked m (asked.Page at ∷ list) rest = reads-asked m list rest
reads-asked m (asked.Cell entry ∷ list) rest = reads-asked m list rest

reads-unmaps : (m : ℕ) (ns : List ℕ) → reads_of m (map (λ (n : ℕ). act.Unmap n) ns) ≡ []
reads-unmaps m [] = refl
reads-unmaps m (n ∷ ns) = reads-unmaps m ns

-- a call reads the place of its module, and no other
reads-call : (m n : ℕ) (p : Place) (list : List Asked) (unmaps : List ℕ) → reads_of m (acts_of_call n p list unmaps) ≡ cond (n == m) (p.mapping ∷ []) []
reads-call m n p list unmaps =
    let none : reads_of m (map act_of list ++ act.Leave ∷ map (λ (k : ℕ). act.Unmap k) unmaps) ≡ [] = reads-asked m list (act.Leave ∷ map (λ (k : ℕ). act.Unmap k) unmaps) ∙ reads-unmaps m unmaps in
    ap (λ (ns : List ℕ). cond (n == m) (p.mapping ∷ ns) ns) none

-- and it does so
pub read-call : (m : ℕ) (p : Place) (list : List Asked) (unmaps : List ℕ) → Contains (acts_of_call m p list unmaps) (act.Read m p)
read-call m p list unmaps =
    let rest : List Act = map act_of list ++ act.Leave ∷ map (λ (n : ℕ). act.Unmap n) unmaps in
    cons-later act.Enter (act.Read m p ∷ rest) (act.Read m p) (cons-here (act.Read m p) rest (act.Read m p) refl)

-- the places that calls read of a module are those under which its calls ran
pub reads-done : (s : Shared) (w m : ℕ) (done : List Done) → reads_of m (flat_map (acts_done s w) done) ≡ map (λ (d : Done). d.under.mapping) (done_at m done)
reads-done s w m [] = refl
reads-done s w m (d ∷ done) =
    let later = reads-done s w m done in
    let list = asked_in_call d.image s.fuel (contents_of d.turn.before) (call_done w d) d.step.args in
    reads-append m (acts_done s w d) (flat_map (acts_done s w) done)
    ∙ ap (λ (ns : List ℕ). ns ++ reads_of m (flat_map (acts_done s w) done)) (reads-call m d.step.«module» d.under list d.unmapped)
    ∙ ap (λ (ns : List ℕ). cond (d.step.«module» == m) (d.under.mapping ∷ []) [] ++ ns) later
    ∙ in_front (d.step.«module» == m) d (done_at m done)
  where
    in_front : (b : Bool) (x : Done) (xs : List Done) → cond b (x.under.mapping ∷ []) [] ++ map (λ (y : Done). y.under.mapping) xs ≡ map (λ (y : Done). y.under.mapping) (cond b (x ∷ xs) xs)
    in_front true x xs = refl
    in_front false x xs = refl

-- a call keeps the numbers that were read of each module from falling
reads-kept : (s : Shared) (before : Hands) (step : Ready) (after : Hands) (m : ℕ) → Performed s before step after → reads.NeverFall (reads_of m before.seat.acts) → reads.NeverFall (reads_of m after.seat.acts)
reads-kept s before step after m p h =
    let n = step.«module» in
    let list = asked_in_call p.image s.fuel (contents_of p.turn.before) (call_for before.worker step p.under p.stack) step.args in
    let same : reads_of m after.seat.acts ≡ reads_of m before.seat.acts ++ cond (n == m) (p.under.mapping ∷ []) [] =
    ap (λ (x : maps.SeatSeen). reads_of m x.acts) p.seat
    ∙ reads-append m before.seat.acts (acts_of_call n p.under list p.unmapped)
    ∙ ap (λ (ns : List ℕ). reads_of m before.seat.acts ++ ns) (reads-call m n p.under list p.unmapped) in
    elim (cases_Bool (n == m)) [
      | inl here ↦ subst (λ (k : ℕ). reads.NeverFall (reads_of k after.seat.acts)) (eqb-true n m here) p.reads
      | inr other ↦
          subst (λ (ns : List ℕ). reads.NeverFall ns)
          (sym (same ∙ ap (λ (b : Bool). reads_of m before.seat.acts ++ cond b (p.under.mapping ∷ []) []) other ∙ append-nil (reads_of m before.seat.acts))) h
    ]

-- ---- the calls of a worker

-- what was made of hands by these calls of worker w
pub record HaveDone (s : Shared) (w : ℕ) (before : Hands) (calls : List Ready) (after : Hands) : Type 0 where
  pub done : List Done
  pub steps : map step_done done ≡ calls
  pub are : All (IsDone s w) done
  pub acts : after.seat.acts ≡ before.seat.acts ++ flat_map (acts_done s w) done
  pub took : after.stack_seat.taken ≡ before.stack_seat.taken ++ map stack_done done
  pub made : after.turn_seat.turns ≡ before.turn_seat.turns ++ map turn_done done
  pub reads_rise : ((m : ℕ) → reads.NeverFall (reads_of m before.seat.acts)) → (m : ℕ) → reads.NeverFall (reads_of m after.seat.acts)
  pub stacks_rise : taken.NeverFall before.stack_seat.taken → taken.NeverFall after.stack_seat.taken

-- one call before others
in-order : {A : Type 0} (first mid last xs ys : List A) → mid ≡ first ++ xs → last ≡ mid ++ ys → last ≡ first ++ (xs ++ ys)
in-order first mid last xs ys e f = f ∙ ap (λ zs. zs ++ ys) e ∙ append_assoc first xs ys

pub have-done : (s : Shared) (w : ℕ) (before : Hands) (calls : List Ready) (after : Hands) → before.worker ≡ w → PerformsAll s before calls after → HaveDone s w before calls after
have-done s w before [] after e h = record {
  done = [];
  steps = refl;
  are = All-nil (IsDone s w);
  acts = ap (λ (x : Hands). x.seat.acts) h ∙ sym (append-nil before.seat.acts);
  took = ap (λ (x : Hands). x.stack_seat.taken) h ∙ sym (append-nil before.stack_seat.taken);
  made = ap (λ (x : Hands). x.turn_seat.turns) h ∙ sym (append-nil before.turn_seat.turns);
  reads_rise = λ rise m. subst (λ (x : Hands). reads.NeverFall (reads_of m x.seat.acts)) (sym h) (rise m);
  stacks_rise = λ rise. subst (λ (x : Hands). taken.NeverFall x.stack_seat.taken) (sym h) rise;
}
have-done s w before (c ∷ cs) after e h =
    let mid = h.0 in
    let p = h.1 in
    let later = have-done s w mid cs after (p.worker ∙ e) h.2 in
    let d : Done = record { step = c; image = p.image; under = p.under; stack = p.stack; turn = p.turn; unmapped = p.unmapped } in
    let is : IsDone s before.worker d = record { loaded = p.loaded; is_place = p.is_place; is_stack = p.is_stack; at_module = p.at_module; called = p.called } in
    let acts : mid.seat.acts ≡ before.seat.acts ++ acts_done s before.worker d = ap (λ (x : maps.SeatSeen). x.acts) p.seat in
    record {
      done = d ∷ later.done;
      steps = ap (λ xs. c ∷ xs) later.steps;
      are = All-cons (IsDone s w) d later.done (subst (λ v. IsDone s v d) e is) later.are;
      acts = in-order before.seat.acts mid.seat.acts after.seat.acts (acts_done s w d) (flat_map (acts_done s w) later.done) (subst (λ v. mid.seat.acts ≡ before.seat.acts ++ acts_done s v d) e acts) later.acts;
      took = in-order before.stack_seat.taken mid.stack_seat.taken after.stack_seat.taken (p.stack ∷ []) (map stack_done later.done) (ap (λ (x : stacks.SeatSeen). x.taken) p.stack_seat) later.took;
      made = in-order before.turn_seat.turns mid.turn_seat.turns after.turn_seat.turns (p.turn ∷ []) (map turn_done later.done) (ap (λ (x : turns.SeatSeen). x.turns) p.turn_seat) later.made;
      reads_rise = λ rise. later.reads_rise (λ m. reads-kept s before c mid m p (rise m));
      stacks_rise = λ rise. later.stacks_rise p.stacks;
    }

-- what the hands of a worker have in the end that made these calls, and nothing before
pub record HasMade (s : Shared) (w : ℕ) (calls : List Ready) (h : Hands) : Type 0 where
  pub done : List Done
  pub steps : map step_done done ≡ calls
  pub are : All (IsDone s w) done
  pub acts : h.seat.acts ≡ flat_map (acts_done s w) done
  pub took : h.stack_seat.taken ≡ map stack_done done
  pub made : h.turn_seat.turns ≡ map turn_done done
  pub reads_rise : (m : ℕ) → reads.NeverFall (reads_of m h.seat.acts)
  pub stacks_rise : taken.NeverFall h.stack_seat.taken

pub has-made : (s : Shared) (l : Lines) (w : ℕ) (before : Hands) (calls : List Ready) (after : Hands) → AreNewHands s l w before → PerformsAll s before calls after → HasMade s w calls after
has-made s l w before calls after new h =
    let d = have-done s w before calls after new.worker h in
    let no_acts : before.seat.acts ≡ [] = ap (λ (x : maps.SeatSeen). x.acts) new.seat in
    let no_stacks : before.stack_seat.taken ≡ [] = ap (λ (x : stacks.SeatSeen). x.taken) new.stack_seat in
    let no_turns : before.turn_seat.turns ≡ [] = ap (λ (x : turns.SeatSeen). x.turns) new.turn_seat in
    record {
      done = d.done;
      steps = d.steps;
      are = d.are;
      acts = d.acts ∙ ap (λ xs. xs ++ flat_map (acts_done s w) d.done) no_acts;
      took = d.took ∙ ap (λ xs. xs ++ map stack_done d.done) no_stacks;
      made = d.made ∙ ap (λ xs. xs ++ map turn_done d.done) no_turns;
      reads_rise = d.reads_rise (λ m. subst (λ xs. reads.NeverFall (reads_of m xs)) (sym no_acts) (λ i j x less within. absurd (omega arith)));
      stacks_rise = d.stacks_rise (subst (λ xs. taken.NeverFall xs) (sym no_stacks) (λ i j x less within. absurd (omega arith)));
    }
