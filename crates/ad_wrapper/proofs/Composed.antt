-- The stages of a call, one after the other.
use Rattle.std.proofs.Common.{◌≡◌, ℕ, List, [], ◌∷◌, ◌++◌, ◌∙◌, length, map, sym, ap, subst, refl, append_assoc, arith}
use Rattle.ad_base.specs.declared.book.Book.{Book}
use Rattle.ad_base.specs.declared.image.Image.{Image}
use Rattle.ad_base.specs.Book.{Contents, contents_of}
use Rattle.ad_call.specs.declared.call.Call.{Call}
use Rattle.ad_call.specs.Asked.{asked_in_call}
use Rattle.ad_call.specs.Call.{after_call, entry_of, outcome_of, HasData}
use Rattle.ad_maps.specs.declared.view.Act.{Act}
use Rattle.ad_maps.specs.declared.view.Act.TheVariants as act
use Rattle.ad_maps.specs.Ledger as reads
use Rattle.ad_maps.specs.Ledger.{reads_of}
use Rattle.ad_stacks.specs.History as stacks
use Rattle.ad_turns.specs.Seen as turns
use Rattle.ad_turns.specs.Seen.{HeldSeen, turn_of}
use Rattle.ad_turns.specs.Turns.{AddsOne, AreRising, HaveLengths}
use Rattle.ad_wrapper.specs.Asking.{act_of}
use Rattle.ad_wrapper.specs.Performed.{call_for, Performed}
use Rattle.ad_wrapper.specs.Private.Stages.{Began, IsOver, IsUnder, Left, PutBack, Ran}
use Rattle.ad_wrapper.specs.declared.hands.Hands.{Hands}
use Rattle.ad_wrapper.specs.declared.hands.Ready.{Ready}
use Rattle.ad_wrapper.specs.declared.shared.Shared.{Shared}
use Rattle.ad_wrapper.specs.declared.stages.LeftCall.{LeftCall}
use Rattle.ad_wrapper.specs.declared.stages.OpenCall.{OpenCall}
use Rattle.ad_wrapper.proofs.ReadActs.{reads-asked, reads-same, reads-unmaps}

-- the plain machine's call adds one entry, of the call's worker
adds-entry : (i : Image) (fuel : ℕ) (before after : Book) (call : Call) (args : List ℕ) → contents_of after ≡ after_call i fuel (contents_of before) call args
    → AddsOne call.worker before.history.entries after.history.entries
unfolding after_call
adds-entry i fuel before after call args called = record {
  entry = entry_of call args (outcome_of i fuel (contents_of before) call args);
  added = ap (λ (b : Contents). b.entries) called;
  own = refl;
}

-- a call that ran may leave
pub over : (s : Shared) (step : Ready) (before after : OpenCall) → IsUnder s step before → Ran s step before after → IsOver s after
over s step before after under ran =
    let held_seat = ap (λ (h : HeldSeen). h.seat) ran.turn in
    let untouched = ap (λ (h : HeldSeen). h.before) ran.turn ∙ under.untouched in
    let adds = adds-entry ran.image s.fuel before.held.book after.held.book (call_for before.worker step before.inside.place before.stack.place) step.args ran.called in
    record {
      in_maps = ran.table ∙ under.in_maps;
      in_stacks = ap (λ k. k.seat.table) ran.stack ∙ under.in_stacks;
      in_turns = ap (λ k. k.table) held_seat ∙ under.in_turns;
      entry = record {
        entry = adds.entry;
        added = adds.added ∙ ap (λ (b : Book). b.history.entries ++ adds.entry ∷ []) (sym untouched);
        own = adds.own ∙ sym (ap (λ k. k.worker) held_seat ∙ under.of_worker);
      };
      room = let e = ap (λ (b : Book). b.history.room) untouched in omega (arith, ran.room);
      lengths = subst (λ (b : Book). HaveLengths b after.held.book) (sym untouched) ran.lengths;
    }

-- the acts of a call, as its stages add them
regrouped : (before under step after enter list unmaps : List Act)
    → under ≡ before ++ enter → step ≡ under ++ list → after ≡ (step ++ act.Leave ∷ []) ++ unmaps → after ≡ before ++ (enter ++ (list ++ act.Leave ∷ unmaps))
regrouped before under step after enter list unmaps began ran ended =
    ended ∙ ap (λ acts. (acts ++ act.Leave ∷ []) ++ unmaps) (ran ∙ ap (λ acts. acts ++ list) began) ∙ simp append_assoc

-- a call that began, ran and left, and whose stack was put back, was made
pub performed : (s : Shared) (step : Ready) (before : Hands) (u v : OpenCall) (left : LeftCall) (after : Hands)
    → IsUnder s step u → Began before step u → Ran s step u v → Left v left → PutBack left after → Performed s before step after
performed s step before u v left after under began ran gone back =
    let place = u.inside.place in
    let stack = u.stack.place in
    let image = ran.image in
    let untouched = ap (λ (h : HeldSeen). h.before) ran.turn ∙ under.untouched in
    let asked = asked_in_call image s.fuel (contents_of v.held.before) (call_for before.worker step place stack) step.args in
    let asked-same : asked_in_call image s.fuel (contents_of u.held.book) (call_for u.worker step place stack) step.args ≡ asked =
    λ j. asked_in_call image s.fuel (contents_of (sym untouched j)) (call_for (began.worker j) step place stack) step.args in
    let called-same : after_call image s.fuel (contents_of u.held.book) (call_for u.worker step place stack) step.args ≡ after_call image s.fuel (contents_of v.held.before) (call_for before.worker step place stack) step.args =
    λ j. after_call image s.fuel (contents_of (sym untouched j)) (call_for (began.worker j) step place stack) step.args in
    let unmaps = map (λ (n : ℕ). act.Unmap n) gone.unmaps.numbers in
    let after-acts = ap (λ k. k.acts) back.seat ∙ gone.unmaps.grew in
    let ran-acts = ran.acts ∙ ap (λ list. u.inside.seat.acts ++ map act_of list) asked-same in
    let acts = regrouped before.seat.acts u.inside.seat.acts v.inside.seat.acts after.seat.acts (act.Enter ∷ act.Read step.«module» place ∷ []) (map act_of asked) unmaps began.acts ran-acts after-acts in
    let stack_seat = back.stack ∙ ap (λ k. k.seat) (gone.stack ∙ ran.stack) in
    let held_seat = ap (λ (h : HeldSeen). h.seat) ran.turn ∙ began.turn in
    let same-reads = ap (reads_of step.«module») (after-acts ∙ append_assoc v.inside.seat.acts (act.Leave ∷ []) unmaps)
    ∙ reads-same step.«module» v.inside.seat.acts (act.Leave ∷ unmaps) (reads-unmaps step.«module» gone.unmaps.numbers)
    ∙ ap (reads_of step.«module») ran-acts
    ∙ reads-same step.«module» u.inside.seat.acts (map act_of asked) (reads-asked step.«module» asked) in
    record {
      image = image;
      loaded = ran.loaded;
      under = place;
      stack = stack;
      is_place = under.is_place;
      is_stack = under.is_stack;
      turn = turn_of v.held;
      at_module = ap (λ (h : HeldSeen). h.«module») ran.turn ∙ began.at_module;
      position = ap (λ (h : HeldSeen). h.ticket) ran.turn ∙ sym began.entries ∙ ap (λ (b : Book). length b.history.entries) (sym untouched);
      has_data = subst (λ (b : Book). HasData image b.writable b.fixed) (sym untouched) ran.has_data;
      called = ran.called ∙ called-same;
      unmapped = gone.unmaps.numbers;
      worker = back.worker ∙ gone.worker ∙ ran.worker ∙ began.worker;
      seat = λ j. record {
        table = (ap (λ k. k.table) back.seat ∙ gone.table ∙ ran.table ∙ began.table) j;
        worker = (ap (λ k. k.worker) back.seat ∙ gone.seat_worker ∙ ran.seat_worker ∙ began.seat_worker) j;
        acts = acts j;
        at_rest = (ap (λ k. k.at_rest) back.seat ∙ gone.at_rest) j;
      };
      stack_seat = stack_seat ∙ began.stack;
      turn_seat = back.turn ∙ gone.turn ∙ ap (λ (k : turns.SeatSeen). record k { turns = k.turns ++ turn_of v.held ∷ [] }) held_seat;
      reads = subst reads.NeverFall (sym same-reads) began.reads;
      stacks = subst (λ k. stacks.NeverFall k.taken) (sym stack_seat) began.stacks;
      positions = subst (λ k. AreRising k.turns) (sym back.turn) gone.positions;
    }
