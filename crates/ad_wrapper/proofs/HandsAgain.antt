-- The hands after a call are hands of the worker again.
use Rattle.std.proofs.Common.{◌∙◌, ap, sym}
use Rattle.ad_wrapper.specs.Fits.{AreHandsOf}
use Rattle.ad_wrapper.specs.Performed.{Performed}
use Rattle.ad_wrapper.specs.declared.hands.Hands.{Hands}
use Rattle.ad_wrapper.specs.declared.hands.Ready.{Ready}
use Rattle.ad_wrapper.specs.declared.shared.Shared.{Shared}

pub hands-again : (s : Shared) (before : Hands) (step : Ready) (after : Hands) → AreHandsOf s before → Performed s before step after → AreHandsOf s after
hands-again s before step after hands call = record {
  in_maps = ap (λ seat. seat.table) call.seat ∙ hands.in_maps;
  of_seat = ap (λ seat. seat.worker) call.seat ∙ hands.of_seat ∙ sym call.worker;
  in_stacks = ap (λ seat. seat.table) call.stack_seat ∙ hands.in_stacks;
  of_stack_seat = ap (λ seat. seat.worker) call.stack_seat ∙ hands.of_stack_seat ∙ sym call.worker;
  in_turns = ap (λ seat. seat.table) call.turn_seat ∙ hands.in_turns;
  of_turn_seat = ap (λ seat. seat.worker) call.turn_seat ∙ hands.of_turn_seat ∙ sym call.worker;
}
