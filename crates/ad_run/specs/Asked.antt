-- What the calls of a run ask of the pages of the movable part that they run in.
use Rattle.std.specs.Prelude.{ℕ, List}
use Rattle.ad_call.specs.Asked.{asked_in_call, HoldsTouched}
use Rattle.ad_call.specs.Call.{outcome_of}
use Rattle.ad_core.specs.Turn.{reached}
use Rattle.ad_lines.specs.Sound.{Lines, Outcome}
use Rattle.ad_maps.specs.declared.view.Act.{Act}
use Rattle.ad_run.specs.Beside.{IsTold}
use Rattle.ad_wrapper.specs.declared.hands.Ready.{Ready}
use Rattle.ad_wrapper.specs.Performed.{call_for}

-- what a worker's list has asked in each call that it tells has each page of the mapping that the call touches in what it reaches,
-- and each local word that it loads
abbrev pub CallsAskForAll : Lines → Outcome → Type 0
CallsAskForAll l o = (worker : ℕ) (step : Ready) (acts : List Act) → (told : IsTold l o.books worker step acts) →
    let e = told.entry in
    let c = call_for worker step e.under e.stack in
    HoldsTouched (reached told.image told.before e.under e.stack) e.under (outcome_of told.image l.fuel told.before c step.args).accesses (asked_in_call told.image l.fuel told.before c step.args)
