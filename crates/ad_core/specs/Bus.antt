-- What the answers of a bus say.
use Rattle.std.specs.Prelude.{◌≡◌, ℕ, List, fold, Result, Ok, Err}
use Rattle.ad_base.specs.declared.end.End.{End}
use Rattle.ad_base.specs.declared.end.End.TheVariants as ends
use Rattle.ad_base.specs.Segments.{Access, Segment}
use Rattle.ad_isa.specs.Finish.{Aborts, Ends, Finish}
use Rattle.ad_core.specs.declared.bus.Refusal.{Refusal}
use Rattle.ad_core.specs.declared.bus.Refusal.TheVariants as refusal
use Rattle.ad_core.specs.declared.bus.Served.{Served}
use Rattle.ad_core.specs.declared.bus.Served.TheVariants as served

-- the end of a call whose access was refused so
abbrev pub end_of_refusal : Refusal → End
end_of_refusal refusal.Fault = ends.Fault
end_of_refusal refusal.Denied = ends.Denied

-- a load that answers so finds this
abbrev pub IsLoaded : Result ℕ Refusal → Result ℕ End → Type 0
IsLoaded (Ok n) found = found ≡ Ok n
IsLoaded (Err r) found = found ≡ Err (end_of_refusal r)

-- a store that answers so leaves these segments
abbrev pub IsStored : {U : Type 0} → Result U Refusal → List (Segment ℕ) → List (Segment ℕ) → Result (List (Segment ℕ)) End → Type 0
IsStored (Ok u) before after found = found ≡ Ok after
IsStored (Err r) before after found = (found ≡ Err (end_of_refusal r)) × (after ≡ before)

-- what a service answers
abbrev pub answer_of : Served → Result ℕ (Finish ℕ)
answer_of (served.Answer n) = Ok n
answer_of (served.Abort n) = Err (Aborts n)
answer_of served.NotesFull = Err (Ends ends.NotesFull)

-- what a track becomes by accesses, in order
abbrev pub track_after : {T : Type 0} → (T → Access → T) → List Access → T → T
track_after rule accesses track = fold rule track accesses
