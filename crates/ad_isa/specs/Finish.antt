-- How a call ends, over any domain of values.
use Rattle.ad_base.specs.declared.end.End.{End}

-- it returns a value, it gives up with a value, or it ends so, with no value: no definition makes `Ends` of an end that has one
pub data Finish (V : Type 0) : Type 0 where
  Returns : V → Finish V
  Aborts : V → Finish V
  Ends : End → Finish V
