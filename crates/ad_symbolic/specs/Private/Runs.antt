-- The gate, as the code looks for it.
use Rattle.std.specs.Prelude.{Bool, false, ◌==◌}
use Rattle.ad_base.specs.declared.layout.TheConstants.{GATE}
use Rattle.ad_symbolic.specs.declared.value.Value.{Value}
use Rattle.ad_symbolic.specs.declared.value.Value.TheVariants.{At, Num}

abbrev pub is_gate : Value → Bool
is_gate (Num n) = n == GATE
is_gate (At p o) = false
