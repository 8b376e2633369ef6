use Rattle.std.proofs.Common.{◌≡◌, take}
use Rattle.ad_symbolic.specs.Machine.{first_values}
use Rattle.ad_symbolic.proofs.hart.Hart.start.Given as goal

-- the arguments so far have their registers
abbrev pub invariant-loop-i : goal.invariant-loop-i
invariant-loop-i l = l.registers ≡ first_values (take l.i l.args)
