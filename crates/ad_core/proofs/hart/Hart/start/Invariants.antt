use Rattle.std.proofs.Common.{◌≡◌, take}
use Rattle.ad_core.specs.Plain.{first_registers}
use Rattle.ad_core.proofs.hart.Hart.start.Given as goal

-- the arguments so far have their registers
abbrev pub invariant-loop-i : goal.invariant-loop-i
invariant-loop-i l = l.registers ≡ first_registers (take l.i l.args) l.sp
