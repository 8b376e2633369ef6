use Rattle.std.proofs.Common.{refl}
use Rattle.ad_base.specs.Image.{zeros}
use Rattle.ad_isa.specs.Fields.{funct3, funct7, i_immediate, opcode, rd, rs1, rs2, u_immediate}
use Rattle.ad_isa.specs.Rows.{effect}
use Rattle.ad_isa.specs.Step.{step}
use Rattle.ad_isa.specs.Table.{decoded, rows}
use Rattle.ad_symbolic.specs.AddressSpace.{fetched_value}
use Rattle.ad_symbolic.specs.Machine.{first_values, symbolic_run, symbolic_call, symbolic_step}
use Rattle.ad_symbolic.specs.Replay.{replay}
use Rattle.ad_symbolic.proofs.laws.law_worked_jumps.Goals as goal

pub returns : goal.returns
unfolding zeros funct3 funct7 i_immediate opcode rd rs1 rs2 u_immediate effect decoded rows fetched_value first_values symbolic_run symbolic_call symbolic_step step replay
returns c = record {
  to_stubs = λ fixed. refl;
  to_table = λ fixed. refl;
  behind = λ fixed. refl;
  far_behind = λ fixed. refl;
  far_behind_spent = λ fixed. refl;
  to_fixed_table = refl;
  to_fixed_stubs = refl;
  clear_before_unclear = refl;
  clear_before_unclear_history = refl;
}
