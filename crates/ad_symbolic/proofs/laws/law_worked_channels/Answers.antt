use Rattle.std.proofs.Common.{refl}
use Rattle.ad_base.specs.Image.{zeros}
use Rattle.ad_isa.specs.Fields.{funct3, funct7, i_immediate, opcode, rd, rs1, rs2, u_immediate}
use Rattle.ad_isa.specs.Rows.{effect}
use Rattle.ad_isa.specs.Services.{served}
use Rattle.ad_isa.specs.Step.{step}
use Rattle.ad_isa.specs.Table.{decoded, rows}
use Rattle.ad_symbolic.specs.AddressSpace.{fetched_value}
use Rattle.ad_symbolic.specs.Machine.{first_values, symbolic_run, symbolic_call, symbolic_step}
use Rattle.ad_symbolic.specs.Replay.{replay}
use Rattle.ad_symbolic.proofs.laws.law_worked_channels.Goals as goal

pub returns-clause-noted : goal.returns-clause-noted
unfolding zeros funct3 funct7 i_immediate opcode rd rs1 rs2 u_immediate effect decoded rows fetched_value served first_values symbolic_run symbolic_call symbolic_step step replay
returns-clause-noted c fixed = refl

pub returns-clause-given_up : goal.returns-clause-given_up
unfolding zeros funct3 funct7 i_immediate opcode rd rs1 rs2 u_immediate effect decoded rows fetched_value served first_values symbolic_run symbolic_call symbolic_step step replay
returns-clause-given_up c fixed = refl

pub returns-clause-sent_and_taken : goal.returns-clause-sent_and_taken
unfolding zeros funct3 funct7 i_immediate opcode rd rs1 rs2 u_immediate effect decoded rows fetched_value served first_values symbolic_run symbolic_call symbolic_step step replay
returns-clause-sent_and_taken c fixed = refl

pub returns-clause-given_up_with_an_address : goal.returns-clause-given_up_with_an_address
unfolding zeros funct3 funct7 i_immediate opcode rd rs1 rs2 u_immediate effect decoded rows fetched_value served first_values symbolic_run symbolic_call symbolic_step step replay
returns-clause-given_up_with_an_address c fixed = refl

pub returns-clause-sent_an_address : goal.returns-clause-sent_an_address
unfolding zeros funct3 funct7 i_immediate opcode rd rs1 rs2 u_immediate effect decoded rows fetched_value served first_values symbolic_run symbolic_call symbolic_step step replay
returns-clause-sent_an_address c fixed = refl
