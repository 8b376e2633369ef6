use Rattle.std.proofs.Common.{refl}
use Rattle.ad_base.specs.Image.{zeros}
use Rattle.ad_isa.specs.Fields.{b_immediate, funct3, funct7, i_immediate, opcode, rd, rs1, rs2, s_immediate, u_immediate}
use Rattle.ad_isa.specs.Rows.{effect}
use Rattle.ad_isa.specs.Step.{step}
use Rattle.ad_isa.specs.Table.{decoded, rows}
use Rattle.ad_symbolic.specs.AddressSpace.{fetched_value, stored_value}
use Rattle.ad_symbolic.specs.Machine.{first_values, symbolic_run, symbolic_call, symbolic_step}
use Rattle.ad_symbolic.specs.Replay.{replay}
use Rattle.ad_symbolic.proofs.laws.law_worked_replays.Goals as goal

pub returns-clause-sum : goal.returns-clause-sum
unfolding zeros funct3 funct7 i_immediate s_immediate b_immediate opcode rd rs1 rs2 u_immediate effect decoded rows fetched_value stored_value first_values symbolic_run symbolic_call symbolic_step step replay
returns-clause-sum c fixed = refl

pub returns-clause-sum_history : goal.returns-clause-sum_history
unfolding zeros funct3 funct7 i_immediate s_immediate b_immediate opcode rd rs1 rs2 u_immediate effect decoded rows fetched_value stored_value first_values symbolic_run symbolic_call symbolic_step step replay
returns-clause-sum_history c fixed = refl

pub returns-clause-fuel : goal.returns-clause-fuel
unfolding zeros funct3 funct7 i_immediate s_immediate b_immediate opcode rd rs1 rs2 u_immediate effect decoded rows fetched_value stored_value first_values symbolic_run symbolic_call symbolic_step step replay
returns-clause-fuel c fixed = refl

pub returns-clause-own_address : goal.returns-clause-own_address
unfolding zeros funct3 funct7 i_immediate s_immediate b_immediate opcode rd rs1 rs2 u_immediate effect decoded rows fetched_value stored_value first_values symbolic_run symbolic_call symbolic_step step replay
returns-clause-own_address c fixed = refl

pub returns-clause-own_address_history : goal.returns-clause-own_address_history
unfolding zeros funct3 funct7 i_immediate s_immediate b_immediate opcode rd rs1 rs2 u_immediate effect decoded rows fetched_value stored_value first_values symbolic_run symbolic_call symbolic_step step replay
returns-clause-own_address_history c fixed = refl

pub returns-clause-sum_of_addresses : goal.returns-clause-sum_of_addresses
unfolding zeros funct3 funct7 i_immediate s_immediate b_immediate opcode rd rs1 rs2 u_immediate effect decoded rows fetched_value stored_value first_values symbolic_run symbolic_call symbolic_step step replay
returns-clause-sum_of_addresses c fixed = refl

pub returns-clause-sum_of_addresses_dropped : goal.returns-clause-sum_of_addresses_dropped
unfolding zeros funct3 funct7 i_immediate s_immediate b_immediate opcode rd rs1 rs2 u_immediate effect decoded rows fetched_value stored_value first_values symbolic_run symbolic_call symbolic_step step replay
returns-clause-sum_of_addresses_dropped c fixed = refl

pub returns-clause-no_instruction : goal.returns-clause-no_instruction
unfolding zeros funct3 funct7 i_immediate s_immediate b_immediate opcode rd rs1 rs2 u_immediate effect decoded rows fetched_value stored_value first_values symbolic_run symbolic_call symbolic_step step replay
returns-clause-no_instruction c fixed = refl

pub returns-clause-order_across_parts : goal.returns-clause-order_across_parts
unfolding zeros funct3 funct7 i_immediate s_immediate b_immediate opcode rd rs1 rs2 u_immediate effect decoded rows fetched_value stored_value first_values symbolic_run symbolic_call symbolic_step step replay
returns-clause-order_across_parts c fixed = refl

pub returns-clause-below_the_stack : goal.returns-clause-below_the_stack
unfolding zeros funct3 funct7 i_immediate s_immediate b_immediate opcode rd rs1 rs2 u_immediate effect decoded rows fetched_value stored_value first_values symbolic_run symbolic_call symbolic_step step replay
returns-clause-below_the_stack c fixed = refl

pub returns-clause-far_below_the_stack : goal.returns-clause-far_below_the_stack
unfolding zeros funct3 funct7 i_immediate s_immediate b_immediate opcode rd rs1 rs2 u_immediate effect decoded rows fetched_value stored_value first_values symbolic_run symbolic_call symbolic_step step replay
returns-clause-far_below_the_stack c fixed = refl
