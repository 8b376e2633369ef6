use Rattle.std.proofs.Common.{refl}
use Rattle.ad_isa.specs.Fields.{funct3, funct7, i_immediate, opcode, rd, rs1, rs2, u_immediate}
use Rattle.ad_isa.specs.Rows.{effect}
use Rattle.ad_isa.specs.Step.{step}
use Rattle.ad_isa.specs.Table.{decoded, rows}
use Rattle.ad_core.specs.Memory.{fetched}
use Rattle.ad_core.specs.Plain.{first_registers, plain_call, plain_run, plain_step}
use Rattle.ad_core.proofs.laws.law_worked_calls.Goals as goal

pub returns : goal.returns
unfolding plain_call plain_run plain_step first_registers fetched step effect decoded rows opcode rd funct3 rs1 rs2 funct7 i_immediate u_immediate
returns c = record {
  sum = refl;
  fuel_spent = refl;
  fuel_enough = refl;
  illegal = refl;
  fault = refl;
  misaligned_entry = refl;
  misaligned_target = refl;
  zero_register = refl;
  negative = refl;
  at_the_gate = refl;
  kept_address = refl;
  denied = refl;
  bit_0_cleared = refl;
  link_to_the_source = refl;
  own_address = refl;
  own_address_behind = refl;
  a_page_on = refl;
  a_page_back = refl;
}
