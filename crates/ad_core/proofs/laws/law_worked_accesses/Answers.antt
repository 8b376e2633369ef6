use Rattle.std.proofs.Common.{refl}
use Rattle.ad_isa.specs.Fields.{funct3, funct7, i_immediate, opcode, rd, rs1, rs2, s_immediate}
use Rattle.ad_isa.specs.Rows.{effect}
use Rattle.ad_isa.specs.Step.{step}
use Rattle.ad_isa.specs.Table.{decoded, rows}
use Rattle.ad_core.specs.Memory.{fetched, loaded, stored}
use Rattle.ad_core.specs.Plain.{first_registers, plain_call, plain_run, plain_step}
use Rattle.ad_core.proofs.laws.law_worked_accesses.Goals as goal

pub returns : goal.returns
unfolding plain_call plain_run plain_step first_registers fetched loaded stored step effect decoded rows opcode rd funct3 rs1 rs2 funct7 i_immediate s_immediate
returns c = record {
  sign = refl;
  no_sign = refl;
  lowest_byte_first = refl;
  two_bytes = refl;
  register_0 = refl;
  code_is_loaded = refl;
  misaligned_in_region_1 = refl;
  load_from_the_gate = refl;
  load_behind = refl;
  misaligned_in_code = refl;
  store_to_code = refl;
  store_to_a_service = refl;
  fetch_from_data = refl;
  accesses = refl;
}
