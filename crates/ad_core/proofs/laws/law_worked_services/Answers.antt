use Rattle.std.proofs.Common.{refl}
use Rattle.ad_isa.specs.Fields.{funct3, i_immediate, opcode, rd, rs1}
use Rattle.ad_isa.specs.Rows.{effect}
use Rattle.ad_isa.specs.Services.{served}
use Rattle.ad_isa.specs.Step.{step}
use Rattle.ad_isa.specs.Table.{decoded, rows}
use Rattle.ad_core.specs.Memory.{fetched}
use Rattle.ad_core.specs.Plain.{first_registers, plain_call, plain_run, plain_step}
use Rattle.ad_core.proofs.laws.law_worked_services.Goals as goal

pub returns : goal.returns
unfolding plain_call plain_run plain_step first_registers fetched served step effect decoded rows opcode rd funct3 rs1 i_immediate
returns c = record {
  note = refl;
  note_too_many = refl;
  abort = refl;
  out = refl;
  out_full = refl;
  in_oldest = refl;
  in_empty = refl;
  between = refl;
  behind = refl;
  misaligned_return = refl;
  abort_before_it = refl;
}
