use Rattle.std.proofs.Common.{◌≡◌, ℕ, ◌≤◌, None, inl, inr, refl, sym, ◌∙◌, arith}
use Rattle.std.proofs.lemmas.Bool.Decides.{nat_tests}
use Rattle.ad_base.specs.declared.end.End.TheVariants.{Returned}
use Rattle.ad_base.specs.declared.place.Place.{Place}
use Rattle.ad_base.specs.Place.{IsPlace}
use Rattle.ad_base.specs.Segments.{holding}
use Rattle.ad_core.specs.Memory.{fetched, loaded}
use Rattle.ad_core.specs.Plain.{first_registers, plain_call, plain_run, plain_step}
use Rattle.ad_isa.specs.Fields.{funct3, funct7, i_immediate, opcode, rd, rs1, rs2, u_immediate}
use Rattle.ad_isa.specs.Rows.{effect}
use Rattle.ad_isa.specs.Step.{step}
use Rattle.ad_isa.specs.Table.{decoded, rows}
use Rattle.ad_lines.specs.Examples.{before_load, loading}
use Rattle.ad_lines.specs.Traps.{ComesToTouch, IsAmong}
use Rattle.ad_lines.proofs.Traps.{ends-at}
use Rattle.ad_lines.proofs.mapping_laws.law_worked_trap.Goals as goal

-- the second page of region 12
page : Place
page = record { region = 12; start = 1; pages = 1; mapping = 1; frame = 0 }

is-place : IsPlace page
unfolding page
is-place = record {
  region_from = omega arith;
  region_to = omega arith;
  page_before = omega arith;
  some_page = omega arith;
  page_behind = omega arith;
  mapping_from = omega arith;
  mapping_to = omega arith;
  frame_to = omega arith;
}

none-there : (from : ℕ) → 0x301000 ≤ from → holding loading.memory.segments from ≡ None
none-there from behind = grind (arith, nat_tests)

comes : ComesToTouch 0x200000 100 (before_load 0x200000) loading
unfolding fetched decoded rows opcode rd funct3 rs1 i_immediate first_registers
comes =
    let here : IsAmong 0x200000 4 0x200000 = (omega arith, omega arith) in
    record { steps = 0; fuelled = omega arith; later = before_load 0x200000; after = loading; leads = (refl, refl); touches = inr here }

returned : (plain_run 100 (before_load 0x200000) loading).end ≡ Returned 0x04030201
unfolding plain_run plain_step first_registers fetched loaded step effect decoded rows opcode rd funct3 rs1 rs2 funct7 i_immediate u_immediate
returned = refl

pub returns-clause-touches : goal.returns-clause-touches
unfolding fetched decoded rows opcode rd funct3 rs1 i_immediate first_registers
returns-clause-touches c = λ at. (λ t. t, λ t. t)

pub returns-clause-nothing_there : goal.returns-clause-nothing_there
unfolding page
returns-clause-nothing_there c =
    ends-at page 0x301000 is-place (record { from = omega arith; to = omega arith }) loading.memory.segments (λ from within. none-there from within.from)

pub returns-clause-data_there : goal.returns-clause-data_there
returns-clause-data_there c = λ ends. elim (ends 100 (before_load 0x200000) loading refl comes).run [ inl e ↦ (let no = sym returned ∙ e in absurd cc) | inr e ↦ (let no = sym returned ∙ e in absurd cc) ]

pub returns-clause-fault : goal.returns-clause-fault
unfolding plain_call plain_run plain_step first_registers fetched loaded step effect decoded rows opcode rd funct3 rs1 rs2 funct7 i_immediate u_immediate
returns-clause-fault c = refl

pub returns-clause-misaligned : goal.returns-clause-misaligned
unfolding plain_call plain_run plain_step first_registers fetched loaded step effect decoded rows opcode rd funct3 rs1 rs2 funct7 i_immediate u_immediate
returns-clause-misaligned c = refl

pub returns-clause-no_trap : goal.returns-clause-no_trap
unfolding plain_call plain_run plain_step first_registers fetched loaded step effect decoded rows opcode rd funct3 rs1 rs2 funct7 i_immediate u_immediate
returns-clause-no_trap c = refl
