use Rattle.std.proofs.Common.{refl}
use Rattle.ad_isa.specs.Fields.{opcode, rd, funct3, rs1, rs2, funct7, i_immediate, u_immediate}
use Rattle.ad_isa.specs.Table.{decoded, rows}
use Rattle.ad_isa.proofs.laws.law_worked_words.Goals as goal

pub returns-clause-add : goal.returns-clause-add
unfolding decoded rows opcode rd funct3 rs1 rs2 funct7 i_immediate u_immediate
returns-clause-add c = refl

pub returns-clause-return_jump : goal.returns-clause-return_jump
unfolding decoded rows opcode rd funct3 rs1 rs2 funct7 i_immediate u_immediate
returns-clause-return_jump c = refl

pub returns-clause-add_immediate : goal.returns-clause-add_immediate
unfolding decoded rows opcode rd funct3 rs1 rs2 funct7 i_immediate u_immediate
returns-clause-add_immediate c = refl

pub returns-clause-negative : goal.returns-clause-negative
unfolding decoded rows opcode rd funct3 rs1 rs2 funct7 i_immediate u_immediate
returns-clause-negative c = refl

pub returns-clause-own_address : goal.returns-clause-own_address
unfolding decoded rows opcode rd funct3 rs1 rs2 funct7 i_immediate u_immediate
returns-clause-own_address c = refl

pub returns-clause-far_address : goal.returns-clause-far_address
unfolding decoded rows opcode rd funct3 rs1 rs2 funct7 i_immediate u_immediate
returns-clause-far_address c = refl

pub returns-clause-address_before : goal.returns-clause-address_before
unfolding decoded rows opcode rd funct3 rs1 rs2 funct7 i_immediate u_immediate
returns-clause-address_before c = refl

pub returns-clause-load_upper_immediate : goal.returns-clause-load_upper_immediate
unfolding decoded rows opcode rd funct3 rs1 rs2 funct7 i_immediate u_immediate
returns-clause-load_upper_immediate c = refl

pub returns-clause-subtract : goal.returns-clause-subtract
unfolding decoded rows opcode rd funct3 rs1 rs2 funct7 i_immediate u_immediate
returns-clause-subtract c = refl

pub returns-clause-zero : goal.returns-clause-zero
unfolding decoded rows opcode rd funct3 rs1 rs2 funct7 i_immediate u_immediate
returns-clause-zero c = refl
