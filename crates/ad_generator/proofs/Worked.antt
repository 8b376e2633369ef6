-- What is computed of the modules and of the script.
use Rattle.std.proofs.Common.{◌≡◌, refl}
use Rattle.std.specs.Fmt.{digits}
use Rattle.ad_elf.specs.Below.{joined}
use Rattle.ad_elf.specs.Worked.{sum_file}
use Rattle.ad_isa.specs.Fields.{amount, funct3, funct6, funct7, i_immediate, opcode, rd, rs1, rs2, s_immediate, u_immediate}
use Rattle.ad_isa.specs.Table.{decoded, rows}
use Rattle.ad_kit.proofs.WorkedFile.{sum_is_written}
use Rattle.ad_generator.specs.Generated.{generated_script, generated_step, worked_steps}
use Rattle.ad_generator.specs.Instructions.{AreWordsOf, cnt_instructions, dev_instructions, sum_instructions, tab_instructions}
use Rattle.ad_generator.specs.Modules.{built_file, cnt_words, dev_words, sum_words, tab_words}
use Rattle.ad_generator.specs.Script.{line_text, script_text, worked_script}

pub AreWordsOf-sum : AreWordsOf sum_instructions sum_words
unfolding amount decoded funct3 funct6 funct7 i_immediate opcode rd rows rs1 rs2 s_immediate u_immediate
AreWordsOf-sum = refl

pub AreWordsOf-cnt : AreWordsOf cnt_instructions cnt_words
unfolding amount decoded funct3 funct6 funct7 i_immediate opcode rd rows rs1 rs2 s_immediate u_immediate
AreWordsOf-cnt = refl

pub AreWordsOf-dev : AreWordsOf dev_instructions dev_words
unfolding amount decoded funct3 funct6 funct7 i_immediate opcode rd rows rs1 rs2 s_immediate u_immediate
AreWordsOf-dev = refl

pub AreWordsOf-tab : AreWordsOf tab_instructions tab_words
unfolding amount decoded funct3 funct6 funct7 i_immediate opcode rd rows rs1 rs2 s_immediate u_immediate
AreWordsOf-tab = refl

-- the file of module 0 has the section and the symbol of the worked file
pub built_file-sum : built_file 0 ≡ sum_file
built_file-sum = sum_is_written

pub script_text-worked : script_text 8 ≡ worked_script
unfolding digits joined line_text script_text
script_text-worked = refl

pub steps-worked : (generated_script 8).steps ≡ worked_steps
unfolding generated_step joined
steps-worked = refl
