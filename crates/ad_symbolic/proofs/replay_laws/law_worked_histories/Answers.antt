use Rattle.std.proofs.Common.{◌≡◌, ℕ, ◌+◌, ◌%◌, ◌^◌, ◌&&◌, true, [], map, Ok, refl, ap, ◌∙◌}
use Rattle.std.specs.Prelude.{if◌then◌else◌}
use Rattle.ad_base.specs.Book.{Contents}
use Rattle.ad_base.specs.declared.end.End.TheVariants.{Returned}
use Rattle.ad_base.specs.declared.place.Place.{Place}
use Rattle.ad_base.specs.Image.{zeros}
use Rattle.ad_isa.specs.Fields.{b_immediate, funct3, funct7, i_immediate, opcode, rd, rs1, rs2, s_immediate, u_immediate}
use Rattle.ad_isa.specs.Finish.{Returns}
use Rattle.ad_isa.specs.Rows.{effect}
use Rattle.ad_isa.specs.Services.{served}
use Rattle.ad_isa.specs.Step.{step}
use Rattle.ad_isa.specs.Table.{decoded, rows}
use Rattle.ad_symbolic.specs.declared.value.Value.TheVariants.{Num}
use Rattle.ad_symbolic.specs.AddressSpace.{fetched_value, loaded_value, numbers_of, space_of, stored_value}
use Rattle.ad_symbolic.specs.Examples.{asked_for_sum, counting_image}
use Rattle.ad_symbolic.specs.Machine.{SymbolicOutcome, first_values, fresh_stack, symbolic_call, symbolic_run, symbolic_step}
use Rattle.ad_symbolic.specs.Replay.{Clear, Keeps, answer_of, end_of, keeps_none, kept_of, number_or_zero, replay, run_of}
use Rattle.ad_symbolic.proofs.Numbers.{all-numbers, all-words, behind-clear}
use Rattle.ad_symbolic.proofs.replay_laws.law_worked_histories.Goals as goal

-- how the call for a sum ends, whatever numbers are kept
outcome : Place → ℕ → ℕ → Contents → SymbolicOutcome
outcome fixed a b book = record {
  finish = Returns (Num ((a + b) % 2 ^ 64));
  memory = record { space = space_of (counting_image fixed) (numbers_of book.writable) (numbers_of book.fixed) fresh_stack; notes = []; queue = map Num book.device };
}

runs : (fixed : Place) (a b : ℕ) (book : Contents) → run_of (counting_image fixed) 100 (kept_of book) (asked_for_sum a b) ≡ Ok (outcome fixed a b book)
unfolding outcome zeros funct3 funct7 i_immediate s_immediate b_immediate opcode rd rs1 rs2 u_immediate effect decoded rows fetched_value first_values symbolic_run symbolic_call symbolic_step step
runs fixed a b book = refl

keeps : (fixed : Place) (a b : ℕ) (book : Contents) → keeps_none (outcome fixed a b book) ≡ true
unfolding outcome
keeps fixed a b book = (λ j. all-numbers book.writable j && all-numbers book.fixed j && true && all-words book.device j && true)

always : (fixed : Place) (a b : ℕ) (book : Contents) → answer_of (run_of (counting_image fixed) 100 (kept_of book) (asked_for_sum a b)) ≡ Clear (Returned ((a + b) % 2 ^ 64)) []
unfolding outcome
always fixed a b book =
    let o = outcome fixed a b book in
    ap answer_of (runs fixed a b book) ∙ ap (λ none. if none then Clear (end_of o.finish) (map number_or_zero o.memory.notes) else Keeps) (keeps fixed a b book)

pub returns-clause-behind_clear : goal.returns-clause-behind_clear
returns-clause-behind_clear c = behind-clear

pub returns-clause-sum_behind_clear : goal.returns-clause-sum_behind_clear
returns-clause-sum_behind_clear c fixed a b = behind-clear (counting_image fixed) 100 (asked_for_sum a b) (Clear (Returned ((a + b) % 2 ^ 64)) []) (always fixed a b)

pub returns-clause-sum_behind_others : goal.returns-clause-sum_behind_others
unfolding zeros funct3 funct7 i_immediate s_immediate b_immediate opcode rd rs1 rs2 u_immediate effect decoded rows fetched_value loaded_value stored_value served first_values symbolic_run symbolic_call symbolic_step step replay
returns-clause-sum_behind_others c fixed = refl

pub returns-clause-counter : goal.returns-clause-counter
unfolding zeros funct3 funct7 i_immediate s_immediate b_immediate opcode rd rs1 rs2 u_immediate effect decoded rows fetched_value loaded_value stored_value served first_values symbolic_run symbolic_call symbolic_step step replay
returns-clause-counter c fixed = refl
