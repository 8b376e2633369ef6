use Rattle.std.proofs.Common.{ℕ, ◌+◌, ◌<◌, ◌≤◌, ◌∷◌, [], refl, arith, lit<, lit≤}
use Rattle.std.specs.Prelude.{codes}
use Rattle.std.proofs.lemmas.List.Elements.{All-cons, All-nil}
use Rattle.ad_base.specs.declared.book.Entry.{Entry}
use Rattle.ad_base.specs.declared.layout.TheConstants.{FRAMES, MAPPINGS, MODULE_REGION, REGION_PAGES}
use Rattle.ad_base.specs.Image.{IsWhole, zeros}
use Rattle.ad_base.specs.declared.image.Export.{Export}
use Rattle.ad_base.specs.Place.{IsPlace}
use Rattle.ad_core.specs.Plain.{first_registers, plain_call, plain_step, plain_run}
use Rattle.ad_core.specs.Memory.{fetched}
use Rattle.ad_core.specs.Turn.{IsTurn, opening_contents}
use Rattle.ad_isa.specs.Fields.{funct3, funct7, i_immediate, opcode, rd, rs1, rs2, u_immediate}
use Rattle.ad_isa.specs.Rows.{effect}
use Rattle.ad_isa.specs.Step.{step}
use Rattle.ad_isa.specs.Table.{decoded, rows}
use Rattle.ad_symbolic.specs.AddressSpace.{fetched_value}
use Rattle.ad_symbolic.specs.Machine.{first_values, symbolic_run as run_values, symbolic_call, symbolic_step}
use Rattle.ad_symbolic.specs.Replay.{replay}
use Rattle.ad_relate.specs.ClearHistory.{entry_places}
use Rattle.ad_relate.specs.Examples.{book_of, first_place, second_place, stack_place, sum_book, sum_entry, sum_image}
use Rattle.ad_relate.specs.Stands.{IsApart}
use Rattle.ad_symbolic.specs.Examples.{fixed_place}
use Rattle.ad_relate.proofs.laws.law_worked_history.Goals as goal

-- the module's export
export : Export
export = record { name = codes "main"; offset = 0 }

-- each call is a turn
first : IsTurn sum_image 100 (opening_contents sum_image) (sum_entry 1 (2 ∷ 3 ∷ []) first_place 5) (book_of (sum_entry 1 (2 ∷ 3 ∷ []) first_place 5 ∷ []))
unfolding export zeros plain_call plain_run plain_step first_registers fetched step effect decoded rows opcode rd funct3 rs1 rs2 funct7 i_immediate u_immediate
first = record { export = export; exists = refl; entries = refl; end = refl; notes = refl; writable = refl; fixed = refl; device = refl }

second : IsTurn sum_image 100 (book_of (sum_entry 1 (2 ∷ 3 ∷ []) first_place 5 ∷ [])) (sum_entry 3 (4 ∷ 3 ∷ []) second_place 7) sum_book
unfolding export zeros plain_call plain_run plain_step first_registers fetched step effect decoded rows opcode rd funct3 rs1 rs2 funct7 i_immediate u_immediate
second = record { export = export; exists = refl; entries = refl; end = refl; notes = refl; writable = refl; fixed = refl; device = refl }

-- its places are apart, whichever pages of a region the movable part has
fixed-is : IsPlace fixed_place
fixed-is = record { region_from = lit≤ tt; region_to = lit< tt; page_before = lit≤ tt; some_page = lit≤ tt; page_behind = lit< tt; mapping_from = lit≤ tt; mapping_to = lit≤ tt; frame_to = lit< tt }

stack-is : IsPlace stack_place
stack-is = record { region_from = lit≤ tt; region_to = lit< tt; page_before = lit≤ tt; some_page = lit≤ tt; page_behind = lit< tt; mapping_from = lit≤ tt; mapping_to = lit≤ tt; frame_to = lit< tt }

whole : IsWhole sum_image
unfolding zeros
whole = record {
  code = refl;
  writable = refl;
  fixed_code = refl;
  fixed_data = refl;
  movable_pages_fit = lit≤ tt;
  fixed_pages_fit = lit≤ tt;
  cells_fit = lit≤ tt;
  table_fits = lit≤ tt;
  fixed_size = refl;
  fixed_place = record { place = fixed-is; for_modules = lit< tt };
}

apart : (start mapping frame : ℕ) → 1 ≤ start → start + 4 < REGION_PAGES → 1 ≤ mapping → mapping ≤ MAPPINGS → frame < FRAMES
    → IsApart sum_image (record { movable = record { region = MODULE_REGION; start = start; pages = 4; mapping = mapping; frame = frame }; stack = stack_place })
apart start mapping frame before behind from to below = record {
  whole = whole;
  movable = record {
    place = record { region_from = lit≤ tt; region_to = lit< tt; page_before = before; some_page = lit≤ tt; page_behind = behind; mapping_from = from; mapping_to = to; frame_to = below };
    for_modules = lit< tt;
  };
  movable_size = refl;
  stack = stack-is;
  stack_size = refl;
  movable_stack = λ e. absurd (omega (arith, e));
  movable_fixed = λ e. absurd (omega (arith, e));
  stack_fixed = λ e. absurd (omega (arith, e));
}

pub returns-clause-whole : goal.returns-clause-whole
returns-clause-whole c = whole

pub returns-clause-lawful : goal.returns-clause-lawful
returns-clause-lawful c = (book_of (sum_entry 1 (2 ∷ 3 ∷ []) first_place 5 ∷ []), first, (sum_book, second, refl))

pub returns-clause-apart : goal.returns-clause-apart
returns-clause-apart c =
    let P : Entry → Type 0 = λ e. IsApart sum_image (entry_places e) in
    let second = sum_entry 3 (4 ∷ 3 ∷ []) second_place 7 in
    All-cons P (sum_entry 1 (2 ∷ 3 ∷ []) first_place 5) (second ∷ []) (apart 1 3 0 (lit≤ tt) (lit< tt) (lit≤ tt) (lit≤ tt) (lit< tt))
    (All-cons P second [] (apart 7 4 1 (lit≤ tt) (lit< tt) (lit≤ tt) (lit≤ tt) (lit< tt)) (All-nil P))

pub returns-clause-clear : goal.returns-clause-clear
unfolding zeros funct3 funct7 i_immediate opcode rd rs1 rs2 u_immediate effect decoded rows fetched_value first_values run_values symbolic_call symbolic_step step replay
returns-clause-clear c = refl
