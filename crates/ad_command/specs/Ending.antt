-- What work comes to, by its kind.
use Rattle.std.specs.Prelude.{◌≡◌, ℕ, List, [], map, Option, None, IsSomeAnd}
use Rattle.ad_base.specs.declared.ledger.Moved.{Moved}
use Rattle.ad_base.specs.declared.ledger.Row.{Row}
use Rattle.ad_base.specs.Book.{Contents}
use Rattle.ad_base.specs.Image.{IsWhole}
use Rattle.ad_base.specs.Ledger.{Mapping}
use Rattle.ad_lines.specs.LineLaws.{AreSteps, run_of_seed}
use Rattle.ad_lines.specs.LineRun.{ModuleState, RunState}
use Rattle.ad_lines.specs.Opening.{AreLoaded, opening_drawn, opening_mappings}
use Rattle.ad_lines.specs.Sound as sound
use Rattle.ad_lines.specs.Sound.{IsSoundRun, Outcome}
use Rattle.ad_maps.specs.Rows.{ClosedSeen}
use Rattle.ad_predict.specs.Prediction.{prediction}
use Rattle.ad_report.specs.Listing.{listing}
use Rattle.ad_report.specs.Report.{report}
use Rattle.ad_report.specs.Summary.{summary}
use Rattle.ad_run.specs.Beside.{IsRunBeside}
use Rattle.ad_run.specs.Ended.{IsToRun}
use Rattle.ad_command.specs.Command.{Beside, Generated, Job, Lines, Predicted, Shown, Work}

-- what work comes to: what the books of the modules hold, what came of the moves, a row for each mapping, the mapping table
-- that was closed, if there was one, and the text that is to be written
pub record Ending : Type 0 where
  pub books : List Contents
  pub moves : List Moved
  pub rows : List Row
  pub closed : Option ClosedSeen
  pub text : List ℕ

-- the lines of a job, and what came of them
abbrev pub lines_of : Job → sound.Lines
lines_of j = record { seed = j.seed; workers = j.script.workers; images = j.images; fuel = j.fuel; steps = j.steps }

abbrev pub outcome_of : Ending → Outcome
outcome_of e = record { books = e.books; moves = e.moves; rows = e.rows }

-- what the lines of a job come to
abbrev pub run_of_job : Job → RunState
run_of_job j = run_of_seed j.seed j.script.workers j.images j.fuel j.steps

-- Books, moves and rows are those of the line run. It has no mapping table.
pub record IsLineRun (j : Job) (e : Ending) : Type 0 where
  pub ran : e.books ≡ map (λ (m : ModuleState). m.book) (run_of_job j).modules
  pub moved : e.moves ≡ (run_of_job j).placement.moves
  pub rows_are : e.rows ≡ (run_of_job j).placement.rows
  pub no_table : e.closed ≡ None

-- the mappings before the first line of a job
abbrev pub opening_of_job : Job → List Mapping
opening_of_job j = opening_mappings j.script.workers j.images (opening_drawn j.seed j.script.workers j.images).places

-- what holds of a job's run in any order of its calls and moves holds of this one, from the places that the seed draws
abbrev pub IsSound : Job → Ending → Type 0
IsSound j e = IsSoundRun (opening_of_job j) (lines_of j) (outcome_of e)

-- the calls may have been made in threads beside the moves, over a table of so many slots and frames, and this is what it was
-- closed with
abbrev pub IsBeside : ℕ → ℕ → Job → Ending → Type 0
IsBeside slots frames j e = IsSomeAnd e.closed (IsRunBeside slots frames (lines_of j) j.script.steps (outcome_of e))

-- the text is the report of the job's script, of the books, of the moves and of the mappings
abbrev pub IsReported : Job → Ending → Type 0
IsReported j e = e.text ≡ report j.script e.books e.moves e.rows

-- the text is the line that sums up the run of so many generated lines: of the books, of the moves and of the mappings
abbrev pub IsSummed : ℕ → Ending → Type 0
IsSummed number e = e.text ≡ summary number e.books e.moves e.rows

-- the images of a job were loaded, and its steps may be run on them, in order of their lines
pub record CanRun (j : Job) : Type 0 where
  pub loaded : AreLoaded j.seed j.script.workers j.images
  pub steps : AreSteps j.images j.script.workers j.steps

-- Nothing was run: there are no books, no moves, no mappings and no table, and this is the text.
pub record IsTextAlone (text : List ℕ) (e : Ending) : Type 0 where
  pub no_book : e.books ≡ []
  pub no_move : e.moves ≡ []
  pub no_row : e.rows ≡ []
  pub no_table : e.closed ≡ None
  pub text_is : e.text ≡ text

-- what work comes to: the run of a job, line by line or beside, and its report; the prediction of its calls; the listing of a
-- whole image; or the run of a job's lines and its sum
abbrev pub IsDone : Work → Ending → Type 0
IsDone (Lines j) e = CanRun j × IsLineRun j e × IsSound j e × IsReported j e
IsDone (Beside slots frames j) e = IsToRun frames (lines_of j) j.script.steps × IsBeside slots frames j e × IsReported j e
IsDone (Predicted j) e = CanRun j × IsTextAlone (prediction j.script j.images j.fuel j.steps) e
IsDone (Shown i) e = IsWhole i × IsTextAlone (listing i) e
IsDone (Generated number j) e = CanRun j × IsLineRun j e × IsSound j e × IsSummed number e
