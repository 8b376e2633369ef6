-- What comes of a run whose calls are made in threads beside its moves.
use Rattle.std.specs.Prelude.{◌≡◌, ◌<◌, ◌≤◌, ◌==◌, ◌&&◌, ℕ, filter, List, [], ◌∷◌, ◌++◌, length, slice_get, AllPairs, Contains, IfSome, IsSomeAnd, Some}
use Rattle.ad_base.specs.declared.book.Entry.{Entry}
use Rattle.ad_base.specs.declared.image.Image.{Image}
use Rattle.ad_base.specs.declared.ledger.Kind.{Kind}
use Rattle.ad_base.specs.declared.ledger.Kind.TheVariants.{Code, Stack}
use Rattle.ad_base.specs.declared.ledger.MoveEnd.TheVariants as ends
use Rattle.ad_base.specs.declared.ledger.Moved.{Moved}
use Rattle.ad_base.specs.declared.ledger.Row.{Row}
use Rattle.ad_base.specs.Book.{Contents}
use Rattle.ad_base.specs.Ledger.{Mapping, is_same_kind, made_mapping}
use Rattle.ad_call.specs.Asked.{asked_in_call}
use Rattle.ad_core.specs.Turn.{IsLawful}
use Rattle.ad_lines.specs.Sound.{IsSoundRun, Lines, Outcome, entries_by}
use Rattle.ad_maps.specs.declared.view.Act.{Act}
use Rattle.ad_maps.specs.Rows.{ClosedSeen, HaveUnmappedRows, HaveUnmapsTold}
use Rattle.ad_mover.specs.Moves.{MakesSteps, Moving}
use Rattle.ad_run.specs.Calls.{calls_of_worker}
use Rattle.ad_run.specs.Opened.{new_moving, opening_in_frames, shape_for}
use Rattle.ad_script.specs.declared.script.Step.{Step}
use Rattle.ad_wrapper.specs.declared.hands.Ready.{Ready}
use Rattle.ad_wrapper.specs.Performed.{acts_of_call, call_for}

-- A worker's call of this step, as its list and its module's book tell it: the entry is of the step, and the list has what the
-- plain machine's run of that call asks for, on the book as it was before the entry. On its way out the worker may unmap any
-- mappings: that those of the lists of all seats together were retired, and each is unmapped once, the rows of the closed table say.
pub record IsTold (l : Lines) (books : List Contents) (worker : ℕ) (step : Ready) (acts : List Act) : Type 0 where
  pub image : Image
  pub loaded : slice_get l.images step.«module» ≡ Some image
  pub book : Contents
  pub stored : slice_get books step.«module» ≡ Some book
  -- the book before the entry: turns reach it, and it has the entries before
  pub before : Contents
  pub entry : Entry
  pub later : List Entry
  pub lawful : IsLawful image l.fuel before
  pub stands : book.entries ≡ before.entries ++ entry ∷ later
  pub line : entry.line ≡ step.line
  pub by : entry.worker ≡ worker
  pub unmapped : List ℕ
  pub acts_are : acts ≡ acts_of_call step.«module» entry.under (asked_in_call image l.fuel before (call_for worker step entry.under entry.stack) step.args) unmapped

-- and so are these calls, in order: nothing else is in the list
abbrev pub AreTold : Lines → List Contents → ℕ → List Ready → List Act → Type 0
AreTold l books worker [] acts = acts ≡ []
AreTold l books worker (step ∷ steps) acts = (first rest : List Act) × IsTold l books worker step first × AreTold l books worker steps rest × (acts ≡ first ++ rest)

-- this row is listed, of this kind and of this module or worker
pub record IsRowOf (rows : List Row) (kind : Kind) (who : ℕ) (r : Row) : Type 0 where
  pub listed : Contains rows r
  pub is_kind : r.kind ≡ kind
  pub is_who : r.who ≡ who

-- in each book the mappings and the stacks that a worker's calls ran on are those of rows, and their numbers never fall
pub record AreOnRows (o : Outcome) : Type 0 where
  pub under : (number : ℕ) → IfSome (slice_get o.books number) (λ (b : Contents). (e : Entry) → Contains b.entries e → (r : Row) × IsRowOf o.rows Code number r × (r.place ≡ e.under))
  pub stacks : (number : ℕ) → IfSome (slice_get o.books number) (λ (b : Contents). (e : Entry) → Contains b.entries e → (r : Row) × IsRowOf o.rows Stack e.worker r × (r.place ≡ e.stack))
  pub rise : (number worker : ℕ) → IfSome (slice_get o.books number) (λ (b : Contents). AllPairs (λ (d e : Entry). d.under.mapping ≤ e.under.mapping) (entries_by worker b.entries))
  pub stacks_rise : (number worker : ℕ) → IfSome (slice_get o.books number) (λ (b : Contents). AllPairs (λ (d e : Entry). d.stack.mapping ≤ e.stack.mapping) (entries_by worker b.entries))

-- the mappings of a module's movable part, in order
abbrev pub of_module : ℕ → List Mapping → List Mapping
of_module who ms = filter (λ (m : Mapping). is_same_kind Code m.kind && (m.who == who)) ms

-- Of moves, where these mappings were made before: one that is busy has at least as many mappings of its module before it as the
-- module has frames
abbrev pub AreBusyFull : ℕ → List Mapping → List Moved → Type 0
AreBusyFull frames before [] = Unit {0}
AreBusyFull frames before (x ∷ xs) = ((owner : ℕ) → x.end ≡ ends.Busy owner → frames ≤ length (of_module x.who before)) × AreBusyFull frames (before ++ made_mapping x) xs

-- What holds of a run beside, of the script's steps, and of the mapping table that it closed.
pub record IsRunBeside (slots frames : ℕ) (l : Lines) (script : List Step) (o : Outcome) (closed : ClosedSeen) : Type 0 where
  -- it is sound
  pub sound : IsSoundRun (opening_in_frames frames l) l o
  -- the calls ran on the mappings of rows
  pub on_rows : AreOnRows o
  -- the mover made the steps, and its moves and its list are these
  pub last : Moving
  pub made : MakesSteps (shape_for slots frames l) script (new_moving l (shape_for slots frames l)) last
  pub moves : o.moves ≡ last.moves
  pub deeds : closed.mover.deeds ≡ last.deeds
  -- a module is busy only where at least as many mappings of it were made before as it has frames
  pub busy : AreBusyFull frames (opening_in_frames frames l) o.moves
  -- the table that was closed has so many slots and frames, and these modules
  pub shape : closed.shape ≡ shape_for slots frames l
  -- the list of each worker has its calls, in order, and nothing else
  pub seats : length closed.seats ≡ l.workers
  pub told : (w : ℕ) → w < l.workers → IsSomeAnd (slice_get closed.seats w) (λ s. AreTold l o.books w (calls_of_worker w l.steps) s.acts)
  -- the rows of the closed table are the ledger's of movable parts, in order
  pub rows : closed.rows ≡ filter (λ (r : Row). is_same_kind Code r.kind) o.rows
  -- the unmap of each row that was unmapped stands once in the lists of all seats together
  pub unmaps : HaveUnmapsTold closed.rows closed.mover.deeds closed.seats
  -- and no other unmap stands there
  pub unmapped : HaveUnmappedRows closed.rows closed.mover.deeds closed.seats
