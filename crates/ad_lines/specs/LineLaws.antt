-- Words of the laws of line runs.
use Rattle.std.specs.Prelude.{◌≡◌, ℕ, ◌+◌, ◌*◌, ◌%◌, ◌<◌, ◌≤◌, ◌↔◌, ◌==◌, ◌&&◌, if◌then◌else◌, List, [], ◌∷◌, fold, length, map, slice_get, All, unwrap_or, Err}
use Rattle.std.specs.List.{AllPairs, filter}
use Rattle.std.specs.Option.{option_map_or}
use Rattle.ad_base.specs.declared.book.Entry.{Entry}
use Rattle.ad_base.specs.declared.end.End.TheVariants as ends
use Rattle.ad_base.specs.declared.image.Image.{Image}
use Rattle.ad_base.specs.declared.layout.TheConstants.{FETCH_BYTES, MAPPINGS, PAGE_BYTES, STACK_PAGES}
use Rattle.ad_base.specs.declared.ledger.Kind.{Kind}
use Rattle.ad_base.specs.declared.ledger.Kind.TheVariants as kinds
use Rattle.ad_base.specs.declared.ledger.MoveEnd.{MoveEnd}
use Rattle.ad_base.specs.declared.ledger.MoveEnd.TheVariants.{Busy, Spent}
use Rattle.ad_base.specs.declared.ledger.Moved.{Moved}
use Rattle.ad_base.specs.declared.place.Place.{Place}
use Rattle.ad_base.specs.Image.{fixed_pages, movable_pages}
use Rattle.ad_base.specs.Ledger.{is_made, is_same_kind, made_mapping, made_place}
use Rattle.ad_base.specs.Segments.{Segment, Use, reach}
use Rattle.ad_call.specs.Call.{HasData}
use Rattle.ad_core.specs.declared.bus.Fetched.TheVariants.{Fault}
use Rattle.ad_core.specs.Image.{segments_of}
use Rattle.ad_core.specs.Memory.{fetched}
use Rattle.ad_core.specs.Plain.{Tracked}
use Rattle.ad_core.specs.Steps.{LeadsTo}
use Rattle.ad_isa.specs.Step.{State}
use Rattle.ad_lines.specs.declared.ready.ReadyStep.{ReadyStep}
use Rattle.ad_lines.specs.declared.ready.ReadyStep.TheVariants.{Call, Move, Stack}
use Rattle.ad_lines.specs.LineRun.{RunState, line_run}
use Rattle.ad_lines.specs.Opening.{opening_drawn, opening_run}
use Rattle.ad_lines.specs.Ready.{IsRunnable}
use Rattle.ad_lines.specs.Room.{is_call_of}

-- the number of a step's line
abbrev pub line_of : ReadyStep → ℕ
line_of (Call line worker «module» export args) = line
line_of (Move line modules) = line
line_of (Stack line worker) = line

-- steps that may be run on these modules, beside so many workers, in order of their lines, which are counted from 1
pub record AreSteps (images : List Image) (workers : ℕ) (steps : List ReadyStep) : Type 0 where
  pub runnable : All (IsRunnable images workers) steps
  pub from_one : All (λ s. 1 ≤ line_of s) steps
  pub rising : AllPairs (λ s t. line_of s < line_of t) steps

-- the run of steps on modules that were loaded, from the places that a seed draws for them
abbrev pub run_of_seed : ℕ → ℕ → List Image → ℕ → List ReadyStep → RunState
run_of_seed seed workers images fuel steps = line_run fuel (opening_run workers images (opening_drawn seed workers images)) steps

-- the step of an entry of the module of this number
abbrev pub step_of : ℕ → Entry → ReadyStep
step_of number e = Call e.line e.worker number e.export e.args

-- the steps that call a module, in order
abbrev pub calls_of_module : ℕ → List ReadyStep → List ReadyStep
calls_of_module number steps = filter (is_call_of number) steps

-- the entry is of this step, in the book of the module of this number, under this place of the module and on this stack
pub record IsEntryOf (number : ℕ) (step : ReadyStep) (under stack : Place) (e : Entry) : Type 0 where
  pub of_step : step_of number e ≡ step
  pub at_place : e.under ≡ under
  pub on_stack : e.stack ≡ stack

-- what a step moves: its line, and what of whom
pub record MoveRequest : Type 0 where
  pub line : ℕ
  pub kind : Kind
  pub who : ℕ

-- what was moved, whatever came of it
abbrev pub move_request : Moved → MoveRequest
move_request m = record { line = m.line; kind = m.kind; who = m.who }

-- what a step moves, in order
abbrev pub move_requests : ReadyStep → List MoveRequest
move_requests (Call line worker «module» export args) = []
move_requests (Move line modules) = map (λ m. record { line = line; kind = kinds.Code; who = m }) modules
move_requests (Stack line worker) = record { line = line; kind = kinds.Stack; who = worker } ∷ []

-- what comes of a move where so many places were drawn before: it is spent exactly where all mapping numbers are given
-- away, and no frame is ever busy
pub record IsMoveEnd (drawn : ℕ) (end : MoveEnd) : Type 0 where
  pub spent : (end ≡ Spent) ↔ (MAPPINGS ≤ drawn)
  pub not_busy : (owner : ℕ) → end ≡ Busy owner → ⊥

-- the pages of a thing: of the movable or the immovable part of a module of these images, or of a stack
abbrev pub thing_pages : List Image → Kind → ℕ → ℕ
thing_pages images kinds.Code who = option_map_or movable_pages (slice_get images who) 0
thing_pages images kinds.Fixed who = option_map_or fixed_pages (slice_get images who) 0
thing_pages images kinds.Stack who = STACK_PAGES

-- the place that a move draws, if it is made, by the kind and the pages of what is moved
abbrev pub draw_of : List Image → Moved → List (Kind × ℕ)
draw_of images m = if is_made m then (m.kind, thing_pages images m.kind m.who) ∷ [] else []

-- what comes of moves, in order, where so many places were drawn before the first
abbrev pub AreMoveEnds : ℕ → List Moved → Type 0
AreMoveEnds drawn [] = Unit {0}
AreMoveEnds drawn (m ∷ ms) = IsMoveEnd drawn m.end × AreMoveEnds (drawn + length (made_mapping m)) ms

-- the place that the last of these moves of a thing gave it; the first place where none did
abbrev pub last_place : Kind → ℕ → Place → List Moved → Place
last_place kind who first moves = fold (λ p (m : Moved). if is_same_kind kind m.kind && (who == m.who) then unwrap_or (made_place m.end) p else p) first moves

-- What holds of the memory of a call of an image at these places, whatever bytes its stack and its data hold: as many
-- as a stack and the image's data have.
abbrev pub InEachMemory : Image → Place → Place → (List (Segment ℕ) → Type 0) → Type 0
InEachMemory image under stack P = (bytes fixed writable : List ℕ) → length bytes ≡ STACK_PAGES * PAGE_BYTES → HasData image writable fixed
    → P (segments_of image under stack bytes fixed writable)

-- Whatever steps of the plain machine lead on from these segments, each access of so many bytes at the address that it is a
-- multiple of them is a fault then: a fetch, a load and a store.
abbrev pub IsFaultAtEachStep : ℕ → List (Segment ℕ) → Type 0
IsFaultAtEachStep at segments = (steps : ℕ) (first later : State ℕ) (before after : Tracked) → before.memory.segments ≡ segments → LeadsTo steps first before later after
    → (at % FETCH_BYTES ≡ 0 → fetched after.memory.segments at ≡ Fault) × ((wanted : Use) (size : ℕ) → at % size ≡ 0 → reach wanted size after.memory.segments at ≡ Err ends.Fault)
