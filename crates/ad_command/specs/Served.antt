-- What a command leaves, and what holds of it once it was served.
use Rattle.std.specs.Prelude.{◌≡◌, ◌≢◌, ◌<◌, ◌⊎◌, ℕ, true, false, List, [], ◌∷◌, ◌++◌, length, map, take, Option, None, Some, IfSome, is_some, Result, Ok, Err}
use Rattle.std.specs.Io.KnownBytes.{Appends}
use Rattle.ad_base.specs.Book.{contents_of}
use Rattle.ad_base.specs.Count.{Rose}
use Rattle.ad_base.specs.Outside.{Outside, Output}
use Rattle.ad_command.specs.declared.serve.Ended.{Ended}
use Rattle.ad_command.specs.declared.trouble.Trouble.{Trouble}
use Rattle.ad_command.specs.declared.trouble.Trouble.TheVariants.{Memory, Read, TooLarge, Write}
use Rattle.ad_command.specs.Chain.{AreTold, Gives, Serves}
use Rattle.ad_command.specs.Command.{Work, begins_with_run, command}
use Rattle.ad_command.specs.Ending.{Ending, IsDone}
use Rattle.ad_command.specs.Trouble.{status_of}

-- the fault of a chain's end
abbrev pub fault_of : {A : Type 0} → Result A Trouble → Option Trouble
fault_of (Ok a) = None
fault_of (Err t) = Some t

-- The fault is this, or in its place one of the outside: want of memory; the failed read of one of these names; or a
-- failed write, where else there would be none.
abbrev pub Answers : Option Trouble → Option Trouble → List (List ℕ) → Type 0
Answers fault due names =
    (fault ≡ due) ⊎ (fault ≡ Some Memory)
    ⊎ ((before after : List (List ℕ)) × (name : List ℕ) × (names ≡ before ++ name ∷ after) × (fault ≡ Some (Read name)))
    ⊎ ((due ≡ None) × (fault ≡ Some Write))

-- these names, or the first of them, were asked for, where that is told
abbrev pub AsksFirstOf : Option (List (List ℕ)) → Option (List (List ℕ)) → List (List ℕ) → Type 0
AsksFirstOf old new all = IfSome old (λ before. (names more : List (List ℕ)) × (names ++ more ≡ all) × (new ≡ Some (before ++ names)))

-- the file of this name was asked for last, where that is told
abbrev pub AskedLast : Option (List (List ℕ)) → Option (List (List ℕ)) → List ℕ → Type 0
AskedLast old new name = IfSome old (λ before. (names : List (List ℕ)) × (new ≡ Some (before ++ names ++ name ∷ [])))

-- The whole text was written, or a prefix of it that isn't all, where the sink failed. Its count of faults stays in the
-- first case, and rose in the second.
abbrev pub Writes : Output → Output → Option Trouble → List ℕ → Type 0
Writes old new fault text =
    ((fault ≡ None) × (new.faults ≡ old.faults) × Appends old.taken new.taken text)
    ⊎ ((fault ≡ Some Write) × Rose old.faults new.faults × ((n : ℕ) × (n < length text) × Appends old.taken new.taken (take n text)))

-- The work was done: these are the faults at the statuses 0 and 5.
abbrev pub WasDone : Option Trouble → Type 0
WasDone fault = (fault ≡ None) ⊎ (fault ≡ Some Write)

-- nothing was done or written, for this reason
pub record LeavesNothing (old new : Output) (e : Ended) (t : Trouble) : Type 0 where
  pub reason : e.fault ≡ Some t
  pub no_book : e.books.items ≡ []
  pub no_move : e.moves.items ≡ []
  pub no_row : e.ledger.items ≡ []
  pub no_table : e.closed ≡ None
  pub nothing_written : new ≡ old

-- what a command ended with, where this is the text of what was done
abbrev pub ending_of : Ended → List ℕ → Ending
ending_of e text = record { books = map contents_of e.books.items; moves = e.moves.items; rows = e.ledger.items; closed = e.closed; text = text }

-- the work was done, and its text was written
pub record LeavesDone (old new : Output) (e : Ended) (w : Work) : Type 0 where
  pub text : List ℕ
  pub done : IsDone w (ending_of e text)
  pub written : Writes old new e.fault text

-- what the command leaves: nothing where its chain refuses, and else its work done
abbrev pub Leaves : Output → Output → Ended → Result Work Trouble → Type 0
Leaves old new e (Err t) = LeavesNothing old new e t
Leaves old new e (Ok w) = LeavesDone old new e w

-- The fault is that of the chain's end, or a failed write where the chain was done.
abbrev pub IsFaultOf : Option Trouble → Result Work Trouble → Type 0
IsFaultOf fault (Err t) = fault ≡ Some t
IsFaultOf fault (Ok w) = WasDone fault

-- What holds of a command once it was served: of the files and of the sink, before and after, of its words, and of what came
-- of it.
pub record Served (files_before files_after : Outside) (sink_before sink_after : Output) (words : List (List ℕ)) (e : Ended) : Type 0 where
  -- the status is that of the fault
  pub status : e.status ≡ status_of e.fault
  -- the chain of the command comes to some end, which says what is left
  pub serves : (end : Result Work Trouble) × Serves files_before files_after (command words) end × Leaves sink_before sink_after e end
  -- A failed read is told where the count of faults rose, and of the file that was asked for last. So is a file that is too large.
  pub read : (name : List ℕ) → e.fault ≡ Some (Read name) → Rose files_before.faults files_after.faults × AskedLast files_before.asked files_after.asked name
  pub large : (name : List ℕ) → e.fault ≡ Some (TooLarge name) → AskedLast files_before.asked files_after.asked name
  -- where no failed read is told, the count of faults stays
  pub no_fault : ((name : List ℕ) → e.fault ≢ Some (Read name)) → files_after.faults ≡ files_before.faults
  -- Where the files that the chain asks for are told, the fault is the chain's over their bytes, but for want of memory, for a failed
  -- read of one of them, and for a failed write of the text; and the names asked for are the chain's, or the first of them.
  pub told : (bytes : List ℕ → List ℕ) (names : List (List ℕ)) (due : Result Work Trouble)
      → Gives bytes (command words) names due → AreTold files_before.told bytes names → Answers e.fault (fault_of due) names
  pub asks : (bytes : List ℕ → List ℕ) (names : List (List ℕ)) (due : Result Work Trouble)
      → Gives bytes (command words) names due → AreTold files_before.told bytes names → AsksFirstOf files_before.asked files_after.asked names
  -- where they are told and work was done, it is that of the chain over their bytes
  pub work : (bytes : List ℕ → List ℕ) (names : List (List ℕ)) (due : Work)
      → Gives bytes (command words) names (Ok due) → AreTold files_before.told bytes names → WasDone e.fault → LeavesDone sink_before sink_after e due
  -- there is a closed table where the work of `run` was done, and nowhere else
  pub table : begins_with_run words ≡ true → WasDone e.fault → is_some e.closed ≡ true
  pub no_table : (t : Trouble) → e.fault ≡ Some t → t ≢ Write → e.closed ≡ None
  pub still : begins_with_run words ≡ false → e.closed ≡ None
