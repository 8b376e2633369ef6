-- The text that is printed of a run.
use Rattle.std.specs.Prelude.{ℕ, ◌==◌, List, [], ◌∷◌, ◌++◌, length, slice_get, codes, filter, sum_by, count_by}
use Rattle.std.specs.List.{enumerate_from, flat_map}
use Rattle.std.specs.List.Sorted.{IsNonDecreasingBy}
use Rattle.std.specs.Option.{option_map_or}
use Rattle.std.specs.Fmt.{decimal}
use Rattle.ad_base.specs.declared.book.Entry.{Entry}
use Rattle.ad_base.specs.declared.ledger.MoveEnd.{MoveEnd}
use Rattle.ad_base.specs.declared.ledger.MoveEnd.TheVariants.{Made, Busy, Spent}
use Rattle.ad_base.specs.declared.ledger.Moved.{Moved}
use Rattle.ad_base.specs.declared.ledger.Row.{Row}
use Rattle.ad_base.specs.Book.{Contents}
use Rattle.ad_base.specs.End.{end_text}
use Rattle.ad_base.specs.Ledger.{is_made}
use Rattle.ad_script.specs.declared.script.Script.{Script}
use Rattle.ad_script.specs.declared.script.Step.{Step}
use Rattle.ad_script.specs.declared.script.Step.TheVariants.{Call, Move, Stack}
use Rattle.ad_report.specs.Mapping.{map_line, module_name}

-- the history of the module of this number, and no call where none has it
abbrev pub history_of : List Contents → ℕ → List Entry
history_of books number = option_map_or (λ b. b.entries) (slice_get books number) []

-- the notes of a call, each behind a space
abbrev pub notes_text : List ℕ → List ℕ
notes_text [] = []
notes_text (n ∷ ns) = codes " notes" ++ flat_map (λ m. 0x20 ∷ decimal m) (n ∷ ns)

-- the line of a call: where the script has it, who called what, the position in the module's history, the
-- mapping that the call ran under, how it ended, and its notes
unfoldable pub call_line : List ℕ → List ℕ → ℕ → Entry → List ℕ
call_line name export position e =
    codes "call " ++ decimal e.line ++ codes " w" ++ decimal e.worker ++ codes " " ++ name ++ codes "." ++ export
    ++ codes " at " ++ decimal position ++ codes " under " ++ decimal e.under.mapping ++ codes ": " ++ end_text e.end ++ notes_text e.notes ++ 0x0a ∷ []

-- what came of a move
abbrev pub moved_text : MoveEnd → List ℕ
moved_text (Made p) = codes "mapping " ++ decimal p.mapping
moved_text (Busy owner) = codes "busy owner " ++ decimal owner
moved_text Spent = codes "spent"

-- the line of a module that was to be moved
unfoldable pub move_line : Script → Moved → List ℕ
move_line s m = codes "move " ++ decimal m.line ++ codes " " ++ module_name s m.who ++ codes ": " ++ moved_text m.end ++ 0x0a ∷ []

-- the line of a worker whose stack was to be changed
unfoldable pub stack_line : Moved → List ℕ
stack_line m = codes "stack " ++ decimal m.line ++ codes " w" ++ decimal m.who ++ codes ": " ++ moved_text m.end ++ 0x0a ∷ []

-- the calls of a history that a line made, each with its position, counted from 0
abbrev pub calls_at : List Entry → ℕ → List (ℕ × Entry)
calls_at history line = filter (λ p. p.1.line == line) (enumerate_from 0 history)

-- what came of the moves of a line
abbrev pub moves_at : List Moved → ℕ → List Moved
moves_at moves line = filter (λ m. m.line == line) moves

-- the lines of a step
abbrev pub step_text : Script → List Contents → List Moved → Step → List ℕ
step_text s books moves (Call line worker «module» export args) =
    flat_map (λ p. call_line (module_name s «module») export p.0 p.1) (calls_at (history_of books «module») line)
step_text s books moves (Move line modules) = flat_map (move_line s) (moves_at moves line)
step_text s books moves (Stack line worker) = flat_map stack_line (moves_at moves line)

-- the last line: how many calls, made moves and mappings there were
abbrev pub end_line : ℕ → ℕ → ℕ → List ℕ
end_line calls moves mappings =
    codes "end calls " ++ decimal calls ++ codes " moves " ++ decimal moves ++ codes " mappings " ++ decimal mappings ++ 0x0a ∷ []

-- The report of a script, of the books of its modules in order of number, of what came of its moves, and of the
-- ledger.
unfoldable pub report : Script → List Contents → List Moved → List Row → List ℕ
report s books moves rows =
    flat_map (step_text s books moves) s.steps
    ++ flat_map (map_line s) rows
    ++ end_line (sum_by (λ b. length b.entries) books) (count_by is_made moves) (length rows)

-- the moves come in order of their lines
abbrev pub AreMovesInOrder : List Moved → Type 0
AreMovesInOrder moves = IsNonDecreasingBy (λ m. m.line) moves
