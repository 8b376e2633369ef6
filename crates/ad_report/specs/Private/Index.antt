-- The calls of a history, to be found by their lines.
use Rattle.std.specs.Prelude.{◌≡◌, ℕ, ◌==◌, List, map, filter}
use Rattle.std.specs.List.{enumerate_from, AllZip}
use Rattle.std.specs.List.Sorted.{IsNonDecreasingBy}
use Rattle.ad_base.specs.declared.book.Entry.{Entry}
use Rattle.ad_base.specs.Book.{Contents}
use Rattle.ad_report.specs.declared.index.CallAt.{CallAt}

-- the line of each call of a history, with the call's position
abbrev pub lines_of : List Entry → List CallAt
lines_of history = map (λ p. record { line = p.1.line; position = p.0 }) (enumerate_from 0 history)

-- the calls of a history in order of their lines, those of one line as they stand in the history
pub record IsIndex (history : List Entry) (calls : List CallAt) : Type 0 where
  pub rise : IsNonDecreasingBy (λ (c : CallAt). c.line) calls
  pub same : (line : ℕ) → filter (λ (c : CallAt). c.line == line) calls ≡ filter (λ (c : CallAt). c.line == line) (lines_of history)

-- an index for the history of each book
abbrev pub AreIndices : List Contents → List (List CallAt) → Type 0
AreIndices books indices = AllZip (λ (b : Contents) (calls : List CallAt). IsIndex b.entries calls) books indices
