-- The line that is printed of the run of a script that was generated.
use Rattle.std.specs.Prelude.{ℕ, ◌%◌, ◌^◌, List, [], ◌∷◌, ◌++◌, length, codes, sum_by, count_by}
use Rattle.std.specs.Fmt.{decimal}
use Rattle.ad_base.specs.declared.book.Entry.{Entry}
use Rattle.ad_base.specs.declared.end.End.{End}
use Rattle.ad_base.specs.declared.end.End.TheVariants.{Returned}
use Rattle.ad_base.specs.declared.ledger.Moved.{Moved}
use Rattle.ad_base.specs.declared.ledger.Row.{Row}
use Rattle.ad_base.specs.Book.{Contents}
use Rattle.ad_base.specs.Ledger.{is_made}

-- the number that a call returned, and 0 where it ended in another way
abbrev pub returned_number : End → ℕ
returned_number (Returned n) = n
returned_number end = 0

-- the sum of the numbers that the calls of a history returned
abbrev pub returned_sum : List Entry → ℕ
returned_sum history = sum_by (λ e. returned_number e.end) history

-- the line of the number that a script was generated for: how many calls, made moves and mappings there were, and a sum
unfoldable pub summary_line : ℕ → ℕ → ℕ → ℕ → ℕ → List ℕ
summary_line number calls moves mappings sum =
    codes "gen " ++ decimal number ++ codes " calls " ++ decimal calls ++ codes " moves " ++ decimal moves
    ++ codes " mappings " ++ decimal mappings ++ codes " sum " ++ decimal sum ++ 0x0a ∷ []

-- The line of a run: of the number that its script was generated for, of the books of its modules in order of number, of
-- what came of its moves, and of the ledger. The sum is that of all numbers that calls returned, modulo 2^64.
unfoldable pub summary : ℕ → List Contents → List Moved → List Row → List ℕ
summary number books moves rows =
    summary_line number (sum_by (λ b. length b.entries) books) (count_by is_made moves) (length rows)
    (sum_by (λ b. returned_sum b.entries) books % 2 ^ 64)
