use Rattle.std.proofs.Common.{◌≡◌, ◌++◌, ◌+◌, length, List, ℕ}
use Rattle.std.specs.Io.KnownBytes.{Consumes}
use Rattle.ad_base.specs.declared.layout.TheConstants.{FILE_BYTES}
use Rattle.ad_base.proofs.disk_files.read_rest.Given as goal

-- the bytes read so far were appended, and what is left of the limit counts down by them
abbrev pub invariant-loop-count : goal.invariant-loop-count
invariant-loop-count g l = (read : List ℕ) × (length read + l.left ≡ FILE_BYTES) × (l.into.items ≡ l.fn.into.items ++ read)
    × Consumes (g.R.Read.remaining l.fn.reader) (g.R.Read.remaining l.reader) read

abbrev pub decreases-loop-count : goal.decreases-loop-count
decreases-loop-count g l = l.left
