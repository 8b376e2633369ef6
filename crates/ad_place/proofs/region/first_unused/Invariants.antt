use Rattle.std.proofs.Common.{◌≡◌, ◌<◌, ℕ, slice_index_or, true, false}
use Rattle.ad_place.specs.Choice.{candidate}
use Rattle.ad_place.proofs.region.first_unused.Given as goal

-- the candidates before this one are used
abbrev pub invariant-loop-i : goal.invariant-loop-i
invariant-loop-i l = (j : ℕ) → j < l.i → slice_index_or l.used (candidate l.fn.kind l.word j) false ≡ true
