-- The rows of all mappings of a run.
use Rattle.std.specs.Prelude.{ℕ, List, map}
use Rattle.std.specs.List.{enumerate_from}
use Rattle.std.specs.List.Sorted.{IsNonDecreasingBy, IsPermutation}
use Rattle.ad_base.specs.declared.image.Image.{Image}
use Rattle.ad_base.specs.declared.ledger.Kind.TheVariants.{Fixed}
use Rattle.ad_base.specs.declared.ledger.Row.{Row}

-- the row of a module's immovable part, by the module's number and its image
abbrev pub fixed_row : ℕ × Image → Row
fixed_row (number, i) = record { mapping = i.fixed.mapping; kind = Fixed; who = number; place = i.fixed; line = 0; unmaps = 0 }

-- the rows of the immovable parts of these images
abbrev pub fixed_rows : List Image → List Row
fixed_rows images = map fixed_row (enumerate_from 0 images)

-- these are all rows, in order of mapping number
pub record AreMerged (all rows : List Row) : Type 0 where
  pub same : IsPermutation all rows
  pub in_order : IsNonDecreasingBy (λ (r : Row). r.mapping) rows
