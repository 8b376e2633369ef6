use Rattle.std.proofs.Common.{◌≡◌, ◌≤◌, length, map, take, vec_len, vec_capacity}
use Rattle.std.specs.List.{zip}
use Rattle.ad_base.specs.declared.layout.TheConstants.{MAPPINGS}
use Rattle.ad_lines.specs.Private.Places.{thing_row}
use Rattle.ad_lines.proofs.mappings.opening_rows.Given as goal

-- a row for each pair so far
abbrev pub invariant-loop-thing : goal.invariant-loop-thing
invariant-loop-thing l = record {
  rows : l.rows.items ≡ map thing_row (take (length l.yielded) (zip l.things l.places));
  len : vec_len l.rows ≡ length l.yielded;
  room : MAPPINGS ≤ vec_capacity l.rows;
}
