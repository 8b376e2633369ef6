use Rattle.std.proofs.Common.{◌≡◌, ℕ, ◌++◌, length, map, slice_get, Some, vec_len}
use Rattle.std.specs.Prelude.{sum_by}
use Rattle.ad_lines.specs.Opening.{opening_modules}
use Rattle.ad_lines.specs.Room.{calls_of, module_state}
use Rattle.ad_lines.proofs.Steps.{room_of}
use Rattle.ad_lines.proofs.line_run.open_modules.Given as goal

-- the modules of the images so far
abbrev pub invariant-loop-image : goal.invariant-loop-image
invariant-loop-image l = record {
  modules : map module_state l.modules.items ≡ opening_modules l.yielded l.parts;
  left : l.yielded ++ l.image-iterator.rest.items ≡ l.fn.images.items;
  len : vec_len l.modules ≡ length l.yielded;
  rooms : (m room : ℕ) → slice_get (map room_of l.modules.items) m ≡ Some room → room ≡ sum_by (calls_of m) l.steps;
}
