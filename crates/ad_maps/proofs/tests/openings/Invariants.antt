use Rattle.std.proofs.Common.{◌≡◌, ℕ, ◌+◌, ◌*◌, ◌<◌, [], ◌∷◌, length, slice_index_or}
use Rattle.ad_base.specs.declared.image.Cell.TheVariants.{Off, Num}
use Rattle.ad_maps.specs.MapPlace.{no_opening}
use Rattle.ad_maps.proofs.tests.openings.Given as goal

abbrev pub invariant-loop-module : goal.invariant-loop-module
invariant-loop-module l = record {
  len : length l.os.items ≡ l.module;
  each : (m : ℕ) → m < l.module → slice_index_or l.os.items m no_opening ≡ record { place = record { region = 3 + m; start = 1; pages = 3; mapping = 1 + m; frame = m * l.frames }; cells = Off 16 ∷ Num 7 ∷ [] };
}
