-- What holds of the joined machine after every list of steps from the opening.
use Rattle.std.specs.Prelude.{◌≡◌, ◌⊎◌, ℕ, ◌+◌, ◌<◌, ◌≤◌, true, length, Some}
use Rattle.std.specs.Option.{IsSome}
use Rattle.std.specs.FinMap as map
use Rattle.std.specs.FinSet as set
use Rattle.ad_events.specs.declared.mapping.Status.TheVariants.{Retired, Gone}
use Rattle.ad_events.specs.World.{EventWorld, status_of, IsWorld}
use Rattle.ad_events.specs.Owed.{seat_at, count_of, last_batch, IsOpened, IsInside, WaitsFor}
use Rattle.ad_events.specs.OwedInvariant as owing
use Rattle.ad_events.specs.Reclaim.{ReclaimState, Agent}

-- worker i has entered, or is inside a mapping
abbrev pub IsIn : EventWorld → ℕ → Type 0
IsIn w i = (set.contains w.entered i ≡ true) ⊎ IsSome (map.get w.inside i)

-- mapping p is retired or gone
abbrev pub IsListed : EventWorld → ℕ → Type 0
IsListed w p = (status_of w p ≡ Some Retired) ⊎ (status_of w p ≡ Some Gone)

-- somebody brought the count of batch b to zero
abbrev pub IsZeroed : ReclaimState → ℕ → Type 0
IsZeroed j b = (a : Agent) × (j.zeroed b ≡ Some a)

-- the invariant. The world and what is owed meet theirs, and each worker has a seat; a worker is in exactly where its seat
-- is inside; a mapping has a batch exactly where it is retired or gone, and the batch has a number, up to the next one; a
-- batch waits for each seat whose worker is inside one of its mappings; the batch of a mapping that is gone was brought to
-- zero; and a batch was brought to zero exactly where it is opened and its count is zero
pub record Holds (j : ReclaimState) : Type 0 where
  pub world : IsWorld j.world
  pub owed : owing.Holds j.owed
  pub workers : j.world.workers ≡ length j.owed.seats
  pub in_inside : (i : ℕ) → IsIn j.world i → IsInside (seat_at j.owed i)
  pub inside_in : (i : ℕ) → IsInside (seat_at j.owed i) → IsIn j.world i
  pub listed : (p : ℕ) → IsListed j.world p → (b : ℕ) × (j.batch p ≡ Some b)
  pub told : (p b : ℕ) → j.batch p ≡ Some b → IsListed j.world p
  pub numbered : (p b : ℕ) → j.batch p ≡ Some b → (0 < b) × (b ≤ last_batch j.owed + 1)
  pub pinned : (i p b : ℕ) → map.get j.world.inside i ≡ Some p → j.batch p ≡ Some b → WaitsFor j.owed b i
  pub gone : (p b : ℕ) → status_of j.world p ≡ Some Gone → j.batch p ≡ Some b → IsZeroed j b
  pub zero : (b : ℕ) → IsOpened j.owed b → count_of j.owed b ≡ 0 → IsZeroed j b
  pub zeroed : (b : ℕ) → IsZeroed j b → IsOpened j.owed b × (count_of j.owed b ≡ 0)
