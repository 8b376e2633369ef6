-- What is seen of the mover, and when its seats are those of a run's tables.
use Rattle.std.specs.Prelude.{◌≡◌, ℕ, ◌≤◌, ◌<◌, true, List, [], length, All, Any, Contains}
use Rattle.ad_base.specs.declared.layout.TheConstants.{MAPPINGS}
use Rattle.ad_base.specs.declared.place.Place.{Place}
use Rattle.ad_maps.specs.declared.shape.Shape.{Shape}
use Rattle.ad_maps.specs.declared.view.Made.{Made}
use Rattle.ad_maps.specs.Ledger.{all_made}
use Rattle.ad_maps.specs.declared.words.TheConstants.{LINES}
use Rattle.ad_mover.specs.declared.mover.Mover.{Mover}
use Rattle.ad_mover.specs.Moves.{Moving}
use Rattle.ad_script.specs.declared.script.Step.{Step}
use Rattle.ad_script.specs.declared.script.Step.TheVariants as steps
use Rattle.ad_stacks.specs.declared.view.Given.{Given}
use Rattle.ad_stacks.specs.Ledger.{all_given}
use Rattle.ad_wrapper.specs.declared.shared.Shared.{Shared}

-- what is seen of it
abbrev pub moving : Mover → Moving
moving m = record { drawn = m.placer; deeds = m.seat.deeds; current = m.seat.current; refreshes = m.stack_mover.refreshes; moves = m.done.items }

-- one of these places has the region and the number of this one
abbrev pub IsGiven : List Place → Place → Type 0
IsGiven places p = Any (λ (q : Place). (q.region ≡ p.region) × (q.mapping ≡ p.mapping)) places

-- Each place in the two tables was drawn, but for the number of its frame. No number in the mover's lists is above that of the
-- places drawn, so that the next place's number is above all.
pub record HasDrawn (shape : Shape) (openings : List Place) (m : Moving) : Type 0 where
  pub mapped : (x : Made) → Contains (all_made shape m.deeds) x → IsGiven m.drawn.places x.place
  pub given : (g : Given) → Contains (all_given openings m.refreshes) g → IsGiven m.drawn.places g.place
  pub numbered : All (λ (p : Place). p.mapping ≤ length m.drawn.places) m.drawn.places
  pub current : All (λ (n : ℕ). n ≤ length m.drawn.places) m.current
  pub few : length m.drawn.places ≤ MAPPINGS

-- The seats are those of the movers of these tables, and what is in the tables was drawn. No mapping is made and not current, or
-- out and not retired.
pub record IsMoverOf (s : Shared) (m : Mover) : Type 0 where
  pub in_maps : m.seat.table ≡ s.maps.table
  pub in_stacks : m.stack_mover.table ≡ s.stacks.table
  pub no_fresh : m.seat.fresh ≡ []
  pub no_out : m.seat.outs ≡ []
  pub at_rest : m.seat.at_rest ≡ true
  pub drawn : HasDrawn s.maps.shape s.stacks.openings (moving m)

-- how many moves a step asks for
abbrev pub moves_of : Step → ℕ
moves_of (steps.Call line worker «module» export args) = 0
moves_of (steps.Move line modules) = length modules
moves_of (steps.Stack line worker) = 1

-- A step may be made, with so many modules and workers: a call always; a move of modules where each is there and its line is
-- from 1 to LINES; the change of a worker's stack where that worker is there and its line isn't 0.
abbrev pub MayBeMade : ℕ → ℕ → Step → Type 0
MayBeMade modules workers (steps.Call line worker «module» export args) = Unit {0}
MayBeMade modules workers (steps.Move line members) = All (λ (m : ℕ). m < modules) members × (1 ≤ line) × (line ≤ LINES)
MayBeMade modules workers (steps.Stack line worker) = (worker < workers) × (1 ≤ line)
