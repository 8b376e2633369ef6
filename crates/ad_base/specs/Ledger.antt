-- The ledger: all mappings of a run, in order of number, each with the line that retired it.
use Rattle.std.specs.Prelude.{◌≡◌, ◌≢◌, ℕ, Bool, true, false, ◌==◌, ◌&&◌, List, [], ◌∷◌, find, Option, None, Some}
use Rattle.std.specs.List.{flat_map}
use Rattle.std.specs.Option.{is_some, option_map_or}
use Rattle.ad_base.specs.declared.ledger.Kind.{Kind}
use Rattle.ad_base.specs.declared.ledger.Kind.TheVariants.{Code, Fixed, Stack}
use Rattle.ad_base.specs.declared.ledger.MoveEnd.{MoveEnd}
use Rattle.ad_base.specs.declared.ledger.MoveEnd.TheVariants.{Made, Busy, Spent}
use Rattle.ad_base.specs.declared.ledger.Moved.{Moved}
use Rattle.ad_base.specs.declared.ledger.Row.{Row}
use Rattle.ad_base.specs.declared.place.Place.{Place}

-- the place that a move made, if it made one
abbrev pub made_place : MoveEnd → Option Place
made_place (Made p) = Some p
made_place (Busy owner) = None
made_place Spent = None

-- the move made a mapping
abbrev pub is_made : Moved → Bool
is_made m = is_some (made_place m.end)

-- a mapping as it was made: what it is, whose, where, and the line that made it, or 0 before the first line
pub record Mapping : Type 0 where
  pub kind : Kind
  pub who : ℕ
  pub place : Place
  pub line : ℕ

-- the mapping that a move made, if it made one
abbrev pub made_mapping : Moved → List Mapping
made_mapping m = option_map_or (λ p. record { kind = m.kind; who = m.who; place = p; line = m.line } ∷ []) (made_place m.end) []

-- the mappings that moves made, in order
abbrev pub made_mappings : List Moved → List Mapping
made_mappings moves = flat_map made_mapping moves

abbrev pub is_same_kind : Kind → Kind → Bool
is_same_kind Code Code = true
is_same_kind Fixed Fixed = true
is_same_kind Stack Stack = true
is_same_kind a b = false

-- the second is of the same kind as the first, and of the same module or worker
abbrev pub is_same_thing : Mapping → Mapping → Bool
is_same_thing m n = is_same_kind m.kind n.kind && (m.who == n.who)

-- the line that retired a mapping: that of the first later one of the same thing, or 0 where there is none
abbrev pub retired_line : Mapping → List Mapping → ℕ
retired_line m later = option_map_or (λ n. n.line) (find (is_same_thing m) later) 0

-- A mapping's row, where these were made after it. How often it was unmapped is a number beside it.
pub record IsRow (m : Mapping) (later : List Mapping) (r : Row) : Type 0 where
  pub number : r.mapping ≡ m.place.mapping
  pub kind : r.kind ≡ m.kind
  pub who : r.who ≡ m.who
  pub place : r.place ≡ m.place
  pub line : r.line ≡ retired_line m later

-- a row for each mapping, in order
abbrev pub IsLedger : List Mapping → List Row → Type 0
IsLedger [] rows = rows ≡ []
IsLedger (m ∷ later) [] = ⊥
IsLedger (m ∷ later) (r ∷ rows) = IsRow m later r × IsLedger later rows

-- what was retired was unmapped once, and nothing else was
pub record IsUnmappedOnce (r : Row) : Type 0 where
  pub once : r.line ≢ 0 → r.unmaps ≡ 1
  pub never : r.line ≡ 0 → r.unmaps ≡ 0
