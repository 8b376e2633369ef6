-- What the parts of an access ask, and what is kept of it.
use Rattle.std.specs.Prelude.{ℕ, ◌/◌, Bool, true, false, if◌then◌else◌, List, [], ◌∷◌, ◌++◌, option_map}
use Rattle.ad_base.specs.declared.image.Image.{Image}
use Rattle.ad_base.specs.declared.layout.TheConstants.{WORD_BYTES}
use Rattle.ad_base.specs.declared.place.Place.{Place}
use Rattle.ad_base.specs.declared.role.Role.{Role}
use Rattle.ad_base.specs.declared.role.Role.TheVariants.{Cells}
use Rattle.ad_base.specs.Segments.{Access, Use, told}
use Rattle.ad_call.specs.declared.asked.Asked.{Asked}
use Rattle.ad_call.specs.declared.asked.Asked.TheVariants as asked
use Rattle.ad_call.specs.declared.asked.Track.{Track}
use Rattle.ad_call.specs.declared.spot.Spot.{Spot}
use Rattle.ad_call.specs.Asked.{asked_by, asked_by_all, is_stack_or_immovable, page_asked}

-- the pages are asked for that of an address, unless it is one of the stack or of the immovable part
abbrev pub place_asked : Image → Place → ℕ → List Asked
place_asked i stack at = if is_stack_or_immovable i stack at then [] else page_asked at

abbrev pub is_cells : Role → Bool
is_cells Cells = true
is_cells role = false

-- and for the local word at a byte of a piece
abbrev pub cell_asked : Spot → List Asked
cell_asked spot = if is_cells spot.role then asked.Cell (spot.offset / WORD_BYTES) ∷ [] else []

-- what an access asks, if it is told
abbrev pub told_asked : Image → Place → Place → Use → ℕ → ℕ → List Asked
told_asked i under stack use_of size at = asked_by_all i under stack (told use_of size at)

-- what is kept once an access was made
abbrev pub track_rule : {O : Type 0} → Track O → Access → Track O
track_rule t a = record t { asked = option_map (λ list. list ++ asked_by t.image t.under t.stack a) t.asked }
