-- What the symbols of an object stand for.
use Rattle.std.specs.Prelude.{ℕ, ◌==◌, Bool, true, false, List, codes, Option, Some, None, option_and_then, if◌then◌else◌}
use Rattle.std.specs.List.{slice_get}
use Rattle.std.specs.Option.{option_map}
use Rattle.std.specs.Str.{bytes_eq}
use Rattle.ad_base.specs.declared.layout.TheConstants.{K_ABORT, K_IN, K_NOTE, K_OUT}
use Rattle.ad_elf.specs.declared.elf.TheConstants.{SHN_ABS, SHN_UNDEF, STB_GLOBAL}
use Rattle.ad_elf.specs.declared.object.Symbol.{Symbol}
use Rattle.ad_parts.specs.declared.layout.Spot.{Spot}
use Rattle.ad_parts.specs.declared.position.Position.{Position}
use Rattle.ad_parts.specs.Symbols.{symbol_position}
use Rattle.ad_tables.specs.declared.resolved.Resolved.{Resolved}
use Rattle.ad_tables.specs.declared.resolved.Resolved.TheVariants.{Immovable, Import, Movable, Number}

-- the number of the service of this name
unfoldable pub service_of : List ℕ → Option ℕ
service_of name =
    if bytes_eq name (codes "k_note") then Some K_NOTE
    else (if bytes_eq name (codes "k_abort") then Some K_ABORT
    else (if bytes_eq name (codes "k_out") then Some K_OUT else (if bytes_eq name (codes "k_in") then Some K_IN else None)))

-- a symbol that is in one of the parts
abbrev pub in_part : Position → Resolved
in_part p = if p.movable then Movable p.offset else Immovable p.offset

-- a symbol that is undefined is a service, if it is global and has its name
abbrev pub import : Symbol → Option Resolved
import y = if y.bind == STB_GLOBAL then option_map Import (service_of y.name) else None

-- What a symbol stands for (gABI, "Symbol Table"): a service where it is undefined, its value where it is absolute, or else a
-- place in the part of its section. Every other symbol is unresolved.
unfoldable pub symbol_resolved : List Spot → Symbol → Option Resolved
symbol_resolved spots y =
    if y.shndx == SHN_UNDEF then import y else (if y.shndx == SHN_ABS then Some (Number y.value) else option_map in_part (symbol_position spots y))

-- What symbol j stands for. Symbol 0 is the number 0, whatever its fields hold.
abbrev pub resolved : List Spot → List Symbol → ℕ → Option Resolved
resolved spots ys j = if j == 0 then Some (Number 0) else option_and_then (symbol_resolved spots) (slice_get ys j)

-- the symbol is in the movable part
abbrev pub is_movable : Resolved → Bool
is_movable (Movable offset) = true
is_movable other = false
