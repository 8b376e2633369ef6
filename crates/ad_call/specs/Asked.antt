-- What a call asks of the pages of the movable part that it runs in.
use Rattle.std.specs.Prelude.{◌≡◌, ℕ, ◌+◌, ◌-◌, ◌*◌, ◌/◌, ◌&&◌, ◌||◌, Bool, true, false, nat_le, nat_lt, if◌then◌else◌, List, [], ◌∷◌, ◌++◌, Any, Some}
use Rattle.std.specs.List.{Contains, flat_map}
use Rattle.ad_base.specs.declared.image.Image.{Image}
use Rattle.ad_base.specs.declared.layout.TheConstants.{LOCAL_PAGES, PAGE_BYTES, REGION_BYTES, REGIONS, STACK_PAGES, TABLE_PAGES, WORD_BYTES}
use Rattle.ad_base.specs.declared.place.Place.{Place}
use Rattle.ad_base.specs.declared.role.Role.TheVariants.{Cells}
use Rattle.ad_base.specs.Book.{Contents}
use Rattle.ad_base.specs.Layout.{movable_roles, text_bytes}
use Rattle.ad_base.specs.Place.{base_of, page_number, IsInside}
use Rattle.ad_base.specs.Segments.{Access, Fetch, Load, Segment, Store, Use, holding}
use Rattle.ad_call.specs.declared.asked.Asked.{Asked}
use Rattle.ad_call.specs.declared.asked.Asked.TheVariants as asked
use Rattle.ad_call.specs.declared.call.Call.{Call}
use Rattle.ad_call.specs.Call.{outcome_of}

-- an address is one of so many bytes from a base on
abbrev pub is_within : ℕ → ℕ → ℕ → Bool
is_within base bytes at = nat_le base at && nat_lt at (base + bytes)

-- an address is one of the stack, or one of the immovable part; these count before the movable part
abbrev pub is_stack_or_immovable : Image → Place → ℕ → Bool
is_stack_or_immovable i stack at = is_within (base_of stack) (STACK_PAGES * PAGE_BYTES) at || is_within (base_of i.fixed) (i.fixed.pages * PAGE_BYTES) at

-- the address of the local area: it lies behind the text, the stubs, the read-only data and the fixed table
abbrev pub local_base : Image → Place → ℕ
local_base i under = base_of under + text_bytes i.text_pages + (i.read_pages + TABLE_PAGES) * PAGE_BYTES

-- an address is one of the local area
abbrev pub is_local : Image → Place → ℕ → Bool
is_local i under at = is_within (local_base i under) (LOCAL_PAGES * PAGE_BYTES) at

-- the pages are asked for that of an address, unless it lies above all places
abbrev pub page_asked : ℕ → List Asked
page_asked at = if nat_lt (at / REGION_BYTES) REGIONS then asked.Page at ∷ [] else []

abbrev pub is_load : Use → Bool
is_load Load = true
is_load Fetch = false
is_load Store = false

-- and for the local word that a load finds
abbrev pub word_asked : Image → Place → Access → List Asked
word_asked i under a = if is_load a.use_of && is_local i under a.at then asked.Cell ((a.at - local_base i under) / WORD_BYTES) ∷ [] else []

-- what an access asks: nothing in the stack and in the immovable part
abbrev pub asked_by : Image → Place → Place → Access → List Asked
asked_by i under stack a = if is_stack_or_immovable i stack a.at then [] else page_asked a.at ++ word_asked i under a

-- what accesses ask, in order
abbrev pub asked_by_all : Image → Place → Place → List Access → List Asked
asked_by_all i under stack accesses = flat_map (asked_by i under stack) accesses

-- what the plain machine's run of a call asks
unfoldable pub asked_in_call : Image → ℕ → Contents → Call → List ℕ → List Asked
asked_in_call i fuel book c args = asked_by_all i c.under c.stack (outcome_of i fuel book c args).accesses

-- an access touches this page of the movable part, counted from 0: its address lies there, and the first segment that holds it
-- is a piece of that part
pub record TouchesPage (segments : List (Segment ℕ)) (under : Place) (page : ℕ) (a : Access) : Type 0 where
  pub segment : Segment ℕ
  pub held : holding segments a.at ≡ Some segment
  pub movable : Contains movable_roles segment.role
  pub in_page : page_number under a.at ≡ page

-- an access loads from this local word: the first segment that holds its address is the local area
pub record TouchesWord (segments : List (Segment ℕ)) (word : ℕ) (a : Access) : Type 0 where
  pub load : a.use_of ≡ Load
  pub segment : Segment ℕ
  pub held : holding segments a.at ≡ Some segment
  pub local : segment.role ≡ Cells
  pub in_word : (a.at - segment.base) / WORD_BYTES ≡ word

-- this was asked for this page of the movable part
abbrev pub IsForPage : Place → ℕ → Asked → Type 0
IsForPage under page (asked.Page at) = IsInside under at × (page_number under at ≡ page)
IsForPage under page (asked.Cell entry) = ⊥

-- what was asked has each page that accesses touch in these segments, and each local word that they load
pub record HoldsTouched (segments : List (Segment ℕ)) (under : Place) (accesses : List Access) (list : List Asked) : Type 0 where
  pub pages : (page : ℕ) → Any (TouchesPage segments under page) accesses → Any (IsForPage under page) list
  pub words : (word : ℕ) → Any (TouchesWord segments word) accesses → Any (λ (a : Asked). a ≡ asked.Cell word) list
