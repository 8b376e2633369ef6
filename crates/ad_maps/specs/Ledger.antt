-- The mappings that were made, and what a seat's list of steps tells.
use Rattle.std.specs.Prelude.{◌≡◌, ℕ, Bool, false, count_by, ◌+◌, ◌≤◌, ◌==◌, List, [], ◌∷◌, ◌++◌, AllPairs, Contains, if◌then◌else◌}
use Rattle.ad_maps.specs.declared.shape.Opening.{Opening}
use Rattle.ad_maps.specs.declared.shape.Shape.{Shape}
use Rattle.ad_maps.specs.declared.view.Act.{Act}
use Rattle.ad_maps.specs.declared.view.Act.TheVariants as act
use Rattle.ad_maps.specs.declared.view.Deed.{Deed}
use Rattle.ad_maps.specs.declared.view.Deed.TheVariants as deed
use Rattle.ad_maps.specs.declared.view.Made.{Made}
use Rattle.ad_maps.specs.Steps.{made}

-- the first mappings of the modules from m on
abbrev pub opened_from : ℕ → List Opening → List Made
opened_from m [] = []
opened_from m (o ∷ os) = made m o.place ∷ opened_from (m + 1) os

-- the mappings that the mover made, in order
abbrev pub maps_in : List Deed → List Made
maps_in [] = []
maps_in (deed.Look f o ∷ ds) = maps_in ds
maps_in (deed.Map m p ∷ ds) = made m p ∷ maps_in ds
maps_in (deed.Switch m p ∷ ds) = maps_in ds
maps_in (deed.Retire n line ∷ ds) = maps_in ds
maps_in (deed.Unmap n ∷ ds) = maps_in ds

-- all mappings that were made: those of the opening, and the mover's
abbrev pub all_made : Shape → List Deed → List Made
all_made shape deeds = opened_from 0 shape.modules ++ maps_in deeds

-- an owner of a frame is the mapping that was made last in it
pub record IsLastIn (mappings : List Made) (frame owner : ℕ) : Type 0 where
  pub mapping : Made
  pub listed : Contains mappings mapping
  pub number : mapping.place.mapping ≡ owner
  pub in_frame : mapping.place.frame ≡ frame
  pub newest : (x : Made) → Contains mappings x → x.place.frame ≡ frame → x.place.mapping ≤ owner

-- the owners of frames from this one on are the mappings that were made last in them
abbrev pub AreLastIn : List Made → ℕ → List ℕ → Type 0
AreLastIn mappings frame [] = Unit {0}
AreLastIn mappings frame (o ∷ os) = IsLastIn mappings frame o × AreLastIn mappings (frame + 1) os

-- the line under which the mapping of a number was retired, or 0
abbrev pub line_in : List Deed → ℕ → ℕ
line_in [] n = 0
line_in (deed.Look f o ∷ ds) n = line_in ds n
line_in (deed.Map m p ∷ ds) n = line_in ds n
line_in (deed.Switch m p ∷ ds) n = line_in ds n
line_in (deed.Retire k line ∷ ds) n = if k == n then line else line_in ds n
line_in (deed.Unmap k ∷ ds) n = line_in ds n

-- the numbers of the mappings of module m that a seat read, in order
abbrev pub reads_of : ℕ → List Act → List ℕ
reads_of m [] = []
reads_of m (act.Enter ∷ acts) = reads_of m acts
reads_of m (act.Read n p ∷ acts) = if n == m then p.mapping ∷ reads_of m acts else reads_of m acts
reads_of m (act.Page va ∷ acts) = reads_of m acts
reads_of m (act.Cell e ∷ acts) = reads_of m acts
reads_of m (act.Leave ∷ acts) = reads_of m acts
reads_of m (act.Unmap n ∷ acts) = reads_of m acts

-- the numbers never fall
abbrev pub NeverFall : List ℕ → Type 0
NeverFall ns = AllPairs (λ (x y : ℕ). x ≤ y) ns

-- the numbers of the mappings that were retired, in order
abbrev pub retires_in : List Deed → List ℕ
retires_in [] = []
retires_in (deed.Look f o ∷ ds) = retires_in ds
retires_in (deed.Map m p ∷ ds) = retires_in ds
retires_in (deed.Switch m p ∷ ds) = retires_in ds
retires_in (deed.Retire k line ∷ ds) = k ∷ retires_in ds
retires_in (deed.Unmap k ∷ ds) = retires_in ds

-- ---- unmaps

-- the act of a worker's seat is an unmap of the mapping of number n
abbrev pub act_unmaps : ℕ → Act → Bool
act_unmaps n act.Enter = false
act_unmaps n (act.Read m p) = false
act_unmaps n (act.Page va) = false
act_unmaps n (act.Cell e) = false
act_unmaps n act.Leave = false
act_unmaps n (act.Unmap k) = k == n

-- the deed of the mover's seat is one
abbrev pub deed_unmaps : ℕ → Deed → Bool
deed_unmaps n (deed.Look f o) = false
deed_unmaps n (deed.Map m p) = false
deed_unmaps n (deed.Switch m p) = false
deed_unmaps n (deed.Retire k line) = false
deed_unmaps n (deed.Unmap k) = k == n

-- so many unmaps of each mapping a list tells
abbrev pub unmaps_in_acts : List Act → ℕ → ℕ
unmaps_in_acts acts n = count_by (act_unmaps n) acts

abbrev pub unmaps_in_deeds : List Deed → ℕ → ℕ
unmaps_in_deeds deeds n = count_by (deed_unmaps n) deeds
