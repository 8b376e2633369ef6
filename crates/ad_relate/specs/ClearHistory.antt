-- The clear history of a module's calls, and what its replies are.
use Rattle.std.specs.Prelude.{◌≡◌, ℕ, ◌<◌, ◌^◌, All, List, map, slice_get, Some}
use Rattle.ad_base.specs.declared.book.Entry.{Entry}
use Rattle.ad_base.specs.declared.image.Export.{Export}
use Rattle.ad_base.specs.declared.image.Image.{Image}
use Rattle.ad_core.specs.Turn.{export_offset}
use Rattle.ad_symbolic.specs.Replay.{Answer, Asked, Clear, clear_calls, replay}
use Rattle.ad_relate.specs.Stands.{IsApart, Places}

-- the offsets of the exports are words
abbrev pub AreOffsets : Image → Type 0
AreOffsets i = All (λ (x : Export). x.offset < 2 ^ 64) i.exports

-- where the movable part and the stack lay in the call of an entry
abbrev pub entry_places : Entry → Places
entry_places e = record { movable = e.under; stack = e.stack }

-- at each call the movable part, the stack and the immovable part lay apart
abbrev pub ArePlacedApart : Image → List Entry → Type 0
ArePlacedApart i entries = All (λ e. IsApart i (entry_places e)) entries

-- the call of an entry, which the symbolic machine is asked for
abbrev pub asked_of : Image → Entry → Asked
asked_of i e = record { offset = export_offset i e.export; args = e.args }

-- what the symbolic machine says of these calls, in order
abbrev pub answers_of : Image → ℕ → List Entry → List Answer
answers_of i fuel entries = replay i fuel (map (asked_of i) entries)

-- Each entry of the clear history has the end and the notes that the symbolic machine says.
abbrev pub RepliesAsReplayed : Image → ℕ → List Entry → Type 0
RepliesAsReplayed i fuel entries =
    (k : ℕ) (e : Entry) → k < clear_calls (answers_of i fuel entries) → slice_get entries k ≡ Some e
    → slice_get (answers_of i fuel entries) k ≡ Some (Clear e.end e.notes)
