-- The services, over any domain of values: what each makes of a0, of the notes of the call and of the device queue.
use Rattle.std.specs.Prelude.{ℕ, List, [], ◌∷◌, ◌++◌, length, ◌==◌, nat_lt, if◌then◌else◌, Result, Ok, Err}
use Rattle.ad_base.specs.declared.end.End.TheVariants.{NotesFull}
use Rattle.ad_base.specs.declared.layout.TheConstants.{K_ABORT, K_NOTE, K_OUT, NOTES, QUEUE_WORDS}
use Rattle.ad_isa.specs.Domain.{Domain}
use Rattle.ad_isa.specs.Finish.{Aborts, Ends, Finish}

-- the notes that a call made, and the words of the device queue, the oldest first
pub record Channels (V : Type 0) : Type 0 where
  pub notes : List V
  pub queue : List V

module _ {V R : Type 0} (d : Domain V R) where
  -- a word more among the notes; a0 stays, and the call ends where they are full
  abbrev pub noted : V → Channels V → Result V (Finish V) × Channels V
  noted a0 c = if nat_lt (length c.notes) NOTES then (Ok a0, record c { notes = c.notes ++ a0 ∷ [] }) else (Err (Ends NotesFull), c)

  -- a word more in the queue, and 1; or 0 where it is full
  abbrev pub sent : V → Channels V → Result V (Finish V) × Channels V
  sent a0 c = if nat_lt (length c.queue) QUEUE_WORDS then (Ok (d.number 1), record c { queue = c.queue ++ a0 ∷ [] }) else (Ok (d.number 0), c)

  -- the oldest word of the queue, or 0 where there is none
  abbrev pub taken : List V → Channels V → Result V (Finish V) × Channels V
  taken [] c = (Ok (d.number 0), c)
  taken (v ∷ more) c = (Ok v, record c { queue = more })

  -- what a service makes of a0: what a0 holds then, or how the call ends; and what it leaves
  unfoldable pub served : ℕ → V → Channels V → Result V (Finish V) × Channels V
  served number a0 c =
      if number == K_NOTE then noted a0 c
      else (if number == K_ABORT then (Err (Aborts a0), c)
      else (if number == K_OUT then sent a0 c
      else taken c.queue c))
