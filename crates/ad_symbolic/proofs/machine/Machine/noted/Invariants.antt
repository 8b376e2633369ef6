use Rattle.std.proofs.Common.{◌≡◌, map, take}
use Rattle.ad_symbolic.specs.Replay.{number_or_zero}
use Rattle.ad_symbolic.proofs.machine.Machine.noted.Given as goal

-- the notes so far are the numbers of those
abbrev pub invariant-loop-note : goal.invariant-loop-note
invariant-loop-note l = l.notes ≡ map number_or_zero (take l.note-index l.self.notes.items)
