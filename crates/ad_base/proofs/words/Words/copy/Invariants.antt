use Rattle.std.proofs.Common.{◌≡◌, take}
use Rattle.ad_base.proofs.words.Words.copy.Given as goal

-- the words so far
abbrev pub invariant-loop-word : goal.invariant-loop-word
invariant-loop-word g l = l.copy ≡ take l.word-index l.self
