use Rattle.std.proofs.Common.{◌≡◌, ◌++◌, length}
use Rattle.ad_script.specs.Lines.{words_of}
use Rattle.ad_script.specs.Private.Seen.{texts}
use Rattle.ad_script.proofs.text.words_of.Given as goal

abbrev pub invariant-loop-rest : goal.invariant-loop-rest
invariant-loop-rest l = texts l.words.items ++ words_of l.rest ≡ words_of l.fn.text

abbrev pub decreases-loop-rest : goal.decreases-loop-rest
decreases-loop-rest l = length l.rest
