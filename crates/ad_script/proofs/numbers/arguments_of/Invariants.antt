use Rattle.std.proofs.Common.{◌≡◌, false, map, take}
use Rattle.std.specs.List.{list_any}
use Rattle.ad_script.specs.Private.Seen.{texts}
use Rattle.ad_script.specs.Script.{is_bad_number, number_or_0}
use Rattle.ad_script.proofs.numbers.arguments_of.Given as goal

abbrev pub invariant-loop-word : goal.invariant-loop-word
invariant-loop-word l =
    (l.args ≡ map number_or_0 (texts (take l.word-index l.words))) × (list_any is_bad_number (texts (take l.word-index l.words)) ≡ false)
