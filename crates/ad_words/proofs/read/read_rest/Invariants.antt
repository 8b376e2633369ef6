use Rattle.std.proofs.Common.{◌≡◌, length, map, option_and_then, string_bytes}
use Rattle.ad_words.specs.Private.Parsing.{command_left}
use Rattle.ad_words.specs.Private.Seen.{task_word}
use Rattle.ad_words.specs.Words.{command_said, said_by}
use Rattle.ad_words.proofs.read.read_rest.Given as goal

-- the words say what was read of them and the words that are left say
abbrev pub invariant-loop-parsed : goal.invariant-loop-parsed
invariant-loop-parsed l =
    let (operand, (values, _)) = l.parsed in
    option_and_then (command_said (task_word l.task)) (said_by (map string_bytes l.words))
    ≡ command_left (task_word l.task) (record { operand = operand; values = values }) (map string_bytes l.rest)

abbrev pub decreases-loop-parsed : goal.decreases-loop-parsed
decreases-loop-parsed l = length l.rest
