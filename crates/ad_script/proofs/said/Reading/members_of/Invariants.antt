use Rattle.std.proofs.Common.{◌≡◌, true, map, take}
use Rattle.std.specs.List.{list_all}
use Rattle.ad_script.specs.Private.Seen.{said_seen, texts}
use Rattle.ad_script.specs.Script.{is_loaded, number_of_module}
use Rattle.ad_script.proofs.said.Reading.members_of.Given as goal

abbrev pub invariant-loop-name : goal.invariant-loop-name
invariant-loop-name l =
    (l.members ≡ map (number_of_module (said_seen l.self)) (texts (take l.name-index l.names))) × (list_all (is_loaded (said_seen l.self)) (texts (take l.name-index l.names)) ≡ true)
