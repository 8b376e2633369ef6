-- Faults: their texts and their statuses.
use Rattle.std.specs.Prelude.{ℕ, List, ◌++◌, Option, None, Some, codes}
use Rattle.std.specs.Option.{option_map_or}
use Rattle.std.specs.Fmt.{decimal}
use Rattle.std.specs.Str.Lossy.{utf8_lossy}
use Rattle.ad_link.specs.declared.reason.Reason.{Reason}
use Rattle.ad_link.specs.declared.refusal.LinkRefusal.{LinkRefusal}
use Rattle.ad_link.specs.Reason.{reason_of, stage_text}
use Rattle.ad_script.specs.declared.refusal.ScriptRefusal.{ScriptRefusal}
use Rattle.ad_script.specs.declared.refusal.ScriptRefusal.TheVariants.{At, OutOfMemory}
use Rattle.ad_script.specs.Script.{cause_text}
use Rattle.ad_command.specs.declared.trouble.Trouble.{Trouble}
use Rattle.ad_command.specs.declared.trouble.Trouble.TheVariants.{Usage, Script, Module, NoExport, Read, TooLarge, Write, Memory}

-- what is printed of a fault; a name that is UTF-8 is printed as it is
abbrev pub fault_text : Trouble → List ℕ
fault_text Usage = codes "adelie: usage"
fault_text (Script line cause) = codes "adelie: script line " ++ decimal line ++ codes ": " ++ cause_text cause
fault_text (Module file stage number) = codes "adelie: module " ++ utf8_lossy file ++ codes ": " ++ stage_text stage ++ codes " " ++ decimal number
fault_text (NoExport line) = codes "adelie: line " ++ decimal line ++ codes ": no export"
fault_text (Read name) = codes "adelie: read " ++ utf8_lossy name
fault_text (TooLarge name) = codes "adelie: read " ++ utf8_lossy name ++ codes ": too large"
fault_text Write = codes "adelie: write"
fault_text Memory = codes "adelie: memory"

-- the status of the process
abbrev pub status_of : Option Trouble → ℕ
status_of None = 0
status_of (Some Usage) = 1
status_of (Some (Script line cause)) = 2
status_of (Some (Module file stage number)) = 3
status_of (Some (NoExport line)) = 3
status_of (Some (Read name)) = 4
status_of (Some (TooLarge name)) = 4
status_of (Some Write) = 5
status_of (Some Memory) = 6

-- the fault of a script that is refused so
abbrev pub refused_script : ScriptRefusal → Trouble
refused_script (At line cause) = Script line cause
refused_script OutOfMemory = Memory

-- the fault of a file that a link refuses so
abbrev pub refused_module : List ℕ → LinkRefusal → Trouble
refused_module file r = option_map_or (λ (x : Reason). Module file x.stage x.number) (reason_of r) Memory
