-- How values of the code are seen.
use Rattle.std.specs.Prelude.{◌≡◌, ℕ, List, map, Result, Ok, Err}
use Rattle.std.specs.Borrow.{Bor}
use Rattle.ad_script.specs.declared.forms.Form as read
use Rattle.ad_script.specs.declared.forms.Form.TheVariants as variants
use Rattle.ad_script.specs.declared.refusal.Cause.{Cause}
use Rattle.ad_script.specs.declared.refusal.LineFault.{LineFault}
use Rattle.ad_script.specs.declared.refusal.LineFault.TheVariants.{Refused, OutOfMemory}
use Rattle.ad_script.specs.declared.refusal.ScriptRefusal.{ScriptRefusal}
use Rattle.ad_script.specs.declared.refusal.ScriptRefusal.TheVariants as refusal
use Rattle.ad_script.specs.declared.said.Reading.{Reading}
use Rattle.ad_script.specs.Forms.{Blank, Calls, Form, Loads, Moves, Stacks, Workers}
use Rattle.ad_script.specs.Script.{Said}

-- the texts that a list refers to
abbrev pub texts : List (Bor (List ℕ)) → List (List ℕ)
texts words = map (λ word. word.now) words

-- the form that was read, with its words as texts
abbrev pub form_seen : read.Form → Form
form_seen variants.Blank = Blank
form_seen (variants.Workers count) = Workers count.now
form_seen (variants.Load name file) = Loads name.now file.now
form_seen (variants.Call worker target args) = Calls worker.now target.now (texts args.now)
form_seen (variants.Move names) = Moves (texts names.now)
form_seen (variants.Stack worker) = Stacks worker.now

-- what was read
abbrev pub said_seen : Reading → Said
said_seen r = record { workers = r.workers; loads = r.loads.items; steps = r.steps.items }

-- The outcome is this value, or this cause, or want of memory.
abbrev pub Comes : {A B : Type 0} → (A → B → Type 0) → Result A LineFault → Result B Cause → Type 0
Comes same (Ok a) (Ok b) = same a b
Comes same (Ok a) (Err cause) = ⊥
Comes same (Err (Refused cause)) outcome = outcome ≡ Err cause
Comes same (Err OutOfMemory) outcome = Unit {0}

-- the refusal of the script at the line of this number
abbrev pub refusal_at : ℕ → LineFault → ScriptRefusal
refusal_at line (Refused cause) = refusal.At line cause
refusal_at line OutOfMemory = refusal.OutOfMemory
