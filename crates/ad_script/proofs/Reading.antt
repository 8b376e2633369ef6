-- One line more is read.
use Rattle.std.proofs.Common.{◌≡◌, ◌⊎◌, ℕ, ◌+◌, List, [], ◌∷◌, Result, Ok, Err, inl, inr, refl}
use Rattle.ad_script.specs.declared.refusal.Cause.{Cause}
use Rattle.ad_script.specs.declared.refusal.LineFault.{LineFault}
use Rattle.ad_script.specs.declared.refusal.LineFault.TheVariants.{OutOfMemory, Refused}
use Rattle.ad_script.specs.declared.refusal.ScriptRefusal.TheVariants as refusal
use Rattle.ad_script.specs.declared.refusal.ScriptRefusal.{ScriptRefusal}
use Rattle.ad_script.specs.declared.refusal.ScriptRefusal.TheVariants.{At}
use Rattle.ad_script.specs.Private.Seen.{Comes, refusal_at}
use Rattle.ad_script.specs.Script.{Said, after_line, after_lines, nothing_said, script_of, script_said}
use Rattle.ad_script.specs.Lines.{lines_of}

-- after a line that says its own
pub went_on : (said new : Said) (number : ℕ) (line : List ℕ) (lines : List (List ℕ)) (u : Unit {0})
    → Comes (λ (_ : Unit {0}) s. s ≡ new) (Ok u) (after_line said number line) → after_lines said number (line ∷ lines) ≡ after_lines new (number + 1) lines
unfolding after_lines
went_on said new number line lines u = from (after_line said number line)
  where
    from : (o : Result Said Cause) → Comes (λ (_ : Unit {0}) s. s ≡ new) (Ok u) o
        → elim o as (λ _. Result Said ScriptRefusal) [ Ok next ↦ after_lines next (number + 1) lines | Err cause ↦ Err (At number cause) ] ≡ after_lines new (number + 1) lines
    from (Ok s) same = rw same refl
    from (Err cause) none = absurd none

-- at a line that is refused
pub refused_at : (said : Said) (number : ℕ) (line : List ℕ) (lines : List (List ℕ)) (cause : Cause) → after_line said number line ≡ Err cause
    → after_lines said number (line ∷ lines) ≡ Err (At number cause)
unfolding after_lines
refused_at said number line lines cause e = rw (after_lines, e) refl

pub stops_at : (new said : Said) (number : ℕ) (line : List ℕ) (lines : List (List ℕ)) (fault : LineFault)
    → Comes (λ (_ : Unit {0}) s. s ≡ new) (Err fault) (after_line said number line) → (after_lines said number (line ∷ lines) ≡ Err (refusal_at number fault)) ⊎ (refusal_at number fault ≡ refusal.OutOfMemory)
stops_at new said number line lines (Refused cause) e = inl (refused_at said number line lines cause e)
stops_at new said number line lines OutOfMemory e = inr refl

pub no_more : (said : Said) (number : ℕ) → after_lines said number [] ≡ Ok said
unfolding after_lines
no_more said number = refl

-- what all lines come to is what the script comes to
pub script_read : (text : List ℕ) (said : Said) → after_lines nothing_said 1 (lines_of text) ≡ Ok said → script_of text ≡ Ok (script_said said)
unfolding script_of
script_read text said e = rw e refl

pub script_refused : (text : List ℕ) (r : ScriptRefusal) → after_lines nothing_said 1 (lines_of text) ≡ Err r → script_of text ≡ Err r
unfolding script_of
script_refused text r e = rw e refl
