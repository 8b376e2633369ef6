-- Words of the laws of scripts.
use Rattle.std.specs.Prelude.{◌≡◌, ◌⊎◌, ℕ, ◌-◌, ◌≤◌, List, [], ◌∷◌, ◌++◌, length, take, None, Ok, Err}
use Rattle.std.specs.List.{slice_index_or}
use Rattle.ad_script.specs.declared.refusal.Cause.{Cause}
use Rattle.ad_script.specs.declared.script.Script.{Script}
use Rattle.ad_script.specs.Accepted.{Line, cause_behind, counts_said, loads_said, numbered_lines, steps_said}
use Rattle.ad_script.specs.Lines.{lines_of}
use Rattle.ad_script.specs.Script.{Said, after_line, after_lines, nothing_said}

-- The first bad line of a text: all lines before it say their own, and it is refused behind them for this cause.
pub record IsFirstBadLine (text : List ℕ) (line : ℕ) (cause : Cause) : Type 0 where
  pub from_one : 1 ≤ line
  pub there : line ≤ length (lines_of text)
  pub said : Said
  pub before : after_lines nothing_said 1 (take (line - 1) (lines_of text)) ≡ Ok said
  pub refused : after_line said line (slice_index_or (lines_of text) (line - 1) []) ≡ Err cause

-- The script of a text, line by line:
--     accepted   no line has a cause behind the lines before it
--     workers    no line counts the workers, and there is one worker; or one line does, and there are as many as it says
--     loads      the modules that lines load, in order
--     steps      the steps that lines make, in order; a module's number is its place among the loads
pub record IsScript (text : List ℕ) (s : Script) : Type 0 where
  pub accepted : (before after : List Line) (line : Line) → numbered_lines text ≡ before ++ line ∷ after → cause_behind before line ≡ None
  pub workers : (counts_said (numbered_lines text) ≡ [] × s.workers ≡ 1) ⊎ (counts_said (numbered_lines text) ≡ s.workers ∷ [])
  pub loads : s.loads ≡ loads_said (numbered_lines text)
  pub steps : s.steps ≡ steps_said s.loads (numbered_lines text)
