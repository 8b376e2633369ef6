-- Worked chains.
use Rattle.std.proofs.Common.{◌≡◌, ℕ, List, [], ◌∷◌, Err, refl}
use Rattle.std.specs.Prelude.{codes}
use Rattle.ad_script.specs.declared.refusal.Cause.TheVariants.{Word}
use Rattle.ad_script.specs.declared.refusal.ScriptRefusal.TheVariants.{At}
use Rattle.ad_script.specs.Forms.{form_of}
use Rattle.ad_script.specs.Lines.{lines_of, without_return, words_of}
use Rattle.ad_script.specs.Script.{after_line, after_lines, script_of, text_cause}
use Rattle.ad_command.specs.declared.trouble.Trouble.TheVariants.{Script, Usage}
use Rattle.ad_command.specs.Chain.{Gives}
use Rattle.ad_command.specs.Command.{command, job_from}
use Rattle.ad_command.specs.Loading.{file_of, script_in}

pub no-task : (files : List ℕ → List ℕ) → Gives files (command (codes "none" ∷ codes "s" ∷ [])) [] (Err Usage)
unfolding command
no-task files = (refl, refl)

pub no-operand : (files : List ℕ → List ℕ) → Gives files (command (codes "predict" ∷ [])) [] (Err Usage)
unfolding command
no-operand files = (refl, refl)

pub no-script : (files : List ℕ → List ℕ) → Gives files (command (codes "run" ∷ [])) [] (Err Usage)
unfolding command
no-script files = (refl, refl)

pub too-many-slots : (files : List ℕ → List ℕ) → Gives files (command (codes "run" ∷ codes "s" ∷ codes "--slots=17" ∷ [])) [] (Err Usage)
unfolding command
too-many-slots files = (refl, refl)

pub other-option : (files : List ℕ → List ℕ) → Gives files (command (codes "seq" ∷ codes "-s" ∷ [])) [] (Err Usage)
unfolding command
other-option files = (refl, refl)

pub no-lines : (files : List ℕ → List ℕ) → Gives files (command (codes "gen" ∷ codes "0" ∷ [])) [] (Err Usage)
unfolding command
no-lines files = (refl, refl)

-- no line begins with the word `x`
x-is-refused : script_of (codes "x\n") ≡ Err (At 1 Word)
unfolding script_of after_lines after_line lines_of without_return words_of text_cause form_of
x-is-refused = refl

pub a-refused-line : (files : List ℕ → List ℕ) → files (codes "s") ≡ codes "x\n" → Gives files (command (codes "seq" ∷ codes "s" ∷ [])) (codes "s" ∷ []) (Err (Script 1 Word))
unfolding command job_from script_in file_of
a-refused-line files e = ([], refl, rw (e, x-is-refused) (refl, refl))
