-- What one thing more that is said makes of what was read.
use Rattle.std.proofs.Common.{◌≡◌, ◌≤◌, ◌<◌, ℕ, Bool, true, false, List, [], ◌∷◌, ◌++◌, length, map, Option, None, Some, MatchOption, get_or, cond, refl, ap, arith, option_copied, option_to_list}
use Rattle.std.specs.List.{list_all}
use Rattle.ad_words.specs.declared.parsed.Parsed.{Parsed}
use Rattle.ad_words.specs.declared.parsed.Values.{Values}
use Rattle.ad_words.specs.Private.Parsing.{Parses, command_parsed, values_parsed}
use Rattle.ad_words.specs.Words.{Command, Given, Operand, Said, command_with, is_of_task, only, operands, settings_of}

-- a refusal stays one behind a test
refused : (test : Bool) (command : Option Command) → command ≡ None → cond test command None ≡ None
refused true command e = e
refused false command e = refl

-- what doesn't belong to the task leaves no command
pub of_another_task : (task : List ℕ) (old : Parsed) (one : Said) → is_of_task task one ≡ false
    → (said : List Said) → command_parsed task old (one ∷ said) ≡ None
of_another_task task old one other said = rw other

-- an option whose value was read is as if it were still said
pub value_parsed : (task : List ℕ) (old : Parsed) (name value : List ℕ) (given : Values) → is_of_task task (Given name value) ≡ true
    → ((said : List Said) → values_parsed old.values (Given name value ∷ said) ≡ values_parsed given said)
    → (said : List Said) → command_parsed task old (Given name value ∷ said) ≡ command_parsed task (record old { values = given }) said
value_parsed task old name value given belongs same said =
    rw belongs (ap (λ parsed. cond (list_all (is_of_task task) said)
    (command_with task (only (option_to_list (option_copied old.operand) ++ operands said)) (settings_of parsed)) None) (same said))

-- an option that leaves no numbers leaves no command
pub value_refused : (task : List ℕ) (old : Parsed) (name value : List ℕ)
    → ((said : List Said) → settings_of (values_parsed old.values (Given name value ∷ said)) ≡ None)
    → (said : List Said) → command_parsed task old (Given name value ∷ said) ≡ None
value_refused task old name value none said =
    refused (list_all (is_of_task task) (Given name value ∷ said)) _
    (rw (none said) (no_numbers (only (option_to_list (option_copied old.operand) ++ operands said))))
  where
    no_numbers : (operand : Option (List ℕ)) → command_with task operand None ≡ None
    no_numbers None = refl
    no_numbers (Some word) = refl

-- one word that is an operand
pub one_operand : {A : Type 0} (text : A → List ℕ) (task : List ℕ) (old : Parsed) (words : List A) (word : A) (new : Option Parsed)
    → 1 ≤ length words → length words < 2 → word ≡ get_or words 0 word → Parses task old (Operand (text word)) new
    → MatchOption new (command_parsed task old (map Operand (map text words)) ≡ None)
    (λ parsed. command_parsed task old (map Operand (map text words)) ≡ command_parsed task parsed [])
one_operand text task old [] word new some few is same = absurd (omega arith)
one_operand text task old (first ∷ []) word None some few is same = rw (← is) (same [])
one_operand text task old (first ∷ []) word (Some parsed) some few is same = rw (← is) (same [])
one_operand text task old (first ∷ second ∷ more) word new some few is same = absurd (omega arith)

-- two operands or more leave no command
pub many_operands : {A : Type 0} (text : A → List ℕ) (task : List ℕ) (old : Parsed) (words : List A) → 2 ≤ length words
    → command_parsed task old (map Operand (map text words)) ≡ None
many_operands text task old [] many = absurd (omega arith)
many_operands text task old (first ∷ []) many = absurd (omega arith)
many_operands text task old (first ∷ second ∷ more) many =
    refused (list_all (is_of_task task) (map Operand (map text more))) _ (elim old.operand as (λ operand.
    command_with task (only (option_to_list (option_copied operand) ++ (text first ∷ text second ∷ operands (map Operand (map text more)))))
    (settings_of (values_parsed old.values (map Operand (map text (first ∷ second ∷ more))))) ≡ None) [ None ↦ refl | Some word ↦ refl ])
