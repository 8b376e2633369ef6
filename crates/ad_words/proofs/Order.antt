-- A command depends on the operands in order, and of each option on its values in order.
use Rattle.std.proofs.Common.{◌≡◌, ◌≢◌, ℕ, Bool, true, false, List, [], ◌∷◌, ◌++◌, None, bytes_eq, cond, refl, ap, subst, sym, ◌∙◌}
use Rattle.std.specs.List.{list_all}
use Rattle.std.proofs.lemmas.Bool.{and_from, and_parts, false≢true}
use Rattle.std.proofs.lemmas.Bool.Decides.{same_from_decides}
use Rattle.std.proofs.lemmas.Slice.Eq.{bytes_eq-Decides}
use Rattle.ad_words.specs.Laws.{SayTheSame}
use Rattle.ad_words.specs.Words.{Given, Operand, Said, command_said, command_with, frames_option, fuel_option, is_of_task, only, operands, seed_option, settings_of, slots_option, values, values_said}

-- whether a list has something
abbrev has_some : List (List ℕ) → Bool
has_some [] = false
has_some (value ∷ more) = true

some-more : (test : Bool) (value : List ℕ) (more : List (List ℕ)) → has_some more ≡ true → has_some (cond test (value ∷ more) more) ≡ true
some-more true value more some = refl
some-more false value more some = some

-- each option that is given belongs to the task
abbrev AreOfTask : List ℕ → List Said → Type 0
AreOfTask task said = (name : List ℕ) → has_some (values name said) ≡ true → is_of_task task (Given name []) ≡ true

each-of_task : (task : List ℕ) (said : List Said) → list_all (is_of_task task) said ≡ true → AreOfTask task said
each-of_task task [] all name some = absurd (false≢true some)
each-of_task task (Operand word ∷ said) all name some = each-of_task task said (and_parts true _ all).1 name some
each-of_task task (Given given value ∷ said) all name some =
    let parts = and_parts (is_of_task task (Given given value)) (list_all (is_of_task task) said) all in
    by (bytes_eq given name) refl parts.0 (each-of_task task said parts.1 name) some
  where
    by : (test : Bool) → bytes_eq given name ≡ test → is_of_task task (Given given []) ≡ true
        → (has_some (values name said) ≡ true → is_of_task task (Given name []) ≡ true)
        → has_some (cond test (value ∷ values name said) (values name said)) ≡ true → is_of_task task (Given name []) ≡ true
    by true same here behind found = subst (λ n. is_of_task task (Given n []) ≡ true) ((bytes_eq-Decides given name).0 same) here
    by false other here behind found = behind found

all-of_task : (task : List ℕ) (said : List Said) → AreOfTask task said → list_all (is_of_task task) said ≡ true
all-of_task task [] each = refl
all-of_task task (Operand word ∷ said) each = all-of_task task said each
all-of_task task (Given given value ∷ said) each =
    and_from (is_of_task task (Given given value)) (list_all (is_of_task task) said)
    (each given (rw ((bytes_eq-Decides given given).1 refl) refl))
    (all-of_task task said (λ name some. each name (some-more (bytes_eq given name) value (values name said) some)))

pub same-command : (task : List ℕ) (said other : List Said) → SayTheSame said other → command_said task said ≡ command_said task other
same-command task said other same =
    ap (λ test. cond test (command_with task (only (operands said)) (settings_of (values_said said))) None) tests
    ∙ (ap (λ words. cond (list_all (is_of_task task) other) (command_with task (only words) (settings_of (values_said said))) None) same.same_operands
    ∙ ap (λ given. cond (list_all (is_of_task task) other) (command_with task (only (operands other)) (settings_of given)) None) numbers)
  where
    tests : list_all (is_of_task task) said ≡ list_all (is_of_task task) other
    tests = same_from_decides {P = AreOfTask task said} _ _ (each-of_task task said, all-of_task task said) (
      (λ all name some. each-of_task task other all name (ap has_some (sym (same.same_values name)) ∙ some)),
      (λ each. all-of_task task other (λ name some. each name (ap has_some (same.same_values name) ∙ some))),
    )

    numbers : values_said said ≡ values_said other
    numbers = rw (same.same_values seed_option.name) (rw (same.same_values fuel_option.name)
        (rw (same.same_values slots_option.name) (rw (same.same_values frames_option.name) refl)))

-- what says the same says it behind a common front too
pub same-behind : (front said other : List Said) → SayTheSame said other → SayTheSame (front ++ said) (front ++ other)
same-behind [] said other same = same
same-behind (Operand word ∷ front) said other same =
    let rest = same-behind front said other same in
    record { same_operands = ap (λ words. word ∷ words) rest.same_operands; same_values = rest.same_values }
same-behind (Given given value ∷ front) said other same =
    let rest = same-behind front said other same in
    record {
      same_operands = rest.same_operands;
      same_values = λ name. ap (λ more. cond (bytes_eq given name) (value ∷ more) more) (rest.same_values name);
    }

pub past_operand : (name value operand : List ℕ) (more : List Said)
    → SayTheSame (Given name value ∷ Operand operand ∷ more) (Operand operand ∷ Given name value ∷ more)
past_operand name value operand more = record { same_operands = refl; same_values = λ wanted. refl }

pub past_option : (name value other other_value : List ℕ) (more : List Said) → name ≢ other
    → SayTheSame (Given name value ∷ Given other other_value ∷ more) (Given other other_value ∷ Given name value ∷ more)
past_option name value other other_value more differ = record {
  same_operands = refl;
  same_values = λ wanted. exchanged (bytes_eq name wanted) (bytes_eq other wanted) (values wanted more)
      (λ first second. differ ((bytes_eq-Decides name wanted).0 first ∙ sym ((bytes_eq-Decides other wanted).0 second)));
}
  where
    exchanged : (is_first is_second : Bool) (others : List (List ℕ)) → (is_first ≡ true → is_second ≡ true → ⊥)
        → cond is_first (value ∷ cond is_second (other_value ∷ others) others) (cond is_second (other_value ∷ others) others)
        ≡ cond is_second (other_value ∷ cond is_first (value ∷ others) others) (cond is_first (value ∷ others) others)
    exchanged true true others not_both = absurd (not_both refl refl)
    exchanged true false others not_both = refl
    exchanged false true others not_both = refl
    exchanged false false others not_both = refl
