-- What words say is what their front says and then what the rest says, where the front is whole.
use Rattle.std.proofs.Common.{◌≡◌, ℕ, List, [], ◌∷◌, ◌++◌, map, Option, None, Some, option_and_then, option_map, inl, inr, refl, ap, subst, sym, ◌∙◌, append-nil, append_assoc, codes}
use Rattle.std.proofs.lemmas.Option.{same_Some}
use Rattle.std.specs.List.{AllByRecursion, flat_map}
use Rattle.ad_words.specs.Laws.{AreWhole, Form, IsItem, IsOptionName, OneWord, SayTheSame, TwoWords, option_words}
use Rattle.ad_words.specs.Words.{Apart, Given, Joined, Operand, Plain, Said, command_of, command_said, kind_of, said_by}
use Rattle.ad_words.proofs.Forms.{kind_of-apart, kind_of-joined}
use Rattle.ad_words.proofs.Order.{same-behind, same-command}

-- the words say this, and whatever stands behind them says what it says by itself
pub record Leads (words : List (List ℕ)) (said : List Said) : Type 0 where
  pub leads : (after : List (List ℕ)) → said_by (words ++ after) ≡ option_map (λ more. said ++ more) (said_by after)

leads-nothing : Leads [] []
leads-nothing = record { leads = λ after. same (said_by after) }
  where
    same : (said : Option (List Said)) → said ≡ option_map (λ more. [] ++ more) said
    same None = refl
    same (Some more) = refl

pub leads-append : (words other_words : List (List ℕ)) (said other_said : List Said) → Leads words said → Leads other_words other_said
    → Leads (words ++ other_words) (said ++ other_said)
leads-append words other_words said other_said first second = record {
  leads = λ after.
      rw (append_assoc words other_words after) (first.leads (other_words ++ after) ∙ (rw (second.leads after) (joined (said_by after))));
}
  where
    joined : (rest : Option (List Said)) → option_map (λ more. said ++ more) (option_map (λ more. other_said ++ more) rest)
        ≡ option_map (λ more. said ++ other_said ++ more) rest
    joined None = refl
    joined (Some more) = ap Some (sym (append_assoc said other_said more))

pub leads-operand : (word : List ℕ) → kind_of word ≡ Plain → Leads (word ∷ []) (Operand word ∷ [])
leads-operand word plain = record { leads = λ after. rw (plain, said_by) refl }

leads-joined : (word name value : List ℕ) → kind_of word ≡ Joined name value → Leads (word ∷ []) (Given name value ∷ [])
leads-joined word name value joined = record { leads = λ after. rw (joined, said_by) refl }

leads-apart : (word name value : List ℕ) → kind_of word ≡ Apart name → Leads (word ∷ value ∷ []) (Given name value ∷ [])
leads-apart word name value apart = record { leads = λ after. rw (apart, said_by) refl }

pub leads-option : (form : Form) (name value : List ℕ) → IsOptionName name → Leads (option_words form name value) (Given name value ∷ [])
leads-option OneWord name value named = leads-joined _ name value (kind_of-joined name value named)
leads-option TwoWords name value named = leads-apart _ name value (kind_of-apart name named)

leads-item : (item : List (List ℕ)) → IsItem item → (said : List Said) × Leads item said
leads-item [] none = absurd none
leads-item (word ∷ []) kinds = elim kinds [
  | inl plain ↦ (Operand word ∷ [], leads-operand word plain)
  | inr joined ↦ (Given joined.0 joined.1 ∷ [], leads-joined word joined.0 joined.1 joined.2)
]
leads-item (word ∷ value ∷ []) apart = (Given apart.0 value ∷ [], leads-apart word apart.0 value apart.1)
leads-item (first ∷ second ∷ third ∷ more) none = absurd none

leads-items : (items : List (List (List ℕ))) → AllByRecursion IsItem items → (said : List Said) × Leads (flat_map (λ item. item) items) said
leads-items [] each = ([], leads-nothing)
leads-items (item ∷ items) each =
    let first = leads-item item each.0 in
    let rest = leads-items items each.1 in
    (first.0 ++ rest.0, leads-append item (flat_map (λ item. item) items) first.0 rest.0 first.1 rest.1)

-- whole words say something
pub leads-whole : (words : List (List ℕ)) → AreWhole words → (said : List Said) × Leads words said
leads-whole words whole =
    let found = leads-items whole.items whole.each in
    (found.0, subst (λ front. Leads front found.0) (sym whole.joined) found.1)

-- the command of words whose front is whole
pub command-behind : (task : List ℕ) (words after : List (List ℕ)) (said : List Said) → Leads words said
    → command_of (task ∷ words ++ after) ≡ option_and_then (λ more. command_said task (said ++ more)) (said_by after)
command-behind task words after said front = rw (front.leads after) (joined (said_by after))
  where
    joined : (rest : Option (List Said)) → option_and_then (command_said task) (option_map (λ more. said ++ more) rest)
        ≡ option_and_then (λ more. command_said task (said ++ more)) rest
    joined None = refl
    joined (Some more) = refl

-- words that say the same in one place leave the same command
pub exchanged : (task : List ℕ) (before words other_words after : List (List ℕ)) (said other_said : List Said) → AreWhole before
    → Leads words said → Leads other_words other_said → ((more : List Said) → SayTheSame (said ++ more) (other_said ++ more))
    → command_of (task ∷ before ++ words ++ after) ≡ command_of (task ∷ before ++ other_words ++ after)
exchanged task before words other_words after said other_said whole first second same =
    command-behind task (before ++ words) after _ (leads-append before words front.0 said front.1 first)
    ∙ (each (said_by after)
    ∙ sym (command-behind task (before ++ other_words) after _ (leads-append before other_words front.0 other_said front.1 second)))
  where
    front : (said : List Said) × Leads before said
    front = leads-whole before whole

    with_more : (more : List Said) → command_said task (front.0 ++ said ++ more) ≡ command_said task (front.0 ++ other_said ++ more)
    with_more more =
        ap (command_said task) (append_assoc front.0 said more)
        ∙ (same-command task _ _ (same-behind front.0 (said ++ more) (other_said ++ more) (same more))
        ∙ sym (ap (command_said task) (append_assoc front.0 other_said more)))

    each : (rest : Option (List Said)) → option_and_then (λ more. command_said task (front.0 ++ said ++ more)) rest
        ≡ option_and_then (λ more. command_said task (front.0 ++ other_said ++ more)) rest
    each None = refl
    each (Some more) = with_more more

-- two things that say the same in either order leave the same command
pub swapped : (task : List ℕ) (before words other_words after : List (List ℕ)) (one other : Said) → AreWhole before
    → Leads words (one ∷ []) → Leads other_words (other ∷ []) → ((more : List Said) → SayTheSame (one ∷ other ∷ more) (other ∷ one ∷ more))
    → command_of (task ∷ before ++ words ++ other_words ++ after) ≡ command_of (task ∷ before ++ other_words ++ words ++ after)
swapped task before words other_words after one other whole first second same =
    ap (λ front. command_of (task ∷ front ++ after)) (append_assoc before words other_words)
    ∙ (exchanged task before (words ++ other_words) (other_words ++ words) after (one ∷ other ∷ []) (other ∷ one ∷ []) whole
    (leads-append words other_words (one ∷ []) (other ∷ []) first second) (leads-append other_words words (other ∷ []) (one ∷ []) second first) same
    ∙ sym (ap (λ front. command_of (task ∷ front ++ after)) (append_assoc before other_words words)))

-- what whole words say by themselves
said-alone : (words : List (List ℕ)) (front said : List Said) → Leads words front → said_by words ≡ Some said → front ≡ said
said-alone words front said leads says =
    sym (append-nil front) ∙ same_Some _ _ (sym (leads.leads []) ∙ (ap said_by (append-nil words) ∙ says))

-- the words behind `--` are operands
pub operands-behind : (task : List ℕ) (before others : List (List ℕ)) (said : List Said) → AreWhole before → said_by before ≡ Some said
    → command_of (task ∷ before ++ codes "--" ∷ others) ≡ command_said task (said ++ map Operand others)
operands-behind task before others said whole says =
    let front = leads-whole before whole in
    command-behind task before (codes "--" ∷ others) front.0 front.1
    ∙ ap (λ first. command_said task (first ++ map Operand others)) (said-alone before front.0 said front.1 says)
