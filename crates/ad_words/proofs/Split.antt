-- Words that say something are whole, or are whole up to a `--`.
use Rattle.std.proofs.Common.{◌≡◌, ◌⊎◌, ◌==◌, ◌||◌, ℕ, Bool, true, false, List, [], ◌∷◌, ◌++◌, Option, None, Some, option_map, bytes_eq, codes, cond, drop, inl, inr, map, nat_eq, not, refl, ap, sym, ◌∙◌, append_assoc}
use Rattle.std.specs.List.{list_any, starts_with}
use Rattle.std.proofs.lemmas.Option.{none-some}
use Rattle.std.proofs.lemmas.Slice.Eq.{bytes_eq-Decides}
use Rattle.ad_words.specs.Laws.{AreWhole, AreWholeToEnd, IsItem}
use Rattle.ad_words.specs.Words.{Apart, End, Given, Joined, Kind, Operand, Plain, Said, Wrong, kind_of, said_by, said_with_value}

abbrev AreSplit : List (List ℕ) → Type 0
AreSplit words = AreWhole words ⊎ AreWholeToEnd words

whole-more : (item words : List (List ℕ)) → IsItem item → AreWhole words → AreWhole (item ++ words)
whole-more item words one whole = record {
  items = item ∷ whole.items;
  each = (one, whole.each);
  joined = ap (λ rest. item ++ rest) whole.joined;
}

split-more : (item words : List (List ℕ)) → IsItem item → AreSplit words → AreSplit (item ++ words)
split-more item words one (inl whole) = inl (whole-more item words one whole)
split-more item words one (inr to_end) = inr (record {
  before = item ++ to_end.before;
  others = to_end.others;
  whole = whole-more item to_end.before one to_end.whole;
  joined = ap (λ rest. item ++ rest) to_end.joined ∙ sym (append_assoc item to_end.before (codes "--" ∷ to_end.others));
})

nothing-whole : AreWhole []
nothing-whole = record { items = []; each = tt; joined = refl }

-- what is said behind one thing
said-behind : {A B : Type 0} (f : A → B) (rest : Option A) (said : B) → option_map f rest ≡ Some said → (more : A) × (rest ≡ Some more)
said-behind f None said says = absurd (none-some said says)
said-behind f (Some more) said says = (more, refl)

-- only `--` ends the options
end-word : (word : List ℕ) → kind_of word ≡ End → word ≡ codes "--"
end-word word ends =
    (bytes_eq-Decides word (codes "--")).0 (by (bytes_eq word (codes "--")) (bytes_eq word (codes "-") || not (starts_with nat_eq word (codes "-")))
    (starts_with nat_eq word (codes "--")) (list_any (λ byte. byte == 0x3d) (drop 2 word)) _ _ ends)
  where
    by : (is_end is_plain is_option is_joined : Bool) (name value : List ℕ)
        → cond is_end End (cond is_plain Plain (cond is_option (cond is_joined (Joined name value) (Apart (drop 2 word))) Wrong)) ≡ End
        → is_end ≡ true
    by true is_plain is_option is_joined name value ends = refl
    by false true is_option is_joined name value ends = cc
    by false false true true name value ends = cc
    by false false true false name value ends = cc
    by false false false is_joined name value ends = cc

-- what words say whose first is of this kind
abbrev said_as : Kind → List ℕ → List (List ℕ) → Option (List Said)
said_as kind word rest = elim kind [
  | End ↦ Some (map Operand rest)
  | Plain ↦ option_map (λ said. Operand word ∷ said) (said_by rest)
  | Joined name value ↦ option_map (λ said. Given name value ∷ said) (said_by rest)
  | Apart name ↦ said_with_value name rest
  | Wrong ↦ None
]

split-at : (kind : Kind) (word : List ℕ) (rest : List (List ℕ)) (said : List Said) → kind_of word ≡ kind
    → said_as kind word rest ≡ Some said
    → ((more : List Said) → said_by rest ≡ Some more → AreSplit rest)
    → ((more : List Said) → said_by (drop 1 rest) ≡ Some more → AreSplit (drop 1 rest))
    → AreSplit (word ∷ rest)
split-at End word rest said is says behind past_value = inr (record {
  before = [];
  others = rest;
  whole = nothing-whole;
  joined = ap (λ first. first ∷ rest) (end-word word is);
})
split-at Plain word rest said is says behind past_value =
    let more = said-behind (λ others. Operand word ∷ others) (said_by rest) said says in
    split-more (word ∷ []) rest (inl is) (behind more.0 more.1)
split-at (Joined name value) word rest said is says behind past_value =
    let more = said-behind (λ others. Given name value ∷ others) (said_by rest) said says in
    split-more (word ∷ []) rest (inr (name, value, is)) (behind more.0 more.1)
split-at (Apart name) word [] said is says behind past_value = absurd (none-some said says)
split-at (Apart name) word (value ∷ rest) said is says behind past_value =
    let more = said-behind (λ others. Given name value ∷ others) (said_by rest) said says in
    split-more (word ∷ value ∷ []) rest (name, is) (past_value more.0 more.1)
split-at Wrong word rest said is says behind past_value = absurd (none-some said says)

pub words-split : (words : List (List ℕ)) (said : List Said) → said_by words ≡ Some said → AreSplit words
words-split [] said says = inl nothing-whole
words-split (word ∷ []) said says =
    split-at (kind_of word) word [] said refl says (λ more none. inl nothing-whole) (λ more none. inl nothing-whole)
words-split (word ∷ value ∷ rest) said says =
    split-at (kind_of word) word (value ∷ rest) said refl says (words-split (value ∷ rest)) (words-split rest)
