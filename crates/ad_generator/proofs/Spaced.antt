-- Lines of words with a space between them, and texts of such lines.
use Rattle.std.proofs.Common.{◌≡◌, ℕ, ◌+◌, ◌-◌, ◌<◌, ◌≤◌, ◌&&◌, Bool, true, false, not, List, [], ◌∷◌, ◌++◌, length, filter, get_or, map, None, Some, Result, Ok, Err, refl, sym, ap, ◌∙◌, append_assoc, arith, tests, flat_map}
use Rattle.std.specs.List.{All, list_all, slice_index, slice_split, take_while}
use Rattle.std.proofs.lemmas.Bool.{and_parts, le-ltb}
use Rattle.std.proofs.lemmas.Bool.Decides.{nat_tests}
use Rattle.std.proofs.lemmas.List.Folds.{list_all-append}
use Rattle.std.proofs.lemmas.List.Splits.{length-slice_split, slice_split_at, slice_split_none}
use Rattle.std.proofs.lemmas.List.Sums.{AllPass-from_list_all, take_while-cons}
use Rattle.ad_script.specs.declared.refusal.Cause.{Cause}
use Rattle.ad_script.specs.declared.refusal.ScriptRefusal.{ScriptRefusal}
use Rattle.ad_script.specs.declared.refusal.ScriptRefusal.TheVariants.{At}
use Rattle.ad_script.specs.declared.script.TheConstants.{SCRIPT_LINES}
use Rattle.ad_script.specs.Forms.{Form, form_of, is_graphic}
use Rattle.ad_script.specs.Lines.{is_blank, is_comment, is_empty, is_line_end, is_return, is_text_byte, lines_of, without_empty_end, without_return, words_of}
use Rattle.ad_script.specs.Script.{Said, after_line, after_lines, form_cause, text_cause, with_form}

-- a word that stays one: it isn't empty, begins no comment, and its bytes are printing ASCII without the space
abbrev pub is_word : List ℕ → Bool
is_word word = not (is_empty word) && (not (is_comment word) && list_all is_graphic word)

abbrev pub are_words : List (List ℕ) → Bool
are_words words = list_all is_word words

-- a line of words, and the same with its end
abbrev pub spaced : List (List ℕ) → List ℕ
spaced [] = []
spaced (word ∷ []) = word
spaced (word ∷ next ∷ words) = word ++ 0x20 ∷ spaced (next ∷ words)

abbrev pub ended : List (List ℕ) → List ℕ
ended words = spaced words ++ 0x0a ∷ []

-- what a printing byte is and isn't
graphic-blank : (b : ℕ) → is_graphic b ≡ true → is_blank b ≡ false
graphic-blank b e = grind (arith, nat_tests, tests)

graphic-text : (b : ℕ) → is_graphic b ≡ true → is_text_byte b ≡ true
graphic-text b e = grind (arith, nat_tests, tests)

text-end : (b : ℕ) → is_text_byte b ≡ true → is_line_end b ≡ false
text-end b e = grind (arith, nat_tests, tests)

text-return : (b : ℕ) → is_text_byte b ≡ true → is_return b ≡ false
text-return b e = grind (arith, nat_tests, tests)

all-also : (p q : ℕ → Bool) → ((b : ℕ) → p b ≡ true → q b ≡ true) → (bs : List ℕ) → list_all p bs ≡ true → list_all q bs ≡ true
all-also p q also [] e = refl
all-also p q also (b ∷ bs) e = let parts = and_parts (p b) (list_all p bs) e in rw (also b parts.0, all-also p q also bs parts.1) refl

-- what a word is and isn't
not-true : (b : Bool) → not b ≡ true → b ≡ false
not-true true e = sym e
not-true false e = refl

module _ (word : List ℕ) (is : is_word word ≡ true) where
  word-some : is_empty word ≡ false
  word-some = not-true (is_empty word) (and_parts (not (is_empty word)) _ is).0

  word-plain : is_comment word ≡ false
  word-plain = not-true (is_comment word) (and_parts (not (is_comment word)) _ (and_parts (not (is_empty word)) _ is).1).0

  word-graphic : list_all is_graphic word ≡ true
  word-graphic = (and_parts (not (is_comment word)) _ (and_parts (not (is_empty word)) _ is).1).1

  word-whole : All (λ b. is_blank b ≡ false) word
  word-whole = λ k d below. graphic-blank (get_or word k d) (AllPass-from_list_all is_graphic word word-graphic k d below)

  word-text : list_all is_text_byte word ≡ true
  word-text = all-also is_graphic is_text_byte graphic-text word word-graphic

-- the parts that are words, up to a comment
abbrev words_in : List (List ℕ) → List (List ℕ)
words_in parts = take_while (λ word. not (is_comment word)) (filter (λ part. not (is_empty part)) parts)

words-front : (word : List ℕ) (parts : List (List ℕ)) → is_word word ≡ true → words_in (word ∷ parts) ≡ word ∷ words_in parts
words-front word parts is =
    rw (word-some word is) (take_while-cons (λ w. not (is_comment w)) word (filter (λ part. not (is_empty part)) parts) ∙ rw (word-plain word is) refl)

pub words_spaced : (words : List (List ℕ)) → are_words words ≡ true → words_of (spaced words) ≡ words
unfolding words_of
words_spaced [] are = refl
words_spaced (word ∷ []) are =
    let is = (and_parts (is_word word) true are).0 in
    ap words_in (slice_split_none is_blank word (word-whole word is)) ∙ words-front word [] is
words_spaced (word ∷ next ∷ words) are =
    let parts = and_parts (is_word word) (are_words (next ∷ words)) are in
    ap words_in (slice_split_at is_blank word 0x20 (spaced (next ∷ words)) (word-whole word parts.0) refl)
    ∙ words-front word (slice_split is_blank (spaced (next ∷ words))) parts.0
    ∙ ap (λ (ws : List (List ℕ)). word ∷ ws) (words_spaced (next ∷ words) parts.1)

pub text_spaced : (words : List (List ℕ)) → are_words words ≡ true → list_all is_text_byte (spaced words) ≡ true
text_spaced [] are = refl
text_spaced (word ∷ []) are = word-text word (and_parts (is_word word) true are).0
text_spaced (word ∷ next ∷ words) are =
    let parts = and_parts (is_word word) (are_words (next ∷ words)) are in
    list_all-append is_text_byte word (0x20 ∷ spaced (next ∷ words)) ∙ rw (word-text word parts.0, text_spaced (next ∷ words) parts.1) refl

-- a text of lines that end has these lines
one-more : (part : List ℕ) (parts : List (List ℕ)) → 0 < length parts → without_empty_end (part ∷ parts) ≡ part ∷ without_empty_end parts
one-more part [] some = absurd (omega arith)
one-more part (next ∷ parts) some = refl

line-first : (line rest : List ℕ) → list_all is_text_byte line ≡ true → lines_of (line ++ 0x0a ∷ rest) ≡ line ∷ lines_of rest
unfolding lines_of
line-first line rest text =
    let whole : All (λ b. is_line_end b ≡ false) line = λ k d below. text-end (get_or line k d) (AllPass-from_list_all is_text_byte line text k d below) in
    ap without_empty_end (slice_split_at is_line_end line 0x0a rest whole refl)
    ∙ one-more line (slice_split is_line_end rest) (omega (arith, length-slice_split is_line_end rest))

pub lines_ended : (lines : List (List (List ℕ))) → list_all are_words lines ≡ true → lines_of (flat_map ended lines) ≡ map spaced lines
unfolding lines_of
lines_ended [] are = refl
lines_ended (words ∷ lines) are =
    let parts = and_parts (are_words words) (list_all are_words lines) are in
    ap lines_of (append_assoc (spaced words) (0x0a ∷ []) (flat_map ended lines))
    ∙ line-first (spaced words) (flat_map ended lines) (text_spaced words parts.0)
    ∙ ap (λ (ls : List (List ℕ)). spaced words ∷ ls) (lines_ended lines parts.1)

-- a line without a CR stays as it is
last-text : (line : List ℕ) → list_all is_text_byte line ≡ true → is_return (slice_index line (length line - 1)) ≡ false
last-text [] text = refl
last-text (b ∷ line) text = text-return _ (AllPass-from_list_all is_text_byte (b ∷ line) text (length (b ∷ line) - 1) 0 (omega arith))

pub no_return : (line : List ℕ) → list_all is_text_byte line ≡ true → without_return line ≡ line
unfolding without_return
no_return line text = rw (last-text line text) refl

-- a line of words says what they say, where no sentence holds of it
pub line_said : (said : Said) (number : ℕ) (words : List (List ℕ)) (form : Form) → are_words words ≡ true → number ≤ SCRIPT_LINES → form_of words ≡ Some form
    → form_cause said form ≡ None → after_line said number (spaced words) ≡ Ok (with_form said number form)
unfolding after_line text_cause
line_said said number words form are few formed none =
    let text = text_spaced words are in
    rw (no_return (spaced words) text, text, words_spaced words are, le-ltb SCRIPT_LINES number few, formed, none) refl

-- what comes of the lines behind a first one
abbrev went_on : ℕ → Result Said Cause → List (List ℕ) → Result Said ScriptRefusal
went_on number o lines = elim o as (λ _. Result Said ScriptRefusal) [ Ok next ↦ after_lines next (number + 1) lines | Err cause ↦ Err (At number cause) ]

-- one line more behind others
pub lines_said : (lines : List (List ℕ)) (line : List ℕ) (said next last : Said) (number at : ℕ) → after_lines said number lines ≡ Ok next → at ≡ number + length lines
    → after_line next at line ≡ Ok last → after_lines said number (lines ++ line ∷ []) ≡ Ok last
unfolding after_lines
lines_said [] line said next last number at before counted here =
    let same : said ≡ next = cc in
    let there : after_line said number line ≡ Ok last = (λ i. after_line (same i) ((sym (counted ∙ none number)) i) line) ∙ here in
    rw (after_lines, there) refl
  where
    none : (n : ℕ) → n + 0 ≡ n
    none n = omega arith
lines_said (first ∷ lines) line said next last number at before counted here =
    from (after_line said number first) refl before (λ s later. lines_said lines line s next last (number + 1) at later (omega (arith, counted)) here)
  where
    from : (o : Result Said Cause) → after_line said number first ≡ o → went_on number o lines ≡ Ok next
        → ((s : Said) → after_lines s (number + 1) lines ≡ Ok next → after_lines s (number + 1) (lines ++ line ∷ []) ≡ Ok last) → after_lines said number (first ∷ lines ++ line ∷ []) ≡ Ok last
    from (Ok s) is later go = rw (after_lines, is) (go s later)
    from (Err cause) is later go = absurd cc
