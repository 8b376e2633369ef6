-- The words of a line and the lines of a text, one after another.
use Rattle.std.proofs.Common.{◌≡◌, ℕ, ◌+◌, ◌<◌, Bool, true, false, cond, not, nat_lt, ◌==◌, List, [], ◌∷◌, ◌++◌, length, take, drop, refl, sym, ap, ◌∙◌, arith, filter, suc, tests}
use Rattle.std.specs.List.{position_or_len, before_first, after_first, slice_split, prefix_len, take_while}
use Rattle.std.proofs.lemmas.Bool.{lt-ltb, le-ltb, ltb-true, ltb-false}
use Rattle.std.proofs.lemmas.List.{drop_all, take_all}
use Rattle.std.specs.Borrow.{Bor}
use Rattle.std.proofs.lemmas.List.{append_assoc, map-append}
use Rattle.ad_script.specs.Private.Seen.{texts}
use Rattle.ad_script.specs.Lines.{is_blank, is_comment, is_empty, is_line_end, lines_of, words_of}

-- either holds
by_test : {P : Type 0} (b : Bool) → (b ≡ true → P) → (b ≡ false → P) → P
by_test true holds fails = holds refl
by_test false holds fails = fails refl

-- the parts behind the first: none where no byte is such a one
abbrev parts_behind : (ℕ → Bool) → List ℕ → List (List ℕ)
parts_behind p text = cond (nat_lt (position_or_len p text) (length text)) (slice_split p (after_first p text)) []

-- one place further
take_next : {A : Type 0} (n : ℕ) (x : A) (xs : List A) → take (1 + n) (x ∷ xs) ≡ x ∷ take n xs
take_next n x xs = ap (λ k. take k (x ∷ xs)) (one_more n)
  where
    one_more : (n : ℕ) → 1 + n ≡ suc n
    one_more n = omega arith

drop_next : (n : ℕ) (x : ℕ) (xs : List ℕ) → drop (1 + n + 1) (x ∷ xs) ≡ drop (n + 1) xs
drop_next n x xs = ap (λ k. drop k (x ∷ xs)) (one_more n)
  where
    one_more : (n : ℕ) → 1 + n + 1 ≡ suc (n + 1)
    one_more n = omega arith

lt_next : (n : ℕ) (x : ℕ) (xs : List ℕ) → nat_lt (1 + n) (length (x ∷ xs)) ≡ nat_lt n (length xs)
lt_next n x xs =
    by_test (nat_lt n (length xs))
    (λ e. let more = ltb-true n (length xs) e in lt-ltb (1 + n) (length (x ∷ xs)) (omega arith) ∙ sym e)
    (λ e. let less = ltb-false n (length xs) e in le-ltb (1 + n) (length (x ∷ xs)) (omega arith) ∙ sym e)

-- a text is cut into what stands before its first such byte and the parts of what stands behind
split_first : (p : ℕ → Bool) (text : List ℕ) → slice_split p text ≡ before_first p text ∷ parts_behind p text
split_first p [] = refl
split_first p (b ∷ text) =
    let later = split_first p text in
    let at = position_or_len p text in
    by_test (p b) (λ e. rw (e, lt-ltb 0 (length (b ∷ text)) (omega arith)) refl)
    (λ e. rw (e, later, take_next at b text, drop_next at b text, lt_next at b text) refl)

-- where there is no such byte, nothing stands behind the first
none_behind : (p : ℕ → Bool) (text : List ℕ) → nat_lt (position_or_len p text) (length text) ≡ false → (before_first p text ≡ text) × (after_first p text ≡ [])
none_behind p text past =
    let most = ltb-false (position_or_len p text) (length text) past in
    (take_all (position_or_len p text) text most, drop_all (position_or_len p text + 1) text (omega arith))

-- a text that isn't empty has its first line, and then the lines of what stands behind
lines_first : (text : List ℕ) → 0 < length text → lines_of text ≡ before_first is_line_end text ∷ lines_of (after_first is_line_end text)
unfolding lines_of
lines_first text some =
    by_test (nat_lt (position_or_len is_line_end text) (length text))
    (λ e. rw (split_first is_line_end text, e, split_first is_line_end (after_first is_line_end text)) refl)
    (λ e. let behind = none_behind is_line_end text e in rw (split_first is_line_end text, e, behind.0, behind.1) (grind (arith, tests)))

-- so it is with a text that was cut
pub lines_cut : (text before after : List ℕ) → (length text == 0) ≡ false → before ≡ before_first is_line_end text → after ≡ after_first is_line_end text
    → lines_of text ≡ before ∷ lines_of after
lines_cut text before after some front back = rw (front, back) (lines_first text (grind (arith, tests)))

-- the parts that are words, or comments
nonempty : List (List ℕ) → List (List ℕ)
nonempty parts = filter (λ part. not (is_empty part)) parts

nonempty_behind : (text : List ℕ) → nonempty (parts_behind is_blank text) ≡ nonempty (slice_split is_blank (after_first is_blank text))
unfolding nonempty
nonempty_behind text =
    by_test (nat_lt (position_or_len is_blank text) (length text))
    (λ e. rw e refl)
    (λ e. let behind = none_behind is_blank text e in rw (e, behind.1) refl)

abbrev words_in : List (List ℕ) → List (List ℕ)
words_in parts = take_while (λ word. not (is_comment word)) parts

-- the first part, and the parts of what stands behind
abbrev with_part : List ℕ → List (List ℕ) → List (List ℕ)
with_part part parts = cond (not (is_empty part)) (part ∷ parts) parts

words_split : (text : List ℕ) → words_of text ≡ words_in (with_part (before_first is_blank text) (nonempty (slice_split is_blank (after_first is_blank text))))
unfolding words_of nonempty
words_split text = rw (split_first is_blank text) (ap (λ parts. words_in (with_part (before_first is_blank text) parts)) (nonempty_behind text))

comment_some : (word : List ℕ) → is_comment word ≡ true → is_empty word ≡ false
comment_some [] e = absurd cc
comment_some (b ∷ word) e = grind (arith, tests)

words_in_comment : (word : List ℕ) (parts : List (List ℕ)) → is_comment word ≡ true → words_in (with_part word parts) ≡ []
words_in_comment word parts e = rw (comment_some word e, e) refl

words_in_empty : (word : List ℕ) (parts : List (List ℕ)) → is_empty word ≡ true → words_in (with_part word parts) ≡ words_in parts
words_in_empty word parts e = rw e refl

words_in_first : (word : List ℕ) (parts : List (List ℕ)) → is_comment word ≡ false → is_empty word ≡ false → words_in (with_part word parts) ≡ word ∷ words_in parts
words_in_first word parts plain some = rw (some, plain) (take_next (prefix_len (λ w. not (is_comment w)) parts) word parts)

pub no_words : words_of [] ≡ []
unfolding words_of
no_words = refl

pub no_lines : lines_of [] ≡ []
unfolding lines_of
no_lines = refl

pub words_comment : (text : List ℕ) → is_comment (before_first is_blank text) ≡ true → words_of text ≡ []
words_comment text e = words_split text ∙ words_in_comment (before_first is_blank text) _ e

pub words_empty : (text : List ℕ) → length (before_first is_blank text) ≡ 0 → words_of text ≡ words_of (after_first is_blank text)
unfolding words_of nonempty
words_empty text e = words_split text ∙ words_in_empty (before_first is_blank text) _ (rw e refl)

pub words_first : (text : List ℕ) → is_comment (before_first is_blank text) ≡ false → 0 < length (before_first is_blank text) → words_of text ≡ before_first is_blank text ∷ words_of (after_first is_blank text)
unfolding words_of nonempty
words_first text plain some = words_split text ∙ words_in_first (before_first is_blank text) _ plain (grind (arith, tests))

-- one word more was found
pub push_word : (done : List (Bor (List ℕ))) (word : Bor (List ℕ)) (rest after text : List ℕ) → texts done ++ words_of rest ≡ words_of text
    → words_of rest ≡ word.now ∷ words_of after → texts (done ++ word ∷ []) ++ words_of after ≡ words_of text
push_word done word rest after text so_far first = rw map-append (append_assoc (texts done) (word.now ∷ []) (words_of after) ∙ ap (λ ws. texts done ++ ws) (sym first) ∙ so_far)
