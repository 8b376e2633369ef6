-- What all lines of an accepted text say is what each says by itself.
use Rattle.std.proofs.Common.{◌≡◌, ◌⊎◌, ℕ, ◌+◌, ◌≤◌, ◌==◌, false, not, List, [], ◌∷◌, ◌++◌, length, map, Option, None, Some, unwrap_or, Result, Ok, Err, inl, inr, refl, sym, ap, subst, ◌∙◌, arith, tests, lit≤, append-nil}
use Rattle.std.specs.List.{cons_option, enumerate_from, slice_get}
use Rattle.std.specs.Option.{is_none, is_some, option_or}
use Rattle.std.proofs.Math.Seq.{append_snoc}
use Rattle.std.proofs.lemmas.List.Elements.{filter_map-append}
use Rattle.ad_script.specs.declared.refusal.Cause.{Cause}
use Rattle.ad_script.specs.declared.refusal.ScriptRefusal.{ScriptRefusal}
use Rattle.ad_script.specs.declared.script.Load.{Load}
use Rattle.ad_script.specs.declared.script.Script.{Script}
use Rattle.ad_script.specs.declared.script.Step.{Step}
use Rattle.ad_script.specs.Accepted.{Line, cause_behind, form_count, count_said, counts_said, form_said, form_load, load_said, loads_said, numbered_lines, said_by, form_step, step_said, steps_said}
use Rattle.ad_script.specs.Forms.{Blank, Calls, Form, Loads, Moves, Stacks, Workers, number_of}
use Rattle.ad_script.specs.Laws.{IsScript}
use Rattle.ad_script.specs.Lines.{lines_of, without_return}
use Rattle.ad_script.specs.Script.{Said, after_form, after_line, after_lines, form_cause, is_bad_number, nothing_said, script_from, script_of, script_said, text_cause, with_form}
use Rattle.ad_script.proofs.FirstBad.{goes_on}
use Rattle.ad_script.proofs.InRange.{is_passed, neither}
use Rattle.ad_script.proofs.Kept.{unless_ok}
use Rattle.ad_script.proofs.Reading.{no_more, refused_at, script_read}

-- the first count, where none stood before it
first_count : (counts : List ℕ) (o : Option ℕ) → is_some (slice_get counts 0) ≡ false → is_none o ≡ false → Some (unwrap_or o 0) ≡ slice_get (counts ++ cons_option o []) 0
first_count [] None new good = absurd cc
first_count [] (Some n) new good = refl
first_count (count ∷ counts) o new good = absurd cc

-- a list of one at most
few_counts : (counts : List ℕ) (o : Option ℕ) → is_some (slice_get counts 0) ≡ false → length (counts ++ cons_option o []) ≤ 1
few_counts [] None new = lit≤ tt
few_counts [] (Some n) new = lit≤ tt
few_counts (count ∷ counts) o new = absurd cc

-- where no step is said, none is with other loads
no_step : (loads other : List Load) (lines : List Line) → not (length (steps_said loads lines) == 0) ≡ false → steps_said loads lines ≡ steps_said other lines
no_step loads other [] none = refl
no_step loads other ((number, text) ∷ lines) none = from (form_said text) none (no_step loads other lines)
  where
    from : (form : Form) → not (length (cons_option (form_step loads number form) (steps_said loads lines)) == 0) ≡ false
        → (not (length (steps_said loads lines) == 0) ≡ false → steps_said loads lines ≡ steps_said other lines)
        → cons_option (form_step loads number form) (steps_said loads lines) ≡ cons_option (form_step other number form) (steps_said other lines)
    from Blank none go = go none
    from (Workers count) none go = go none
    from (Loads name file) none go = go none
    from (Calls worker target args) none go = absurd (grind (arith, tests))
    from (Moves names) none go = absurd (grind (arith, tests))
    from (Stacks worker) none go = absurd (grind (arith, tests))

-- what is said once a line of this number and form says its own, too
abbrev grown : List Line → ℕ → Form → Said
grown before number form =
    let loads = loads_said before ++ cons_option (form_load number form) [] in
    record {
      workers = slice_get (counts_said before ++ cons_option (form_count form) []) 0;
      loads = loads;
      steps = steps_said loads before ++ cons_option (form_step loads number form) [];
    }

same_said : (w x : Option ℕ) (l m : List Load) (s t : List Step) → w ≡ x → l ≡ m → s ≡ t
    → ◌≡◌ {A = Said} (record { workers = w; loads = l; steps = s }) (record { workers = x; loads = m; steps = t })
same_said w x l m s t a b c = cc

said_more : (before : List Line) (number : ℕ) (text : List ℕ) → said_by (before ++ (number, text) ∷ []) ≡ grown before number (form_said text)
said_more before number text =
    let line : List Line = (number, text) ∷ [] in
    let loads = filter_map-append load_said before line in
    same_said _ _ _ _ _ _ (ap (λ counts. slice_get counts 0) (filter_map-append count_said before line)) loads
    (ap (λ ls. steps_said ls (before ++ line)) loads ∙ filter_map-append (step_said (loads_said before ++ cons_option (form_load number (form_said text)) [])) before line)

-- a form of which no sentence holds
with_one_more : (before : List Line) (number : ℕ) (form : Form) → form_cause (said_by before) form ≡ None → with_form (said_by before) number form ≡ grown before number form
unfolding with_form
with_one_more before number Blank none = simp append-nil
with_one_more before number (Workers count) none =
    let passed = is_passed (said_by before) (Workers count) none in
    let bad = neither (is_bad_number count) _ passed.numbered in
    same_said _ _ _ _ _ _ (first_count (counts_said before) (number_of count) passed.new bad.0) (sym (append-nil (loads_said before))) (simp append-nil)
with_one_more before number (Loads name file) none =
    let passed = is_passed (said_by before) (Loads name file) none in
    let more : List Load = loads_said before ++ record { line = number; name = name; file = file } ∷ [] in
    same_said _ _ _ _ _ _ (ap (λ counts. slice_get counts 0) (sym (append-nil (counts_said before)))) refl
    (no_step (loads_said before) more before passed.early ∙ sym (append-nil (steps_said more before)))
with_one_more before number (Calls worker target args) none = simp append-nil
with_one_more before number (Moves names) none = simp append-nil
with_one_more before number (Stacks worker) none = simp append-nil

-- one count at most
one_count : (before : List Line) (number : ℕ) (form : Form) → form_cause (said_by before) form ≡ None → length (counts_said before) ≤ 1
    → length (counts_said before ++ cons_option (form_count form) []) ≤ 1
one_count before number Blank none few = rw append-nil few
one_count before number (Workers count) none few = few_counts (counts_said before) (number_of count) (is_passed (said_by before) (Workers count) none).new
one_count before number (Loads name file) none few = rw append-nil few
one_count before number (Calls worker target args) none few = rw append-nil few
one_count before number (Moves names) none few = rw append-nil few
one_count before number (Stacks worker) none few = rw append-nil few

-- no cause of two, and what comes where there is none
no_cause : (a b : Option Cause) → option_or a b ≡ None → (a ≡ None) × (b ≡ None)
no_cause None b e = (refl, e)
no_cause (Some cause) b e = absurd cc

-- a line of a text, by its number
abbrev line_at : ℕ → List ℕ → Line
line_at number line = (number, without_return line)

-- a line that is accepted behind others, and what is said behind it
module _ (before : List Line) (number : ℕ) (line : List ℕ) where
  accepted_one : cause_behind before (line_at number line) ≡ None → after_line (said_by before) number line ≡ Ok (said_by (before ++ line_at number line ∷ []))
  unfolding after_line
  accepted_one none =
      let text = without_return line in
      let parts = no_cause (text_cause number text) _ none in
      rw (parts.0, parts.1) (ap Ok (with_one_more before number (form_said text) parts.1 ∙ sym (said_more before number text)))

  one_accepted : (next : Said) → after_line (said_by before) number line ≡ Ok next → cause_behind before (line_at number line) ≡ None
  unfolding after_line
  one_accepted next e =
      let text = without_return line in
      let read = unless_ok (text_cause number text) (after_form (said_by before) number (form_said text)) next e in
      let formed = unless_ok (form_cause (said_by before) (form_said text)) (Ok (with_form (said_by before) number (form_said text))) next read.1 in
      rw (read.0, formed.0) refl

  one_count_more : cause_behind before (line_at number line) ≡ None → length (counts_said before) ≤ 1 → length (counts_said (before ++ line_at number line ∷ [])) ≤ 1
  one_count_more none few =
      let text = without_return line in
      rw (filter_map-append count_said before (line_at number line ∷ [])) (one_count before number (form_said text) (no_cause (text_cause number text) _ none).1 few)

-- none of these lines has a cause behind those before it, and others before them
abbrev AreAccepted : List Line → List Line → Type 0
AreAccepted before lines = (front back : List Line) (line : Line) → lines ≡ front ++ line ∷ back → cause_behind (before ++ front) line ≡ None

no_lines_accepted : (before : List Line) → AreAccepted before []
no_lines_accepted before [] back line is = absurd cc
no_lines_accepted before (first ∷ front) back line is = absurd cc

one_more_accepted : (before : List Line) (this : Line) (lines : List Line) → cause_behind before this ≡ None → AreAccepted (before ++ this ∷ []) lines → AreAccepted before (this ∷ lines)
one_more_accepted before this lines none all [] back line is =
    let same : this ≡ line = cc in
    subst (λ b. cause_behind b line ≡ None) (sym (append-nil before)) (subst (λ l. cause_behind before l ≡ None) same none)
one_more_accepted before this lines none all (first ∷ front) back line is =
    let same : this ≡ first = cc in
    let rest : lines ≡ front ++ line ∷ back = cc in
    subst (λ b. cause_behind b line ≡ None) (append_snoc before this front ∙ ap (λ l. before ++ l ∷ front) same) (all front back line rest)

later_accepted : (before : List Line) (this : Line) (lines : List Line) → AreAccepted before (this ∷ lines) → AreAccepted (before ++ this ∷ []) lines
later_accepted before this lines all front back line is =
    subst (λ b. cause_behind b line ≡ None) (sym (append_snoc before this front)) (all (this ∷ front) back line (ap (λ ls. this ∷ ls) is))

first_accepted : (before : List Line) (this : Line) (lines : List Line) → AreAccepted before (this ∷ lines) → cause_behind before this ≡ None
first_accepted before this lines all = subst (λ b. cause_behind b this ≡ None) (append-nil before) (all [] lines this refl)

-- what is known once all of these lines say their own behind others
record AllSaid (before lines : List Line) (end : Said) : Type 0 where
  accepted : AreAccepted before lines
  said : end ≡ said_by (before ++ lines)
  few : length (counts_said (before ++ lines)) ≤ 1

abbrev numbered : ℕ → List (List ℕ) → List Line
numbered number lines = enumerate_from number (map without_return lines)

all_said : (lines : List (List ℕ)) (before : List Line) (number : ℕ) (end : Said) → length (counts_said before) ≤ 1 → after_lines (said_by before) number lines ≡ Ok end
    → AllSaid before (numbered number lines) end
all_said [] before number end few e =
    let ends : ◌≡◌ {A = Result Said ScriptRefusal} (Ok (said_by before)) (Ok end) = sym (no_more (said_by before) number) ∙ e in
    let same : said_by before ≡ end = cc in
    record {
      accepted = no_lines_accepted before;
      said = sym same ∙ ap said_by (sym (append-nil before));
      few = rw append-nil few;
    }
all_said (line ∷ lines) before number end few e =
    from (after_line (said_by before) number line) refl (all_said lines (before ++ line_at number line ∷ []) (number + 1) end)
  where
    this : Line
    this = line_at number line

    from : (o : Result Said Cause) → after_line (said_by before) number line ≡ o
        → (length (counts_said (before ++ this ∷ [])) ≤ 1 → after_lines (said_by (before ++ this ∷ [])) (number + 1) lines ≡ Ok end → AllSaid (before ++ this ∷ []) (numbered (number + 1) lines) end)
        → AllSaid before (numbered number (line ∷ lines)) end
    from (Ok next) read go =
        let none = one_accepted before number line next read in
        let this_read = accepted_one before number line none in
        let rest = sym (goes_on (said_by before) (said_by (before ++ this ∷ [])) number line lines this_read lines) ∙ e in
        let h = go (one_count_more before number line none few) rest in
        let joined = append_snoc before this (numbered (number + 1) lines) in
        record {
          accepted = one_more_accepted before this (numbered (number + 1) lines) none h.accepted;
          said = h.said ∙ ap said_by joined;
          few = subst (λ ls. length (counts_said ls) ≤ 1) joined h.few;
        }
    from (Err cause) read go = absurd (let refused = refused_at (said_by before) number line lines cause read in cc)

all_accepted : (lines : List (List ℕ)) (before : List Line) (number : ℕ) → AreAccepted before (numbered number lines)
    → after_lines (said_by before) number lines ≡ Ok (said_by (before ++ numbered number lines))
all_accepted [] before number all = no_more (said_by before) number ∙ ap (λ ls. Ok (said_by ls)) (sym (append-nil before))
all_accepted (line ∷ lines) before number all =
    let this : Line = line_at number line in
    let rest = numbered (number + 1) lines in
    let read = accepted_one before number line (first_accepted before this rest all) in
    goes_on (said_by before) (said_by (before ++ this ∷ [])) number line lines read lines
    ∙ all_accepted lines (before ++ this ∷ []) (number + 1) (later_accepted before this rest all)
    ∙ ap (λ ls. Ok (said_by ls)) (append_snoc before this rest)

-- how many workers there are, by one count at most
counted : (counts : List ℕ) (workers : ℕ) → length counts ≤ 1 → workers ≡ unwrap_or (slice_get counts 0) 1 → (counts ≡ [] × workers ≡ 1) ⊎ (counts ≡ workers ∷ [])
counted [] workers few is = inl (refl, is)
counted (count ∷ []) workers few is = inr (ap (λ n. n ∷ []) (sym is))
counted (count ∷ next ∷ counts) workers few is = absurd (omega arith)

count_is : (counts : List ℕ) (workers : ℕ) → (counts ≡ [] × workers ≡ 1) ⊎ (counts ≡ workers ∷ []) → unwrap_or (slice_get counts 0) 1 ≡ workers
count_is counts workers (inl none) = rw none.0 (sym none.1)
count_is counts workers (inr one) = rw one refl

pub is_script : (text : List ℕ) (s : Script) → script_of text ≡ Ok s → IsScript text s
unfolding script_of
is_script text s e = from (after_lines nothing_said 1 (lines_of text)) refl e
  where
    from : (o : Result Said ScriptRefusal) → after_lines nothing_said 1 (lines_of text) ≡ o → script_from o ≡ Ok s → IsScript text s
    from (Ok said) is e =
        let h = all_said (lines_of text) [] 1 said (lit≤ tt) is in
        let same : script_said said ≡ s = cc in
        let all : s ≡ script_said (said_by (numbered_lines text)) = sym same ∙ ap script_said h.said in
        let loads : s.loads ≡ loads_said (numbered_lines text) = ap (λ (t : Script). t.loads) all in
        record {
          accepted = h.accepted;
          workers = counted (counts_said (numbered_lines text)) s.workers h.few (ap (λ (t : Script). t.workers) all);
          loads = loads;
          steps = ap (λ (t : Script). t.steps) all ∙ ap (λ ls. steps_said ls (numbered_lines text)) (sym loads);
        }
    from (Err refusal) is e = absurd cc

same_script : (v w : ℕ) (l m : List Load) (s t : List Step) → v ≡ w → l ≡ m → s ≡ t
    → ◌≡◌ {A = Script} (record { workers = v; loads = l; steps = s }) (record { workers = w; loads = m; steps = t })
same_script v w l m s t a b c = cc

pub script_is : (text : List ℕ) (s : Script) → IsScript text s → script_of text ≡ Ok s
script_is text s h =
    let lines = numbered_lines text in
    script_read text (said_by lines) (all_accepted (lines_of text) [] 1 h.accepted)
    ∙ ap Ok (same_script _ s.workers _ s.loads _ s.steps (count_is (counts_said lines) s.workers h.workers) (sym h.loads) (sym (h.steps ∙ ap (λ ls. steps_said ls lines) h.loads)))
