-- A text is refused at its first bad line.
use Rattle.std.proofs.Common.{◌≡◌, ℕ, ◌+◌, ◌-◌, ◌<◌, List, [], ◌∷◌, length, take, get_or, Result, Ok, Err, refl, sym, ap, subst, ◌∙◌, arith, suc, zero}
use Rattle.ad_script.specs.declared.refusal.Cause.{Cause}
use Rattle.ad_script.specs.declared.refusal.ScriptRefusal.{ScriptRefusal}
use Rattle.ad_script.specs.declared.refusal.ScriptRefusal.TheVariants.{At}
use Rattle.ad_script.specs.Laws.{IsFirstBadLine}
use Rattle.ad_script.specs.Lines.{lines_of}
use Rattle.ad_script.specs.Script.{Said, after_line, after_lines, nothing_said, script_from, script_of}
use Rattle.ad_script.proofs.Reading.{no_more, refused_at, script_refused}

-- so many lines are read, and the one behind them is refused
pub record Stops (said : Said) (number : ℕ) (lines : List (List ℕ)) (line : ℕ) (cause : Cause) : Type 0 where
  pub k : ℕ
  pub at : line ≡ number + k
  pub within : k < length lines
  pub end : Said
  pub before : after_lines said number (take k lines) ≡ Ok end
  pub refused : after_line end line (get_or lines k []) ≡ Err cause

-- one line more before
module _ (said next : Said) (number : ℕ) (first : List ℕ) (lines : List (List ℕ)) (read : after_line said number first ≡ Ok next) where
  pub goes_on : (rest : List (List ℕ)) → after_lines said number (first ∷ rest) ≡ after_lines next (number + 1) rest
  unfolding after_lines
  goes_on rest = rw (after_lines, read) refl

  later : (line : ℕ) (cause : Cause) → Stops next (number + 1) lines line cause → Stops said number (first ∷ lines) line cause
  later line cause h = record {
    k = suc h.k;
    at = omega (arith, h.at);
    within = omega (arith, h.within);
    end = h.end;
    before = goes_on (take h.k lines) ∙ h.before;
    refused = h.refused;
  }

stops : (said : Said) (number : ℕ) (lines : List (List ℕ)) (line : ℕ) (cause : Cause) → after_lines said number lines ≡ Err (At line cause) → Stops said number lines line cause
unfolding after_lines
stops said number [] line cause e = absurd cc
stops said number (first ∷ lines) line cause e = from (after_line said number first) refl (λ next. stops next (number + 1) lines line cause)
  where
    from : (o : Result Said Cause) → after_line said number first ≡ o → ((next : Said) → after_lines next (number + 1) lines ≡ Err (At line cause) → Stops next (number + 1) lines line cause)
        → Stops said number (first ∷ lines) line cause
    from (Ok next) read go = later said next number first lines read line cause (go next (sym (goes_on said next number first lines read lines) ∙ e))
    from (Err other) read go =
        let same : Err (At number other) ≡ Err (At line cause) = sym (refused_at said number first lines other read) ∙ e in
        let line_same : number ≡ line = cc in
        let cause_same : other ≡ cause = cc in
        record {
          k = 0;
          at = omega (arith, line_same);
          within = omega arith;
          end = said;
          before = refl;
          refused = subst (λ n. after_line said n first ≡ Err cause) line_same (read ∙ ap Err cause_same);
        }

stopped : (said : Said) (number : ℕ) (lines : List (List ℕ)) (line : ℕ) (cause : Cause) (k : ℕ) (end : Said) → line ≡ number + k → k < length lines
    → after_lines said number (take k lines) ≡ Ok end → after_line end line (get_or lines k []) ≡ Err cause → after_lines said number lines ≡ Err (At line cause)
stopped said number [] line cause k end at within before refused = absurd (omega arith)
stopped said number (first ∷ lines) line cause zero end at within before refused =
    let ends : ◌≡◌ {A = Result Said ScriptRefusal} (Ok said) (Ok end) = sym (no_more said number) ∙ before in
    let said_same : said ≡ end = cc in
    let line_same : line ≡ number = omega (arith, at) in
    let this : after_line said number first ≡ Err cause = subst (λ s. after_line s number first ≡ Err cause) (sym said_same) (subst (λ n. after_line end n first ≡ Err cause) line_same refused) in
    refused_at said number first lines cause this ∙ ap (λ n. Err (At n cause)) (sym line_same)
stopped said number (first ∷ lines) line cause (suc k) end at within before refused =
    from (after_line said number first) refl (λ next more. stopped next (number + 1) lines line cause k end (omega (arith, at)) (omega (arith, within)) more refused)
  where
    from : (o : Result Said Cause) → after_line said number first ≡ o → ((next : Said) → after_lines next (number + 1) (take k lines) ≡ Ok end → after_lines next (number + 1) lines ≡ Err (At line cause))
        → after_lines said number (first ∷ lines) ≡ Err (At line cause)
    from (Ok next) read go = goes_on said next number first lines read lines ∙ go next (sym (goes_on said next number first lines read (take k lines)) ∙ before)
    from (Err other) read go = absurd (let refused_first = refused_at said number first (take k lines) other read in cc)

script_stopped : (o : Result Said ScriptRefusal) (r : ScriptRefusal) → script_from o ≡ Err r → o ≡ Err r
script_stopped (Ok said) r e = absurd cc
script_stopped (Err refusal) r e = let same : refusal ≡ r = cc in ap Err same

pub first_bad_line : (text : List ℕ) (line : ℕ) (cause : Cause) → script_of text ≡ Err (At line cause) → IsFirstBadLine text line cause
unfolding script_of
first_bad_line text line cause e =
    let h = stops nothing_said 1 (lines_of text) line cause (script_stopped (after_lines nothing_said 1 (lines_of text)) (At line cause) e) in
    let place : h.k ≡ line - 1 = omega (arith, h.at) in
    record {
      from_one = omega (arith, h.at);
      there = omega (arith, h.at, h.within);
      said = h.end;
      before = subst (λ k. after_lines nothing_said 1 (take k (lines_of text)) ≡ Ok h.end) place h.before;
      refused = subst (λ k. after_line h.end line (get_or (lines_of text) k []) ≡ Err cause) place h.refused;
    }

pub refused_there : (text : List ℕ) (line : ℕ) (cause : Cause) → IsFirstBadLine text line cause → script_of text ≡ Err (At line cause)
refused_there text line cause h =
    let k = line - 1 in
    script_refused text (At line cause) (stopped nothing_said 1 (lines_of text) line cause k h.said (omega (arith, h.from_one)) (omega (arith, h.from_one, h.there)) h.before h.refused)
