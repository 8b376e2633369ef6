use Rattle.std.proofs.Common.{◌≡◌, ◌∙◌, ◌==◌, sym, ap, inl, inr, ⊎_elim, length, arith, tests, true}
use Rattle.std.proofs.lemmas.List.{nil_from_length}
use Rattle.ad_script.specs.Lines.{lines_of}
use Rattle.ad_script.specs.Private.Seen.{said_seen}
use Rattle.ad_script.specs.Script.{after_lines}
use Rattle.ad_script.proofs.Reading.{no_more, script_read, script_refused, stops_at, went_on}
use Rattle.ad_script.proofs.Words.{lines_cut, no_lines}
use Rattle.ad_script.proofs.read.read_script.Goals as goal

pub loop-rest-preserved : goal.loop-rest-preserved
loop-rest-preserved c =
    let said = said_seen c.loop-rest.reading in
    let first = lines_cut c.loop-rest.rest.now c.cut_line-cut.result.before.now c.cut_line-cut.result.after.now (sym c.is_empty.ensures ∙ c.loop-rest-test.true) c.cut_line-cut.ensures.before c.cut_line-cut.ensures.after in
    let step = went_on said (said_seen c.read_line.new.self) c.loop-rest.number c.cut_line-cut.result.before.now (lines_of c.cut_line-cut.result.after.now) c.in-Ok.field-0 c.in-Ok.ensures.line in
    (sym step ∙ ap (after_lines said c.loop-rest.number) (sym first) ∙ c.loop-rest.invariant.0, omega (arith, c.in-Ok.ensures.few))

pub returns-in-Err-clause-refusal : goal.returns-in-Err-clause-refusal
returns-in-Err-clause-refusal c =
    let said = said_seen c.loop-rest.reading in
    let first = lines_cut c.loop-rest.rest.now c.cut_line-cut.result.before.now c.cut_line-cut.result.after.now (sym c.is_empty.ensures ∙ c.loop-rest-test.true) c.cut_line-cut.ensures.before c.cut_line-cut.ensures.after in
    let stops = stops_at (said_seen c.read_line.new.self) said c.loop-rest.number c.cut_line-cut.result.before.now (lines_of c.cut_line-cut.result.after.now) c.in-Err.fault c.in-Err.ensures.line in
    rw c.at.ensures (⊎_elim (λ refused. inl (script_refused c.args.bytes.now _ (sym c.loop-rest.invariant.0 ∙ ap (after_lines said c.loop-rest.number) first ∙ refused))) (λ wanting. inr wanting) stops)

pub returns-clause-script : goal.returns-clause-script
returns-clause-script c =
    let said = said_seen c.loop-rest.reading in
    let zero : (length c.loop-rest.rest.now == 0) ≡ true = sym c.is_empty.ensures ∙ c.loop-rest-test.false in
    let none = nil_from_length c.loop-rest.rest.now (grind (arith, tests)) in
    rw c.into_script.ensures (script_read c.args.bytes.now said (sym c.loop-rest.invariant.0 ∙ ap (λ rest. after_lines said c.loop-rest.number (lines_of rest)) none ∙ ap (after_lines said c.loop-rest.number) no_lines ∙ no_more said c.loop-rest.number))
