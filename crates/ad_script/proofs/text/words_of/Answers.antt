use Rattle.std.proofs.Common.{◌≡◌, ◌<◌, ◌∙◌, ◌++◌, ◌==◌, [], sym, ap, subst, length, append-nil, arith, tests, true, false}
use Rattle.std.proofs.lemmas.List.{nil_from_length}
use Rattle.ad_script.specs.Lines.{is_comment, words_of}
use Rattle.ad_script.specs.Private.Seen.{texts}
use Rattle.ad_script.proofs.Words.{no_words, push_word, words_comment, words_empty, words_first}
use Rattle.ad_script.proofs.text.words_of.Goals as goal

pub returns-then-is_comment : goal.returns-then-is_comment
returns-then-is_comment c =
    let none = words_comment c.loop-rest.rest.now (ap is_comment (sym c.cut_word.ensures.before) ∙ sym c.is_comment.ensures ∙ c.if-is_comment.true) in
    sym (append-nil (texts c.loop-rest.words.items)) ∙ ap (λ ws. texts c.loop-rest.words.items ++ ws) (sym none) ∙ c.loop-rest.invariant

pub loop-rest-preserved-in_ok-push : goal.loop-rest-preserved-in_ok-push
loop-rest-preserved-in_ok-push c =
    let plain = ap is_comment (sym c.cut_word.ensures.before) ∙ sym c.is_comment.ensures ∙ c.if-is_comment.false in
    let nonzero : (length c.cut_word.result.before.now == 0) ≡ false = sym c.is_empty-in-loop-rest.ensures ∙ c.if-not-is_empty.true in
    let some : 0 < length c.cut_word.result.before.now = grind (arith, tests) in
    let first = words_first c.loop-rest.rest.now plain (subst (λ word. 0 < length word) c.cut_word.ensures.before some) in
    rw c.in_ok-push.ensures.items (push_word c.loop-rest.words.items c.cut_word.result.before c.loop-rest.rest.now c.cut_word.result.after.now c.args.text.now c.loop-rest.invariant (rw (c.cut_word.ensures.before, c.cut_word.ensures.after) first))

pub loop-rest-preserved : goal.loop-rest-preserved
loop-rest-preserved c =
    let zero : (length c.cut_word.result.before.now == 0) ≡ true = sym c.is_empty-in-loop-rest.ensures ∙ c.if-not-is_empty.false in
    let none : length c.cut_word.result.before.now ≡ 0 = grind (arith, tests) in
    let later = words_empty c.loop-rest.rest.now (ap length (sym c.cut_word.ensures.before) ∙ none) in
    rw c.cut_word.ensures.after (ap (λ ws. texts c.loop-rest.words.items ++ ws) (sym later) ∙ c.loop-rest.invariant)

pub returns : goal.returns
returns c =
    let zero : (length c.loop-rest.rest.now == 0) ≡ true = sym c.is_empty.ensures ∙ c.loop-rest-test.false in
    let none : c.loop-rest.rest.now ≡ [] = nil_from_length c.loop-rest.rest.now (grind (arith, tests)) in
    sym (append-nil (texts c.loop-rest.words.items)) ∙ ap (λ ws. texts c.loop-rest.words.items ++ ws) (sym (ap words_of none ∙ no_words)) ∙ c.loop-rest.invariant
