use Rattle.ad_words.proofs.Parsing.{of_another_task, value_parsed}
use Rattle.ad_words.specs.Private.Seen.{task_word}
use Rattle.ad_words.specs.Words.{Given}
use Rattle.ad_words.proofs.parsed.Parsed.with_option.Goals as goal

pub returns-in_err-setting : goal.returns-in_err-setting
returns-in_err-setting c =
    rw c.from_residual.ensures (of_another_task (task_word c.args.task) c.args.self (Given c.args.name.now c.args.value.now)
    (c.in_err-setting.ensures.none c.args.value.now))

pub returns : goal.returns
returns c =
    let found = c.in_ok-setting.ensures.some in
    value_parsed (task_word c.args.task) c.args.self c.args.name.now c.args.value.now c.in_ok-values.values (found.1 c.args.value.now)
    (rw found.0 c.in_ok-values.ensures)
