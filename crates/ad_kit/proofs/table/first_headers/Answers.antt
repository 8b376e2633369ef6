use Rattle.std.proofs.Common.{ap, ◌∙◌}
use Rattle.std.proofs.lemmas.List.{take_all}
use Rattle.ad_kit.specs.ObjectFile.{number}
use Rattle.ad_kit.specs.ReadBack.{no_section}
use Rattle.ad_kit.proofs.Numbers.{count_more, headers_all, headers_more, small_more}
use Rattle.ad_kit.proofs.table.first_headers.Goals as goal

pub loop-k-preserved : goal.loop-k-preserved
loop-k-preserved c =
    let ss = c.args.sections.now in
    let k = c.loop-k.k in
    let old = c.loop-k.headers.items in
    let pushed = c.in_ok-push_headers.ensures no_section in
    record {
      rest = headers_more ss k no_section old _ _ c.loop-k-test.true pushed c.loop-k.invariant.rest;
      count = count_more ss k no_section old _ c.loop-k-test.true pushed c.loop-k.invariant.count;
      small = small_more ss k no_section old _ pushed c.loop-k.invariant.small;
    }

pub returns-clause-headers : goal.returns-clause-headers
returns-clause-headers c = headers_all c.args.sections.now c.loop-k.k _ _ c.loop-k-test.false c.loop-k.invariant.rest

pub returns-clause-count : goal.returns-clause-count
returns-clause-count c = c.loop-k.invariant.count ∙ ap number (take_all c.loop-k.k c.args.sections.now c.loop-k-test.false)
