use Rattle.ad_elf.proofs.Below.{first-zero}
use Rattle.ad_parts.proofs.Repeated.{HasNames-more, HasNames-none, repeated_here, repeated_later}
use Rattle.ad_parts.proofs.exports.first_repeated.Goals as goal

pub loop-k-init : goal.loop-k-init
loop-k-init c = record { names = HasNames-none c.new-names.result c.new-names.ensures.empty; none = first-zero _ }

pub returns-then-not-branch-clause-value : goal.returns-then-not-branch-clause-value
returns-then-not-branch-clause-value c = repeated_here c.args.exports.now c.loop-k.k c.index-exports-k.result c.bytes.result c.loop-k.names c.in_ok-insert.field-0 c.loop-k-test.true c.bytes.ensures c.in_ok-insert.ensures.added c.if-not-branch.true c.loop-k.invariant.names c.loop-k.invariant.none

pub loop-k-preserved : goal.loop-k-preserved
loop-k-preserved c = record {
  names = HasNames-more c.args.exports.now c.loop-k.k c.index-exports-k.result c.bytes.result c.loop-k.names c.insert.new.self c.loop-k-test.true c.bytes.ensures c.in_ok-insert.ensures.updates c.loop-k.invariant.names;
  none = repeated_later c.args.exports.now c.loop-k.k c.index-exports-k.result c.bytes.result c.loop-k.names c.in_ok-insert.field-0 c.loop-k-test.true c.bytes.ensures c.in_ok-insert.ensures.added c.if-not-branch.false c.loop-k.invariant.names c.loop-k.invariant.none;
}
