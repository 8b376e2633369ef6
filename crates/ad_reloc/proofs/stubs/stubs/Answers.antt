use Rattle.std.proofs.Common.{length, ap, ap₂, ◌+◌, ◌*◌, ◌-◌, ◌∙◌, arith}
use Rattle.ad_reloc.proofs.Stubbed.{near, no_stubs, one_stub}
use Rattle.ad_reloc.specs.Image.{stubs}
use Rattle.ad_reloc.proofs.stubs.stubs.Goals as goal

pub loop-e-init : goal.loop-e-init
loop-e-init c = record {
  table = c.table_from-table.ensures.value;
  first = c.stubs_from-first.ensures.value;
  long = ap length c.new-out.ensures.items;
  made = no_stubs c.args.layout.now c.args.movable c.new-out.result.items c.new-out.ensures.items;
}

pub put_stub-requires : goal.put_stub-requires
put_stub-requires c = near c.args.layout.now.sizes c.requires.small c.args.movable c.loop-e.e _ _ c.table_from-table.ensures.value c.stubs_from-first.ensures.value

pub loop-e-preserved : goal.loop-e-preserved
loop-e-preserved c = record {
  table = c.loop-e.invariant.table;
  first = c.loop-e.invariant.first;
  long = omega (arith, c.loop-e.invariant.long, c.in_ok-put_stub.ensures.long);
  made = one_stub c.args.layout.now c.args.movable c.loop-e.e c.loop-e.out.items c.put_stub.new.out.items _ c.loop-e.invariant.made c.in_ok-put_stub.ensures.stub
      (ap₂ (λ t f. t + 8 * c.loop-e.e - (f + 16 * c.loop-e.e)) c.table_from-table.ensures.value c.stubs_from-first.ensures.value);
}

pub returns-clause-long : goal.returns-clause-long
returns-clause-long c = omega (arith, c.loop-e.invariant.long, c.loop-e.auto.e-end, c.loop-e-test.false)

pub returns-clause-stubs : goal.returns-clause-stubs
returns-clause-stubs c = c.loop-e.invariant.made ∙ ap (stubs c.args.layout.now c.args.movable) (omega (arith, c.loop-e.auto.e-end, c.loop-e-test.false))
