use Rattle.std.proofs.Common.{◌≡◌, inl, inr, ap, length, arith}
use Rattle.ad_elf.proofs.Below.{first-zero}
use Rattle.ad_parts.proofs.Fitted.{law_order}
use Rattle.ad_tables.proofs.Rows.{entry_at, handed_on, lists_of-none, refused_at_once, refused_over, refused_unresolved, upto_all, upto_more}
use Rattle.ad_tables.proofs.table_set.tables.Goals as goal

pub returns-in-None-clause-refused : goal.returns-in-None-clause-refused
returns-in-None-clause-refused c = inr (refused_at_once c.args.object.now c.args.layout.now c.in-None.ensures.none)

pub loop-k-init : goal.loop-k-init
loop-k-init c = record {
  same = c.as_slice-relas.ensures;
  upto = record {
    lists = lists_of-none c.args.object.now c.args.layout.now c.in-Some.lists c.in-Some.ensures.words c.in-Some.ensures.local c.in-Some.ensures.fixed;
    fits = c.in-Some.ensures.fits;
    none = first-zero _;
  };
}

pub need_of-requires : goal.need_of-requires
need_of-requires c = law_order c.args.object.now c.args.layout.now c.requires.range c.requires.laid

pub returns-in_err-need-clause-refused : goal.returns-in_err-need-clause-refused
returns-in_err-need-clause-refused c =
    let e = entry_at c.args.object.now c.as_slice-relas.result.now c.loop-k.k _ c.loop-k.invariant.same c.loop-k-test.true in
    rw (handed_on c.from_residual.result c.in_err-need.field-0.0 c.from_residual.ensures.1)
    (elim c.in_err-need.ensures.refused [
      | inl memory ↦ inl memory
      | inr row ↦ inr (refused_unresolved c.args.object.now c.args.layout.now c.loop-k.k c.loop-k.lists _ c.in_err-need.field-0.0 e c.loop-k.invariant.upto row)
    ])

pub returns-in_err-put-clause-refused : goal.returns-in_err-put-clause-refused
returns-in_err-put-clause-refused c =
    let e = entry_at c.args.object.now c.as_slice-relas.result.now c.loop-k.k _ c.loop-k.invariant.same c.loop-k-test.true in
    rw (handed_on c.from_residual-in_err-put.result c.in_err-put.field-0.0 c.from_residual-in_err-put.ensures.1)
    (elim c.in_err-put.ensures.refused [
      | inl memory ↦ inl memory
      | inr row ↦ inr (refused_over c.args.object.now c.args.layout.now c.loop-k.k c.loop-k.lists _ c.in_ok-need.need c.in_err-put.field-0.0 e c.loop-k.invariant.upto c.in_ok-need.ensures.fine c.in_ok-need.ensures.need row)
    ])

pub loop-k-preserved : goal.loop-k-preserved
loop-k-preserved c =
    let e = entry_at c.args.object.now c.as_slice-relas.result.now c.loop-k.k _ c.loop-k.invariant.same c.loop-k-test.true in
    record {
      same = c.loop-k.invariant.same;
      upto = upto_more c.args.object.now c.args.layout.now c.loop-k.k c.loop-k.lists c.put.new.self _ c.in_ok-need.need e c.loop-k.invariant.upto c.in_ok-need.ensures.fine c.in_ok-need.ensures.need c.in_ok-put.ensures.lists c.in_ok-put.ensures.fits;
    }

pub returns-clause-tables : goal.returns-clause-tables
returns-clause-tables c =
    let ends : c.loop-k.k ≡ length c.args.object.now.relas = omega (arith, c.loop-k.auto.k-end, c.loop-k-test.false, ap length c.loop-k.invariant.same) in
    upto_all c.args.object.now c.args.layout.now c.loop-k.k c.loop-k.lists _ c.loop-k.invariant.upto ends c.into_symbols.ensures c.into_symbols-2.ensures
