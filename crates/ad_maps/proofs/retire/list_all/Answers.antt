use Rattle.std.proofs.Common.{◌∙◌, ◌<◌, arith, get_or, sym, ap, length}
use Rattle.ad_maps.specs.declared.view.Made.{Made}
use Rattle.ad_maps.specs.Private.Handles.{plan_of}
use Rattle.ad_maps.proofs.Retired.{list-more, list-out}
use Rattle.ad_maps.proofs.retire.list_all.Goals as goal

pub list-requires-clause-out : goal.list-requires-clause-out
list-requires-clause-out c =
    let low : c.loop-member.member < length c.args.outs.now.items = (let l = c.loop-member-test.true in let e = c.len-member-end.ensures in let a = c.len-member-end.auto in omega arith) in
    list-out (plan_of c.args.seat.now.me.0) c.loop-member.seat.me c.args.line c.loop-member.member c.args.outs.now.items c.behind-outs.inside.made c.loop-member.invariant.view c.requires.outs low
    (c.behind-outs.view_is ∙ (c.index.ensures ∙ ap (λ (d : Made). get_or c.args.outs.now.items c.loop-member.member d) (sym c.behind-outs.view_is)))

pub loop-member-preserved : goal.loop-member-preserved
loop-member-preserved c =
    let low : c.loop-member.member < length c.args.outs.now.items = (let l = c.loop-member-test.true in let e = c.len-member-end.ensures in let a = c.len-member-end.auto in omega arith) in record {
      at = c.list.ensures.at ∙ c.loop-member.invariant.at;
      view = list-more (plan_of c.args.seat.now.me.0) c.loop-member.seat.me c.list.new.seat.me c.args.line c.loop-member.member c.args.outs.now.items c.behind-outs.inside.made c.loop-member.invariant.view low
          (c.behind-outs.view_is ∙ (c.index.ensures ∙ ap (λ (d : Made). get_or c.args.outs.now.items c.loop-member.member d) (sym c.behind-outs.view_is))) c.list.ensures.view;
    }
