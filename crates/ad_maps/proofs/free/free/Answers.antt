use Rattle.std.proofs.Common.{◌∙◌, subst, refl}
use Rattle.ad_maps.specs.Steps.{freeing_from, next_member}
use Rattle.ad_maps.specs.Private.Handles.{IsToFree}
use Rattle.ad_maps.proofs.Freed.{frees-none, frees-more, frees-left, from-low}
use Rattle.ad_maps.proofs.free.free.Goals as goal

pub loop-member-init : goal.loop-member-init
loop-member-init c = record { at = refl; frees = frees-none c.args.seat.now.me c.args.batch 0 c.requires.frees }

pub free_member-requires-clause-frees : goal.free_member-requires-clause-frees
free_member-requires-clause-frees c = subst (IsToFree c.loop-member.seat.me) (from-low c.args.batch c.loop-member.member c.loop-member-test.true) (frees-left c.args.seat.now.me c.args.batch 0 _ c.loop-member.seat.me c.requires.frees c.loop-member.invariant.frees)

pub loop-member-preserved : goal.loop-member-preserved
loop-member-preserved c = record {
  at = c.free_member.ensures.at ∙ c.loop-member.invariant.at;
  frees = frees-more c.args.seat.now.me.0 (freeing_from c.args.batch c.loop-member.member) (next_member c.args.batch c.loop-member.member) c.loop-member.seat.me c.free_member.new.seat.me c.loop-member.invariant.frees c.free_member.ensures.freed;
}
