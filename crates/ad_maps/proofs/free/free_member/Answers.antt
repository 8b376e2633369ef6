use Rattle.ad_maps.proofs.Freed.{member-none, member-found, member-unmapped, member-freed}
use Rattle.ad_maps.proofs.free.free_member.Goals as goal

pub returns-then-word-eq0-clause-freed : goal.returns-then-word-eq0-clause-freed
returns-then-word-eq0-clause-freed c = member-none c.args.seat.now.me _ c.args.batch c.args.member c.member-word.result c.requires.frees c.if-word-eq0.true c.member-word.ensures.view

pub unmap-found-requires-clause-found : goal.unmap-found-requires-clause-found
unmap-found-requires-clause-found c = member-found c.args.seat.now.me _ c.args.batch c.args.member c.member-word.result c.requires.frees c.if-word-eq0.false c.member-word.ensures.view

pub give-requires-clause-gives : goal.give-requires-clause-gives
give-requires-clause-gives c = member-unmapped c.member-word.new.seat.me _ c.args.batch c.args.member c.member-word.result c.unmap-found.result _ (member-found c.args.seat.now.me _ c.args.batch c.args.member c.member-word.result c.requires.frees c.if-word-eq0.false c.member-word.ensures.view) c.unmap-found.ensures.view c.place_of-place.ensures

pub returns-clause-freed : goal.returns-clause-freed
returns-clause-freed c = member-freed c.args.seat.now.me c.member-word.new.seat.me c.unmap-found.new.seat.me _ c.args.batch c.args.member c.member-word.result c.unmap-found.result c.requires.frees c.if-word-eq0.false c.member-word.ensures.view c.unmap-found.ensures.retired c.unmap-found.ensures.view c.give.ensures.view
