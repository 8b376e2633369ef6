use Rattle.std.proofs.Common.{◌<◌, ◌∙◌, length, arith, rules}
use Rattle.std.proofs.lemmas.Grind.{common_steps}
use Rattle.ad_base.proofs.Taken.{Taken-more, Taken-some, OnErr-always}
use Rattle.ad_base.proofs.sink.write_all.Goals as goal

-- the failed write took nothing, so what was taken before it is all
pub returns-in_err-taken-clause-some : goal.returns-in_err-taken-clause-some
returns-in_err-taken-clause-some g c =
    let more : 0 < length c.loop-rest.rest.now = search rules in
    OnErr-always c.from_residual.result _ (Taken-some _ _ _ _ _ c.loop-rest.invariant.taken more c.in_err-taken.ensures.bytes)

-- the write took the first bytes of the rest
pub loop-rest-preserved : goal.loop-rest-preserved
loop-rest-preserved g c = record {
  taken = Taken-more _ _ _ _ _ _ c.in_ok-taken.taken c.loop-rest.invariant.taken c.in_ok-taken.ensures.bytes (grind (arith, common_steps));
  same = c.in_ok-taken.ensures.no_fault ∙ c.loop-rest.invariant.same;
}
