use Rattle.std.proofs.Common.{false, arith}
use Rattle.ad_place.proofs.placer.Placer.new.Goals as goal

pub invariant_of-result : goal.invariant_of-result
invariant_of-result c = (
  rw c.in_ok-with_capacity.ensures.items (record {
    words = c.generator.ensures;
    regions = omega (arith, c.in_ok-none_used.ensures.regions, c.in_ok-none_used.field-0.ok);
    index = λ region inside. c.in_ok-none_used.ensures.none region false (omega (arith, c.in_ok-none_used.ensures.regions, c.in_ok-none_used.field-0.ok));
    few = omega arith;
  }),
  omega (arith, c.in_ok-with_capacity.ensures.capacity),
)
