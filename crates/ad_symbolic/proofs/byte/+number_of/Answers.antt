use Rattle.std.proofs.Common.{◌<◌, length, arith}
use Rattle.ad_symbolic.proofs.Bytes.{small}
use Rattle.ad_symbolic.proofs.byte.+number_of.Goals as goal

pub overflow_mul-result : goal.overflow_mul-result
overflow_mul-result t c =
    let few : length c.in-Some.more.now < 8 = omega (arith, c.requires, c.in-Some.ensures.cases) in
    let below = small (length c.in-Some.more.now) c.in_ok-number_of-in-Number.field-0 few c.in_ok-number_of-in-Number.ensures.fits in
    omega (arith, below)

pub overflow_add-result : goal.overflow_add-result
overflow_add-result t c =
    let few : length c.in-Some.more.now < 8 = omega (arith, c.requires, c.in-Some.ensures.cases) in
    let below = small (length c.in-Some.more.now) c.in_ok-number_of-in-Number.field-0 few c.in_ok-number_of-in-Number.ensures.fits in
    omega (arith, below, c.from.ensures)
