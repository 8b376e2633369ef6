use Rattle.std.proofs.Common.{ap, sym, length, ◌<◌, ◌∙◌, arith, rules}
use Rattle.ad_base.proofs.Ring.{length-window, window_before_pop}
use Rattle.ad_base.proofs.device.Device.pop.Goals as goal

-- the old words are the oldest slot, then the new words
pub returns : goal.returns
returns c =
    let q = c.self.inside in
    let length_old = length-window 256 _ _ q.slots c.self.invariant.0 c.self.invariant.1 (search rules) in
    let same_length = ap length c.self.view_is in
    let nonempty : 0 < q.len = omega arith in
    sym c.self.view_is ∙ window_before_pop 256 _ _ q.slots c.self.invariant.0 c.self.invariant.1 (search rules) nonempty
