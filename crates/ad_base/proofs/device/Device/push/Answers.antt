use Rattle.std.proofs.Common.{ℕ, List, [], ◌∷◌, ◌++◌, ◌<◌, length, ap, ◌∙◌, arith, rules}
use Rattle.ad_base.proofs.Ring.{length-window, window_after_push}
use Rattle.ad_base.proofs.device.Device.push.Goals as goal

-- the write is behind the last word, since the queue has room
pub returns : goal.returns
returns c =
    let q = c.self.inside in
    let length_old = length-window 256 _ _ q.slots c.self.invariant.0 c.self.invariant.1 (search rules) in
    let same_length = ap length c.self.view_is in
    let has_room : q.len < 256 = omega arith in
    window_after_push 256 _ _ q.slots c.self.invariant.0 c.self.invariant.1 (search rules) c.args.word has_room
    ∙ ap (λ (xs : List ℕ). xs ++ c.args.word ∷ []) c.self.view_is
