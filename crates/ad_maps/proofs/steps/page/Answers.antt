use Rattle.std.proofs.Common.{ℕ, ◌+◌, ◌/◌, ◌<◌, arith, ap, sym, ◌∙◌}
use Rattle.ad_maps.proofs.Allowed.{allows_page, pinned_is, stands}
use Rattle.ad_maps.proofs.steps.page.Goals as goal

pub load-requires : goal.load-requires
load-requires g c =
    let low : c.args.va / 262144 < 65536 = c.requires.in_use in
    (c.requires.at.same, stands (24 + c.args.va / 262144) c.requires.at (omega arith), allows_page _ _ _ _ _ c.args.slot c.args.place.now c.args.va _ c.requires.noted c.requires.pinned low)

pub returns-clause-own : goal.returns-clause-own
returns-clause-own g c e = c.load.ensures.2.own _ (pinned_is c.args.seat.now.me c.args.slot c.args.place.now c.requires.pinned) (ap (λ (v : ℕ). v / 262144) c.requires.noted ∙ e)

pub returns-clause-other : goal.returns-clause-other
returns-clause-other g c apart = c.load.ensures.2.other _ (pinned_is c.args.seat.now.me c.args.slot c.args.place.now c.requires.pinned) (λ e. apart (sym (ap (λ (v : ℕ). v / 262144) c.requires.noted) ∙ e))
