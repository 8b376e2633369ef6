use Rattle.std.proofs.Common.{◌≡◌, ◌+◌, ℕ, arith, ap}
use Rattle.ad_stacks.proofs.Allowed.{allows_gone, stands}
use Rattle.ad_stacks.proofs.Numbers.{number_fits}
use Rattle.ad_stacks.proofs.steps.count.Goals as goal

pub fetch_add-requires : goal.fetch_add-requires
fetch_add-requires c =
    let few = number_fits c.args.place.now c.requires.place in
    let is : c.from-record.result ≡ c.args.place.now.mapping = c.from-record.ensures in
    (c.requires.at.same, stands (64 + c.from-record.result) c.requires.at (omega arith), allows_gone _ _ _ _ c.args.place.now _ (ap (λ (k : ℕ). 64 + k) is) c.requires.owes.0 c.requires.owes.1)
