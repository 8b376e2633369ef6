use Rattle.std.proofs.Common.{◌≡◌, ℕ, ◌<◌, ◌+◌, ◌*◌, arith, ap}
use Rattle.ad_maps.proofs.Allowed.{allows_list, stands}
use Rattle.ad_maps.proofs.steps.list.Goals as goal

pub store-requires : goal.store-requires
store-requires g c =
    let few : c.args.batch < 4096 = c.requires.few in
    let low : c.args.member < 8 = c.requires.in_range in
    let is : c.from.result ≡ c.args.made.place.region = c.from.ensures in (
      c.requires.at.same,
      stands (135320 + (8 * c.args.batch + c.args.member)) c.requires.at (omega arith),
      allows_list _ _ _ _ c.args.made _ c.args.line _ c.args.member _ _ c.requires.noted.0 c.requires.noted.1
          (ap (λ (r : ℕ). c.args.line * 65536 + r) is) (ap (λ (b : ℕ). 135320 + (8 * b + c.args.member)) c.requires.batch) c.requires.mover c.requires.may low c.requires.out c.requires.some_line,
    )
