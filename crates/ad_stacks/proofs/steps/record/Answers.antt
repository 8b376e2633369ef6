use Rattle.std.proofs.Common.{◌≡◌, ◌+◌, ◌*◌, ◌^◌, ◌<◌, ℕ, arith, ap, ◌∙◌}
use Rattle.ad_base.specs.Place.{packed}
use Rattle.ad_stacks.specs.StackPlace.{record_word}
use Rattle.ad_stacks.proofs.Allowed.{allows_record, stands}
use Rattle.ad_stacks.proofs.Numbers.{number_fits}
use Rattle.ad_stacks.proofs.steps.record.Goals as goal

pub overflow_mul-word : goal.overflow_mul-word
overflow_mul-word g c = let few : c.args.given.lane < 64 = c.requires.lane in omega arith

pub overflow_add-word : goal.overflow_add-word
overflow_add-word g c =
    let few : c.args.given.lane < 64 = c.requires.lane in
    let small : c.pack.result < 2 ^ 56 = c.pack.ensures.fits c.requires.may.place.place in
    omega arith

pub store-requires : goal.store-requires
store-requires g c =
    let few = number_fits c.args.given.place c.requires.may.place in
    let is : c.from-record.result ≡ c.args.given.place.mapping = c.from-record.ensures in
    let pack : c.pack.result ≡ packed c.args.given.place = c.pack.ensures.value c.requires.may.place.place in
    let word : c.pack.result + c.args.given.lane * 281474976710656 ≡ record_word c.args.given.place c.args.given.lane 0 = ap (λ (k : ℕ). k + c.args.given.lane * 281474976710656) pack ∙ omega arith in
    (c.requires.at.same, stands (64 + c.from-record.result) c.requires.at (omega arith), allows_record _ _ _ _ c.args.given _ _ _ (ap (λ (k : ℕ). 64 + k) is) word c.requires.noted c.requires.mover c.requires.idle c.requires.may)
