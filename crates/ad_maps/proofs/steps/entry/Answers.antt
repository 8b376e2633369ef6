use Rattle.std.proofs.Common.{◌≡◌, ℕ, ◌+◌, ◌*◌, ◌<◌, arith, ap, ◌∙◌}
use Rattle.ad_base.specs.Place.{base_of}
use Rattle.ad_maps.specs.MapPlace.{cell_word, cells_of}
use Rattle.ad_maps.specs.Private.Handles.{module_in, stance_of}
use Rattle.ad_maps.proofs.Allowed.{allows_entry, pinned_is, stands}
use Rattle.ad_maps.proofs.steps.entry.Goals as goal

pub load-requires : goal.load-requires
load-requires g c =
    let few : c.args.place.now.frame < 128 = c.requires.frame in
    let low : c.args.entry < 512 = c.requires.in_range in
    let is : c.from.result ≡ c.args.place.now.frame = c.from.ensures in
    (c.requires.at.same, stands (65688 + (512 * c.from.result + c.args.entry)) c.requires.at (omega arith), allows_entry _ _ _ _ _ c.args.slot c.args.place.now c.args.entry _ _ _ c.requires.noted.0 c.requires.noted.1 (ap (λ (k : ℕ). 65688 + (512 * k + c.args.entry)) is) c.requires.pinned low)

pub returns-clause-word : goal.returns-clause-word
returns-clause-word g c = c.load.ensures.2.word _ (pinned_is c.args.seat.now.me c.args.slot c.args.place.now c.requires.pinned)
    ∙ (λ i. cell_word (cells_of (c.requires.noted.0 i) (module_in (stance_of c.args.seat.now.me.0))) (base_of c.args.place.now) (c.requires.noted.1 i))
