use Rattle.std.proofs.Common.{rules}
use Rattle.std.proofs.lemmas.Fn.{always_returns_same}
use Rattle.ad_parts.specs.declared.layout.Spot.{Spot}
use Rattle.ad_parts.proofs.Halved.{found_by_halving, not_found_by_halving, same_number}
use Rattle.ad_parts.proofs.position.spot_of.Goals as goal

pub returns-in-Ok-clause-value : goal.returns-in-Ok-clause-value
returns-in-Ok-clause-value c =
    found_by_halving c.args.spots.now c.args.number c.in-Ok.k _ c.requires.rise c.in-Ok.ensures.bound
    (c.in-Ok.ensures.position (λ (t : Spot). t.section) (always_returns_same _ _ _ (λ a r q h. search rules)))

pub returns-in-Ok-clause-number : goal.returns-in-Ok-clause-number
returns-in-Ok-clause-number c =
    same_number _ c.args.number (c.in-Ok.ensures.position (λ (t : Spot). t.section) (always_returns_same _ _ _ (λ a r q h. search rules)) _)

pub returns-in-Err-clause-value : goal.returns-in-Err-clause-value
returns-in-Err-clause-value c =
    not_found_by_halving c.args.spots.now c.args.number c.in-Err.field-0 c.requires.rise
    (c.in-Err.ensures.position (λ (t : Spot). t.section) (always_returns_same _ _ _ (λ a r q h. search rules)))
