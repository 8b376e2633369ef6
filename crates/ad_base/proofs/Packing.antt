-- The word that a place packs into.
use Rattle.std.proofs.Common.{◌≡◌, ◌≢◌, ◌/◌, ◌%◌, ◌^◌, arith}
use Rattle.ad_base.specs.declared.place.Place.{Place}
use Rattle.ad_base.specs.Place.{packed, place_at, IsPlace}

-- a place's word says the place
pub place_at-packed : (p : Place) → IsPlace p → place_at (packed p) ≡ p
unfolding place_at
place_at-packed p h =
    let behind = h.page_behind in
    let region : packed p % 2 ^ 16 ≡ p.region = omega arith in
    let start : packed p / 2 ^ 16 % 2 ^ 10 ≡ p.start = omega arith in
    let pages : packed p / 2 ^ 26 % 2 ^ 10 ≡ p.pages = omega arith in
    let mapping : packed p / 2 ^ 36 % 2 ^ 12 ≡ p.mapping = omega arith in
    let frame : packed p / 2 ^ 48 % 2 ^ 8 ≡ p.frame = omega arith in
    λ i. record { region = region i; start = start i; pages = pages i; mapping = mapping i; frame = frame i }

-- a place's word is not 0
pub packed-some : (p : Place) → IsPlace p → packed p ≢ 0
packed-some p h = λ e. let m = h.mapping_from in omega arith
