-- The words of places, and the frames of modules.
use Rattle.std.proofs.Common.{◌≡◌, ◌↔◌, ℕ, ◌*◌, ◌/◌, ◌^◌, ◌<◌, sym, ap, ◌∙◌, arith}
use Rattle.std.proofs.Math.Nat.{div-lt_iff_lt-mul}
use Rattle.ad_base.specs.declared.place.Place.{Place}
use Rattle.ad_base.specs.Place.{packed, IsPlace, place_at}
use Rattle.ad_maps.specs.declared.shape.Shape.{Shape}
use Rattle.ad_maps.specs.MapPlace.{IsPlaceOf, IsShape}
use Rattle.ad_base.proofs.Packing.{place_at-packed}

-- places with one word are one place
pub one_place : (p q : Place) → IsPlace p → IsPlace q → packed p ≡ packed q → p ≡ q
one_place p q hp hq e = sym (place_at-packed p hp) ∙ (ap place_at e ∙ place_at-packed q hq)

pub packed-small : (p : Place) → IsPlace p → packed p < 2 ^ 56
packed-small p h = let a = h.page_behind in let b = h.frame_to in let c = h.mapping_to in let d = h.region_to in omega arith

-- the frame of a mapping is one of the table's
pub frame-few : (shape : Shape) (m : ℕ) (p : Place) → IsShape shape → IsPlaceOf shape m p → p.frame < 128
frame-few shape m p h of =
    let some_frames = h.some_frames in
    let few_frames = h.few_frames in
    let few_modules = h.few_modules in
    let for_module = of.for_module in
    let frame = of.frame in
    let low : p.frame / shape.frames < 8 = omega arith in
    let positive : 0 < shape.frames = omega arith in
    let below : p.frame < 8 * shape.frames = (let both : (p.frame / shape.frames < 8) ↔ (p.frame < 8 * shape.frames) = div-lt_iff_lt-mul positive in both.0 low) in
    omega arith

pub region-few : (shape : Shape) (m : ℕ) (p : Place) → IsPlaceOf shape m p → p.region < 65536
region-few shape m p of = let a = of.place.place.region_to in omega arith
