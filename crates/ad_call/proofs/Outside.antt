-- An address that is in none of the places of a call is in none of its segments.
use Rattle.std.proofs.Common.{◌≡◌, ℕ, ◌+◌, ◌-◌, ◌*◌, ◌<◌, List, length, None, Option, refl, subst, ap, sym, ◌∙◌, arith}
use Rattle.std.specs.Prelude.{◌&&◌, nat_le, nat_lt}
use Rattle.std.proofs.lemmas.Bool.{cond_both}
use Rattle.std.proofs.lemmas.Bool.Decides.{nat_tests}
use Rattle.ad_base.specs.declared.image.Image.{Image}
use Rattle.ad_base.specs.declared.layout.TheConstants.{PAGE_BYTES, STACK_PAGES}
use Rattle.ad_base.specs.declared.place.Place.{Place}
use Rattle.ad_base.specs.declared.role.Role.{Role}
use Rattle.ad_base.specs.Image.{IsWhole, movable_pages}
use Rattle.ad_base.specs.Layout.{fixed_roles, movable_roles, size_of, stack_roles}
use Rattle.ad_base.specs.Place.{IsInside, base_of}
use Rattle.ad_base.specs.Segments.{holding}
use Rattle.ad_core.specs.Image.{bytes_under, segments_of}
use Rattle.ad_call.specs.declared.spot.Spot.{Spot}
use Rattle.ad_call.specs.Call.{HasData}
use Rattle.ad_call.specs.Private.Spots.{IsHeld, spot_at, spot_from, spot_in}
use Rattle.ad_call.proofs.Spotted.{spotted}

-- in the pieces of a part that doesn't hold the address no byte is it
spot-outside : (p : Place) (at bytes : ℕ) (size : Role → ℕ) (roles : List Role) (otherwise : Option Spot) → (IsInside p at → ⊥) → bytes ≡ p.pages * PAGE_BYTES → spot_from (base_of p) bytes size roles at otherwise ≡ otherwise
spot-outside p at bytes size roles otherwise none is =
    cond_both (nat_le (base_of p) at && nat_lt at (base_of p + bytes)) (spot_in size roles (at - base_of p)) otherwise (λ x. x ≡ otherwise)
    (λ e. absurd (none (record { from = grind (arith, nat_tests); to = (let to : at < base_of p + bytes = grind (arith, nat_tests) in omega (arith, to, is)) })))
    (λ e. refl)

module _ (i : Image) (under stack : Place) (at : ℕ) (stack_bytes fixed writable : List ℕ) (whole : IsWhole i) (long : length stack_bytes ≡ STACK_PAGES * PAGE_BYTES) (reaches : HasData i writable fixed) where
  -- no segment holds an address outside the stack and the two parts
  pub nothing-outside : under.pages ≡ movable_pages i → stack.pages ≡ STACK_PAGES → (IsInside stack at → ⊥) → (IsInside i.fixed at → ⊥) → (IsInside under at → ⊥)
      → holding (segments_of i under stack stack_bytes fixed writable) at ≡ None
  nothing-outside pages stack_pages off_stack off_fixed off_movable =
      let size = size_of i in
      let movable = spot_from (base_of under) (movable_pages i * PAGE_BYTES) size movable_roles at None in
      let parts = spot_from (base_of i.fixed) (i.fixed.pages * PAGE_BYTES) size fixed_roles at movable in
      let none : spot_at i under stack at ≡ None =
      spot-outside stack at (STACK_PAGES * PAGE_BYTES) size stack_roles parts off_stack (ap (λ n. n * PAGE_BYTES) (sym stack_pages))
      ∙ spot-outside i.fixed at (i.fixed.pages * PAGE_BYTES) size fixed_roles movable off_fixed refl
      ∙ spot-outside under at (movable_pages i * PAGE_BYTES) size movable_roles None off_movable (ap (λ n. n * PAGE_BYTES) (sym pages)) in
      subst (IsHeld (segments_of i under stack stack_bytes fixed writable) (bytes_under i under stack_bytes fixed writable) at) none (spotted i under stack at stack_bytes fixed writable whole long reaches)
