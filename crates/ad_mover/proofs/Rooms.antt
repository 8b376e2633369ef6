-- The room that a look found, the place that is drawn for it, and the image of its module.
use Rattle.std.proofs.Common.{◌≡◌, ◌≢◌, ℕ, ◌+◌, ◌<◌, List, length, get_or, Option, IfSome, refl, ap, ◌∙◌, subst, arith}
use Rattle.std.specs.List.{slice_get, All, Contains}
use Rattle.std.proofs.lemmas.Option.{slice_get_read}
use Rattle.ad_base.specs.declared.place.Place.{Place}
use Rattle.ad_maps.specs.declared.shape.Shape.{Shape}
use Rattle.ad_maps.specs.declared.view.Made.{Made}
use Rattle.ad_maps.specs.Ledger.{all_made}
use Rattle.ad_mover.specs.Moves.{Moving}
use Rattle.ad_mover.specs.Seen.{HasDrawn}
use Rattle.ad_mover.proofs.Drawing.{given-apart, given-low}

-- it is above and apart from all that was made
module _ (shape : Shape) (openings : List Place) (s : Moving) (h : HasDrawn shape openings s) where
  pub above-made : (n : ℕ) → n ≡ length s.drawn.places + 1 → (x : Made) → Contains (all_made shape s.deeds) x → x.place.mapping < n
  above-made n next x there = let low = given-low s.drawn.places (length s.drawn.places) h.numbered x.place (h.mapped x there) in omega arith

  pub apart-made : (r : ℕ) → All (λ (q : Place). q.region ≢ r) s.drawn.places → (x : Made) → Contains (all_made shape s.deeds) x → x.place.region ≢ r
  apart-made r apart x there = given-apart s.drawn.places r apart x.place (h.mapped x there)

-- what is said of the image of a number, once it was read
pub at-image : {X : Type 0} (P : X → Type 0) (xs ys : List X) (i : ℕ) (x : X) → ys ≡ xs → i < length xs → x ≡ get_or ys i x → IfSome (slice_get xs i) P → P x
at-image {X = X} P xs ys i x same low is h =
    subst (λ (o : Option X). IfSome o P) (slice_get_read xs (length xs) i x refl low (is ∙ ap (λ (zs : List X). get_or zs i x) same)) h
