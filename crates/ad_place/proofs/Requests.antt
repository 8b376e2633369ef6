-- The places of a list of requests, from those that were drawn before.
use Rattle.std.proofs.Common.{◌≡◌, ◌≢◌, ℕ, zero, suc, ◌+◌, ◌≤◌, List, [], ◌∷◌, ◌++◌, length, Some, refl, sym, subst, arith, add-zero}
use Rattle.std.specs.List.{slice_get, AllPairs, All}
use Rattle.std.specs.Option.{IsSomeAnd}
use Rattle.std.proofs.lemmas.List.{length_push}
use Rattle.std.proofs.lemmas.List.Elements.{All-head, All-tail}
use Rattle.std.proofs.lemmas.List.Quantifiers.{all_pairs_push}
use Rattle.ad_base.specs.declared.layout.TheConstants.{MAPPINGS, PART_PAGES}
use Rattle.ad_base.specs.declared.ledger.Kind.{Kind}
use Rattle.ad_base.specs.declared.place.Place.{Place}
use Rattle.ad_place.specs.Choice.{drawn_from, next_place, with_next, Drawn}
use Rattle.ad_place.specs.ChoiceLaws.{IsPlaceFor}
use Rattle.ad_place.proofs.Places.{next_place_fresh, next_place_is}

-- drawing keeps the seed
pub seed-drawn_from : (d : Drawn) (requests : List (Kind × ℕ)) → (drawn_from d requests).seed ≡ d.seed
seed-drawn_from d [] = refl
seed-drawn_from d (request ∷ requests) = seed-drawn_from (with_next d request.0 request.1) requests

-- each request draws one place
pub length-drawn_from : (d : Drawn) (requests : List (Kind × ℕ)) → length (drawn_from d requests).places ≡ length d.places + length requests
length-drawn_from d [] = sym (add-zero (length d.places))
length-drawn_from d (request ∷ requests) =
    let one_more = length_push d.places (next_place d request.0 request.1) in
    omega (arith, length-drawn_from (with_next d request.0 request.1) requests)

-- an item stays where more stand behind it
slice_get-append : (xs ys : List Place) (k : ℕ) (p : Place) → slice_get xs k ≡ Some p → slice_get (xs ++ ys) k ≡ Some p
slice_get-append [] ys k p h = absurd cc
slice_get-append (x ∷ xs) ys zero p h = h
slice_get-append (x ∷ xs) ys (suc k) p h = slice_get-append xs ys k p h

-- the last item
slice_get-last : (xs : List Place) (p : Place) → slice_get (xs ++ p ∷ []) (length xs) ≡ Some p
slice_get-last [] p = refl
slice_get-last (x ∷ xs) p = slice_get-last xs p

-- a place that was drawn stays
slice_get-drawn_from : (d : Drawn) (requests : List (Kind × ℕ)) (k : ℕ) (p : Place) → slice_get d.places k ≡ Some p → slice_get (drawn_from d requests).places k ≡ Some p
slice_get-drawn_from d [] k p h = h
slice_get-drawn_from d (request ∷ requests) k p h = slice_get-drawn_from (with_next d request.0 request.1) requests k p (slice_get-append d.places _ k p h)

-- one request more draws one place more
pub drawn_from-append : (d : Drawn) (requests : List (Kind × ℕ)) (kind : Kind) (pages : ℕ) → drawn_from d (requests ++ (kind, pages) ∷ []) ≡ with_next (drawn_from d requests) kind pages
drawn_from-append d [] kind pages = refl
drawn_from-append d (request ∷ requests) kind pages = drawn_from-append (with_next d request.0 request.1) requests kind pages

-- the pages of an request are those of a part
abbrev FitsPart : Kind × ℕ → Type 0
FitsPart request = (1 ≤ request.1) × (request.1 ≤ PART_PAGES)

-- the place of an request is one for it
pub each_is : (d : Drawn) (requests : List (Kind × ℕ)) → length d.places + length requests ≤ MAPPINGS → All FitsPart requests
    → (k : ℕ) (request : Kind × ℕ) → slice_get requests k ≡ Some request → (n : ℕ) → n ≡ length d.places + k → IsSomeAnd (slice_get (drawn_from d requests).places n) (IsPlaceFor request.0 request.1 (n + 1))
each_is d [] few fits k request h n at = absurd cc
each_is d (first ∷ requests) few fits zero request h n at =
    let place = next_place d first.0 first.1 in
    let here : n ≡ length d.places = omega arith in
    let made = slice_get-drawn_from (with_next d first.0 first.1) requests (length d.places) place (slice_get-last d.places place) in
    let fits_here = All-head FitsPart first requests fits in
    let is = next_place_is d first.0 first.1 (omega arith) fits_here.0 fits_here.1 in
    let same : first ≡ request = cc in
    rw (here, made) (subst (λ (o : Kind × ℕ). IsPlaceFor o.0 o.1 (length d.places + 1) place) same is)
each_is d (first ∷ requests) few fits (suc k) request h n at =
    let one_more = length_push d.places (next_place d first.0 first.1) in
    each_is (with_next d first.0 first.1) requests (omega arith) (All-tail FitsPart first requests fits) k request h n (omega arith)

-- no two places have one region
pub regions_differ : (d : Drawn) (requests : List (Kind × ℕ)) → length d.places + length requests ≤ MAPPINGS → AllPairs (λ (p q : Place). p.region ≢ q.region) d.places → AllPairs (λ (p q : Place). p.region ≢ q.region) (drawn_from d requests).places
regions_differ d [] few differ = differ
regions_differ d (request ∷ requests) few differ =
    let one_more = length_push d.places (next_place d request.0 request.1) in
    regions_differ (with_next d request.0 request.1) requests (omega arith)
    (all_pairs_push (λ (p q : Place). p.region ≢ q.region) d.places _ differ (next_place_fresh d request.0 request.1 (omega arith)))
