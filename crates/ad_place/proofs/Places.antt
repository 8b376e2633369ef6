-- The place that is drawn next.
use Rattle.std.proofs.Common.{◌≡◌, ◌≢◌, ℕ, ◌+◌, ◌-◌, ◌*◌, ◌<◌, ◌≤◌, Bool, true, false, eqb, List, length, Some, sym, ap, ◌∙◌, arith, refl, unwrap_or, true≢false, eqb-true, eq-eqb}
use Rattle.std.specs.List.{All, Any}
use Rattle.std.proofs.Math.Nat.{mod-lt}
use Rattle.std.proofs.lemmas.List.Folds.{list_any_at, Any-from_list_any}
use Rattle.ad_base.specs.declared.layout.TheConstants.{MAPPINGS, PART_PAGES, REGION_PAGES, REGIONS}
use Rattle.ad_base.specs.declared.ledger.Kind.{Kind}
use Rattle.ad_base.specs.declared.place.Place.{Place}
use Rattle.ad_place.specs.Choice.{candidate, first_unused, has_region, next_place, region_count, unused_region, Drawn, random_word}
use Rattle.ad_place.specs.ChoiceLaws.{IsPlaceFor, IsFirstUnused}
use Rattle.ad_place.proofs.Regions.{candidate_from, candidate_to, first_unused_is, regions_fit, regions_from_two, unused_exists}

-- candidate i is the first that none of the places has
pub record IsFirst (places : List Place) (kind : Kind) (word i : ℕ) : Type 0 where
  pub inside : i < region_count kind
  pub unused : has_region places (candidate kind word i) ≡ false
  pub before : (j : ℕ) → j < i → has_region places (candidate kind word j) ≡ true

-- with a mapping left there is a first, and it is the region that is chosen
pub chosen_region : (places : List Place) (kind : Kind) (word : ℕ) → length places < MAPPINGS → (i : ℕ) × IsFirst places kind word i × (unused_region places kind word ≡ candidate kind word i)
unfolding unused_region
chosen_region places kind word few =
    let first = unused_exists places kind word few in
    let found = first_unused_is (has_region places) kind word first.0 first.1 first.3 first.2 in
    (first.0, record { inside = first.1; unused = first.2; before = first.3 }, ap (λ o. unwrap_or o 0) found)

-- an index that says which regions the places have leads the search to the region that is chosen
pub search_finds : (used : ℕ → Bool) (places : List Place) (kind : Kind) (word : ℕ) → ((region : ℕ) → region < REGIONS → used region ≡ has_region places region) → length places < MAPPINGS
    → first_unused used kind word ≡ Some (unused_region places kind word)
search_finds used places kind word index few =
    let first = chosen_region places kind word few in
    let fits = λ (j : ℕ). index (candidate kind word j) (omega (arith, candidate_to kind word j, regions_fit kind)) in
    first_unused_is used kind word first.0 first.1.inside (λ j low. fits j ∙ first.1.before j low) (fits first.0 ∙ first.1.unused) ∙ ap Some (sym first.2)

-- a region that no place has differs from each place's
apart : (places : List Place) (region : ℕ) → has_region places region ≡ false → All (λ p. p.region ≢ region) places
apart places region h = λ k d inside same.
    true≢false (sym (list_any_at (λ p. eqb region p.region) places k d inside (eq-eqb region _ (sym same))) ∙ h)

-- a region that a place has
had : (places : List Place) (region : ℕ) → has_region places region ≡ true → Any (λ p. p.region ≡ region) places
had places region h =
    let here = Any-from_list_any (λ (p : Place). eqb region p.region) places h in
    (here.0, here.1, here.2, here.3, sym (eqb-true region here.1.region here.4))

-- the place that is drawn next is one for the kind and the pages, with the next mapping number
pub next_place_is : (d : Drawn) (kind : Kind) (pages : ℕ) → length d.places < MAPPINGS → 1 ≤ pages → pages ≤ PART_PAGES → IsPlaceFor kind pages (length d.places + 1) (next_place d kind pages)
unfolding next_place
next_place_is d kind pages few some fits =
    let word = random_word d.seed (2 * length d.places) in
    let region = chosen_region d.places kind word few in
    let from = candidate_from kind word region.0 in
    let to = candidate_to kind word region.0 in
    let start = mod-lt (random_word d.seed (2 * length d.places + 1)) {m = REGION_PAGES - 1 - pages} (omega arith) in
    record {
      place = record {
        region_from = omega (arith, region.2, regions_from_two kind);
        region_to = omega (arith, region.2, regions_fit kind);
        page_before = omega arith;
        some_page = some;
        page_behind = omega arith;
        mapping_from = omega arith;
        mapping_to = omega arith;
        frame_to = omega arith;
      };
      region_from = omega (arith, region.2);
      region_to = omega (arith, region.2);
      pages = refl;
      mapping = refl;
      frame = refl;
    }

-- its region is the first candidate that isn't used
pub next_place_first : (d : Drawn) (kind : Kind) (pages : ℕ) → length d.places < MAPPINGS
    → (i : ℕ) × IsFirstUnused d.places kind (random_word d.seed (2 * length d.places)) i × ((next_place d kind pages).region ≡ candidate kind (random_word d.seed (2 * length d.places)) i)
unfolding next_place
next_place_first d kind pages few =
    let word = random_word d.seed (2 * length d.places) in
    let region = chosen_region d.places kind word few in (
      region.0,
      record {
        inside = region.1.inside;
        unused = apart d.places (candidate kind word region.0) region.1.unused;
        used_before = λ j low. had d.places (candidate kind word j) (region.1.before j low);
      },
      region.2,
    )

-- and no earlier place has its region
pub next_place_fresh : (d : Drawn) (kind : Kind) (pages : ℕ) → length d.places < MAPPINGS → All (λ p. p.region ≢ (next_place d kind pages).region) d.places
next_place_fresh d kind pages few =
    let first = next_place_first d kind pages few in
    rw first.2 first.1.unused
