-- What a placer keeps from place to place.
use Rattle.std.proofs.Common.{◌≡◌, ℕ, ◌+◌, ◌*◌, ◌-◌, ◌%◌, ◌^◌, ◌<◌, Bool, false, List, length, slice_index_or, Some, sym, ap, ◌∙◌, arith, mod-eq_of_lt}
use Rattle.rand_chacha.specs.ChaCha.{ChaCha, next_word}
use Rattle.ad_base.specs.declared.layout.TheConstants.{MAPPINGS, REGION_PAGES}
use Rattle.ad_base.specs.declared.ledger.Kind.{Kind}
use Rattle.ad_base.specs.declared.place.Place.{Place}
use Rattle.ad_place.specs.Choice.{first_unused, next_place, random_word, Drawn}
use Rattle.ad_place.specs.Private.Kept.{before_word, IsKept}
use Rattle.ad_place.proofs.Places.{search_finds}

-- what one call of the generator gives, and the generator after it
pub word_taken : (seed k word : ℕ) (old new : ChaCha) → k < 2 ^ 20 → old ≡ before_word seed k → (word, new) ≡ next_word 10 old → (word ≡ random_word seed k) × (new ≡ before_word seed (k + 1))
unfolding random_word
word_taken seed k word old new small at step =
    let wraps_not : (k + 1) % 2 ^ 68 ≡ k + 1 = mod-eq_of_lt (omega arith) in (
      ap (λ (s : ℕ × ChaCha). s.0) step ∙ ap (λ g. (next_word 10 g).0) at,
      ap (λ (s : ℕ × ChaCha). s.1) step ∙ ap (λ g. (next_word 10 g).1) at ∙ ap (before_word seed) wraps_not,
    )

-- What the two words of a place say: the region that the index leads to, the start page, and where the
-- generator is then.
pub record Says (seed : ℕ) (new : ChaCha) (used : List Bool) (places : List Place) (kind : Kind) (pages a b : ℕ) : Type 0 where
  pub region : first_unused (λ region. slice_index_or used region false) kind a ≡ Some (next_place (record { seed = seed; places = places }) kind pages).region
  pub start : 1 + b % (REGION_PAGES - 1 - pages) ≡ (next_place (record { seed = seed; places = places }) kind pages).start
  pub words : new ≡ before_word seed (2 * length places + 1 + 1)

pub words_say : (seed : ℕ) (old between new : ChaCha) (used : List Bool) (places : List Place) (kind : Kind) (pages a b : ℕ) → IsKept seed old used places → length places < MAPPINGS
    → (a, between) ≡ next_word 10 old → (b, new) ≡ next_word 10 between → Says seed new used places kind pages a b
unfolding next_place
words_say seed old between new used places kind pages a b kept few first second =
    let k = 2 * length places in
    let took = word_taken seed k a old between (omega arith) kept.words first in
    let took_next = word_taken seed (k + 1) b between new (omega arith) took.1 second in
    let test = λ (region : ℕ). slice_index_or used region false in
    record {
      region = ap (first_unused test kind) took.0 ∙ search_finds test places kind (random_word seed k) kept.index few;
      start = ap (λ word. 1 + word % (REGION_PAGES - 1 - pages)) took_next.0;
      words = took_next.1;
    }

-- a place with the numbers of the next one
pub next_place_made : (d : Drawn) (kind : Kind) (pages region start mapping : ℕ) → (next_place d kind pages).region ≡ region → start ≡ (next_place d kind pages).start → mapping ≡ length d.places
    → record { region = region; start = start; pages = pages; mapping = mapping + 1; frame = 0 } ≡ next_place d kind pages
unfolding next_place
next_place_made d kind pages region start mapping same_region same_start same_mapping =
    let made : ℕ → ℕ → ℕ → Place = λ r s m. record { region = r; start = s; pages = pages; mapping = m + 1; frame = 0 } in
    ap (λ r. made r start mapping) (sym same_region) ∙ ap (λ s. made (next_place d kind pages).region s mapping) same_start ∙ ap (made (next_place d kind pages).region (next_place d kind pages).start) same_mapping
