-- No two mappings have one region, and each is read off its region's word.
use Rattle.std.proofs.Common.{◌≡◌, ⊎_elim, ℕ, ◌+◌, ◌*◌, ◌%◌, ◌^◌, ◌<◌, Some, sym, ap, ◌∙◌, arith}
use Rattle.std.specs.FinMap as map
use Rattle.ad_base.specs.declared.place.Place.{Place}
use Rattle.ad_base.specs.Place.{packed}
use Rattle.ad_events.specs.declared.mapping.Mapping.{Mapping}
use Rattle.ad_maps.specs.declared.shape.Shape.{Shape}
use Rattle.ad_maps.specs.MapPlace.{member_word}
use Rattle.ad_maps.specs.Rule.{AllMappings, Mappings, MappingStands}
use Rattle.ad_maps.specs.declared.view.Made.{Made}
use Rattle.ad_maps.specs.declared.view.Plan.{Plan}
use Rattle.ad_events.specs.Reclaim.{Agent}
use Rattle.std.specs.Prelude.{List}
use Rattle.ad_maps.proofs.Numbers.{one_place, packed-small}
use Rattle.ad_maps.proofs.Pinned.{gone-or}

-- the region's word, but for the count of its unmap steps, is that of the mapping's place
pub word-low : (shape : Shape) (ledger : List Made) (directory owner : ℕ → ℕ) (cell : ℕ → ℕ → ℕ) (p : Place) (n : ℕ) (x : Mapping) → MappingStands shape ledger directory owner cell p n x → directory p.region % 2 ^ 56 ≡ packed p
word-low shape ledger directory owner cell p n x stands =
    let small = packed-small p stands.form.place.place in
    ⊎_elim
    (λ gone. low (directory p.region) (packed p) 1 small gone.1)
    (λ here. low (directory p.region) (packed p) 0 small (let w = here.1.word in omega arith))
    (gone-or shape directory owner cell x.module p x.status stands.words)
  where
    low : (word p u : ℕ) → p < 2 ^ 56 → word ≡ p + u * 2 ^ 56 → word % 2 ^ 56 ≡ p
    low word p u l e = omega arith

module _ (shape : Shape) (ms : AllMappings) (places : ℕ → Place) (ledger : List Made) (plan : Plan) (gives : Agent → List Place) (current directory owner : ℕ → ℕ) (cell : ℕ → ℕ → ℕ) (m : Mappings shape ms places ledger plan gives current directory owner cell) where
  pub one-region : (n k : ℕ) (x y : Mapping) → map.get ms n ≡ Some x → map.get ms k ≡ Some y → (places n).region ≡ (places k).region → n ≡ k
  one-region n k x y there here same =
      let a = m.each n x there in
      let b = m.each k y here in
      let word = sym (word-low shape ledger directory owner cell (places n) n x a) ∙ (ap (λ (v : ℕ). directory v % 2 ^ 56) same ∙ word-low shape ledger directory owner cell (places k) k y b) in
      sym a.number ∙ (ap (λ (p : Place). p.mapping) (one_place (places n) (places k) a.form.place.place b.form.place.place word) ∙ b.number)

  -- nor one word of a member
  pub one-member : (n k line other : ℕ) (x y : Mapping) → map.get ms n ≡ Some x → map.get ms k ≡ Some y → member_word line (places n).region ≡ member_word other (places k).region → n ≡ k
  one-member n k line other x y there here same =
      let a = (m.each n x there).form.place.place.region_to in
      let b = (m.each k y here).form.place.place.region_to in
      one-region n k x y there here (low line other (places n).region (places k).region a b same)
    where
      low : (line other r q : ℕ) → r < 65536 → q < 65536 → line * 2 ^ 16 + r ≡ other * 2 ^ 16 + q → r ≡ q
      low line other r q a b e = omega arith
