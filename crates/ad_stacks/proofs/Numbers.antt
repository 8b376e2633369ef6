-- The words of places and records.
use Rattle.std.proofs.Common.{◌≡◌, ◌≢◌, ℕ, ◌+◌, ◌*◌, ◌%◌, ◌^◌, ◌<◌, Option, None, Some, is_some, true, false, Bool, cond, ne_eqb, sym, refl, ap, ◌∙◌, subst, arith}
use Rattle.ad_base.specs.declared.place.Place.{Place}
use Rattle.ad_base.specs.Place.{packed, IsPlace, place_at}
use Rattle.ad_stacks.specs.StackPlace.{lane_word, lane_place, record_word, IsStackPlace, IsStackWord}
use Rattle.ad_stacks.specs.Laws.{counted}
use Rattle.ad_base.proofs.Packing.{place_at-packed, packed-some}

pub packed_small : (p : Place) → IsStackPlace p → packed p < 2 ^ 48
packed_small p h = let a = h.place.page_behind in let b = h.no_frame in let c = h.place.mapping_to in let d = h.place.region_to in omega arith

pub number_fits : (p : Place) → IsStackPlace p → p.mapping < 4096
number_fits p h = let a = h.place.mapping_to in omega arith

pub stack_word : (p : Place) → IsStackPlace p → IsStackWord (packed p)
stack_word p h = let same = sym (place_at-packed p h.place) in record { place = subst IsStackPlace same h; packs = ap packed same }

-- an unmap step adds one to the count of a record word
pub counted_once : (p : Place) (w : ℕ) → IsStackPlace p → w < 64 → counted (record_word p w 0) ≡ record_word p w 1
counted_once p w h few = let a = packed_small p h in let n : ℕ = packed p in let b : n < 2 ^ 48 = a in added n w b few
  where
    added : (n w : ℕ) → n < 2 ^ 48 → w < 64 → (n + w * 2 ^ 48 + 0 * 2 ^ 56 + 2 ^ 56) % 2 ^ 64 ≡ n + w * 2 ^ 48 + 1 * 2 ^ 56
    added n w a b = omega arith

pub record_some : (p : Place) (w c : ℕ) → IsPlace p → record_word p w c ≢ 0
record_some p w c h = λ e. let m = h.mapping_from in omega arith

-- what a lane's word says of the stack that is In the lane
pub none_word : (o : Option Place) → is_some o ≡ false → o ≡ None
none_word None e = refl
none_word (Some p) e = absurd (let f : ⊥ = cc in f)

pub some_word : (o : Option Place) → is_some o ≡ true → (p : Place) × (o ≡ Some p)
some_word None e = absurd (let f : ⊥ = cc in f)
some_word (Some p) e = (p, refl)

pub lane_place-word : (o : Option Place) → ((p : Place) → o ≡ Some p → IsPlace p) → lane_place (lane_word o) ≡ o
lane_place-word None h = refl
lane_place-word (Some p) h = ap (λ (b : Bool). cond {A = Option Place} b None (Some (place_at (packed p)))) (ne_eqb (packed p) 0 (packed-some p (h p refl))) ∙ ap Some (place_at-packed p (h p refl))
