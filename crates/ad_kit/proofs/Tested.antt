-- What the tests of sections and symbols say, as far as they have come.
use Rattle.std.proofs.Common.{◌≡◌, ℕ, ◌+◌, ◌-◌, ◌<◌, ◌≤◌, Bool, true, false, List, [], ◌∷◌, ◌++◌, get_or, length, take, refl, sym, ap, ◌∙◌, arith}
use Rattle.std.specs.List.{All, AllPairs}
use Rattle.std.proofs.lemmas.List.{get_or_default, take_all, take_more}
use Rattle.std.proofs.lemmas.List.Elements.{All-nil, All-push}
use Rattle.std.proofs.lemmas.List.Quantifiers.{all_pairs_push}
use Rattle.ad_kit.specs.ObjectFile.{is_local}
use Rattle.ad_kit.specs.declared.object.KitSymbol.{KitSymbol}

abbrev Follows : KitSymbol → KitSymbol → Type 0
Follows x y = is_local y ≡ true → is_local x ≡ true

-- Among the first so many symbols local ones come first, and these are local, or the last of them isn't.
pub record AreLocalsFirst (ys : List KitSymbol) (k : ℕ) (only_locals : Bool) : Type 0 where
  pub pairs : AllPairs Follows (take k ys)
  pub front : only_locals ≡ true → All (λ (x : KitSymbol). is_local x ≡ true) (take k ys)
  pub last : only_locals ≡ false → (0 < k) × ((d : KitSymbol) → is_local (get_or ys (k - 1) d) ≡ false)

pub AreLocalsFirst-none : (ys : List KitSymbol) → AreLocalsFirst ys 0 true
AreLocalsFirst-none ys = record { pairs = λ i j d less below. absurd (omega arith); front = λ e. All-nil (λ (x : KitSymbol). is_local x ≡ true); last = λ e. absurd (bad e) }
  where
    bad : true ≡ false → ⊥
    bad e = cc

-- one symbol more, which isn't a local one behind another
pub AreLocalsFirst-more : (ys : List KitSymbol) (k : ℕ) (y : KitSymbol) (only next : Bool) → k < length ys → y ≡ get_or ys k y → AreLocalsFirst ys k only → next ≡ is_local y → (is_local y ≡ true → only ≡ true) → AreLocalsFirst ys (k + 1) next
AreLocalsFirst-more ys k y only next below is had named fine =
    let more : take (k + 1) ys ≡ take k ys ++ y ∷ [] = take_more ys k y below ∙ ap (λ (x : KitSymbol). take k ys ++ x ∷ []) (sym is) in
    record {
      pairs = rw more (all_pairs_push Follows (take k ys) y had.pairs (λ j d less local. had.front (fine local) j d less));
      front = λ e. rw more (All-push (λ (x : KitSymbol). is_local x ≡ true) (take k ys) y (had.front (fine (sym named ∙ e))) (sym named ∙ e));
      last = λ e. (
        omega arith,
        λ d.
            let place : k + 1 - 1 ≡ k = omega arith in
            ap (λ (i : ℕ). is_local (get_or ys i d)) place ∙ ap is_local (get_or_default ys k d y below ∙ sym is) ∙ sym named ∙ e,
      );
    }

-- a local symbol behind another one
pub not_first : (ys : List KitSymbol) (k : ℕ) (y : KitSymbol) → k < length ys → y ≡ get_or ys k y → AreLocalsFirst ys k false → is_local y ≡ true → AllPairs Follows ys → ⊥
not_first ys k y below is had local pairs =
    let before = had.last refl in
    let yes : is_local (get_or ys (k - 1) y) ≡ true = pairs (k - 1) k y (omega (arith, before.0)) below (ap is_local (sym is) ∙ local) in
    let no = before.1 y in
    bad (is_local (get_or ys (k - 1) y)) yes no
  where
    bad : (b : Bool) → b ≡ true → b ≡ false → ⊥
    bad true e f = cc
    bad false e f = cc

pub AllPairs-all : (ys : List KitSymbol) (k : ℕ) (only : Bool) → length ys ≤ k → AreLocalsFirst ys k only → AllPairs Follows ys
AllPairs-all ys k only all had = (rw (take_all k ys all) at had.pairs)
