-- The worked account of the mover, and that no move is busy where nothing was made in a frame.
use Rattle.std.proofs.Common.{◌≡◌, ◌≢◌, ℕ, ◌<◌, ◌≤◌, List, [], ◌∷◌, ◌++◌, append-nil, map, refl, sym, ap, ◌∙◌, arith, lit<}
use Rattle.std.specs.List.{All, Contains}
use Rattle.std.proofs.lemmas.List.Elements.{All-contains, All-cons, All-nil}
use Rattle.ad_base.specs.declared.ledger.MoveEnd.TheVariants as ends
use Rattle.ad_base.specs.declared.ledger.Moved.{Moved}
use Rattle.ad_maps.specs.declared.shape.Shape.{Shape}
use Rattle.ad_maps.specs.declared.view.Deed.TheVariants as deed
use Rattle.ad_maps.specs.declared.view.Made.{Made}
use Rattle.ad_maps.specs.Ledger.{all_made, line_in, IsLastIn}
use Rattle.ad_mover.specs.Moves.{end_of, retired_by, with_outcome, AllOwned, MakesSteps, MayCome, MovesLine, Moving, NoNumber, Outcome, Placed}
use Rattle.ad_mover.specs.Worked.{worked_drawn, worked_end, worked_line, worked_lines, worked_moved, worked_opening, worked_second, worked_shape, worked_start, worked_third}
use Rattle.ad_place.specs.Choice.{next_place}

-- ---- a line that moves one module

-- the mover behind it, where these mappings were unmapped
abbrev behind : Shape → ℕ → ℕ → Outcome → List ℕ → Moving → Moving
behind shape line m o unmapped before =
    let switched = with_outcome shape line m o before in
    record switched { deeds = switched.deeds ++ retired_by line m before.current o ++ map (λ (n : ℕ). deed.Unmap n) unmapped }

-- it retired the mapping of this number by then
abbrev WasRetired : Shape → ℕ → ℕ → Outcome → Moving → ℕ → Type 0
WasRetired shape line m o before n = 0 < line_in ((with_outcome shape line m o before).deeds ++ retired_by line m before.current o) n

moves-one : (shape : Shape) (line m : ℕ) (o : Outcome) (unmapped : List ℕ) (before : Moving) → MayCome shape m before.drawn (all_made shape before.deeds) o
    → (retired_by line m before.current o ≡ [] → unmapped ≡ []) → All (WasRetired shape line m o before) unmapped → MovesLine shape line (m ∷ []) before (behind shape line m o unmapped before)
moves-one shape line m o unmapped before may none retired = record {
  switched = with_outcome shape line m o before;
  retires = retired_by line m before.current o;
  unmapped = unmapped;
  moved = (with_outcome shape line m o before, retired_by line m before.current o, [], record { outcome = o; may = may; is = refl; out = refl }, (refl, refl), sym (append-nil (retired_by line m before.current o)));
  none = none;
  retired = retired;
  is = refl;
}

-- ---- the owners of the two frames

-- the mapping of the opening, and mapping 2
abbrev opened : Made
opened = record { of_module = 0; place = worked_opening }

abbrev second : ℕ → Made
second seed = record { of_module = 0; place = worked_second seed }

-- a mapping in this frame has at most this number
abbrev IsOlder : ℕ → ℕ → Made → Type 0
IsOlder frame n x = x.place.frame ≡ frame → x.place.mapping ≤ n

older : (seed frame n : ℕ) → IsOlder frame n opened → IsOlder frame n (second seed) → (x : Made) → Contains (opened ∷ second seed ∷ []) x → IsOlder frame n x
older seed frame n first next x there =
    All-contains (IsOlder frame n) (opened ∷ second seed ∷ []) x (All-cons (IsOlder frame n) opened (second seed ∷ []) first (All-cons (IsOlder frame n) (second seed) [] next (All-nil (IsOlder frame n)))) there

-- before line 2, the mapping of the opening is alone in its frame; behind it, each of both is
opened-last : IsLastIn (opened ∷ []) 0 1
opened-last = record {
  mapping = opened;
  listed = (0, lit< tt, refl);
  number = refl;
  in_frame = refl;
  newest = λ x. All-contains (IsOlder 0 1) (opened ∷ []) x (All-cons (IsOlder 0 1) opened [] (λ e. omega arith) (All-nil (IsOlder 0 1)));
}

first-frame : (seed : ℕ) → IsLastIn (opened ∷ second seed ∷ []) 0 1
unfolding next_place
first-frame seed = record {
  mapping = opened;
  listed = (0, lit< tt, refl);
  number = refl;
  in_frame = refl;
  newest = older seed 0 1 (λ e. omega arith) (λ e. absurd (omega (arith, e)));
}

second-frame : (seed : ℕ) → IsLastIn (opened ∷ second seed ∷ []) 1 2
unfolding next_place
second-frame seed = record {
  mapping = second seed;
  listed = (1, lit< tt, refl);
  number = refl;
  in_frame = refl;
  newest = older seed 1 2 (λ e. absurd (omega (arith, e))) (λ e. omega arith);
}

-- ---- the account

owned-one : All (λ (o : ℕ). o ≢ 0) (1 ∷ [])
owned-one = All-cons (λ (o : ℕ). o ≢ 0) 1 [] (λ e. omega (arith, e)) (All-nil (λ (o : ℕ). o ≢ 0))

owned-two : All (λ (o : ℕ). o ≢ 0) (1 ∷ 2 ∷ [])
owned-two = All-cons (λ (o : ℕ). o ≢ 0) 1 (2 ∷ []) (λ e. omega (arith, e)) (All-cons (λ (o : ℕ). o ≢ 0) 2 [] (λ e. omega (arith, e)) (All-nil (λ (o : ℕ). o ≢ 0)))

pub worked-made : (seed : ℕ) → MakesSteps worked_shape worked_lines (worked_start seed) (worked_end seed)
unfolding next_place
worked-made seed =
    let two = behind worked_shape 2 0 (Placed (1 ∷ []) (worked_second seed)) [] (worked_start seed) in
    let three = behind worked_shape 3 0 (AllOwned (1 ∷ []) 2) [] two in
    let line-two = moves-one worked_shape 2 0 (Placed (1 ∷ []) (worked_second seed)) [] (worked_start seed) (lit< tt, lit< tt, (opened-last, tt), refl, owned-one) (λ e. refl) (All-nil (WasRetired worked_shape 2 0 (Placed (1 ∷ []) (worked_second seed)) (worked_start seed))) in
    let line-three = moves-one worked_shape 3 0 (AllOwned (1 ∷ []) 2) [] two (lit< tt, refl, (first-frame seed, (second-frame seed, tt)), owned-two) (λ e. refl) (All-nil (WasRetired worked_shape 3 0 (AllOwned (1 ∷ []) 2) two)) in
    let line-four = moves-one worked_shape 4 0 (Placed [] (worked_third seed)) (2 ∷ []) three (lit< tt, lit< tt, tt, refl, All-nil (λ (o : ℕ). o ≢ 0)) (λ e. let f : ⊥ = cc in absurd f)
    (All-cons (WasRetired worked_shape 4 0 (Placed [] (worked_third seed)) three) 2 [] (lit< tt) (All-nil (WasRetired worked_shape 4 0 (Placed [] (worked_third seed)) three))) in
    (two, line-two, (three, line-three, (worked_end seed, line-four, refl)))

-- ---- what is refused

-- nothing was made in frame 1
second-free : (owner : ℕ) → IsLastIn (opened ∷ []) 1 owner → ⊥
second-free owner h =
    let low : h.mapping.place.frame ≡ 0 = All-contains (λ (y : Made). y.place.frame ≡ 0) (opened ∷ []) h.mapping (All-cons (λ (y : Made). y.place.frame ≡ 0) opened [] refl (All-nil (λ (y : Made). y.place.frame ≡ 0))) h.listed in
    absurd (omega (arith, low, h.in_frame))

end-in : {m n : Moved} → m ∷ [] ≡ n ∷ [] → m.end ≡ n.end
end-in {m} {n} e = let same : m ≡ n = cc in ap (λ (x : Moved). x.end) same

came-busy : (seed owner : ℕ) (o : Outcome) → MayCome worked_shape 0 (worked_drawn seed) (opened ∷ []) o → end_of o ≡ ends.Busy owner → ⊥
came-busy seed owner NoNumber may e = let f : ⊥ = cc in f
came-busy seed owner (Placed owners p) may e = let f : ⊥ = cc in f
came-busy seed owner (AllOwned [] last) may e = absurd (omega (arith, may.1))
came-busy seed owner (AllOwned (o ∷ []) last) may e = second-free last may.2.1.0
came-busy seed owner (AllOwned (o ∷ p ∷ os) last) may e = absurd (omega (arith, may.1))

pub worked-not-busy : (seed owner : ℕ) (after : Moving) → MakesSteps worked_shape (worked_line 2 ∷ []) (worked_start seed) after → after.moves ≢ worked_moved 2 (ends.Busy owner) ∷ []
worked-not-busy seed owner after makes is =
    let line = makes.1 in
    let one = line.moved.3 in
    let moves = λ (s : Moving). s.moves in
    came-busy seed owner one.outcome one.may (end-in (sym (ap moves (makes.2 ∙ line.is) ∙ ap moves (line.moved.4.1 ∙ one.is)) ∙ is))
