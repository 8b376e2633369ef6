-- Addresses whose mapping was unmapped: no later mapping has them, and no call finds anything there.
use Rattle.std.proofs.Common.{◌≡◌, ℕ, ◌*◌, ◌/◌, ◌<◌, ◌≤◌, List, ◌++◌, length, slice_get, Some, None, inl, inr, sym, ap, subst, ◌∙◌, arith}
use Rattle.std.specs.List.{All}
use Rattle.std.proofs.lemmas.Bool.{cases_lt}
use Rattle.std.proofs.lemmas.List.Sums.{fold-append}
use Rattle.std.proofs.lemmas.Option.{get_or_from_slice_get, slice_get_within}
use Rattle.ad_base.specs.declared.image.Image.{Image}
use Rattle.ad_base.specs.declared.layout.TheConstants.{PAGE_BYTES, REGION_BYTES, STACK_PAGES}
use Rattle.ad_base.specs.declared.ledger.Kind.{Kind}
use Rattle.ad_base.specs.declared.ledger.Kind.TheVariants as kinds
use Rattle.ad_base.specs.declared.ledger.Row.{Row}
use Rattle.ad_base.specs.declared.place.Place.{Place}
use Rattle.ad_base.specs.Ledger.{Mapping}
use Rattle.ad_base.specs.Place.{IsInside, IsPlace, base_of}
use Rattle.ad_base.specs.Segments.{Segment, extents, holding}
use Rattle.ad_base.proofs.Extents.{holding-none}
use Rattle.ad_call.specs.Call.{HasData}
use Rattle.ad_call.proofs.Outside.{nothing-outside}
use Rattle.ad_core.specs.Image.{segments_of}
use Rattle.ad_core.proofs.Stay.{led}
use Rattle.ad_lines.specs.declared.ready.ReadyStep.{ReadyStep}
use Rattle.ad_lines.specs.LineRun.{ModuleState, Placement, after_step, line_run}
use Rattle.ad_lines.specs.Opening.{AreLoaded, opening_drawn, opening_mappings, opening_run}
use Rattle.ad_lines.specs.LineLaws.{AreSteps, InEachMemory, IsFaultAtEachStep, line_of, run_of_seed}
use Rattle.ad_lines.specs.Traps.{EndsInTrapAt}
use Rattle.ad_lines.proofs.Elements.{all-back, all-front}
use Rattle.ad_lines.proofs.ListReads.{Each, all-each, each-all}
use Rattle.ad_lines.proofs.MoveRuns.{IsCurrent, IsSoundPlacement, grows-refl, place-at}
use Rattle.ad_lines.proofs.OpenRuns.{run-opens}
use Rattle.ad_lines.proofs.SoundRuns.{IsGrown, IsPlacedModule, IsPlacedStack, IsSoundState, grown-run}
use Rattle.ad_lines.proofs.Traps.{ends-at, fault-reached, fault-there}

-- the mappings before the first line
abbrev opening_of : ℕ → ℕ → List Image → List Mapping
opening_of seed workers images = opening_mappings workers images (opening_drawn seed workers images).places

-- an address of a place is in its region
pub region-of : (p : Place) (at : ℕ) → IsPlace p → IsInside p at → p.region ≡ at / REGION_BYTES
region-of p at is inside = omega (arith, is.page_before, is.page_behind, is.some_page, inside.from, inside.to)

-- two places that were drawn differ in their regions
differ : (opening : List Mapping) (p : Placement) → IsSoundPlacement opening p → (i j : ℕ) (a b : Place) → i < j → slice_get p.drawn.places i ≡ Some a → slice_get p.drawn.places j ≡ Some b → a.region ≡ b.region → ⊥
differ opening p s i j a b less e f same =
    s.apart i j a less (slice_get_within p.drawn.places j b f)
    (ap (λ (x : Place). x.region) (get_or_from_slice_get p.drawn.places i a a e) ∙ same ∙ sym (ap (λ (x : Place). x.region) (get_or_from_slice_get p.drawn.places j b a f)))

-- an address whose mapping was unmapped is in no mapping
apart-now : (opening : List Mapping) (p : Placement) → IsSoundPlacement opening p → (old : ℕ) (gone : Row) (at : ℕ) → slice_get p.rows old ≡ Some gone → 0 < gone.unmaps → IsInside gone.place at
    → Each (λ (r : Row). r.unmaps ≡ 0 → IsInside r.place at → ⊥) p.rows
apart-now opening p s old gone at there unmapped inside k r e none within =
    let a = place-at opening p s k r e in
    let b = place-at opening p s old gone there in
    let same : r.place.region ≡ gone.place.region = region-of r.place at (s.are k r.place a) within ∙ sym (region-of gone.place at (s.are old gone.place b) inside) in
    elim (cases_lt k old) [
      | inl less ↦ differ opening p s k old r.place gone.place less a b same
      | inr from ↦ elim (cases_lt old k) [
        | inl more ↦ differ opening p s old k gone.place r.place more b a (sym same)
        | inr to ↦
            let at_old : k ≡ old = omega (arith, from, to) in
            let one : Some r ≡ Some gone = sym e ∙ ap (slice_get p.rows) at_old ∙ there in
            let is : r ≡ gone = cc in
            absurd (omega (arith, unmapped, none, ap (λ (x : Row). x.unmaps) is))
      ]
    ]

-- nor where anything lies now
none-now : (opening : List Mapping) (p : Placement) → IsSoundPlacement opening p → (at : ℕ) → Each (λ (r : Row). r.unmaps ≡ 0 → IsInside r.place at → ⊥) p.rows
    → (kind : Kind) (who : ℕ) (x : Place) → IsCurrent p.rows kind who x → IsInside x at → ⊥
none-now opening p s at none kind who x c inside = none c.at c.row c.found ((s.once c.at c.row c.found).never c.no_line) (subst (λ q. IsInside q at) (sym c.of_place) inside)

-- so a call finds nothing there, whatever its stack and its data hold
holds-none : (rows : List Row) (number worker at : ℕ) (m : ModuleState) (stack : Place) (bytes fixed_data writable : List ℕ) → length bytes ≡ STACK_PAGES * PAGE_BYTES → HasData m.image writable fixed_data
    → IsPlacedModule rows number m → IsPlacedStack rows worker stack → (IsInside m.movable at → ⊥) → (IsInside m.image.fixed at → ⊥) → (IsInside stack at → ⊥)
    → holding (segments_of m.image m.movable stack bytes fixed_data writable) at ≡ None
holds-none rows number worker at m stack bytes fixed_data writable full long is on movable fixed stack_out =
    nothing-outside m.image m.movable stack at bytes fixed_data writable is.whole full long is.pages on.pages stack_out fixed movable

-- so it is after steps, which leave each segment where it is
pub fault-at-steps : (at : ℕ) (segments : List (Segment ℕ)) → holding segments at ≡ None → 2 * REGION_BYTES < at → IsFaultAtEachStep at segments
fault-at-steps at segments none high steps first later before after same leads =
    let stay = led steps first later before after leads ∙ ap extents same in
    let nothing = holding-none at after.memory.segments segments stay none in
    (λ aligned. fault-there at after.memory.segments (λ even. nothing) high, fault-reached at after.memory.segments nothing)

module _ (seed workers fuel : ℕ) (images : List Image) (loaded : AreLoaded seed workers images) where
  pub grown-from : (steps : List ReadyStep) → All (λ s. 1 ≤ line_of s) steps → IsGrown (opening_mappings workers images (opening_drawn seed workers images).places) (opening_run workers images (opening_drawn seed workers images)).placement.rows (run_of_seed seed workers images fuel steps)
  grown-from steps some =
      let s = opening_run workers images (opening_drawn seed workers images) in
      grown-run (opening_of seed workers images) s.placement.rows fuel s steps some (record { sound = run-opens seed workers images loaded; grows = grows-refl s.placement.rows })

  pub sound-run : (steps : List ReadyStep) → AreSteps images workers steps → IsSoundState (opening_mappings workers images (opening_drawn seed workers images).places) (run_of_seed seed workers images fuel steps)
  sound-run steps are = (grown-from steps are.from_one).sound

  -- data are as long as those of their images
  pub data-long : (steps : List ReadyStep) → AreSteps images workers steps → All (λ (m : ModuleState). HasData m.image m.book.writable m.book.fixed) (run_of_seed seed workers images fuel steps).modules
  data-long steps are = all-each (λ (m : ModuleState). HasData m.image m.book.writable m.book.fixed) (run_of_seed seed workers images fuel steps).modules (λ n m e. ((sound-run steps are).modules n m e).lengths)

  -- a run of more steps goes on from the run of the first ones
  runs-on : (before after : List ReadyStep) → run_of_seed seed workers images fuel (before ++ after) ≡ line_run fuel (run_of_seed seed workers images fuel before) after
  runs-on before after = fold-append (after_step fuel) (opening_run workers images (opening_drawn seed workers images)) before after

  grown-on : (before after : List ReadyStep) → AreSteps images workers (before ++ after)
      → IsGrown (opening_mappings workers images (opening_drawn seed workers images).places) (run_of_seed seed workers images fuel before).placement.rows (run_of_seed seed workers images fuel (before ++ after))
  grown-on before after are =
      let opening = opening_of seed workers images in
      let s = run_of_seed seed workers images fuel before in
      let first = grown-from before (all-front (λ x. 1 ≤ line_of x) before after are.from_one) in
      subst (IsGrown opening s.placement.rows) (sym (runs-on before after))
      (grown-run opening s.placement.rows fuel s after (all-back (λ x. 1 ≤ line_of x) before after are.from_one) (record { sound = first.sound; grows = grows-refl s.placement.rows }))

  module _ (before after : List ReadyStep) (are : AreSteps images workers (before ++ after)) (old : ℕ) (gone : Row) (at : ℕ) (there : slice_get (run_of_seed seed workers images fuel before).placement.rows old ≡ Some gone) (unmapped : 0 < gone.unmaps) (inside : IsInside gone.place at) where
    stale : Each (λ (r : Row). r.unmaps ≡ 0 → IsInside r.place at → ⊥) (run_of_seed seed workers images fuel (before ++ after)).placement.rows
    stale =
        let g = grown-on before after are in
        let x = g.grows.each old gone there in
        apart-now (opening_of seed workers images) (run_of_seed seed workers images fuel (before ++ after)).placement g.sound.sound old x.0 at x.1 (x.3 unmapped) (subst (λ q. IsInside q at) (sym x.2) inside)

    pub stale-apart : All (λ (r : Row). r.unmaps ≡ 0 → IsInside r.place at → ⊥) (run_of_seed seed workers images fuel (before ++ after)).placement.rows
    stale-apart = all-each (λ (r : Row). r.unmaps ≡ 0 → IsInside r.place at → ⊥) (run_of_seed seed workers images fuel (before ++ after)).placement.rows stale

    -- the mapping that was unmapped lay at a place
    pub gone-place : IsPlace gone.place
    gone-place =
        let g = grown-on before after are in
        let x = g.grows.each old gone there in
        let p = (run_of_seed seed workers images fuel (before ++ after)).placement in
        subst IsPlace x.2 (g.sound.sound.are old x.0.place (place-at (opening_of seed workers images) p g.sound.sound old x.0 x.1))

    high : 2 * REGION_BYTES < at
    high = let is = gone-place in let from : base_of gone.place ≤ at = inside.from in omega (arith, is.region_from, is.page_before, from)

    none-lies : (kind : Kind) (who : ℕ) (x : Place) → IsCurrent (run_of_seed seed workers images fuel (before ++ after)).placement.rows kind who x → IsInside x at → ⊥
    none-lies = none-now (opening_of seed workers images) (run_of_seed seed workers images fuel (before ++ after)).placement (grown-on before after are).sound.sound at stale

    pub stale-nothing : All (λ (m : ModuleState). All (λ stack. InEachMemory m.image m.movable stack (λ memory. holding memory at ≡ None)) (run_of_seed seed workers images fuel (before ++ after)).stacks) (run_of_seed seed workers images fuel (before ++ after)).modules
    stale-nothing =
        let s = run_of_seed seed workers images fuel (before ++ after) in
        let g = (grown-on before after are).sound in
        all-each (λ (m : ModuleState). All (λ stack. InEachMemory m.image m.movable stack (λ memory. holding memory at ≡ None)) s.stacks) s.modules (λ n m e.
        let is = g.modules n m e in
        all-each (λ stack. InEachMemory m.image m.movable stack (λ memory. holding memory at ≡ None)) s.stacks (λ k stack f bytes fixed writable full long.
        let on = g.stacks k stack f in
        holds-none s.placement.rows n k at m stack bytes fixed writable full long is on (none-lies kinds.Code n m.movable is.movable) (none-lies kinds.Fixed n m.image.fixed is.fixed) (none-lies kinds.Stack k stack on.place)))

    pub stale-fault : All (λ (m : ModuleState). All (λ stack. InEachMemory m.image m.movable stack (IsFaultAtEachStep at)) (run_of_seed seed workers images fuel (before ++ after)).stacks) (run_of_seed seed workers images fuel (before ++ after)).modules
    stale-fault =
        let s = run_of_seed seed workers images fuel (before ++ after) in
        all-each (λ (m : ModuleState). All (λ stack. InEachMemory m.image m.movable stack (IsFaultAtEachStep at)) s.stacks) s.modules (λ n m e.
        all-each (λ stack. InEachMemory m.image m.movable stack (IsFaultAtEachStep at)) s.stacks (λ k stack f bytes fixed writable full long.
        fault-at-steps at (segments_of m.image m.movable stack bytes fixed writable) (each-all (λ q. InEachMemory m.image m.movable q (λ memory. holding memory at ≡ None)) s.stacks (each-all (λ (x : ModuleState). All (λ q. InEachMemory x.image x.movable q (λ memory. holding memory at ≡ None)) s.stacks) s.modules stale-nothing n m e) k stack f bytes fixed writable full long) high))

  module _ (before after : List ReadyStep) (are : AreSteps images workers (before ++ after)) (old : ℕ) (gone : Row) (there : slice_get (run_of_seed seed workers images fuel before).placement.rows old ≡ Some gone) (unmapped : 0 < gone.unmaps) where
    pub stale-ends : (at : ℕ) → IsInside gone.place at → All (λ (m : ModuleState). All (λ stack. InEachMemory m.image m.movable stack (EndsInTrapAt at)) (run_of_seed seed workers images fuel (before ++ after)).stacks) (run_of_seed seed workers images fuel (before ++ after)).modules
    stale-ends at inside =
        let s = run_of_seed seed workers images fuel (before ++ after) in
        let nothing = stale-nothing before after are old gone in
        all-each (λ (m : ModuleState). All (λ stack. InEachMemory m.image m.movable stack (EndsInTrapAt at)) s.stacks) s.modules (λ n m e.
        all-each (λ stack. InEachMemory m.image m.movable stack (EndsInTrapAt at)) s.stacks (λ k stack f bytes fixed writable full long.
        ends-at gone.place at (gone-place before after are old gone at there unmapped inside) inside (segments_of m.image m.movable stack bytes fixed writable) (λ from within.
        each-all (λ q. InEachMemory m.image m.movable q (λ memory. holding memory from ≡ None)) s.stacks (each-all (λ (x : ModuleState). All (λ q. InEachMemory x.image x.movable q (λ memory. holding memory from ≡ None)) s.stacks) s.modules (nothing from there unmapped within) n m e) k stack f bytes fixed writable full long)))
