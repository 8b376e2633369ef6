-- The places of a run's calls lie apart: each module's part, each stack and each immovable part.
use Rattle.std.proofs.Common.{◌≡◌, ◌≢◌, ℕ, ◌≤◌, Bool, true, false, List, [], ◌∷◌, length, refl, sym, ◌∙◌, arith}
use Rattle.std.specs.List.{All, Contains}
use Rattle.std.specs.Prelude.{nat_lt, if◌then◌else◌}
use Rattle.std.proofs.lemmas.Bool.{ltb-true}
use Rattle.std.proofs.lemmas.List.Elements.{All-contains, All-push, All-set, All-weaker, Contains-append_left}
use Rattle.ad_base.specs.declared.book.Entry.{Entry}
use Rattle.ad_base.specs.declared.image.Image.{Image}
use Rattle.ad_base.specs.declared.layout.TheConstants.{MAPPINGS, STACK_PAGES, STACK_REGION}
use Rattle.ad_base.specs.declared.ledger.Kind.{Kind}
use Rattle.ad_base.specs.declared.ledger.Kind.TheVariants as kinds
use Rattle.ad_base.specs.declared.ledger.MoveEnd.TheVariants.{Made, Spent}
use Rattle.ad_base.specs.declared.place.Place.{Place}
use Rattle.ad_base.specs.Image.{IsWhole, movable_pages}
use Rattle.ad_base.specs.Place.{IsModulePlace, IsPlace}
use Rattle.ad_call.specs.Call.{after_call}
use Rattle.ad_place.specs.Choice.{Drawn, next_place}
use Rattle.ad_place.proofs.Places.{next_place_fresh, next_place_is}
use Rattle.ad_relate.specs.ClearHistory.{AreOffsets, ArePlacedApart, entry_places}
use Rattle.ad_relate.specs.Stands.{IsApart}
use Rattle.ad_lines.specs.declared.ready.ReadyStep.{ReadyStep}
use Rattle.ad_lines.specs.declared.ready.ReadyStep.TheVariants.{Call, Move, Stack}
use Rattle.ad_lines.specs.LineRun.{ModuleState, RunState, after_move, after_step, drawn_after, line_run, place_after, with_call, with_fresh_stack, with_module_moved}
use Rattle.ad_lines.proofs.Elements.{all-read}
use Rattle.ad_lines.proofs.Kept.{fold-keeps}
use Rattle.ad_lines.proofs.StepCases.{call-keeps, fresh-keeps, move-keeps}

-- a place for the movable part of an image, apart from the immovable one
pub record IsPartOf (i : Image) (p : Place) : Type 0 where
  pub for_modules : IsModulePlace p
  pub size : p.pages ≡ movable_pages i
  pub from_fixed : p.region ≢ i.fixed.region

-- a place for a stack
pub record IsStackPlace (p : Place) : Type 0 where
  pub place : IsPlace p
  pub size : p.pages ≡ STACK_PAGES
  pub for_stacks : STACK_REGION ≤ p.region

-- a module of a whole image, whose parts lie apart, whose immovable part is one of the places that were drawn, and whose
-- calls were made at places apart
pub record IsPlacedModule (drawn : List Place) (m : ModuleState) : Type 0 where
  pub whole : IsWhole m.image
  pub offsets : AreOffsets m.image
  pub movable : IsPartOf m.image m.movable
  pub fixed_drawn : Contains drawn m.image.fixed
  pub entries : ArePlacedApart m.image m.book.entries

-- all modules and all stacks are placed so
pub record ArePlaced (s : RunState) : Type 0 where
  pub modules_are : All (IsPlacedModule s.placement.drawn.places) s.modules
  pub stacks_are : All IsStackPlace s.stacks

-- what was drawn by a move is drawn behind what was before
drawn-more : (d : Drawn) (kind : Kind) (pages : ℕ) (b : Bool) (p : Place) → Contains d.places p → Contains (drawn_after d kind pages (if b then Made (next_place d kind pages) else Spent)).places p
drawn-more d kind pages true p h = Contains-append_left d.places (next_place d kind pages ∷ []) p h
drawn-more d kind pages false p h = h

still-placed : (s : RunState) (line : ℕ) (kind : Kind) (who : ℕ) (old : Place) (m : ModuleState) → IsPlacedModule s.placement.drawn.places m → IsPlacedModule (after_move s.placement line kind who old).drawn.places m
unfolding after_move
still-placed s line kind who old m h = record {
  whole = h.whole;
  offsets = h.offsets;
  movable = h.movable;
  fixed_drawn = drawn-more s.placement.drawn kind old.pages (nat_lt (length s.placement.drawn.places) MAPPINGS) m.image.fixed h.fixed_drawn;
  entries = h.entries;
}

-- the place of a part after a move
part-by : (d : Drawn) (i : Image) (old : Place) (b : Bool) → nat_lt (length d.places) MAPPINGS ≡ b → IsWhole i → Contains d.places i.fixed → IsPartOf i old
    → IsPartOf i (place_after old (if b then Made (next_place d kinds.Code old.pages) else Spent))
part-by d i old true is whole fixed h =
    let less = ltb-true (length d.places) MAPPINGS is in
    let made = next_place_is d kinds.Code old.pages less (omega (arith, h.size)) (omega (arith, h.size, whole.movable_pages_fit)) in
    let p = next_place d kinds.Code old.pages in
    let fresh = All-contains (λ (q : Place). q.region ≢ p.region) d.places i.fixed (next_place_fresh d kinds.Code old.pages less) fixed in
    record {
      for_modules = record { place = made.place; for_modules = omega (arith, made.region_to) };
      size = made.pages ∙ h.size;
      from_fixed = λ e. fresh (sym e);
    }
part-by d i old false is whole fixed h = h

stack-by : (d : Drawn) (old : Place) (b : Bool) → nat_lt (length d.places) MAPPINGS ≡ b → IsStackPlace old → IsStackPlace (place_after old (if b then Made (next_place d kinds.Stack old.pages) else Spent))
stack-by d old true is h =
    let less = ltb-true (length d.places) MAPPINGS is in
    let made = next_place_is d kinds.Stack old.pages less (omega (arith, h.size)) (omega (arith, h.size)) in
    record { place = made.place; size = made.pages ∙ h.size; for_stacks = made.region_from }
stack-by d old false is h = h

-- a part and a stack are apart
apart-now : (i : Image) (movable stack : Place) → IsWhole i → IsPartOf i movable → IsStackPlace stack → IsApart i (record { movable = movable; stack = stack })
apart-now i movable stack whole p q = record {
  whole = whole;
  movable = p.for_modules;
  movable_size = p.size;
  stack = q.place;
  stack_size = q.size;
  movable_stack = λ e. absurd (omega (arith, p.for_modules.for_modules, q.for_stacks, e));
  movable_fixed = p.from_fixed;
  stack_fixed = λ e. absurd (omega (arith, whole.fixed_place.for_modules, q.for_stacks, e));
}

placed-call : (fuel : ℕ) (s : RunState) (line worker n export : ℕ) (args : List ℕ) → ArePlaced s → ArePlaced (with_call fuel s line worker n export args)
unfolding after_call
placed-call fuel s line worker n export args h =
    call-keeps fuel s line worker n export args ArePlaced h
    (λ m stack e f.
    let drawn = s.placement.drawn.places in
    let p = all-read (IsPlacedModule drawn) s.modules n m h.modules_are e in
    let q = all-read IsStackPlace s.stacks worker stack h.stacks_are f in
    record {
      modules_are = All-set (IsPlacedModule drawn) s.modules n _
          (record {
            whole = p.whole;
            offsets = p.offsets;
            movable = p.movable;
            fixed_drawn = p.fixed_drawn;
            entries = All-push (λ (x : Entry). IsApart m.image (entry_places x)) m.book.entries _ p.entries (apart-now m.image m.movable stack p.whole p.movable q);
          }) h.modules_are;
      stacks_are = h.stacks_are;
    })

placed-move : (line : ℕ) (s : RunState) (n : ℕ) → ArePlaced s → ArePlaced (with_module_moved line s n)
placed-move line s n h =
    move-keeps line s n ArePlaced h
    (λ m e.
    let drawn = s.placement.drawn.places in
    let p = all-read (IsPlacedModule drawn) s.modules n m h.modules_are e in
    let after = after_move s.placement line kinds.Code n m.movable in
    let still = still-placed s line kinds.Code n m.movable in
    let q = still m p in
    record {
      modules_are = All-set (IsPlacedModule after.drawn.places) s.modules n _
          (record {
            whole = q.whole;
            offsets = q.offsets;
            movable = part-by s.placement.drawn m.image m.movable (nat_lt (length drawn) MAPPINGS) refl p.whole p.fixed_drawn p.movable;
            fixed_drawn = q.fixed_drawn;
            entries = q.entries;
          }) (All-weaker (IsPlacedModule drawn) (IsPlacedModule after.drawn.places) still s.modules h.modules_are);
      stacks_are = h.stacks_are;
    })

placed-fresh : (line : ℕ) (s : RunState) (worker : ℕ) → ArePlaced s → ArePlaced (with_fresh_stack line s worker)
placed-fresh line s worker h =
    fresh-keeps line s worker ArePlaced h
    (λ stack e.
    let drawn = s.placement.drawn.places in
    let after = after_move s.placement line kinds.Stack worker stack in
    record {
      modules_are = All-weaker (IsPlacedModule drawn) (IsPlacedModule after.drawn.places) (still-placed s line kinds.Stack worker stack) s.modules h.modules_are;
      stacks_are = All-set IsStackPlace s.stacks worker _ (stack-by s.placement.drawn stack (nat_lt (length drawn) MAPPINGS) refl (all-read IsStackPlace s.stacks worker stack h.stacks_are e)) h.stacks_are;
    })

placed-step : (fuel : ℕ) (s : RunState) (step : ReadyStep) → ArePlaced s → ArePlaced (after_step fuel s step)
unfolding after_step
placed-step fuel s (Call line worker n export args) h = placed-call fuel s line worker n export args h
placed-step fuel s (Move line modules) h = fold-keeps ArePlaced (with_module_moved line) (λ t n. placed-move line t n) s modules h
placed-step fuel s (Stack line worker) h = placed-fresh line s worker h

-- all steps keep all placed
pub placed-run : (fuel : ℕ) (s : RunState) (steps : List ReadyStep) → ArePlaced s → ArePlaced (line_run fuel s steps)
placed-run fuel s steps h = fold-keeps ArePlaced (after_step fuel) (λ t step. placed-step fuel t step) s steps h
