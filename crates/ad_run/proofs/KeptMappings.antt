-- The mappings of movable parts are those of the mapping table, in order, those of stacks are those that the lanes were given, and
-- those of immovable parts are the opening's.
use Rattle.std.proofs.Common.{◌≡◌, ℕ, ◌*◌, ◌<◌, ◌≤◌, cond, List, [], ◌∷◌, ◌++◌, length, map, refl, sym, ap, ◌∙◌, append_assoc, append-nil}
use Rattle.std.specs.Prelude.{nat_lt}
use Rattle.std.specs.List.{enumerate_from}
use Rattle.std.proofs.lemmas.List.{map-append}
use Rattle.std.proofs.lemmas.List.Elements.{filter-append}
use Rattle.ad_base.specs.declared.layout.TheConstants.{MAPPINGS, STACK_PAGES}
use Rattle.ad_base.specs.declared.ledger.Kind.{Kind}
use Rattle.ad_base.specs.declared.ledger.Kind.TheVariants.{Code, Fixed, Stack}
use Rattle.ad_base.specs.declared.ledger.MoveEnd.{MoveEnd}
use Rattle.ad_base.specs.declared.ledger.MoveEnd.TheVariants.{Busy, Made, Spent}
use Rattle.ad_base.specs.declared.ledger.Moved.{Moved}
use Rattle.ad_base.specs.declared.place.Place.{Place}
use Rattle.ad_base.specs.Ledger.{Mapping, is_same_kind, made_mapping}
use Rattle.ad_lines.specs.Opening.{AreLoaded, places_of_kind}
use Rattle.ad_lines.specs.Sound.{Lines}
use Rattle.ad_maps.specs.declared.view.Deed.{Deed}
use Rattle.ad_maps.specs.Ledger.{all_made, maps_in, opened_from}
use Rattle.ad_maps.proofs.Elements.{maps-append}
use Rattle.ad_mover.specs.Moves.{AllOwned, MayCome, Moving, NoNumber, Outcome, Placed, end_of, given_by, retired_by, with_outcome, with_stack}
use Rattle.ad_place.specs.Choice.{next_place}
use Rattle.ad_run.specs.Opened.{drawn_mappings, new_moving, opening_in_frames, shape_for}
use Rattle.ad_run.proofs.DeedLines.{made-after, made-ended, made_by, no-retired}
use Rattle.ad_run.proofs.Framed.{code_made, fixed_mapping, of_mapping_kind, opening-codes, opening-fixed, opening-stacks}
use Rattle.ad_run.proofs.KeptRows.{mappings-push, mappings_of, with_given}
use Rattle.ad_run.proofs.MoverSteps.{IsKept, with_end}
use Rattle.ad_stacks.specs.declared.view.Given.{Given}
use Rattle.ad_stacks.specs.Ledger.{all_given, given_from, stack_mapping, stack_mappings}

-- the stacks that the lanes were given before the first line
abbrev pub lane_places : Lines → List Place
lane_places l = places_of_kind Stack (drawn_mappings l)

pub record HasMappings (slots frames : ℕ) (l : Lines) (s : Moving) (waiting : List Deed) : Type 0 where
  pub codes : map code_made (of_mapping_kind Code (mappings_of frames l s.moves)) ≡ all_made (shape_for slots frames l) s.deeds
  pub stacks : of_mapping_kind Stack (mappings_of frames l s.moves) ≡ stack_mappings (lane_places l) s.refreshes
  pub fixed : of_mapping_kind Fixed (mappings_of frames l s.moves) ≡ map fixed_mapping (enumerate_from 0 l.images)
  pub silent : maps_in waiting ≡ []

-- the mappings of a kind once one more move came to an end
kind-push : (kind : Kind) (frames : ℕ) (l : Lines) (moves : List Moved) (x : Moved)
    → of_mapping_kind kind (mappings_of frames l (moves ++ x ∷ [])) ≡ of_mapping_kind kind (mappings_of frames l moves) ++ of_mapping_kind kind (made_mapping x)
kind-push kind frames l moves x =
    ap (of_mapping_kind kind) (mappings-push frames l moves x) ∙ filter-append (λ (m : Mapping). is_same_kind kind m.kind) (mappings_of frames l moves) (made_mapping x)

-- what a move of a module makes, of each kind
abbrev code_move : ℕ → ℕ → Outcome → Moved
code_move line m o = record { line = line; kind = Code; who = m; end = end_of o }

codes-by : (line m : ℕ) (o : Outcome) → map code_made (of_mapping_kind Code (made_mapping (code_move line m o))) ≡ made_by m o
codes-by line m NoNumber = refl
codes-by line m (AllOwned owners last) = refl
codes-by line m (Placed owners p) = refl

stacks-by : (line m : ℕ) (o : Outcome) → of_mapping_kind Stack (made_mapping (code_move line m o)) ≡ []
stacks-by line m NoNumber = refl
stacks-by line m (AllOwned owners last) = refl
stacks-by line m (Placed owners p) = refl

fixed-by : (line m : ℕ) (o : Outcome) → of_mapping_kind Fixed (made_mapping (code_move line m o)) ≡ []
fixed-by line m NoNumber = refl
fixed-by line m (AllOwned owners last) = refl
fixed-by line m (Placed owners p) = refl

-- what a stack line makes
abbrev stack_move : ℕ → ℕ → MoveEnd → Moved
stack_move line worker end = record { line = line; kind = Stack; who = worker; end = end }

codes-given : (line worker : ℕ) (end : MoveEnd) → of_mapping_kind Code (made_mapping (stack_move line worker end)) ≡ []
codes-given line worker (Made p) = refl
codes-given line worker (Busy owner) = refl
codes-given line worker Spent = refl

stacks-given : (line worker : ℕ) (end : MoveEnd) → of_mapping_kind Stack (made_mapping (stack_move line worker end)) ≡ map stack_mapping (given_by line worker end)
stacks-given line worker (Made p) = refl
stacks-given line worker (Busy owner) = refl
stacks-given line worker Spent = refl

fixed-given : (line worker : ℕ) (end : MoveEnd) → of_mapping_kind Fixed (made_mapping (stack_move line worker end)) ≡ []
fixed-given line worker (Made p) = refl
fixed-given line worker (Busy owner) = refl
fixed-given line worker Spent = refl

-- nothing of a kind more
none-push : (kind : Kind) (frames : ℕ) (l : Lines) (moves : List Moved) (x : Moved) → of_mapping_kind kind (made_mapping x) ≡ []
    → of_mapping_kind kind (mappings_of frames l (moves ++ x ∷ [])) ≡ of_mapping_kind kind (mappings_of frames l moves)
none-push kind frames l moves x none =
    kind-push kind frames l moves x ∙ ap (λ ms. of_mapping_kind kind (mappings_of frames l moves) ++ ms) none ∙ append-nil (of_mapping_kind kind (mappings_of frames l moves))

stacks-more : (openings : List Place) (refreshes more : List Given) → stack_mappings openings refreshes ++ map stack_mapping more ≡ stack_mappings openings (refreshes ++ more)
stacks-more openings refreshes more =
    sym (map-append stack_mapping (all_given openings refreshes) more) ∙ ap (map stack_mapping) (append_assoc (given_from 0 openings) refreshes more)

module _ (slots frames : ℕ) (l : Lines) where
  moved : (s : Moving) (waiting : List Deed) (line m : ℕ) (o : Outcome) → 1 ≤ line → m < length l.images
      → MayCome (shape_for slots frames l) m s.drawn (all_made (shape_for slots frames l) s.deeds) o → HasMappings slots frames l s waiting
      → HasMappings slots frames l (with_outcome (shape_for slots frames l) line m o s) (waiting ++ retired_by line m s.current o)
  moved s waiting line m o some within may h =
      let shape = shape_for slots frames l in
      let x = code_move line m o in
      let codes = of_mapping_kind Code (mappings_of frames l s.moves) in
      record {
        codes = ap (map code_made) (kind-push Code frames l s.moves x)
            ∙ map-append code_made codes (of_mapping_kind Code (made_mapping x))
            ∙ (λ j. h.codes j ++ codes-by line m o j)
            ∙ sym (made-after shape s.deeds (m * shape.frames) m o);
        stacks = none-push Stack frames l s.moves x (stacks-by line m o) ∙ h.stacks;
        fixed = none-push Fixed frames l s.moves x (fixed-by line m o) ∙ h.fixed;
        silent = maps-append waiting (retired_by line m s.current o) ∙ (λ j. h.silent j ++ no-retired line m s.current o j);
      }

  ended : (s : Moving) (waiting : List Deed) (numbers : List ℕ) → HasMappings slots frames l s waiting → HasMappings slots frames l (with_end s waiting numbers) []
  ended s waiting numbers h = record {
    codes = h.codes ∙ sym (made-ended (shape_for slots frames l) s.deeds waiting numbers h.silent);
    stacks = h.stacks;
    fixed = h.fixed;
    silent = refl;
  }

  given-by : (s : Moving) (line worker : ℕ) (end : MoveEnd) → HasMappings slots frames l s [] → HasMappings slots frames l (with_given line worker s end) []
  given-by s line worker end h =
      let x = stack_move line worker end in
      record {
        codes = ap (map code_made) (none-push Code frames l s.moves x (codes-given line worker end)) ∙ h.codes;
        stacks = kind-push Stack frames l s.moves x ∙ (λ j. h.stacks j ++ stacks-given line worker end j) ∙ stacks-more (lane_places l) s.refreshes (given_by line worker end);
        fixed = none-push Fixed frames l s.moves x (fixed-given line worker end) ∙ h.fixed;
        silent = refl;
      }

  given : (s : Moving) (line worker : ℕ) → 1 ≤ line → worker < l.workers → HasMappings slots frames l s [] → HasMappings slots frames l (with_stack line worker s) []
  given s line worker some within h = given-by s line worker (cond (nat_lt (length s.drawn.places) MAPPINGS) (Made (next_place s.drawn Stack STACK_PAGES)) Spent) h

  pub mappings-kept : IsKept (shape_for slots frames l) (length l.images) l.workers (HasMappings slots frames l)
  mappings-kept = record { moved = moved; ended = ended; given = given }

  pub mappings-open : AreLoaded l.seed l.workers l.images → HasMappings slots frames l (new_moving l (shape_for slots frames l)) []
  mappings-open loaded =
      let all : mappings_of frames l [] ≡ opening_in_frames frames l = append-nil (opening_in_frames frames l) in
      let shape = shape_for slots frames l in
      record {
        codes = ap (λ ms. map code_made (of_mapping_kind Code ms)) all ∙ opening-codes slots frames l loaded ∙ sym (append-nil (opened_from 0 shape.modules));
        stacks = ap (of_mapping_kind Stack) all ∙ opening-stacks slots frames l loaded ∙ ap (map stack_mapping) (sym (append-nil (given_from 0 (lane_places l))));
        fixed = ap (of_mapping_kind Fixed) all ∙ opening-fixed slots frames l loaded;
        silent = refl;
      }
