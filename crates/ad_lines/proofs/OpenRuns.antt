-- A run is sound before its first line.
use Rattle.std.proofs.Common.{◌≡◌, ℕ, true, false, List, [], ◌∷◌, ◌++◌, length, map, slice_get, Some, refl, sym, ap, subst, ◌∙◌, append-nil, arith}
use Rattle.std.specs.List.{zip}
use Rattle.ad_base.specs.declared.image.Image.{Image}
use Rattle.ad_base.specs.declared.layout.TheConstants.{MAPPINGS}
use Rattle.ad_base.specs.declared.ledger.Kind.TheVariants.{Code, Stack}
use Rattle.ad_base.specs.declared.place.Place.{Place}
use Rattle.ad_base.specs.Book.{Contents}
use Rattle.ad_base.specs.Image.{IsWhole}
use Rattle.ad_base.specs.Ledger.{IsLedger, IsUnmappedOnce, Mapping, is_same_thing, retired_line}
use Rattle.ad_lines.specs.LineRun.{ModuleState}
use Rattle.ad_lines.specs.Opening.{AreLoaded, Request, opening_drawn, opening_mapping, opening_mappings, opening_modules, opening_requests, opening_run, places_of_kind, row_of, stack_request}
use Rattle.ad_lines.proofs.Asked.{AreOfOthers, code_request, fixed_request, requests-apart}
use Rattle.ad_lines.proofs.LedgerRuns.{IsMadeLater, retired-next}
use Rattle.ad_lines.proofs.ListReads.{Each, each-all, each-tail, map-read, read-map}
use Rattle.ad_lines.proofs.MoveRuns.{IsCurrent, IsSoundPlacement}
use Rattle.ad_lines.proofs.Opened.{opened-at}
use Rattle.ad_lines.proofs.Opens.{IsDrawnFor, drawn-as, drawn-each, drawn-is, fixed-for, length-drawn, numbered, part-for, regions-apart, rows-list, rows-places, stack-for}
use Rattle.ad_lines.proofs.SoundRuns.{IsPlacedModule, IsPlacedStack, IsSoundState}
use Rattle.ad_lines.proofs.Zips.{read-zip, zip-read}

-- no two are of the same thing
abbrev AreApart : List Mapping → Type 0
AreApart [] = Unit {0}
AreApart (m ∷ ms) = Each (λ x. is_same_thing m x ≡ false) ms × AreApart ms

none-retired : (m : Mapping) (later : List Mapping) → Each (λ x. is_same_thing m x ≡ false) later → retired_line m later ≡ 0
none-retired m [] h = refl
none-retired m (x ∷ xs) h = retired-next m x xs (h 0 x refl) ∙ none-retired m xs (each-tail (λ y. is_same_thing m y ≡ false) x xs h)

-- their rows are their ledger
ledger-of : (ms : List Mapping) → AreApart ms → IsLedger ms (map row_of ms)
ledger-of [] h = refl
ledger-of (m ∷ ms) h = (record { number = refl; kind = refl; who = refl; place = refl; line = sym (none-retired m ms h.0) }, ledger-of ms h.1)

true-not-false : true ≡ false → ⊥
true-not-false e = cc

later-of : (ms : List Mapping) → AreApart ms → IsMadeLater ms
later-of [] h = tt
later-of (m ∷ ms) h = ((λ k x e same. absurd (true-not-false (sym same ∙ h.0 k x e))), later-of ms h.1)

-- mappings that were asked for by different things are of different things
mappings-apart : (requests : List Request) (places : List Place) → AreOfOthers requests → AreApart (map opening_mapping (zip requests places))
mappings-apart [] places h = tt
mappings-apart (r ∷ rs) [] h = tt
mappings-apart (r ∷ rs) (p ∷ ps) h = (
  (λ k m e.
      let z = map-read opening_mapping (zip rs ps) k m e in
      subst (λ x. is_same_thing (opening_mapping (r, p)) x ≡ false) z.2 (h.0 k z.0.0 (zip-read rs ps k z.0 z.1).0)),
  mappings-apart rs ps h.1,
)

module _ (seed workers : ℕ) (images : List Image) (loaded : AreLoaded seed workers images) where
  -- the places are sound
  opens : IsSoundPlacement (opening_mappings workers images (opening_drawn seed workers images).places) (opening_run workers images (opening_drawn seed workers images)).placement
  unfolding opening_run
  opens =
      let ps = (opening_drawn seed workers images).places in
      let requests = opening_requests workers images in
      let ms = opening_mappings workers images ps in
      let each = drawn-each seed workers images loaded in
      let apart = mappings-apart requests ps (requests-apart workers images) in
      let same : ms ≡ ms ++ [] = sym (append-nil ms) in
      record {
        ledger = subst (λ xs. IsLedger xs (map row_of ms)) same (ledger-of ms apart);
        later = subst IsMadeLater same (later-of ms apart);
        numbers = (rows-list requests ps each MAPPINGS (numbered seed workers images loaded) (omega arith)).numbered;
        once = λ k r e. let x = map-read row_of ms k r e in subst IsUnmappedOnce x.2 (record { once = λ f. absurd (f refl); never = λ f. refl });
        places = rows-places requests ps each;
        few = omega (arith, length-drawn seed workers images loaded, loaded.few_workers, loaded.few_modules);
        apart = regions-apart seed workers images loaded;
        are = λ k p e. (drawn-is seed workers images loaded k p e).2.place;
      }

  -- the row of a place that was drawn
  current : (r : Request) (p : Place) → IsDrawnFor (opening_requests workers images) (opening_drawn seed workers images).places r p
      → IsCurrent (map row_of (opening_mappings workers images (opening_drawn seed workers images).places)) r.kind r.who p
  current r p is =
      let ps = (opening_drawn seed workers images).places in
      let requests = opening_requests workers images in
      record {
        at = is.at;
        row = row_of (opening_mapping (r, p));
        found = read-map row_of (map opening_mapping (zip requests ps)) is.at (opening_mapping (r, p)) (read-map opening_mapping (zip requests ps) is.at (r, p) (read-zip requests ps is.at r p is.asked is.there));
        of_kind = refl;
        of_who = refl;
        of_place = refl;
        no_line = refl;
      }

  -- a module of the opening is placed
  module-opens : (n : ℕ) (m : ModuleState) → slice_get (opening_modules images (places_of_kind Code (opening_mappings workers images (opening_drawn seed workers images).places))) n ≡ Some m
      → IsPlacedModule (map row_of (opening_mappings workers images (opening_drawn seed workers images).places)) n m
  module-opens n m e =
      let is = opened-at images (places_of_kind Code (opening_mappings workers images (opening_drawn seed workers images).places)) n m e in
      let movable = part-for seed workers images loaded n m.image m.movable is.image_there is.part_there in
      record {
        movable = current (code_request (n, m.image)) m.movable movable;
        fixed = current (fixed_request (n, m.image)) m.image.fixed (fixed-for seed workers images loaded n m.image is.image_there);
        whole = each-all IsWhole images loaded.whole n m.image is.image_there;
        lengths = record { movable = ap (λ (b : Contents). length b.writable) is.opens; immovable = ap (λ (b : Contents). length b.fixed) is.opens };
        pages = (drawn-as seed workers images loaded movable.at (code_request (n, m.image)) m.movable movable.asked movable.there).pages;
      }

  -- so is a stack
  stack-opens : (n : ℕ) (p : Place) → slice_get (places_of_kind Stack (opening_mappings workers images (opening_drawn seed workers images).places)) n ≡ Some p
      → IsPlacedStack (map row_of (opening_mappings workers images (opening_drawn seed workers images).places)) n p
  stack-opens n p e =
      let is = stack-for seed workers images loaded n p e in
      record {
        place = current (stack_request n) p is;
        pages = (drawn-as seed workers images loaded is.at (stack_request n) p is.asked is.there).pages;
      }

  -- the run is sound before its first line
  pub run-opens : IsSoundState (opening_mappings workers images (opening_drawn seed workers images).places) (opening_run workers images (opening_drawn seed workers images))
  unfolding opening_run
  run-opens = record { sound = opens; modules = module-opens; stacks = stack-opens }
