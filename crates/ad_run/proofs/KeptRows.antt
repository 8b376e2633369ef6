-- A row for each mapping, as moves go on: those of movable parts have the lines that the mover's list tells, and each module and
-- each worker has one with no line.
use Rattle.std.proofs.Common.{◌≡◌, ◌≢◌, inl, inr, ℕ, ◌+◌, ◌*◌, ◌<◌, ◌≤◌, Bool, true, false, cond, List, [], ◌∷◌, ◌++◌, length, map, refl, sym, ap, subst, ◌∙◌, append-nil, arith, length-set, get_or-set_same, get_or-set_other}
use Rattle.std.specs.Prelude.{nat_lt, slice_index, slice_set}
use Rattle.std.proofs.lemmas.Bool.Decides.{eqb_tells}
use Rattle.std.proofs.lemmas.List.{flat_map_more, length-map, length_push}
use Rattle.std.proofs.lemmas.Option.{slice_get_within}
use Rattle.ad_base.specs.declared.layout.TheConstants.{MAPPINGS, STACK_PAGES}
use Rattle.ad_base.specs.declared.ledger.Kind.{Kind}
use Rattle.ad_base.specs.declared.ledger.Kind.TheVariants.{Code, Fixed, Stack}
use Rattle.ad_base.specs.declared.ledger.MoveEnd.{MoveEnd}
use Rattle.ad_base.specs.declared.ledger.MoveEnd.TheVariants.{Busy, Made, Spent}
use Rattle.ad_base.specs.declared.ledger.Moved.{Moved}
use Rattle.ad_base.specs.declared.ledger.Row.{Row}
use Rattle.ad_base.specs.declared.place.Place.{Place}
use Rattle.ad_base.specs.Ledger.{Mapping, made_mapping, made_mappings}
use Rattle.ad_lines.specs.LineRun.{retired}
use Rattle.ad_lines.specs.Opening.{AreLoaded, row_of}
use Rattle.ad_lines.specs.Sound.{Lines}
use Rattle.ad_lines.proofs.ListReads.{Each, map-read}
use Rattle.ad_maps.specs.declared.view.Deed.{Deed}
use Rattle.ad_maps.specs.declared.view.Deed.TheVariants as deed
use Rattle.ad_maps.specs.Ledger.{all_made, line_in}
use Rattle.ad_maps.proofs.Elements.{lines-else}
use Rattle.ad_mover.specs.Moves.{AllOwned, MayCome, Moving, NoNumber, Outcome, Placed, deeds_of, given_by, retired_by, stack_drawn, with_outcome, with_stack}
use Rattle.ad_place.specs.Choice.{Drawn, next_place}
use Rattle.ad_run.specs.Opened.{new_moving, opening_in_frames, shape_for}
use Rattle.ad_run.proofs.DeedLines.{AreSilent, HasLines, has-append, has-deeds, has-unmaps, line-ended, line-retired, line-waits, silent-deeds}
use Rattle.ad_run.proofs.Framed.{opening-current, opening-lane, opening-rows, opening-size, shape-size}
use Rattle.ad_run.proofs.MoverSteps.{IsKept, with_end}
use Rattle.ad_run.proofs.RowLists.{AreRowsFor, HasOpenRow, each-with, open-here, open-number, open-others, rows-with, with_row}

-- all mappings so far, in order
abbrev pub mappings_of : ℕ → Lines → List Moved → List Mapping
mappings_of frames l moves = opening_in_frames frames l ++ made_mappings moves

pub mappings-push : (frames : ℕ) (l : Lines) (moves : List Moved) (x : Moved) → mappings_of frames l (moves ++ x ∷ []) ≡ mappings_of frames l moves ++ made_mapping x
mappings-push frames l moves x = sym (flat_map_more made_mapping (opening_in_frames frames l) moves x)

-- the line of a row is the one that these deeds tell, if it is a movable part's
abbrev pub HasLineIn : List Deed → Row → Type 0
HasLineIn deeds r = r.kind ≡ Code → r.line ≡ line_in deeds r.mapping

abbrev pub IsNeverRetired : Row → Type 0
IsNeverRetired r = r.kind ≡ Fixed → r.line ≡ 0

pub record HasRows (frames : ℕ) (l : Lines) (s : Moving) (waiting : List Deed) : Type 0 where
  pub rows : List Row
  pub are : AreRowsFor (mappings_of frames l s.moves) rows
  pub size : length rows ≡ length s.drawn.places
  pub lines : Each (HasLineIn (s.deeds ++ waiting)) rows
  pub fixed : Each IsNeverRetired rows
  pub low : (n : ℕ) → length rows < n → line_in (s.deeds ++ waiting) n ≡ 0
  pub told : HasLines s.deeds
  pub waits : HasLines waiting
  pub count : length s.current ≡ length l.images
  pub current : (m : ℕ) → m < length l.images → HasOpenRow rows Code m (slice_index s.current m)
  pub lanes : (w : ℕ) → w < l.workers → (number : ℕ) × HasOpenRow rows Stack w number

code-not-fixed : Code ≡ Fixed → ⊥
code-not-fixed e = cc

stack-not-fixed : Stack ≡ Fixed → ⊥
stack-not-fixed e = cc

stack-not-code : Stack ≡ Code → ⊥
stack-not-code e = cc

module _ (frames : ℕ) (l : Lines) (s : Moving) (waiting : List Deed) (h : HasRows frames l s waiting) where
  -- what is so once a mapping of a thing was made in place of that of a number
  module _ (deeds : List Deed) (n : Mapping) (number : ℕ) (c : HasOpenRow h.rows n.kind n.who number) (some : 1 ≤ n.line) (next : n.place.mapping ≡ length h.rows + 1)
      (elsewhere : (i : ℕ) → i ≢ number → line_in deeds i ≡ line_in (s.deeds ++ waiting) i) where
    old-low : number ≤ length h.rows
    old-low = omega (arith, c.number_is, slice_get_within h.rows c.at c.row c.found)

    length-with : length (with_row number n h.rows) ≡ length h.rows + 1
    length-with = length_push (map (retired number n.line) h.rows) (row_of n) ∙ ap (λ k. k + 1) (length-map h.rows (retired number n.line))

    with-lines : (n.kind ≡ Code → line_in deeds number ≡ n.line) → Each (HasLineIn deeds) (with_row number n h.rows)
    with-lines here =
        each-with (mappings_of frames l s.moves) h.rows n number h.are c (HasLineIn (s.deeds ++ waiting)) (HasLineIn deeds)
        (λ r old other code. old code ∙ sym (elsewhere r.mapping other))
        (λ old code. sym (here (sym c.of_kind ∙ code)) ∙ ap (line_in deeds) (sym (open-number (mappings_of frames l s.moves) h.rows n number h.are c)))
        (λ code. sym (elsewhere n.place.mapping (λ e. absurd (omega (arith, e, next, old-low))) ∙ h.low n.place.mapping (omega (arith, next))))
        h.lines

    with-fixed : (n.kind ≡ Fixed → ⊥) → Each IsNeverRetired (with_row number n h.rows)
    with-fixed apart =
        each-with (mappings_of frames l s.moves) h.rows n number h.are c IsNeverRetired IsNeverRetired
        (λ r old other. old) (λ old fixed. absurd (apart (sym c.of_kind ∙ fixed))) (λ fixed. refl) h.fixed

    with-low : (i : ℕ) → length (with_row number n h.rows) < i → line_in deeds i ≡ 0
    with-low i above = elsewhere i (λ e. absurd (omega (arith, e, above, length-with, old-low))) ∙ h.low i (omega (arith, above, length-with))

-- ---- a move of a module

-- the mover's list and its moves grew, and nothing was made
module _ (frames : ℕ) (l : Lines) (s : Moving) (waiting : List Deed) (h : HasRows frames l s waiting) where
  unmoved : (news : List Deed) (x : Moved) → AreSilent news → HasLines news → made_mapping x ≡ []
      → HasRows frames l (record { drawn = s.drawn; deeds = s.deeds ++ news; current = s.current; refreshes = s.refreshes; moves = s.moves ++ x ∷ [] }) (waiting ++ [])
  unmoved news x silent told none =
      let same : mappings_of frames l s.moves ≡ mappings_of frames l (s.moves ++ x ∷ []) =
      sym (mappings-push frames l s.moves x ∙ ap (λ ms. mappings_of frames l s.moves ++ ms) none ∙ append-nil (mappings_of frames l s.moves)) in
      let line : (n : ℕ) → line_in ((s.deeds ++ news) ++ (waiting ++ [])) n ≡ line_in (s.deeds ++ waiting) n = λ n.
      line-waits s.deeds news waiting [] n silent ∙ ap (λ ds. line_in ds n) (append-nil (s.deeds ++ waiting)) in
      record {
        rows = h.rows;
        are = subst (λ ms. AreRowsFor ms h.rows) same h.are;
        size = h.size;
        lines = λ k r e code. h.lines k r e code ∙ sym (line r.mapping);
        fixed = h.fixed;
        low = λ n above. line n ∙ h.low n above;
        told = has-append s.deeds news h.told told;
        waits = subst HasLines (sym (append-nil waiting)) h.waits;
        count = h.count;
        current = h.current;
        lanes = h.lanes;
      }

-- the number of a place that is drawn
pub next-number : (d : Drawn) (kind : Kind) (pages frame : ℕ) (p : Place) → p ≡ record (next_place d kind pages) { frame = frame } → p.mapping ≡ length d.places + 1
unfolding next_place
next-number d kind pages frame p e = ap (λ (q : Place). q.mapping) e

stack-number : (d : Drawn) → (next_place d Stack STACK_PAGES).mapping ≡ length d.places + 1
unfolding next_place
stack-number d = refl

module _ (slots frames : ℕ) (l : Lines) where
  placed : (s : Moving) (waiting : List Deed) (line m : ℕ) (owners : List ℕ) (p : Place) → 1 ≤ line → m < length l.images
      → MayCome (shape_for slots frames l) m s.drawn (all_made (shape_for slots frames l) s.deeds) (Placed owners p) → HasRows frames l s waiting
      → HasRows frames l (with_outcome (shape_for slots frames l) line m (Placed owners p) s) (waiting ++ deed.Retire (slice_index s.current m) line ∷ [])
  placed s waiting line m owners p some within may h =
      let shape = shape_for slots frames l in
      let x : Moved = record { line = line; kind = Code; who = m; end = Made p } in
      let n : Mapping = record { kind = Code; who = m; place = p; line = line } in
      let all = mappings_of frames l s.moves in
      let number = slice_index s.current m in
      let c = h.current m within in
      let news = deeds_of (m * shape.frames) m (Placed owners p) in
      let last = deed.Retire number line ∷ [] in
      let deeds = (s.deeds ++ news) ++ (waiting ++ last) in
      let next : p.mapping ≡ length h.rows + 1 = next-number s.drawn Code _ _ p may.3 ∙ ap (λ k. k + 1) (sym h.size) in
      let waits : (i : ℕ) → line_in deeds i ≡ line_in ((s.deeds ++ waiting) ++ last) i = λ i. line-waits s.deeds news waiting last i (silent-deeds (m * shape.frames) m (Placed owners p)) in
      let elsewhere : (i : ℕ) → i ≢ number → line_in deeds i ≡ line_in (s.deeds ++ waiting) i = λ i other. waits i ∙ lines-else (s.deeds ++ waiting) number line i other in
      let before : line_in (s.deeds ++ waiting) number ≡ 0 =
      ap (line_in (s.deeds ++ waiting)) (sym (open-number all h.rows n number h.are c)) ∙ sym (h.lines c.at c.row c.found c.of_kind) ∙ c.no_line in
      let here : line_in deeds number ≡ line = waits number ∙ line-retired (s.deeds ++ waiting) number line (has-append s.deeds waiting h.told h.waits) before in
      let long = length-with frames l s waiting h deeds n number c some next elsewhere in
      record {
        rows = with_row number n h.rows;
        are = subst (λ ms. AreRowsFor ms (with_row number n h.rows)) (sym (mappings-push frames l s.moves x)) (rows-with all h.rows n number h.are c some next);
        size = long ∙ ap (λ k. k + 1) h.size ∙ sym (length_push s.drawn.places _);
        lines = with-lines frames l s waiting h deeds n number c some next elsewhere (λ e. here);
        fixed = with-fixed frames l s waiting h deeds n number c some next elsewhere code-not-fixed;
        low = with-low frames l s waiting h deeds n number c some next elsewhere;
        told = has-append s.deeds news h.told (has-deeds (m * shape.frames) m (Placed owners p));
        waits = has-append waiting last h.waits (some, tt);
        count = length-set s.current m p.mapping ∙ h.count;
        current = λ k low. elim (eqb_tells k m) [
          | inl this ↦
              let same : slice_index (slice_set s.current m p.mapping) k ≡ length h.rows + 1 = ap (slice_index (slice_set s.current m p.mapping)) this.1 ∙ get_or-set_same s.current m p.mapping 0 (omega (arith, within, h.count)) ∙ next in
              subst (λ i. HasOpenRow (with_row number n h.rows) Code i (slice_index (slice_set s.current m p.mapping) k)) (sym this.1)
              (subst (HasOpenRow (with_row number n h.rows) Code m) (sym same) (open-here all h.rows n number h.are c))
          | inr other ↦
              let same : slice_index (slice_set s.current m p.mapping) k ≡ slice_index s.current k = get_or-set_other s.current m k p.mapping 0 other.1 in
              subst (HasOpenRow (with_row number n h.rows) Code k) (sym same) (open-others all h.rows n number h.are c Code k (slice_index s.current k) (λ e w. other.1 w) (h.current k low))
        ];
        lanes = λ w low. let old = h.lanes w low in (old.0, open-others all h.rows n number h.are c Stack w old.0 (λ e who. stack-not-code e) old.1);
      }

  moved : (s : Moving) (waiting : List Deed) (line m : ℕ) (o : Outcome) → 1 ≤ line → m < length l.images
      → MayCome (shape_for slots frames l) m s.drawn (all_made (shape_for slots frames l) s.deeds) o → HasRows frames l s waiting
      → HasRows frames l (with_outcome (shape_for slots frames l) line m o s) (waiting ++ retired_by line m s.current o)
  moved s waiting line m NoNumber some within may h =
      unmoved frames l s waiting h [] (record { line = line; kind = Code; who = m; end = Spent }) (silent-deeds 0 m NoNumber) tt refl
  moved s waiting line m (AllOwned owners last) some within may h =
      let shape = shape_for slots frames l in
      unmoved frames l s waiting h (deeds_of (m * shape.frames) m (AllOwned owners last)) (record { line = line; kind = Code; who = m; end = Busy last })
      (silent-deeds (m * shape.frames) m (AllOwned owners last)) (has-deeds (m * shape.frames) m (AllOwned owners last)) refl
  moved s waiting line m (Placed owners p) some within may h = placed s waiting line m owners p some within may h

  ended : (s : Moving) (waiting : List Deed) (numbers : List ℕ) → HasRows frames l s waiting → HasRows frames l (with_end s waiting numbers) []
  ended s waiting numbers h =
      let unmaps = map (λ (n : ℕ). deed.Unmap n) numbers in
      record {
        rows = h.rows;
        are = h.are;
        size = h.size;
        lines = λ k r e code. h.lines k r e code ∙ sym (line-ended s.deeds waiting numbers r.mapping);
        fixed = h.fixed;
        low = λ n above. line-ended s.deeds waiting numbers n ∙ h.low n above;
        told = has-append (s.deeds ++ waiting) unmaps (has-append s.deeds waiting h.told h.waits) (has-unmaps numbers);
        waits = tt;
        count = h.count;
        current = h.current;
        lanes = h.lanes;
      }

-- ---- a stack line

-- the mover once a stack line came to this end
abbrev pub with_given : ℕ → ℕ → Moving → MoveEnd → Moving
with_given line worker s end = record {
  drawn = stack_drawn s.drawn end;
  deeds = s.deeds;
  current = s.current;
  refreshes = s.refreshes ++ given_by line worker end;
  moves = s.moves ++ record { line = line; kind = Stack; who = worker; end = end } ∷ [];
}

module _ (frames : ℕ) (l : Lines) where
  given-by : (s : Moving) (line worker : ℕ) (b : Bool) → 1 ≤ line → worker < l.workers → HasRows frames l s [] → HasRows frames l (with_given line worker s (cond b (Made (next_place s.drawn Stack STACK_PAGES)) Spent)) []
  given-by s line worker false some within h =
      let x : Moved = record { line = line; kind = Stack; who = worker; end = Spent } in
      let same : mappings_of frames l s.moves ≡ mappings_of frames l (s.moves ++ x ∷ []) = sym (mappings-push frames l s.moves x ∙ append-nil (mappings_of frames l s.moves)) in
      record {
        rows = h.rows;
        are = subst (λ ms. AreRowsFor ms h.rows) same h.are;
        size = h.size;
        lines = h.lines;
        fixed = h.fixed;
        low = h.low;
        told = h.told;
        waits = h.waits;
        count = h.count;
        current = h.current;
        lanes = h.lanes;
      }
  given-by s line worker true some within h =
      let p = next_place s.drawn Stack STACK_PAGES in
      let x : Moved = record { line = line; kind = Stack; who = worker; end = Made p } in
      let n : Mapping = record { kind = Stack; who = worker; place = p; line = line } in
      let all = mappings_of frames l s.moves in
      let lane = h.lanes worker within in
      let number = lane.0 in
      let c = lane.1 in
      let deeds = s.deeds ++ [] in
      let next : p.mapping ≡ length h.rows + 1 = stack-number s.drawn ∙ ap (λ k. k + 1) (sym h.size) in
      let elsewhere : (i : ℕ) → i ≢ number → line_in deeds i ≡ line_in (s.deeds ++ []) i = λ i other. refl in
      record {
        rows = with_row number n h.rows;
        are = subst (λ ms. AreRowsFor ms (with_row number n h.rows)) (sym (mappings-push frames l s.moves x)) (rows-with all h.rows n number h.are c some next);
        size = length-with frames l s [] h deeds n number c some next elsewhere ∙ ap (λ k. k + 1) h.size ∙ sym (length_push s.drawn.places p);
        lines = with-lines frames l s [] h deeds n number c some next elsewhere (λ e. absurd (stack-not-code e));
        fixed = with-fixed frames l s [] h deeds n number c some next elsewhere stack-not-fixed;
        low = with-low frames l s [] h deeds n number c some next elsewhere;
        told = h.told;
        waits = tt;
        count = h.count;
        current = λ m low. open-others all h.rows n number h.are c Code m (slice_index s.current m) (λ e who. stack-not-code (sym e)) (h.current m low);
        lanes = λ w low. elim (eqb_tells w worker) [
          | inl this ↦ (length h.rows + 1, subst (λ i. HasOpenRow (with_row number n h.rows) Stack i (length h.rows + 1)) (sym this.1) (open-here all h.rows n number h.are c))
          | inr other ↦ let old = h.lanes w low in (old.0, open-others all h.rows n number h.are c Stack w old.0 (λ e who. other.1 who) old.1)
        ];
      }

  given : (s : Moving) (line worker : ℕ) → 1 ≤ line → worker < l.workers → HasRows frames l s [] → HasRows frames l (with_stack line worker s) []
  given s line worker some within h = given-by s line worker (nat_lt (length s.drawn.places) MAPPINGS) some within h

module _ (slots frames : ℕ) (l : Lines) where
  pub rows-kept : IsKept (shape_for slots frames l) (length l.images) l.workers (HasRows frames l)
  rows-kept = record { moved = moved slots frames l; ended = ended slots frames l; given = given frames l }

  pub rows-open : AreLoaded l.seed l.workers l.images → HasRows frames l (new_moving l (shape_for slots frames l)) []
  rows-open loaded =
      let ms = opening_in_frames frames l in
      record {
        rows = map row_of ms;
        are = subst (λ xs. AreRowsFor xs (map row_of ms)) (sym (append-nil ms)) (opening-rows slots frames l loaded);
        size = opening-size slots frames l loaded;
        lines = λ k r e code. let x = map-read row_of ms k r e in sym (ap (λ (y : Row). y.line) x.2);
        fixed = λ k r e code. let x = map-read row_of ms k r e in sym (ap (λ (y : Row). y.line) x.2);
        low = λ n above. refl;
        told = tt;
        waits = tt;
        count = length-map (shape_for slots frames l).modules _ ∙ shape-size slots frames l loaded;
        current = opening-current slots frames l loaded;
        lanes = opening-lane slots frames l loaded;
      }
