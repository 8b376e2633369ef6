-- The rows of the two closed tables and of the immovable parts are the ledger of the opening and of what the moves made.
use Rattle.std.proofs.Common.{◌≡◌, ◌≢◌, inl, inr, ℕ, ◌+◌, ◌<◌, ◌≤◌, Bool, cond, eqb, List, [], ◌++◌, length, map, get_or, slice_get, Ok, Some, refl, sym, ap, subst, ◌∙◌, append-nil, arith}
use Rattle.std.specs.List.{All, AllPairs, Contains, enumerate_from, flat_map, sum_by}
use Rattle.std.proofs.lemmas.Bool.Decides.{eqb_tells}
use Rattle.std.proofs.lemmas.List.{length-map}
use Rattle.std.proofs.lemmas.List.Elements.{All-filter, All-same, Contains-append_cases, Contains-append_left, Contains-append_right}
use Rattle.std.proofs.lemmas.List.Sorted.{Contains-permutation, IsPermutation-sym, sum_by-IsPermutation}
use Rattle.std.proofs.lemmas.Option.{slice_get-get_or, slice_get_within}
use Rattle.std.proofs.lemmas.Simd.{map-map}
use Rattle.ad_base.specs.declared.layout.TheConstants.{MAPPINGS}
use Rattle.ad_base.specs.declared.ledger.Kind.{Kind}
use Rattle.ad_base.specs.declared.ledger.Kind.TheVariants.{Code, Fixed, Stack}
use Rattle.ad_base.specs.declared.ledger.Row.{Row}
use Rattle.ad_base.specs.declared.place.Place.{Place}
use Rattle.ad_base.specs.Ledger.{IsLedger, IsUnmappedOnce, Mapping, is_same_kind, made_mappings}
use Rattle.ad_lines.specs.LineLaws.{AreSteps, move_request, move_requests}
use Rattle.ad_lines.specs.Opening.{AreLoaded, row_of}
use Rattle.ad_lines.specs.Ready.{ready_steps}
use Rattle.ad_lines.specs.Sound.{Lines, chosen_places, unframed}
use Rattle.ad_lines.proofs.Elements.{contains-read, pairs-read}
use Rattle.ad_lines.proofs.LedgerRuns.{kind-same, number-at}
use Rattle.ad_lines.proofs.ListReads.{Each, all-each, each-all, map-read, read-map}
use Rattle.ad_maps.specs.declared.shape.Shape.{Shape}
use Rattle.ad_maps.specs.declared.words.TheConstants.{MODULE_FRAMES}
use Rattle.ad_maps.specs.Ledger.{all_made, line_in}
use Rattle.ad_maps.specs.Rows as rows
use Rattle.ad_maps.specs.Rows.{AreInOrder, AreRowsOf, HaveRowOfEach}
use Rattle.ad_maps.proofs.Elements.{filter-from, filter-to}
use Rattle.ad_mover.specs.Moves.{MakesSteps, Moving}
use Rattle.ad_place.specs.Choice.{Drawn, places_of}
use Rattle.ad_run.specs.Opened.{new_moving, opening_in_frames, shape_for}
use Rattle.ad_run.specs.Rows.{AreMerged, fixed_rows}
use Rattle.ad_run.proofs.Framed.{fixed_mapping, of_mapping_kind}
use Rattle.ad_run.proofs.KeptMappings.{HasMappings, lane_places, mappings-kept, mappings-open}
use Rattle.ad_run.proofs.KeptPlaces.{HasPlaces, places-kept, places-open}
use Rattle.ad_run.proofs.KeptRows.{HasRows, mappings_of, rows-kept, rows-open}
use Rattle.ad_run.proofs.Ledgers.{ledger-kind, ledger-made, ledger-new, ledger-places, ledger-same, numbered-rises, of_row_kind, rises-filter, row_made, same-kind-is, sum-kinds}
use Rattle.ad_run.proofs.MoverSteps.{keeps-steps, moved-steps}
use Rattle.ad_run.proofs.Ordered.{Rises, each-member, map-from, map-kept, map-to, same-list, sorted-same, times}
use Rattle.ad_run.proofs.ScriptSteps.{AreReadyAs, ready-script}
use Rattle.ad_script.specs.declared.script.Step.{Step}
use Rattle.ad_stacks.specs.declared.words.TheConstants.{NUMBERS}
use Rattle.ad_stacks.specs.Ledger.{AreRows, stack_mappings}
use Rattle.ad_stacks.proofs.InOrder.{in_order}

-- a run of the mover over the steps of a script
pub record IsMoverRun (slots frames : ℕ) (l : Lines) (script : List Step) (last : Moving) : Type 0 where
  pub loaded : AreLoaded l.seed l.workers l.images
  pub steps_are : AreSteps l.images l.workers l.steps
  pub ready : ready_steps l.images script ≡ Ok l.steps
  pub some_frame : 1 ≤ frames
  pub few_frames : frames ≤ MODULE_FRAMES
  pub made : MakesSteps (shape_for slots frames l) script (new_moving l (shape_for slots frames l)) last

-- the rows of the closed tables
pub record AreClosedRows (slots frames : ℕ) (l : Lines) (last : Moving) (code stacks all : List Row) : Type 0 where
  pub each_made : HaveRowOfEach (all_made (shape_for slots frames l) last.deeds) last.deeds code
  pub each_row : AreRowsOf (all_made (shape_for slots frames l) last.deeds) last.deeds code
  pub code_in_order : AreInOrder code
  pub lanes : AreRows (lane_places l) last.refreshes stacks
  pub once : All IsUnmappedOnce stacks
  pub merged : AreMerged (code ++ stacks ++ fixed_rows l.images) all

module _ (slots frames : ℕ) (l : Lines) (script : List Step) (last : Moving) (run : IsMoverRun slots frames l script last) where
  abbrev shape : Shape
  shape = shape_for slots frames l

  pub script-is : AreReadyAs l.images l.workers script l.steps
  script-is = ready-script l.images l.workers script l.steps run.ready run.steps_are.runnable run.steps_are.from_one

  -- what the mover moved is what the steps ask for, in order
  pub moves-asked : map move_request last.moves ≡ flat_map move_requests l.steps
  moves-asked = moved-steps shape script (new_moving l shape) last run.made ∙ script-is.asks

  pub last-rows : HasRows frames l last []
  last-rows = keeps-steps shape (length l.images) l.workers (HasRows frames l) (rows-kept slots frames l) script (new_moving l shape) last script-is.movable run.made (rows-open slots frames l run.loaded)

  pub last-mappings : HasMappings slots frames l last []
  last-mappings = keeps-steps shape (length l.images) l.workers (HasMappings slots frames l) (mappings-kept slots frames l) script (new_moving l shape) last script-is.movable run.made (mappings-open slots frames l run.loaded)

  pub last-places : HasPlaces slots frames l last []
  last-places =
      keeps-steps shape (length l.images) l.workers (HasPlaces slots frames l) (places-kept slots frames l run.loaded run.some_frame run.few_frames) script (new_moving l shape) last script-is.movable run.made
      (places-open slots frames l run.loaded run.some_frame run.few_frames)

  -- ---- places

  -- what was drawn is what the seed chooses
  pub places-chosen : last.drawn.places ≡ chosen_places l last.moves
  unfolding places_of
  places-chosen = ap (λ (d : Drawn). d.places) last-places.drawn

  -- each mapping lies at its place, but for the number of its frame
  pub mappings-lie : map (λ (m : Mapping). unframed m.place) (mappings_of frames l last.moves) ≡ map unframed (chosen_places l last.moves)
  mappings-lie = last-places.lie ∙ ap (map unframed) places-chosen

  place-drawn : (k : ℕ) (m : Mapping) → slice_get (mappings_of frames l last.moves) k ≡ Some m → (q : Place) × (slice_get last.drawn.places k ≡ Some q) × (unframed q ≡ unframed m.place)
  place-drawn k m e = map-read unframed last.drawn.places k (unframed m.place) (ap (λ ps. slice_get ps k) (sym last-places.lie) ∙ read-map (λ (x : Mapping). unframed x.place) (mappings_of frames l last.moves) k m e)

  -- and they are numbered from 1
  pub mappings-numbered : (k : ℕ) (m : Mapping) → slice_get (mappings_of frames l last.moves) k ≡ Some m → m.place.mapping ≡ k + 1
  mappings-numbered k m e = let q = place-drawn k m e in ap (λ (p : Place). p.mapping) (sym q.2) ∙ last-places.numbers k q.0 q.1

  pub mappings-few : length (mappings_of frames l last.moves) ≤ MAPPINGS
  mappings-few =
      let same = ap length last-places.lie in
      omega (arith, same, last-places.few, length-map (mappings_of frames l last.moves) (λ (m : Mapping). unframed m.place), length-map last.drawn.places unframed)

  -- no two have one region
  pub regions-differ : AllPairs (λ (m n : Mapping). m.place.region ≢ n.place.region) (mappings_of frames l last.moves)
  regions-differ i j d less within e =
      let all = mappings_of frames l last.moves in
      let m = get_or all i d in
      let n = get_or all j d in
      let p = place-drawn i m (slice_get-get_or all i d (omega (arith, less, within))) in
      let q = place-drawn j n (slice_get-get_or all j d within) in
      let apart = pairs-read (λ (x y : Place). x.region ≢ y.region) last.drawn.places i j p.0 q.0 last-places.apart less p.1 q.1 in
      apart (ap (λ (x : Place). x.region) p.2 ∙ e ∙ sym (ap (λ (x : Place). x.region) q.2))

  -- ---- the rows of each kind

  abbrev all_mappings : List Mapping
  all_mappings = mappings_of frames l last.moves

  abbrev rs : List Row
  rs = last-rows.rows

  kind-once : (kind : Kind) → Each IsUnmappedOnce (of_row_kind kind rs)
  kind-once kind k r e = each-member IsUnmappedOnce rs r last-rows.are.once (filter-from (λ (x : Row). is_same_kind kind x.kind) rs r (contains-read (of_row_kind kind rs) k r e)).0

  code-row : (r : Row) → Contains rs r → r.kind ≡ Code → rows.row_of last.deeds (row_made r) ≡ r
  code-row r c code =
      let number : r.mapping ≡ r.place.mapping = each-member (λ (x : Row). x.mapping ≡ x.place.mapping) rs r (number-at all_mappings rs last-rows.are.ledger) c in
      let told : r.line ≡ line_in (last.deeds ++ []) r.mapping = each-member (λ (x : Row). x.kind ≡ Code → x.line ≡ line_in (last.deeds ++ []) x.mapping) rs r last-rows.lines c code in
      let line : line_in last.deeds r.place.mapping ≡ r.line = sym (told ∙ (λ j. line_in (append-nil last.deeds j) (number j))) in
      let once = each-member IsUnmappedOnce rs r last-rows.are.once c in
      let unmaps : cond (eqb r.line 0) 0 1 ≡ r.unmaps = elim (eqb_tells r.line 0) [
        | inl none ↦ ap (λ (b : Bool). cond b 0 1) none.0 ∙ sym (once.never none.1)
        | inr some ↦ ap (λ (b : Bool). cond b 0 1) some.0 ∙ sym (once.once some.1)
      ] in
      (λ j. record { mapping = sym number j; kind = sym code j; who = r.who; place = r.place; line = line j; unmaps = cond (eqb (line j) 0) 0 1 })
      ∙ (λ j. record { mapping = r.mapping; kind = r.kind; who = r.who; place = r.place; line = r.line; unmaps = unmaps j })

  pub code-rows : map (rows.row_of last.deeds) (all_made shape last.deeds) ≡ of_row_kind Code rs
  code-rows =
      let codes = of_row_kind Code rs in
      let each : Each (λ r. rows.row_of last.deeds (row_made r) ≡ r) codes = λ k r e.
      let from = filter-from (λ (x : Row). is_same_kind Code x.kind) rs r (contains-read codes k r e) in
      code-row r from.0 (sym (same-kind-is Code r.kind from.1)) in
      ap (map (rows.row_of last.deeds)) (sym last-mappings.codes ∙ sym (ledger-made (of_mapping_kind Code all_mappings) codes (ledger-kind Code all_mappings rs last-rows.are.ledger)))
      ∙ map-map (rows.row_of last.deeds) row_made codes
      ∙ map-kept (λ r. rows.row_of last.deeds (row_made r)) codes each

  pub fixed-are : fixed_rows l.images ≡ of_row_kind Fixed rs
  fixed-are =
      let fixed = of_row_kind Fixed rs in
      let ledger = subst (λ ms. IsLedger ms fixed) last-mappings.fixed (ledger-kind Fixed all_mappings rs last-rows.are.ledger) in
      let none : Each (λ (r : Row). r.line ≡ 0) fixed = λ k r e.
      let from = filter-from (λ (x : Row). is_same_kind Fixed x.kind) rs r (contains-read fixed k r e) in
      each-member (λ (x : Row). x.kind ≡ Fixed → x.line ≡ 0) rs r last-rows.fixed from.0 (sym (same-kind-is Fixed r.kind from.1)) in
      sym (ledger-new (map fixed_mapping (enumerate_from 0 l.images)) fixed ledger (kind-once Fixed) none ∙ map-map row_of fixed_mapping (enumerate_from 0 l.images))

  pub stack-rows : (stacks : List Row) → AreRows (lane_places l) last.refreshes stacks → All IsUnmappedOnce stacks → stacks ≡ of_row_kind Stack rs
  stack-rows stacks are once =
      let ms = stack_mappings (lane_places l) last.refreshes in
      let test = λ (m : Mapping). is_same_kind Stack m.kind in
      let number = λ (m : Mapping). m.place.mapping in
      let rise : Rises number ms = subst (Rises number) last-mappings.stacks (rises-filter number test all_mappings (numbered-rises number all_mappings mappings-numbered)) in
      let low_all : All (λ (m : Mapping). m.place.mapping < NUMBERS) all_mappings =
      all-each (λ (m : Mapping). m.place.mapping < NUMBERS) all_mappings (λ k m e. omega (arith, mappings-numbered k m e, slice_get_within all_mappings k m e, mappings-few)) in
      let low = subst (All (λ (m : Mapping). m.place.mapping < NUMBERS)) last-mappings.stacks (All-filter test (λ (m : Mapping). m.place.mapping < NUMBERS) all_mappings low_all) in
      let listed : stacks ≡ are.listed = are.in_order ∙ in_order ms are.listed NUMBERS are.ledger rise low in
      let mine = subst (λ xs. IsLedger xs (of_row_kind Stack rs)) last-mappings.stacks (ledger-kind Stack all_mappings rs last-rows.are.ledger) in
      ledger-same ms stacks (of_row_kind Stack rs) (subst (IsLedger ms) (sym listed) are.ledger) mine (each-all IsUnmappedOnce stacks once) (kind-once Stack)

  -- ---- all rows

  of-kind : (kind : Kind) (r : Row) → Contains rs r → r.kind ≡ kind → Contains (of_row_kind kind rs) r
  of-kind kind r c is = filter-to (λ (x : Row). is_same_kind kind x.kind) rs r c (ap (is_same_kind kind) is ∙ kind-same kind)

  from-kind : (kind : Kind) (r : Row) → Contains (of_row_kind kind rs) r → Contains rs r
  from-kind kind r c = (filter-from (λ (x : Row). is_same_kind kind x.kind) rs r c).0

  module _ (code stacks all : List Row) (closed : AreClosedRows slots frames l last code stacks all) where
    code-to : (r : Row) → Contains code r → Contains rs r
    code-to r c =
        let g = closed.each_row r c in
        from-kind Code r (subst (λ xs. Contains xs r) code-rows (subst (Contains (map (rows.row_of last.deeds) (all_made shape last.deeds))) (sym g.2) (map-to (rows.row_of last.deeds) (all_made shape last.deeds) g.0 g.1)))

    code-kind : (r : Row) → Contains code r → r.kind ≡ Code
    code-kind r c = let g = closed.each_row r c in ap (λ (x : Row). x.kind) g.2

    code-from : (r : Row) → Contains (of_row_kind Code rs) r → Contains code r
    code-from r c =
        let g = map-from (rows.row_of last.deeds) (all_made shape last.deeds) r (subst (λ xs. Contains xs r) (sym code-rows) c) in
        subst (Contains code) g.2 (closed.each_made g.0 g.1)

    pub stacks-are : stacks ≡ of_row_kind Stack rs
    stacks-are = stack-rows stacks closed.lanes closed.once

    pub code-are : code ≡ of_row_kind Code rs
    code-are =
        same-list (λ (r : Row). r.mapping) code (of_row_kind Code rs) closed.code_in_order
        (rises-filter (λ (r : Row). r.mapping) (λ (r : Row). is_same_kind Code r.kind) rs (numbered-rises (λ (r : Row). r.mapping) rs last-rows.are.numbers))
        (λ r c. of-kind Code r (code-to r c) (code-kind r c)) code-from

    abbrev merged_rows : List Row
    merged_rows = code ++ stacks ++ fixed_rows l.images

    merged-are : merged_rows ≡ of_row_kind Code rs ++ of_row_kind Stack rs ++ of_row_kind Fixed rs
    merged-are = λ j. code-are j ++ stacks-are j ++ fixed-are j

    row-to : (r : Row) → Contains all r → Contains rs r
    row-to r c =
        let codes = of_row_kind Code rs in
        let others = of_row_kind Stack rs in
        let fixed = of_row_kind Fixed rs in
        let among = subst (λ xs. Contains xs r) merged-are (Contains-permutation all merged_rows r (IsPermutation-sym merged_rows all closed.merged.same) c) in
        elim (Contains-append_cases (codes ++ others) fixed r among) [
          | inl front ↦ elim (Contains-append_cases codes others r front) [
            | inl is ↦ from-kind Code r is
            | inr is ↦ from-kind Stack r is
          ]
          | inr is ↦ from-kind Fixed r is
        ]

    row-by : (kind : Kind) (r : Row) → r.kind ≡ kind → Contains rs r → Contains (of_row_kind Code rs ++ of_row_kind Stack rs ++ of_row_kind Fixed rs) r
    row-by Code r is c = Contains-append_left (of_row_kind Code rs ++ of_row_kind Stack rs) (of_row_kind Fixed rs) r (Contains-append_left (of_row_kind Code rs) (of_row_kind Stack rs) r (of-kind Code r c is))
    row-by Stack r is c = Contains-append_left (of_row_kind Code rs ++ of_row_kind Stack rs) (of_row_kind Fixed rs) r (Contains-append_right (of_row_kind Code rs) (of_row_kind Stack rs) r (of-kind Stack r c is))
    row-by Fixed r is c = Contains-append_right (of_row_kind Code rs ++ of_row_kind Stack rs) (of_row_kind Fixed rs) r (of-kind Fixed r c is)

    row-from : (r : Row) → Contains rs r → Contains all r
    row-from r c = Contains-permutation merged_rows all r closed.merged.same (subst (λ xs. Contains xs r) (sym merged-are) (row-by r.kind r refl c))

    counts : (k : ℕ) → times (λ (r : Row). r.mapping) k all ≡ times (λ (r : Row). r.mapping) k rs
    counts k =
        let f = λ (r : Row). cond (eqb r.mapping k) 1 0 in
        sum_by-IsPermutation f merged_rows all closed.merged.same ∙ ap (sum_by f) merged-are ∙ sum-kinds f rs

    pub all-are : all ≡ rs
    all-are =
        sorted-same (λ (r : Row). r.mapping) all rs closed.merged.in_order (numbered-rises (λ (r : Row). r.mapping) rs last-rows.are.numbers) counts row-to row-from

    -- the rows are the ledger of the opening and of what the moves made
    pub rows-ledger : IsLedger (opening_in_frames frames l ++ made_mappings last.moves) all
    rows-ledger = subst (IsLedger all_mappings) (sym all-are) last-rows.are.ledger

    -- what was retired was unmapped once
    pub rows-once : All IsUnmappedOnce all
    rows-once = All-same IsUnmappedOnce all rs all-are (all-each IsUnmappedOnce rs last-rows.are.once)

    -- each lies at the next place that the seed chooses, but for the number of its frame
    pub rows-places : map (λ (r : Row). unframed r.place) all ≡ map unframed (chosen_places l last.moves)
    rows-places =
        ap (map (λ (r : Row). unframed r.place)) all-are
        ∙ sym (map-map unframed (λ (r : Row). r.place) rs)
        ∙ ap (map unframed) (ledger-places all_mappings rs last-rows.are.ledger)
        ∙ map-map unframed (λ (m : Mapping). m.place) all_mappings
        ∙ mappings-lie
