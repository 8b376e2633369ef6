-- What holds of the rows of all mappings once the tables are closed: what a sound run owes of them, and where they are from.
use Rattle.std.proofs.Common.{◌≡◌, ◌≢◌, ℕ, ◌+◌, List, ◌++◌, map, get_or, slice_get, Some, refl, sym, ap, ◌∙◌, arith}
use Rattle.std.specs.List.{All, AllPairs, Contains, enumerate_from, flat_map}
use Rattle.std.proofs.lemmas.List.Elements.{Contains-append_left, Contains-append_right}
use Rattle.std.proofs.lemmas.List.Sorted.{Contains-permutation}
use Rattle.std.proofs.lemmas.Option.{slice_get-get_or}
use Rattle.ad_base.specs.declared.image.Image.{Image}
use Rattle.ad_base.specs.declared.ledger.Kind.TheVariants.{Fixed}
use Rattle.ad_base.specs.declared.ledger.Moved.{Moved}
use Rattle.ad_base.specs.declared.ledger.Row.{Row}
use Rattle.ad_base.specs.declared.place.Place.{Place}
use Rattle.ad_base.specs.Ledger.{IsLedger, IsUnmappedOnce, Mapping, made_mappings}
use Rattle.ad_lines.specs.LineLaws.{move_request, move_requests}
use Rattle.ad_lines.specs.Sound.{Lines, chosen_places, unframed}
use Rattle.ad_lines.proofs.Elements.{contains-read, pairs-read}
use Rattle.ad_lines.proofs.ListReads.{map-read, read-enumerate, read-map}
use Rattle.ad_mover.specs.Moves.{Moving}
use Rattle.ad_run.specs.Beside.{IsRowOf}
use Rattle.ad_run.specs.Opened.{opening_in_frames}
use Rattle.ad_run.specs.Rows.{fixed_row, fixed_rows}
use Rattle.ad_run.proofs.AllRows.{AreClosedRows, IsMoverRun, moves-asked, regions-differ, rows-ledger, rows-once, rows-places}
use Rattle.ad_run.proofs.KeptRows.{mappings_of}
use Rattle.ad_run.proofs.Ledgers.{ledger-places}
use Rattle.ad_script.specs.declared.script.Step.{Step}

-- what a sound run owes of its moves and of its rows
pub record HasSoundRows (frames : ℕ) (l : Lines) (moves : List Moved) (rows : List Row) : Type 0 where
  pub moves_are : map move_request moves ≡ flat_map move_requests l.steps
  pub places : map (λ (r : Row). unframed r.place) rows ≡ map unframed (chosen_places l moves)
  pub ledger : IsLedger (opening_in_frames frames l ++ made_mappings moves) rows
  pub unmapped : All IsUnmappedOnce rows

-- no two rows of a ledger are of one region where no two mappings are
pub ledger-regions : (ms : List Mapping) (rows : List Row) → IsLedger ms rows → AllPairs (λ (m n : Mapping). m.place.region ≢ n.place.region) ms → AllPairs (λ (r q : Row). r.place.region ≢ q.place.region) rows
ledger-regions ms rows ledger differ i j d less within e =
    let places = ledger-places ms rows ledger in
    let at : (k : ℕ) (r : Row) → slice_get rows k ≡ Some r → (m : Mapping) × (slice_get ms k ≡ Some m) × (m.place ≡ r.place) = λ k r f.
    map-read (λ (m : Mapping). m.place) ms k r.place (ap (λ ps. slice_get ps k) (sym places) ∙ read-map (λ (x : Row). x.place) rows k r f) in
    let m = at i (get_or rows i d) (slice_get-get_or rows i d (omega (arith, less, within))) in
    let n = at j (get_or rows j d) (slice_get-get_or rows j d within) in
    pairs-read (λ (x y : Mapping). x.place.region ≢ y.place.region) ms i j m.0 n.0 differ less m.1 n.1 (ap (λ (p : Place). p.region) m.2 ∙ e ∙ sym (ap (λ (p : Place). p.region) n.2))

-- the row of an immovable part is among those of all of them
pub fixed-listed : (images : List Image) (m : ℕ) (image : Image) → slice_get images m ≡ Some image → Contains (fixed_rows images) (fixed_row (m, image))
fixed-listed images m image loaded =
    let numbered : slice_get (enumerate_from 0 images) m ≡ Some (m, image) = let at : 0 + m ≡ m = omega arith in read-enumerate 0 images m image loaded ∙ ap (λ n. Some (n, image)) at in
    contains-read (fixed_rows images) m (fixed_row (m, image)) (read-map fixed_row (enumerate_from 0 images) m (m, image) numbered)

module _ (slots frames : ℕ) (l : Lines) (script : List Step) (last : Moving) (run : IsMoverRun slots frames l script last)
    (code stacks all : List Row) (closed : AreClosedRows slots frames l last code stacks all) where
  pub sound-rows : HasSoundRows frames l last.moves all
  sound-rows = record {
    moves_are = moves-asked slots frames l script last run;
    places = rows-places slots frames l script last run code stacks all closed;
    ledger = rows-ledger slots frames l script last run code stacks all closed;
    unmapped = rows-once slots frames l script last run code stacks all closed;
  }

  -- no two rows are of one region
  pub rows-regions : AllPairs (λ (r q : Row). r.place.region ≢ q.place.region) all
  rows-regions = ledger-regions (mappings_of frames l last.moves) all (rows-ledger slots frames l script last run code stacks all closed) (regions-differ slots frames l script last run)

  -- the rows of the closed tables are among them
  pub code-within : (r : Row) → Contains code r → Contains all r
  code-within r c =
      Contains-permutation (code ++ stacks ++ fixed_rows l.images) all r closed.merged.same
      (Contains-append_left (code ++ stacks) (fixed_rows l.images) r (Contains-append_left code stacks r c))

  pub stacks-within : (r : Row) → Contains stacks r → Contains all r
  stacks-within r c =
      Contains-permutation (code ++ stacks ++ fixed_rows l.images) all r closed.merged.same
      (Contains-append_left (code ++ stacks) (fixed_rows l.images) r (Contains-append_right code stacks r c))

  -- and each immovable part has one
  pub fixed-within : (m : ℕ) (image : Image) → slice_get l.images m ≡ Some image → (q : Row) × IsRowOf all Fixed m q × (q.place ≡ image.fixed)
  fixed-within m image loaded =
      let q = fixed_row (m, image) in
      let listed = Contains-permutation (code ++ stacks ++ fixed_rows l.images) all q closed.merged.same (Contains-append_right (code ++ stacks) (fixed_rows l.images) q (fixed-listed l.images m image loaded)) in
      (q, record { listed = listed; is_kind = refl; is_who = refl }, refl)
