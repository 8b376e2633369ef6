-- The clear calls of a run's books reply as the symbolic machine does, where the places of its calls lie apart.
use Rattle.std.proofs.Common.{◌≡◌, ◌≢◌, inl, inr, ℕ, ◌<◌, List, length, map, get_or, Option, Some, slice_get, sym, ap, ◌∙◌, subst, arith}
use Rattle.std.specs.List.{All, AllPairs, AllZip, Contains}
use Rattle.std.specs.Option.{IfSome}
use Rattle.std.proofs.lemmas.Bool.{cases_lt}
use Rattle.std.proofs.lemmas.List.{get_or_default, length-map}
use Rattle.std.proofs.lemmas.List.Elements.{Contains-get_or}
use Rattle.ad_base.specs.declared.book.Book.{Book}
use Rattle.ad_base.specs.declared.book.Entry.{Entry}
use Rattle.ad_base.specs.declared.image.Image.{Image}
use Rattle.ad_base.specs.declared.ledger.Kind.TheVariants.{Code, Fixed}
use Rattle.ad_base.specs.declared.ledger.Row.{Row}
use Rattle.ad_base.specs.declared.place.Place.{Place}
use Rattle.ad_base.specs.Book.{Contents, contents_of}
use Rattle.ad_base.specs.Image.{IsWhole, movable_pages}
use Rattle.ad_core.specs.Turn.{IsLawful}
use Rattle.ad_lines.specs.Sound.{Lines}
use Rattle.ad_lines.proofs.Elements.{all-read}
use Rattle.ad_lines.proofs.ListReads.{map-read}
use Rattle.ad_maps.specs.MapPlace.{opening_of}
use Rattle.ad_relate.specs.ClearHistory.{AreOffsets, ArePlacedApart, RepliesAsReplayed, entry_places}
use Rattle.ad_relate.specs.Stands.{IsApart}
use Rattle.ad_relate.proofs.ClearHistory.{replies}
use Rattle.ad_run.specs.Beside.{IsRowOf}
use Rattle.ad_run.proofs.Books.{lawful-book, zip-reads}
use Rattle.ad_run.proofs.OnRows.{HaveCodeRows, IsCalledOn, called-on}
use Rattle.ad_run.proofs.Ran.{HasRun, as-many}
use Rattle.ad_wrapper.specs.declared.hands.Hands.{Hands}
use Rattle.ad_wrapper.specs.declared.shared.Shared.{Shared}

-- the places of these calls lie in another region than the immovable part of the image
abbrev pub AreFromFixed : Image → List Entry → Type 0
AreFromFixed image entries = (e : Entry) → Contains entries e → e.under.region ≢ image.fixed.region

-- the places of an entry lie apart, if its movable part lies apart from the immovable one
apart-on : (s : Shared) (after : List Hands) (m : ℕ) (image : Image) (e : Entry) → IsWhole image → movable_pages image ≡ (opening_of s.maps.shape m).place.pages → IsCalledOn s after m e → e.under.region ≢ image.fixed.region → IsApart image (entry_places e)
apart-on s after m image e whole pages on from = record {
  whole = whole;
  movable = on.is_place.place;
  movable_size = on.is_place.size ∙ sym pages;
  stack = on.is_stack.place;
  stack_size = on.is_stack.size;
  movable_stack = λ same. absurd (omega (arith, on.is_place.place.for_modules, on.is_stack.for_stacks, same));
  movable_fixed = from;
  stack_fixed = λ same. absurd (omega (arith, whole.fixed_place.for_modules, on.is_stack.for_stacks, same));
}

-- no two rows are of one region
abbrev pub HaveOwnRegions : List Row → Type 0
HaveOwnRegions rows = AllPairs (λ (r q : Row). r.place.region ≢ q.place.region) rows

-- then rows of one region are one row
pub one-row : (rows : List Row) → HaveOwnRegions rows → (r q : Row) → Contains rows r → Contains rows q → r.place.region ≡ q.place.region → r ≡ q
one-row rows apart r q c d same =
    let at : (k : ℕ) (x y : Row) → k < length rows → get_or rows k x ≡ x → get_or rows k y ≡ x = λ k x y low e. get_or_default rows k y x low ∙ e in
    elim (cases_lt c.0 d.0) [
      | inl less ↦ absurd (apart c.0 d.0 r less d.1 (ap (λ (x : Row). x.place.region) c.2 ∙ same ∙ sym (ap (λ (x : Row). x.place.region) (at d.0 q r d.1 d.2))))
      | inr most ↦ elim (cases_lt d.0 c.0) [
        | inl less ↦ absurd (apart d.0 c.0 r less c.1 (ap (λ (x : Row). x.place.region) (at d.0 q r d.1 d.2) ∙ sym same ∙ sym (ap (λ (x : Row). x.place.region) c.2)))
        | inr least ↦
            let one : c.0 ≡ d.0 = omega arith in
            sym c.2 ∙ ap (λ k. get_or rows k r) one ∙ at d.0 q r d.1 d.2
      ]
    ]

-- each immovable part has a row
abbrev pub HaveFixedRows : List Image → List Row → Type 0
HaveFixedRows images rows = (m : ℕ) (image : Image) → slice_get images m ≡ Some image → (q : Row) × IsRowOf rows Fixed m q × (q.place ≡ image.fixed)

module _ (slots frames : ℕ) (l : Lines) (s : Shared) (before after : List Hands) (books : List Book) (ran : HasRun slots frames l s before after books) where
  whole-image : (m : ℕ) (image : Image) → slice_get l.images m ≡ Some image → IsWhole image
  whole-image m image e = all-read IsWhole l.images m image (subst (All IsWhole) ran.opened.images ran.opened.fits.whole) e

  -- the places of a book's calls lie apart, if no movable part lies in the region of the immovable one
  pub placed-apart : (m : ℕ) (image : Image) (contents : Contents) → slice_get l.images m ≡ Some image → slice_get (map contents_of books) m ≡ Some contents → AreFromFixed image contents.entries → ArePlacedApart image contents.entries
  placed-apart m image contents e f from =
      let loaded : slice_get s.images m ≡ Some image = ap (λ images. slice_get images m) ran.opened.images ∙ e in
      let pages : movable_pages image ≡ (opening_of s.maps.shape m).place.pages = subst (λ (o : Option Image). IfSome o (λ i. movable_pages i ≡ (opening_of s.maps.shape m).place.pages)) loaded (ran.opened.fits.pages m) in
      let whole = whole-image m image e in
      λ k d within.
      let x = get_or contents.entries k d in
      let stands = Contains-get_or contents.entries k d within in
      apart-on s after m image x whole pages (called-on slots frames l s before after books ran m contents f x stands) (from x stands)

  -- where they do in each book, the clear calls of each reply so
  pub clear-replies : All AreOffsets l.images → ((m : ℕ) (image : Image) (contents : Contents) → slice_get l.images m ≡ Some image → slice_get (map contents_of books) m ≡ Some contents → ArePlacedApart image contents.entries)
      → AllZip (λ (i : Image) (b : Contents). RepliesAsReplayed i l.fuel b.entries) l.images (map contents_of books)
  clear-replies offsets apart =
      zip-reads (λ (i : Image) (b : Contents). RepliesAsReplayed i l.fuel b.entries) l.images (map contents_of books)
      (sym (length-map books contents_of ∙ as-many slots frames l s before after books ran))
      (λ m image contents e f.
      let book = map-read contents_of books m contents f in
      let lawful = subst (IsLawful image l.fuel) book.2 (lawful-book slots frames l s before after books ran m image book.0 e book.1) in
      replies image l.fuel contents (whole-image m image e) lawful (apart m image contents e f) (all-read AreOffsets l.images m image offsets e))

  -- so they do where no two rows are of one region, each place that a worker read is that of a row of its module, and each
  -- immovable part has a row
  pub from-rows : (rows : List Row) → HaveOwnRegions rows
      → HaveFixedRows l.images rows
      → HaveCodeRows after rows
      → (m : ℕ) (image : Image) (contents : Contents) → slice_get l.images m ≡ Some image → slice_get (map contents_of books) m ≡ Some contents → AreFromFixed image contents.entries
  from-rows rows apart fixed code m image contents e f x c same =
      let on = called-on slots frames l s before after books ran m contents f x c in
      let r = code x.worker on.hands on.stored m x.under on.read in
      let q = fixed m image e in
      let one = one-row rows apart r.0 q.0 r.1.listed q.1.listed (ap (λ (p : Place). p.region) r.2 ∙ same ∙ sym (ap (λ (p : Place). p.region) q.2)) in
      let no : Code ≡ Fixed = sym r.1.is_kind ∙ ap (λ (x : Row). x.kind) one ∙ q.1.is_kind in
      absurd cc

  -- and the clear calls of each book reply as the symbolic machine does
  pub clear-on-rows : (rows : List Row) → HaveOwnRegions rows
      → HaveFixedRows l.images rows
      → HaveCodeRows after rows
      → All AreOffsets l.images → AllZip (λ (i : Image) (b : Contents). RepliesAsReplayed i l.fuel b.entries) l.images (map contents_of books)
  clear-on-rows rows apart fixed code offsets = clear-replies offsets (λ m image contents e f. placed-apart m image contents e f (from-rows rows apart fixed code m image contents e f))
