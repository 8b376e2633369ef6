-- The tables of a run that are opened for its images fit them.
use Rattle.std.proofs.Common.{◌≡◌, ℕ, List, length, map, slice_get, Option, Some, None, refl, sym, ap, subst, ◌∙◌}
use Rattle.std.specs.List.{All}
use Rattle.std.specs.Option.{IfSome, IsSomeAnd}
use Rattle.std.proofs.lemmas.List.{length-map}
use Rattle.std.proofs.lemmas.Option.{slice_get_within}
use Rattle.ad_base.specs.declared.book.Book.{Book}
use Rattle.ad_base.specs.declared.image.Image.{Image}
use Rattle.ad_base.specs.Book.{Contents, contents_of}
use Rattle.ad_base.specs.Image.{IsWhole, movable_pages}
use Rattle.ad_call.specs.Call.{HasData}
use Rattle.ad_core.specs.Turn.{opening_contents}
use Rattle.ad_lines.specs.Opening.{AreLoaded}
use Rattle.ad_lines.specs.Sound.{Lines}
use Rattle.ad_lines.proofs.Asked.{code_request}
use Rattle.ad_lines.proofs.ListReads.{map-read, read-map}
use Rattle.ad_lines.proofs.Opens.{drawn-as}
use Rattle.ad_maps.specs.declared.shape.Opening.{Opening}
use Rattle.ad_maps.specs.declared.shape.Shape.{Shape}
use Rattle.ad_maps.specs.MapPlace.{opening_of}
use Rattle.ad_run.specs.Opened.{shape_for}
use Rattle.ad_run.proofs.Framed.{shape-size}
use Rattle.ad_run.proofs.OpeningTables.{at-module, opened-as}
use Rattle.ad_wrapper.specs.declared.shared.Shared.{Shared}
use Rattle.ad_wrapper.specs.Fits.{Fits}

-- what holds of an item that is read, if one is
pub if-read : {A : Type 0} (o : Option A) (P : A → Type 0) → ((x : A) → o ≡ Some x → P x) → IfSome o P
if-read None P h = tt
if-read (Some x) P h = h x refl

module _ (slots frames : ℕ) (l : Lines) (loaded : AreLoaded l.seed l.workers l.images) where
  -- a module, with the pages and the cells of its image
  fits-module : (m : ℕ) (i : Image) → slice_get l.images m ≡ Some i
      → let o = opening_of (shape_for slots frames l) m in (movable_pages i ≡ o.place.pages) × (i.cells ≡ o.cells)
  fits-module m i found =
      let within = slice_get_within l.images m i found in
      let a = at-module l loaded slots frames m within in
      let both : Some a.image ≡ Some i = sym a.loaded_as ∙ found in
      let same : a.image ≡ i = cc in
      let is = drawn-as l.seed l.workers l.images loaded a.drawn_for.at (code_request (m, a.image)) a.place a.drawn_for.asked a.drawn_for.there in
      let opened = opened-as l loaded slots frames m within in (
        ap movable_pages (sym same) ∙ sym is.pages ∙ ap (λ (o : Opening). o.place.pages) (sym opened),
        ap (λ (x : Image). x.cells) (sym same) ∙ ap (λ (o : Opening). o.cells) (sym opened),
      )

  -- a book, with the data of its image
  fits-book : (books : List Book) → map contents_of books ≡ map opening_contents l.images → (m : ℕ) (i : Image) → slice_get l.images m ≡ Some i
      → IsSomeAnd (slice_get books m) (λ (b : Book). HasData i b.writable b.fixed)
  fits-book books are m i found =
      let b = map-read contents_of books m (opening_contents i) (ap (λ (xs : List Contents). slice_get xs m) are ∙ read-map opening_contents l.images m i found) in
      subst (λ (o : Option Book). IsSomeAnd o (λ (b : Book). HasData i b.writable b.fixed)) (sym b.1)
      (record { movable = ap (λ (c : Contents). length c.writable) b.2; immovable = ap (λ (c : Contents). length c.fixed) b.2 })

  pub fits-tables : (s : Shared) → s.images ≡ l.images → s.maps.shape ≡ shape_for slots frames l → map contents_of s.turns.openings ≡ map opening_contents l.images → Fits s
  fits-tables s images shaped books = record {
    modules = ap length images ∙ sym (shape-size slots frames l loaded) ∙ ap (λ (x : Shape). length x.modules) (sym shaped);
    books = ap length images ∙ sym (length-map l.images opening_contents) ∙ ap length (sym books) ∙ length-map s.turns.openings contents_of;
    whole = subst (λ (is : List Image). All IsWhole is) (sym images) loaded.whole;
    pages = λ m.
        if-read (slice_get s.images m) (λ (i : Image). movable_pages i ≡ (opening_of s.maps.shape m).place.pages)
        (λ i e. (fits-module m i (ap (λ (is : List Image). slice_get is m) (sym images) ∙ e)).0 ∙ ap (λ (x : Shape). (opening_of x m).place.pages) (sym shaped));
    cells = λ m.
        if-read (slice_get s.images m) (λ (i : Image). i.cells ≡ (opening_of s.maps.shape m).cells)
        (λ i e. (fits-module m i (ap (λ (is : List Image). slice_get is m) (sym images) ∙ e)).1 ∙ ap (λ (x : Shape). (opening_of x m).cells) (sym shaped));
    «data» = λ m.
        if-read (slice_get s.images m) (λ (i : Image). IsSomeAnd (slice_get s.turns.openings m) (λ (b : Book). HasData i b.writable b.fixed))
        (λ i e. fits-book s.turns.openings books m i (ap (λ (is : List Image). slice_get is m) (sym images) ∙ e));
  }
