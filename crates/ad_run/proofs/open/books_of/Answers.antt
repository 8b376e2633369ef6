use Rattle.std.proofs.Common.{◌<◌, ◌∷◌, [], ◌++◌, ◌∙◌, ap, length, map, refl, sym, arith}
use Rattle.std.specs.List.{sum_by}
use Rattle.std.proofs.lemmas.List.{map_push}
use Rattle.std.proofs.lemmas.List.FromFn.{map-range_with_len_more}
use Rattle.std.proofs.lemmas.Option.{slice_get_read}
use Rattle.ad_base.specs.declared.book.Book.{Book}
use Rattle.ad_base.specs.Book.{contents_of}
use Rattle.ad_core.specs.Turn.{opening_contents}
use Rattle.ad_lines.specs.Room.{calls_of}
use Rattle.ad_lines.proofs.ListReads.{read-map}
use Rattle.ad_lines.proofs.Zips.{take-next}
use Rattle.ad_run.proofs.open.books_of.Goals as goal

pub loop-module-preserved : goal.loop-module-preserved
loop-module-preserved c =
    let l = c.loop-module in
    let n = l.«module» in
    let images = c.args.images.now in
    let image = c.index-images-module.result in
    let book = c.in_ok-book.book in
    let within : n < length images = omega arith in
    let there = slice_get_read images (length images) n image refl within c.index-images-module.is in
    record {
      contents =
          ap (map contents_of) c.in_ok-push.ensures.items
          ∙ map_push contents_of l.books.items book
          ∙ (λ j. l.invariant.contents j ++ c.in_ok-book.ensures.opening j ∷ [])
          ∙ sym (take-next (map opening_contents images) n (opening_contents image) (read-map opening_contents images n image there));
      room =
          ap (map (λ (b : Book). b.history.room)) c.in_ok-push.ensures.items
          ∙ map_push (λ (b : Book). b.history.room) l.books.items book
          ∙ (λ j. l.invariant.room j ++ (c.in_ok-book.ensures.room ∙ c.calls_of.ensures) j ∷ [])
          ∙ sym (map-range_with_len_more (λ m. sum_by (calls_of m) c.args.steps.now) 0 n n (omega arith));
    }
