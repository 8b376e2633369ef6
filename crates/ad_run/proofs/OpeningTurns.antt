-- What the turn table is opened with: books before the first call, with room for the draws of all workers.
use Rattle.std.proofs.Common.{◌≡◌, ℕ, ◌<◌, ◌≤◌, List, [], Vec, Global, length, map, slice_get, Some, sym, ap, ◌∙◌, arith}
use Rattle.std.specs.List.{All, range_with_len, sum_by}
use Rattle.std.specs.Option.{IfSome}
use Rattle.std.proofs.lemmas.List.{length-map}
use Rattle.std.proofs.lemmas.List.FromFn.{length-map-range_with_len}
use Rattle.std.proofs.lemmas.Option.{slice_get_within}
use Rattle.std.proofs.lemmas.Simd.{map-map}
use Rattle.ad_base.specs.declared.book.Book.{Book}
use Rattle.ad_base.specs.Book.{Contents, contents_of}
use Rattle.ad_core.specs.Turn.{opening_contents}
use Rattle.ad_lines.specs.Room.{calls_of}
use Rattle.ad_lines.specs.Sound.{Lines}
use Rattle.ad_lines.proofs.Elements.{all-reads}
use Rattle.ad_lines.proofs.ListReads.{map-read, read-map}
use Rattle.ad_run.specs.Calls.{calls_at, calls_of_worker}
use Rattle.ad_run.specs.Opened.{draws_for}
use Rattle.ad_run.proofs.OpeningDraws.{draws-fit}
use Rattle.ad_run.proofs.OpeningFits.{if-read}
use Rattle.ad_run.proofs.OpeningJobs.{read-counted}
use Rattle.ad_turns.specs.Turns.{draws_of}
use Rattle.ad_wrapper.specs.declared.hands.Ready.{Ready}

-- the books hold what those of the images hold before the first call, and have room for all calls of their modules
pub record AreNewBooks (l : Lines) (books : List Book) : Type 0 where
  pub contents : map contents_of books ≡ map opening_contents l.images
  pub rooms : map (λ (b : Book). b.history.room) books ≡ map (λ m. sum_by (calls_of m) l.steps) (range_with_len 0 (length l.images))

-- the draws of workers who make these calls
pub drawn-of : (l : Lines) (calls : List (Vec Ready Global)) → l.workers ≡ length calls → map (λ (list : Vec Ready Global). list.items) calls ≡ map (λ w. calls_of_worker w l.steps) (range_with_len 0 (length calls))
    → (draws : List (List ℕ)) → draws ≡ map (λ (list : Vec Ready Global). map (λ m. calls_at m list.items) (range_with_len 0 (length l.images))) calls → draws ≡ map (draws_for l) (range_with_len 0 l.workers)
drawn-of l calls many are draws drawn =
    let counted : List Ready → List ℕ = λ list. map (λ m. calls_at m list) (range_with_len 0 (length l.images)) in
    drawn
    ∙ sym (map-map counted (λ (list : Vec Ready Global). list.items) calls)
    ∙ ap (map counted) are
    ∙ map-map counted (λ w. calls_of_worker w l.steps) (range_with_len 0 (length calls))
    ∙ ap (λ n. map (draws_for l) (range_with_len 0 n)) (sym many)

module _ (l : Lines) (books : List Book) (new : AreNewBooks l books) (draws : List (List ℕ)) (drawn : draws ≡ map (draws_for l) (range_with_len 0 l.workers)) where
  pub as-many-books : length books ≡ length l.images
  as-many-books = sym (length-map books contents_of) ∙ ap length new.contents ∙ length-map l.images opening_contents

  pub as-many-draws : length draws ≡ l.workers
  as-many-draws = ap length drawn ∙ length-map-range_with_len (draws_for l) 0 l.workers

  pub all-wide : All (λ (left : List ℕ). length left ≡ length books) draws
  all-wide =
      all-reads (λ (left : List ℕ). length left ≡ length books) draws
      (λ k left e.
      let w = map-read (draws_for l) (range_with_len 0 l.workers) k left (ap (λ (xs : List (List ℕ)). slice_get xs k) (sym drawn) ∙ e) in
      sym (ap length w.2) ∙ length-map-range_with_len _ 0 (length l.images) ∙ sym as-many-books)

  pub all-empty : All (λ (b : Book). b.history.entries ≡ []) books
  all-empty =
      all-reads (λ (b : Book). b.history.entries ≡ []) books
      (λ k b e.
      let i = map-read opening_contents l.images k (contents_of b) (ap (λ (xs : List Contents). slice_get xs k) (sym new.contents) ∙ read-map contents_of books k b e) in
      sym (ap (λ (x : Contents). x.entries) i.2))

  pub has-room : (m : ℕ) → IfSome (slice_get books m) (λ (b : Book). draws_of draws m ≤ b.history.room)
  has-room m =
      if-read (slice_get books m) (λ (b : Book). draws_of draws m ≤ b.history.room)
      (λ b e.
      let within : m < length l.images = omega (arith, slice_get_within books m b e, as-many-books) in
      let rooms = map (λ n. sum_by (calls_of n) l.steps) (range_with_len 0 (length l.images)) in
      let found : Some b.history.room ≡ Some (sum_by (calls_of m) l.steps) =
      sym (read-map (λ (x : Book). x.history.room) books m b e) ∙ ap (λ (xs : List ℕ). slice_get xs m) new.rooms
      ∙ read-map (λ n. sum_by (calls_of n) l.steps) (range_with_len 0 (length l.images)) m m (read-counted (length l.images) m within) in
      let room : b.history.room ≡ sum_by (calls_of m) l.steps = cc in
      let same = ap (λ (ds : List (List ℕ)). draws_of ds m) drawn in
      omega (arith, room, same, draws-fit l m within))
