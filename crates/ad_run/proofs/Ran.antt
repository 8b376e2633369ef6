-- What the calls of a run give, and what follows of each worker and of each module.
use Rattle.std.proofs.Common.{◌≡◌, ℕ, ◌<◌, ◌==◌, Bool, true, false, cond, List, [], ◌∷◌, length, map, Option, Some, slice_get, refl, sym, ap, ◌∙◌, subst, eq-eqb, eqb-true, get_or, arith}
use Rattle.std.specs.List.{All, Contains, filter}
use Rattle.std.specs.Option.{IfSome, IsSomeAnd}
use Rattle.std.proofs.lemmas.List.{length-map}
use Rattle.std.proofs.lemmas.List.Elements.{All-append, All-contains, All-cons, All-head, All-nil, All-tail, Contains-get_or}
use Rattle.std.proofs.lemmas.Option.{same_Some, slice_get_within}
use Rattle.ad_base.specs.declared.book.Book.{Book}
use Rattle.ad_base.specs.declared.image.Image.{Image}
use Rattle.ad_base.specs.Book.{Contents, contents_of}
use Rattle.ad_core.specs.Turn.{opening_contents}
use Rattle.ad_lines.specs.declared.ready.ReadyStep.{ReadyStep}
use Rattle.ad_lines.specs.declared.ready.ReadyStep.TheVariants.{Call, Move, Stack}
use Rattle.ad_lines.specs.Ready.{IsRunnable}
use Rattle.ad_lines.specs.Sound.{Lines}
use Rattle.ad_lines.proofs.ListReads.{map-read, read-map}
use Rattle.ad_lines.proofs.Opens.{there}
use Rattle.ad_maps.proofs.Elements.{filter-from, filter-to}
use Rattle.ad_run.specs.Calls.{AreThere, PerformsAll, call_of, calls_of_worker}
use Rattle.ad_run.specs.Opened.{AreAllNewHands, AreNewHands, IsOpenedFor}
use Rattle.ad_run.proofs.Done.{Done, HasMade, IsDone, done_at, has-made, is_done_at, step_done, turn_done}
use Rattle.ad_run.proofs.Kept.{all-mapped, contains-map, contains-mapped}
use Rattle.ad_run.proofs.Turns.{IsCallAt, turns-done}
use Rattle.ad_turns.specs.Merged.{AreReached, IsReached}
use Rattle.ad_turns.specs.Seen.{SeatSeen}
use Rattle.ad_turns.specs.Turns.{Made, turns_at, turns_by}
use Rattle.ad_wrapper.specs.declared.hands.Hands.{Hands}
use Rattle.ad_wrapper.specs.declared.hands.Ready.{Ready}
use Rattle.ad_wrapper.specs.declared.shared.Shared.{Shared}

-- the seats of workers in the turn table
abbrev pub turn_seats : List Hands → List SeatSeen
turn_seats hands = map (λ (h : Hands). h.turn_seat) hands

-- What the calls of a run give: the tables were opened for these lines, each worker made its calls, and the turn table was
-- closed with these books.
pub record HasRun (slots frames : ℕ) (l : Lines) (s : Shared) (before after : List Hands) (books : List Book) : Type 0 where
  pub opened : IsOpenedFor slots frames l s
  pub runnable : All (IsRunnable l.images l.workers) l.steps
  pub new : AreAllNewHands s l before
  pub count : length after ≡ l.workers
  pub performed : (w : ℕ) (first last : Hands) → slice_get before w ≡ Some first → slice_get after w ≡ Some last → PerformsAll s first (calls_of_worker w l.steps) last
  pub as_many : length books ≡ length s.turns.openings
  pub reached : AreReached s.turns.openings books (turn_seats after)

-- ---- the calls of a worker

-- what a call of a step names is there
abbrev pub IsThere : List Image → Ready → Type 0
IsThere images c = IsSomeAnd (slice_get images c.«module») (λ (i : Image). c.export < length i.exports)

there-call : (images : List Image) (workers w : ℕ) (step : ReadyStep) → IsRunnable images workers step → All (IsThere images) (call_of w step)
there-call images workers w (Call line worker n export args) runs =
    let c : Ready = record { line = line; «module» = n; export = export; args = args } in
    let x = there images n runs.2 in
    let exported : export < length x.0.exports = subst (λ (o : Option Image). IfSome o (λ i. export < length i.exports)) x.1 runs.1 in
    let is : IsThere images c = subst (λ (o : Option Image). IsSomeAnd o (λ i. export < length i.exports)) (sym x.1) exported in
    if_called (worker == w) c is
  where
    if_called : (b : Bool) (c : Ready) → IsThere images c → All (IsThere images) (cond b (c ∷ []) [])
    if_called true c is = All-cons (IsThere images) c [] is (All-nil (IsThere images))
    if_called false c is = All-nil (IsThere images)
there-call images workers w (Move line modules) runs = All-nil (IsThere images)
there-call images workers w (Stack line worker) runs = All-nil (IsThere images)

pub there-calls : (images : List Image) (workers w : ℕ) (steps : List ReadyStep) → All (IsRunnable images workers) steps → AreThere images (calls_of_worker w steps)
there-calls images workers w [] runs = All-nil (IsThere images)
there-calls images workers w (step ∷ steps) runs =
    All-append (IsThere images) (call_of w step) (calls_of_worker w steps)
    (there-call images workers w step (All-head (IsRunnable images workers) step steps runs))
    (there-calls images workers w steps (All-tail (IsRunnable images workers) step steps runs))

-- the hands of a worker in the end, and the calls that they tell
pub record HasCalled (s : Shared) (l : Lines) (after : List Hands) (w : ℕ) : Type 0 where
  pub hands : Hands
  pub stored : slice_get after w ≡ Some hands
  pub calls : HasMade s w (calls_of_worker w l.steps) hands
  pub exported : All (λ (d : Done). IsThere s.images d.step) calls.done

-- a call that is the turn, of the module of this image
call-is : (s : Shared) (m : ℕ) (image : Image) (e : Made) (d : Done) → IsDone s e.worker d → d.turn ≡ e.turn → is_done_at m d ≡ true → slice_get s.images m ≡ Some image → IsThere s.images d.step → IsCallAt s m image e
call-is s m image e d is same at loaded exported =
    let of : d.step.«module» ≡ m = eqb-true d.step.«module» m at in
    let found : slice_get s.images m ≡ Some d.image = subst (λ n. slice_get s.images n ≡ Some d.image) of is.loaded in
    let images : d.image ≡ image = same_Some d.image image (sym found ∙ loaded) in
    let within : d.step.export < length d.image.exports = subst (λ (o : Option Image). IsSomeAnd o (λ i. d.step.export < length i.exports)) is.loaded exported in
    record { done = d; is = is; is_turn = same; of_module = of; of_image = images; exported = subst (λ (i : Image). d.step.export < length i.exports) images within }

-- the image and the books of a module, and the turns that reach the last from the first
pub record IsModule (s : Shared) (after : List Hands) (m : ℕ) (image : Image) (book : Book) : Type 0 where
  pub loaded : slice_get s.images m ≡ Some image
  pub opening : Book
  pub first : contents_of opening ≡ opening_contents image
  pub reached : IsReached m opening book (turn_seats after)
  pub calls : All (IsCallAt s m image) reached.made

-- the image and the book of a module whose book holds this
pub record HasBook (l : Lines) (books : List Book) (m : ℕ) (contents : Contents) : Type 0 where
  pub image : Image
  pub book : Book
  pub loaded : slice_get l.images m ≡ Some image
  pub stored : slice_get books m ≡ Some book
  pub holds : contents_of book ≡ contents

module _ (slots frames : ℕ) (l : Lines) (s : Shared) (before after : List Hands) (books : List Book) (ran : HasRun slots frames l s before after books) where
  -- the calls of a worker, as its hands in the end tell them
  pub calls-of : (w : ℕ) (h : Hands) → slice_get after w ≡ Some h → HasMade s w (calls_of_worker w l.steps) h
  calls-of w h e =
      let low : w < l.workers = omega (arith, slice_get_within after w h e, ran.count) in
      let first = there before w (omega (arith, low, ran.new.count)) in
      let new : AreNewHands s l w first.0 = subst (λ (o : Option Hands). IsSomeAnd o (AreNewHands s l w)) first.1 (ran.new.each w low) in
      has-made s l w first.0 (calls_of_worker w l.steps) h new (ran.performed w first.0 h first.1 e)

  exported-of : (w : ℕ) (h : Hands) (made : HasMade s w (calls_of_worker w l.steps) h) → All (λ (d : Done). IsThere s.images d.step) made.done
  exported-of w h made =
      let steps = there-calls s.images l.workers w l.steps (subst (λ images. All (IsRunnable images l.workers) l.steps) (sym ran.opened.images) ran.runnable) in
      all-mapped step_done (IsThere s.images) made.done (subst (All (IsThere s.images)) (sym made.steps) steps)

  pub worked-by : (w : ℕ) → w < l.workers → HasCalled s l after w
  worked-by w low =
      let last = there after w (omega (arith, low, ran.count)) in
      let made = calls-of w last.0 last.1 in
      record { hands = last.0; stored = last.1; calls = made; exported = exported-of w last.0 made }

  -- ---- the turns at a module

  -- the turns of a worker at a module are those of its calls of it
  pub turns-made : (w m : ℕ) (opening book : Book) (r : IsReached m opening book (turn_seats after)) (k : HasCalled s l after w) → turns_by w r.made ≡ map turn_done (done_at m k.calls.done)
  turns-made w m opening book r k =
      let seat = read-map (λ (h : Hands). h.turn_seat) after w k.hands k.stored in
      let listed : turns_at m k.hands.turn_seat.turns ≡ turns_by w r.made = subst (λ (o : Option SeatSeen). IfSome o (λ x. turns_at m x.turns ≡ turns_by w r.made)) seat (r.lists w) in
      sym listed ∙ ap (turns_at m) k.calls.made ∙ turns-done s w m k.calls.done k.calls.are

  -- a turn at a module is a call of its worker
  call-at : (m : ℕ) (image : Image) (opening book : Book) (r : IsReached m opening book (turn_seats after)) → slice_get s.images m ≡ Some image → (e : Made) → Contains r.made e → IsCallAt s m image e
  call-at m image opening book r loaded e stands =
      let low : e.worker < l.workers = omega (arith, All-contains (λ (x : Made). x.worker < length (turn_seats after)) r.made e r.workers stands, length-map after (λ (h : Hands). h.turn_seat), ran.count) in
      let k = worked-by e.worker low in
      let own = filter-to (λ (x : Made). x.worker == e.worker) r.made e stands (eq-eqb e.worker e.worker refl) in
      let among : Contains (turns_by e.worker r.made) e.turn = contains-map (λ (x : Made). x.turn) (filter (λ (x : Made). x.worker == e.worker) r.made) e own in
      let found = contains-mapped turn_done (done_at m k.calls.done) e.turn (subst (λ ts. Contains ts e.turn) (turns-made e.worker m opening book r k) among) in
      let of = filter-from (is_done_at m) k.calls.done found.0 found.1 in
      call-is s m image e found.0 (All-contains (IsDone s e.worker) k.calls.done found.0 k.calls.are of.0) found.2 of.1 loaded (All-contains (λ (d : Done). IsThere s.images d.step) k.calls.done found.0 k.exported of.0)

  pub calls-at : (m : ℕ) (image : Image) (opening book : Book) (r : IsReached m opening book (turn_seats after)) → slice_get s.images m ≡ Some image → All (IsCallAt s m image) r.made
  calls-at m image opening book r loaded = λ k d within. call-at m image opening book r loaded (get_or r.made k d) (Contains-get_or r.made k d within)

  -- ---- a module and its book

  pub module-of : (m : ℕ) (image : Image) (book : Book) → slice_get l.images m ≡ Some image → slice_get books m ≡ Some book → IsModule s after m image book
  module-of m image book e f =
      let loaded : slice_get s.images m ≡ Some image = ap (λ images. slice_get images m) ran.opened.images ∙ e in
      let opening = there s.turns.openings m (omega (arith, slice_get_within books m book f, ran.as_many)) in
      let same = same_Some (contents_of opening.0) (opening_contents image)
      (sym (read-map contents_of s.turns.openings m opening.0 opening.1) ∙ ap (λ cs. slice_get cs m) ran.opened.books ∙ read-map opening_contents l.images m image e) in
      let both = subst (λ (o : Option Book). IfSome o (λ x. IsSomeAnd (slice_get books m) (λ b. IsReached m x b (turn_seats after)))) opening.1 (ran.reached m) in
      let reached : IsReached m opening.0 book (turn_seats after) = subst (λ (o : Option Book). IsSomeAnd o (λ b. IsReached m opening.0 b (turn_seats after))) f both in
      record { loaded = loaded; opening = opening.0; first = same; reached = reached; calls = calls-at m image opening.0 book reached loaded }

  -- there are as many books as images
  pub as-many : length books ≡ length l.images
  as-many = ran.as_many ∙ sym ran.opened.fits.books ∙ ap length ran.opened.images

  pub book-of : (m : ℕ) (contents : Contents) → slice_get (map contents_of books) m ≡ Some contents → HasBook l books m contents
  book-of m contents e =
      let book = map-read contents_of books m contents e in
      let image = there l.images m (omega (arith, slice_get_within books m book.0 book.1, as-many)) in
      record { image = image.0; book = book.0; loaded = image.1; stored = book.1; holds = book.2 }
