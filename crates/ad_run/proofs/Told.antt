-- The list of each worker in the mapping table tells its calls, in order, and nothing else.
use Rattle.std.proofs.Common.{◌≡◌, ℕ, ◌<◌, ◌==◌, List, [], ◌∷◌, ◌++◌, Option, map, Some, slice_get, refl, sym, ap, ◌∙◌, subst, eq-eqb, arith}
use Rattle.std.specs.List.{Contains, filter, flat_map}
use Rattle.std.specs.Option.{IsSomeAnd}
use Rattle.std.proofs.lemmas.List.Elements.{All-contains}
use Rattle.std.proofs.lemmas.Option.{same_Some, slice_get_within}
use Rattle.ad_base.specs.declared.book.Book.{Book}
use Rattle.ad_base.specs.declared.book.Entry.{Entry}
use Rattle.ad_base.specs.Book.{Contents, contents_of}
use Rattle.ad_call.specs.Asked.{asked_in_call}
use Rattle.ad_core.specs.Turn.{IsLawful, opening_contents}
use Rattle.ad_lines.specs.Sound.{Lines}
use Rattle.ad_lines.proofs.ListReads.{read-map}
use Rattle.ad_lines.proofs.Opens.{there}
use Rattle.ad_maps.specs.Seen.{SeatSeen}
use Rattle.ad_maps.proofs.Elements.{cons-here, cons-later, filter-from, filter-to}
use Rattle.ad_run.specs.Beside.{AreTold, IsTold}
use Rattle.ad_run.specs.Calls.{calls_of_worker}
use Rattle.ad_run.proofs.Done.{Done, IsDone, acts_done, call_done, done_at, entry_done, is_done_at, step_done, turn_done}
use Rattle.ad_run.proofs.Kept.{contains-map, contains-mapped}
use Rattle.ad_run.proofs.Ran.{HasRun, HasCalled, as-many, module-of, turns-made, worked-by}
use Rattle.ad_run.proofs.Turns.{new-entry, new_entries, stands-in}
use Rattle.ad_turns.specs.declared.view.Turn.{Turn}
use Rattle.ad_turns.specs.Turns.{Made, turns_by}
use Rattle.ad_wrapper.specs.declared.hands.Hands.{Hands}
use Rattle.ad_wrapper.specs.declared.shared.Shared.{Shared}
use Rattle.ad_wrapper.specs.Performed.{acts_of_call}

-- calls of which each is told are told together
told-list : (l : Lines) (contents : List Contents) (s : Shared) (w : ℕ) (ds : List Done) → ((d : Done) → Contains ds d → IsTold l contents w d.step (acts_done s w d)) → AreTold l contents w (map step_done ds) (flat_map (acts_done s w) ds)
told-list l contents s w [] told = refl
told-list l contents s w (d ∷ ds) told = (acts_done s w d, flat_map (acts_done s w) ds, told d (cons-here d ds d refl), told-list l contents s w ds (λ x c. told x (cons-later d ds x c)), refl)

-- what a book that holds this held before the entry of a call: turns reach it, and it has the entries before
record HasBegun (s : Shared) (w : ℕ) (d : Done) (contents : Contents) : Type 0 where
  later : List Entry
  stands : contents.entries ≡ d.turn.before.history.entries ++ entry_done s w d ∷ later
  lawful : IsLawful d.image s.fuel (contents_of d.turn.before)

module _ (slots frames : ℕ) (l : Lines) (s : Shared) (before after : List Hands) (books : List Book) (ran : HasRun slots frames l s before after books) where
  -- the book that a call began with
  begun : (w : ℕ) (k : HasCalled s l after w) (d : Done) → Contains k.calls.done d → IsDone s w d → (book : Book) → slice_get l.images d.step.«module» ≡ Some d.image → slice_get books d.step.«module» ≡ Some book → HasBegun s w d (contents_of book)
  begun w k d c is book loaded stored =
      let m = d.step.«module» in
      let x = module-of slots frames l s before after books ran m d.image book loaded stored in
      let at = filter-to (is_done_at m) k.calls.done d c (eq-eqb m m refl) in
      let among : Contains (turns_by w x.reached.made) d.turn =
      subst (λ ts. Contains ts d.turn) (sym (turns-made slots frames l s before after books ran w m x.opening book x.reached k)) (contains-map turn_done (done_at m k.calls.done) d at) in
      let found = contains-mapped (λ (y : Made). y.turn) (filter (λ (y : Made). y.worker == w) x.reached.made) d.turn among in
      let e = found.0 in
      let of = filter-from (λ (y : Made). y.worker == w) x.reached.made e found.1 in
      let st = stands-in s m d.image (contents_of x.opening) x.reached.made (contents_of book) x.calls x.reached.reaches e of.0 in
      let stands : book.history.entries ≡ d.turn.before.history.entries ++ (new_entries d.turn ++ st.later) =
      subst (λ (t : Turn). book.history.entries ≡ t.before.history.entries ++ (new_entries t ++ st.later)) found.2 st.stands in
      let opened : IsLawful d.image s.fuel (opening_contents d.image) = refl in
      record {
        later = st.later;
        stands = stands ∙ ap (λ es. d.turn.before.history.entries ++ (es ++ st.later)) (new-entry s w d is);
        lawful = subst (λ (t : Turn). IsLawful d.image s.fuel (contents_of t.before)) found.2 (st.lawful (subst (IsLawful d.image s.fuel) (sym x.first) opened));
      }

  told-one : (w : ℕ) (k : HasCalled s l after w) (d : Done) → Contains k.calls.done d → IsTold l (map contents_of books) w d.step (acts_done s w d)
  told-one w k d c =
      let m = d.step.«module» in
      let is = All-contains (IsDone s w) k.calls.done d k.calls.are c in
      let loaded : slice_get l.images m ≡ Some d.image = ap (λ images. slice_get images m) (sym ran.opened.images) ∙ is.loaded in
      let book = there books m (omega (arith, slice_get_within l.images m d.image loaded, as-many slots frames l s before after books ran)) in
      let b = begun w k d c is book.0 loaded book.1 in
      record {
        image = d.image;
        loaded = loaded;
        book = contents_of book.0;
        stored = read-map contents_of books m book.0 book.1;
        before = contents_of d.turn.before;
        entry = entry_done s w d;
        later = b.later;
        lawful = subst (λ fuel. IsLawful d.image fuel (contents_of d.turn.before)) ran.opened.fuel b.lawful;
        stands = b.stands;
        line = refl;
        by = refl;
        unmapped = d.unmapped;
        acts_are = ap (λ fuel. acts_of_call m d.under (asked_in_call d.image fuel (contents_of d.turn.before) (call_done w d) d.step.args) d.unmapped) ran.opened.fuel;
      }

  told-by : (w : ℕ) (k : HasCalled s l after w) → AreTold l (map contents_of books) w (calls_of_worker w l.steps) k.hands.seat.acts
  told-by w k =
      let contents = map contents_of books in
      subst (λ acts. AreTold l contents w (calls_of_worker w l.steps) acts) (sym k.calls.acts)
      (subst (λ calls. AreTold l contents w calls (flat_map (acts_done s w) k.calls.done)) k.calls.steps (told-list l contents s w k.calls.done (told-one w k)))

  -- the list of each worker has its calls
  pub told : (w : ℕ) (h : Hands) → slice_get after w ≡ Some h → AreTold l (map contents_of books) w (calls_of_worker w l.steps) h.seat.acts
  told w h e =
      let k = worked-by slots frames l s before after books ran w (omega (arith, slice_get_within after w h e, ran.count)) in
      let same : k.hands ≡ h = same_Some k.hands h (sym k.stored ∙ e) in
      subst (λ (x : Hands). AreTold l (map contents_of books) w (calls_of_worker w l.steps) x.seat.acts) same (told-by w k)

  -- in the order of the seats
  pub told-in : (seats : List SeatSeen) → seats ≡ map (λ (h : Hands). h.seat) after → (w : ℕ) → w < l.workers → IsSomeAnd (slice_get seats w) (λ (x : SeatSeen). AreTold l (map contents_of books) w (calls_of_worker w l.steps) x.acts)
  told-in seats are w low =
      let k = worked-by slots frames l s before after books ran w low in
      let stored : slice_get seats w ≡ Some k.hands.seat = ap (λ xs. slice_get xs w) are ∙ read-map (λ (h : Hands). h.seat) after w k.hands k.stored in
      subst (λ (o : Option SeatSeen). IsSomeAnd o (λ x. AreTold l (map contents_of books) w (calls_of_worker w l.steps) x.acts)) (sym stored) (told-by w k)
