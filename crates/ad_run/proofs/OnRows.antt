-- The places that the calls of a run were made at: each worker read the one and took the other, and their numbers never fall.
use Rattle.std.proofs.Common.{◌≡◌, inl, inr, ℕ, zero, suc, ◌≤◌, ◌==◌, List, [], ◌∷◌, map, Option, Some, slice_get, refl, sym, ap, ◌∙◌, subst, eqb-true, eq-eqb, arith}
use Rattle.std.specs.Option.{IfSome}
use Rattle.std.specs.List.{All, AllPairs, Any, Contains}
use Rattle.std.proofs.lemmas.Bool.{cases_lt}
use Rattle.std.proofs.lemmas.List.Elements.{All-contains}
use Rattle.std.proofs.lemmas.List.Kept.{AllPairs-filter}
use Rattle.ad_base.specs.declared.book.Book.{Book}
use Rattle.ad_base.specs.declared.book.Entry.{Entry}
use Rattle.ad_base.specs.declared.ledger.Kind.TheVariants.{Code, Stack}
use Rattle.ad_base.specs.declared.ledger.Moved.{Moved}
use Rattle.ad_base.specs.declared.ledger.Row.{Row}
use Rattle.ad_base.specs.declared.place.Place.{Place}
use Rattle.ad_base.specs.Book.{Contents, contents_of}
use Rattle.ad_call.specs.Asked.{asked_in_call}
use Rattle.ad_lines.specs.Sound.{Lines, entries_by}
use Rattle.ad_maps.specs.declared.view.Act.TheVariants as act
use Rattle.ad_lines.proofs.ListReads.{read-map}
use Rattle.ad_maps.specs.declared.view.Deed.{Deed}
use Rattle.ad_maps.specs.declared.view.Made.{Made}
use Rattle.ad_maps.specs.Ledger.{reads_of}
use Rattle.ad_maps.specs.Rows.{AreRowsOf, HaveReadRows}
use Rattle.ad_maps.specs.Seen as maps
use Rattle.ad_maps.specs.MapPlace.{IsPlaceOf}
use Rattle.ad_maps.proofs.Elements.{filter-from, filter-to, none-in}
use Rattle.ad_run.specs.Beside.{AreOnRows, IsRowOf}
use Rattle.ad_run.proofs.Books.{entries-done, no-entries}
use Rattle.ad_run.proofs.Done.{Done, IsDone, acts_done, call_done, done_at, entry_done, is_done_at, read-call, reads-done, stack_done}
use Rattle.ad_run.proofs.Kept.{contains-flat, contains-map, contains-mapped, pairs-map, pairs-mapped}
use Rattle.ad_run.proofs.Ran.{HasRun, HasCalled, worked-by}
use Rattle.ad_stacks.specs.Ledger.{HaveRows}
use Rattle.ad_stacks.specs.Seen as stacks
use Rattle.ad_stacks.specs.StackPlace.{IsStackPlace}
use Rattle.ad_wrapper.specs.declared.hands.Hands.{Hands}
use Rattle.ad_wrapper.specs.declared.shared.Shared.{Shared}

-- the worker of an entry of module m read the place that its call ran under, and took the stack that it ran on
pub record IsCalledOn (s : Shared) (after : List Hands) (m : ℕ) (e : Entry) : Type 0 where
  pub hands : Hands
  pub stored : slice_get after e.worker ≡ Some hands
  pub read : Contains hands.seat.acts (act.Read m e.under)
  pub took : Contains hands.stack_seat.taken e.stack
  pub is_place : IsPlaceOf s.maps.shape m e.under
  pub is_stack : IsStackPlace e.stack

-- a call read its place
read-done : (s : Shared) (w : ℕ) (d : Done) → Contains (acts_done s w d) (act.Read d.step.«module» d.under)
read-done s w d = read-call d.step.«module» d.under (asked_in_call d.image s.fuel (contents_of d.turn.before) (call_done w d) d.step.args) d.unmapped

-- each place that a worker read is that of a row of the module that it read
abbrev pub HaveCodeRows : List Hands → List Row → Type 0
HaveCodeRows hands rows = (w : ℕ) (h : Hands) → slice_get hands w ≡ Some h → (m : ℕ) (p : Place) → Contains h.seat.acts (act.Read m p) → (r : Row) × IsRowOf rows Code m r × (r.place ≡ p)

-- each stack that a worker took is that of a row of the worker
abbrev pub HaveStackRows : List Hands → List Row → Type 0
HaveStackRows hands rows = (w : ℕ) (h : Hands) → slice_get hands w ≡ Some h → (p : Place) → Contains h.stack_seat.taken p → (r : Row) × IsRowOf rows Stack w r × (r.place ≡ p)

-- the rows of a closed mapping table are of the places that its seats read
pub code-rows : (hands : List Hands) (gs : List Made) (deeds : List Deed) (rows all : List Row) → AreRowsOf gs deeds rows → HaveReadRows rows (map (λ (h : Hands). h.seat) hands)
    → ((r : Row) → Contains rows r → Contains all r) → HaveCodeRows hands all
code-rows hands gs deeds rows all of reads among w h stored m p c =
    let seat = read-map (λ (x : Hands). x.seat) hands w h stored in
    let read = subst (λ (o : Option maps.SeatSeen). IfSome o (λ x. (n : ℕ) (q : Place) → Contains x.acts (act.Read n q) → (r : Row) × Contains rows r × (r.who ≡ n) × (r.place ≡ q))) seat (reads w) m p c in
    let g = of read.0 read.1 in
    (read.0, record { listed = among read.0 read.1; is_kind = ap (λ (r : Row). r.kind) g.2; is_who = read.2 }, read.3)

-- the rows of a closed stack table are of the stacks that its seats took
pub stack-rows : (hands : List Hands) (rows all : List Row) → HaveRows rows (map (λ (h : Hands). h.stack_seat) hands) → ((r : Row) → Contains rows r → r.kind ≡ Stack)
    → ((r : Row) → Contains rows r → Contains all r) → HaveStackRows hands all
stack-rows hands rows all has kinds among w h stored p c =
    let seat = read-map (λ (x : Hands). x.stack_seat) hands w h stored in
    let took = subst (λ (o : Option stacks.SeatSeen). IfSome o (λ x. All (λ (q : Place). Any (λ (r : Row). (r.who ≡ w) × (r.place ≡ q)) rows) x.taken)) seat (has w) in
    let found = All-contains (λ (q : Place). Any (λ (r : Row). (r.who ≡ w) × (r.place ≡ q)) rows) h.stack_seat.taken p took c in
    let there : Contains rows found.1 = (found.0, found.2, found.3) in
    (found.1, record { listed = among found.1 there; is_kind = kinds found.1 there; is_who = found.4.0 }, found.4.1)

-- what holds of an item, if it is there
pub if-read : {A : Type 0} (xs : List A) (k : ℕ) (P : A → Type 0) → ((x : A) → slice_get xs k ≡ Some x → P x) → IfSome (slice_get xs k) P
if-read [] k P h = tt
if-read (x ∷ xs) zero P h = h x refl
if-read (x ∷ xs) (suc k) P h = if-read xs k P h

-- no pairs
no-pairs : (R : Entry → Entry → Type 0) (es : List Entry) → es ≡ [] → AllPairs R es
no-pairs R es none = subst (AllPairs R) (sym none) (λ i j d less within. absurd (omega arith))

module _ (slots frames : ℕ) (l : Lines) (s : Shared) (before after : List Hands) (books : List Book) (ran : HasRun slots frames l s before after books) where
  called-by : (m : ℕ) (contents : Contents) → slice_get (map contents_of books) m ≡ Some contents → (e : Entry) → Contains contents.entries e → (k : HasCalled s l after e.worker) → IsCalledOn s after m e
  called-by m contents stored e c k =
      let w = e.worker in
      let own : Contains (entries_by w contents.entries) e = filter-to (λ (x : Entry). x.worker == w) contents.entries e c (eq-eqb w w refl) in
      let found = contains-mapped (entry_done s w) (done_at m k.calls.done) e (subst (λ es. Contains es e) (entries-done slots frames l s before after books ran m w contents stored k) own) in
      let d = found.0 in
      let of = filter-from (is_done_at m) k.calls.done d found.1 in
      let at : d.step.«module» ≡ m = eqb-true d.step.«module» m of.1 in
      let is = All-contains (IsDone s w) k.calls.done d k.calls.are of.0 in
      let under : d.under ≡ e.under = ap (λ (x : Entry). x.under) found.2 in
      let stack : d.stack ≡ e.stack = ap (λ (x : Entry). x.stack) found.2 in
      let read : Contains k.hands.seat.acts (act.Read d.step.«module» d.under) =
      subst (λ acts. Contains acts (act.Read d.step.«module» d.under)) (sym k.calls.acts) (contains-flat (acts_done s w) k.calls.done d (act.Read d.step.«module» d.under) of.0 (read-done s w d)) in
      let took : Contains k.hands.stack_seat.taken d.stack = subst (λ ps. Contains ps d.stack) (sym k.calls.took) (contains-map stack_done k.calls.done d of.0) in
      record {
        hands = k.hands;
        stored = k.stored;
        read = subst (λ n. Contains k.hands.seat.acts (act.Read n e.under)) at (subst (λ p. Contains k.hands.seat.acts (act.Read d.step.«module» p)) under read);
        took = subst (Contains k.hands.stack_seat.taken) stack took;
        is_place = subst (λ n. IsPlaceOf s.maps.shape n e.under) at (subst (IsPlaceOf s.maps.shape d.step.«module») under is.is_place);
        is_stack = subst IsStackPlace stack is.is_stack;
      }

  -- each entry is of a call at places that its worker read and took
  pub called-on : (m : ℕ) (contents : Contents) → slice_get (map contents_of books) m ≡ Some contents → (e : Entry) → Contains contents.entries e → IsCalledOn s after m e
  called-on m contents stored e c = elim (cases_lt e.worker l.workers) [
    | inl low ↦ called-by m contents stored e c (worked-by slots frames l s before after books ran e.worker low)
    | inr past ↦
        absurd (none-in e
        (subst (λ es. Contains es e) (no-entries slots frames l s before after books ran m e.worker contents stored past)
        (filter-to (λ (x : Entry). x.worker == e.worker) contents.entries e c (eq-eqb e.worker e.worker refl))))
  ]

  -- ---- the numbers of a worker's places in one book

  rise-by : (m w : ℕ) (contents : Contents) → slice_get (map contents_of books) m ≡ Some contents → HasCalled s l after w → AllPairs (λ (d e : Entry). d.under.mapping ≤ e.under.mapping) (entries_by w contents.entries)
  rise-by m w contents stored k =
      let R : Entry → Entry → Type 0 = λ d e. d.under.mapping ≤ e.under.mapping in
      let mine = done_at m k.calls.done in
      let same : reads_of m k.hands.seat.acts ≡ map (λ (d : Done). d.under.mapping) mine = ap (reads_of m) k.calls.acts ∙ reads-done s w m k.calls.done in
      let rise : AllPairs (λ (x y : ℕ). x ≤ y) (map (λ (d : Done). d.under.mapping) mine) = subst (AllPairs (λ (x y : ℕ). x ≤ y)) same (k.calls.reads_rise m) in
      subst (AllPairs R) (sym (entries-done slots frames l s before after books ran m w contents stored k))
      (pairs-map (entry_done s w) R mine (pairs-mapped (λ (d : Done). d.under.mapping) (λ (x y : ℕ). x ≤ y) mine rise))

  stacks-by : (m w : ℕ) (contents : Contents) → slice_get (map contents_of books) m ≡ Some contents → HasCalled s l after w → AllPairs (λ (d e : Entry). d.stack.mapping ≤ e.stack.mapping) (entries_by w contents.entries)
  stacks-by m w contents stored k =
      let R : Entry → Entry → Type 0 = λ d e. d.stack.mapping ≤ e.stack.mapping in
      let Q : Place → Place → Type 0 = λ p q. p.mapping ≤ q.mapping in
      let mine = done_at m k.calls.done in
      let all = pairs-mapped stack_done Q k.calls.done (subst (AllPairs Q) k.calls.took k.calls.stacks_rise) in
      subst (AllPairs R) (sym (entries-done slots frames l s before after books ran m w contents stored k))
      (pairs-map (entry_done s w) R mine (AllPairs-filter (λ (x y : Done). x.stack.mapping ≤ y.stack.mapping) (is_done_at m) k.calls.done all))

  -- the numbers of the mappings that a worker's calls ran under never fall
  pub mappings-rise : (m w : ℕ) (contents : Contents) → slice_get (map contents_of books) m ≡ Some contents → AllPairs (λ (d e : Entry). d.under.mapping ≤ e.under.mapping) (entries_by w contents.entries)
  mappings-rise m w contents stored = elim (cases_lt w l.workers) [
    | inl low ↦ rise-by m w contents stored (worked-by slots frames l s before after books ran w low)
    | inr past ↦ no-pairs (λ (d e : Entry). d.under.mapping ≤ e.under.mapping) (entries_by w contents.entries) (no-entries slots frames l s before after books ran m w contents stored past)
  ]

  -- nor do those of its stacks
  pub stacks-rise : (m w : ℕ) (contents : Contents) → slice_get (map contents_of books) m ≡ Some contents → AllPairs (λ (d e : Entry). d.stack.mapping ≤ e.stack.mapping) (entries_by w contents.entries)
  stacks-rise m w contents stored = elim (cases_lt w l.workers) [
    | inl low ↦ stacks-by m w contents stored (worked-by slots frames l s before after books ran w low)
    | inr past ↦ no-pairs (λ (d e : Entry). d.stack.mapping ≤ e.stack.mapping) (entries_by w contents.entries) (no-entries slots frames l s before after books ran m w contents stored past)
  ]

  -- the calls ran on the mappings of rows, if each place that a worker read, and each stack that it took, is that of a row
  pub on-rows : (moves : List Moved) (rows : List Row)
      → HaveCodeRows after rows
      → HaveStackRows after rows
      → AreOnRows (record { books = map contents_of books; moves = moves; rows = rows })
  on-rows moves rows code stacks =
      let contents = map contents_of books in
      record {
        under = λ m. if-read contents m (λ (b : Contents). (e : Entry) → Contains b.entries e → (r : Row) × IsRowOf rows Code m r × (r.place ≡ e.under))
            (λ b stored e c. let on = called-on m b stored e c in code e.worker on.hands on.stored m e.under on.read);
        stacks = λ m. if-read contents m (λ (b : Contents). (e : Entry) → Contains b.entries e → (r : Row) × IsRowOf rows Stack e.worker r × (r.place ≡ e.stack))
            (λ b stored e c. let on = called-on m b stored e c in stacks e.worker on.hands on.stored e.stack on.took);
        rise = λ m w. if-read contents m (λ (b : Contents). AllPairs (λ (d e : Entry). d.under.mapping ≤ e.under.mapping) (entries_by w b.entries)) (mappings-rise m w);
        stacks_rise = λ m w. if-read contents m (λ (b : Contents). AllPairs (λ (d e : Entry). d.stack.mapping ≤ e.stack.mapping) (entries_by w b.entries)) (stacks-rise m w);
      }
