-- What the books of a run hold: each is lawful, and has the calls that the steps ask for.
use Rattle.std.proofs.Common.{◌≡◌, inl, inr, ℕ, suc, ◌<◌, ◌≤◌, ◌==◌, Bool, true, false, cond, List, [], ◌∷◌, ◌++◌, length, map, Some, slice_get, refl, sym, ap, ◌∙◌, subst, eqb-true, ne_eqb, arith}
use Rattle.std.specs.List.{All, AllZip, filter, flat_map}
use Rattle.std.proofs.lemmas.Bool.{cases_lt}
use Rattle.std.proofs.lemmas.List.{length-map}
use Rattle.std.proofs.lemmas.List.Elements.{All-filter, All-head, All-tail, All-weaker, filter_passes}
use Rattle.ad_base.specs.declared.book.Book.{Book}
use Rattle.ad_base.specs.declared.image.Image.{Image}
use Rattle.ad_base.specs.Book.{Contents, contents_of}
use Rattle.ad_core.specs.Turn.{IsLawful, opening_contents}
use Rattle.ad_lines.specs.declared.ready.ReadyStep.{ReadyStep}
use Rattle.ad_lines.specs.declared.ready.ReadyStep.TheVariants.{Call, Move, Stack}
use Rattle.ad_lines.specs.LineLaws.{calls_of_module, step_of}
use Rattle.ad_lines.specs.Ready.{IsRunnable}
use Rattle.ad_lines.specs.Sound.{Lines, entries_by, is_by}
use Rattle.ad_lines.proofs.ListReads.{map-read}
use Rattle.ad_lines.proofs.Zips.{filter-made}
use Rattle.ad_run.specs.Calls.{calls_of_worker}
use Rattle.ad_run.proofs.Done.{Done, IsDone, done_at, entry_done, is_done_at, step_done}
use Rattle.ad_run.proofs.Kept.{filter-none}
use Rattle.ad_run.proofs.Ran.{HasRun, HasCalled, as-many, book-of, module-of, turn_seats, turns-made, worked-by}
use Rattle.ad_run.proofs.Turns.{entries-of-worker, lawful-reached, new-all, new_entries}
use Rattle.ad_turns.specs.Turns.{Made, turns_of}
use Rattle.ad_wrapper.specs.declared.hands.Hands.{Hands}
use Rattle.ad_wrapper.specs.declared.hands.Ready.{Ready}
use Rattle.ad_wrapper.specs.declared.shared.Shared.{Shared}

-- what holds of the items at each place holds of two lists of one length
pub zip-reads : {A B : Type 0} (R : A → B → Type 0) (xs : List A) (ys : List B) → length xs ≡ length ys → ((k : ℕ) (x : A) (y : B) → slice_get xs k ≡ Some x → slice_get ys k ≡ Some y → R x y) → AllZip R xs ys
zip-reads R [] [] e h = tt
zip-reads R [] (y ∷ ys) e h = absurd (omega (arith, e))
zip-reads R (x ∷ xs) [] e h = absurd (omega (arith, e))
zip-reads R (x ∷ xs) (y ∷ ys) e h = (h 0 x y refl refl, zip-reads R xs ys (omega (arith, e)) (λ k a b. h (suc k) a b))

-- ---- the steps of a worker's calls

-- the step of a call that worker w is ready to make
abbrev pub step_by : ℕ → Ready → ReadyStep
step_by w c = Call c.line w c.«module» c.export c.args

-- it calls module m
abbrev pub is_ready_at : ℕ → Ready → Bool
is_ready_at m c = c.«module» == m

module _ (m w : ℕ) where
  kept_both : (b c : Bool) (step : ReadyStep) (call : Ready) (steps : List ReadyStep) (calls : List Ready) → is_by w step ≡ b → is_ready_at m call ≡ c → (b ≡ true → step ≡ step_by w call)
      → filter (is_by w) steps ≡ map (step_by w) (filter (is_ready_at m) calls) → filter (is_by w) (cond c (step ∷ steps) steps) ≡ map (step_by w) (filter (is_ready_at m) (cond b (call ∷ []) [] ++ calls))
  kept_both true true step call steps calls e f is same =
      ap (λ t. cond t (step ∷ filter (is_by w) steps) (filter (is_by w) steps)) e
      ∙ (λ j. is refl j ∷ same j)
      ∙ ap (λ t. map (step_by w) (cond t (call ∷ filter (is_ready_at m) calls) (filter (is_ready_at m) calls))) (sym f)
  kept_both true false step call steps calls e f is same =
      same ∙ ap (λ t. map (step_by w) (cond t (call ∷ filter (is_ready_at m) calls) (filter (is_ready_at m) calls))) (sym f)
  kept_both false true step call steps calls e f is same =
      ap (λ t. cond t (step ∷ filter (is_by w) steps) (filter (is_by w) steps)) e ∙ same
  kept_both false false step call steps calls e f is same = same

  -- the steps by which a worker calls a module are those of its calls of it
  pub steps-of-worker : (steps : List ReadyStep) → filter (is_by w) (calls_of_module m steps) ≡ map (step_by w) (filter (is_ready_at m) (calls_of_worker w steps))
  steps-of-worker [] = refl
  steps-of-worker (Call line caller n export args ∷ steps) =
      let call : Ready = record { line = line; «module» = n; export = export; args = args } in
      kept_both (caller == w) (n == m) (Call line caller n export args) call (calls_of_module m steps) (calls_of_worker w steps) refl refl
      (λ own. ap (λ v. Call line v n export args) (eqb-true caller w own)) (steps-of-worker steps)
  steps-of-worker (Move line modules ∷ steps) = steps-of-worker steps
  steps-of-worker (Stack line owner ∷ steps) = steps-of-worker steps

-- no steps of a worker that isn't there
none-of : (images : List Image) (workers w : ℕ) (steps : List ReadyStep) → workers ≤ w → All (IsRunnable images workers) steps → calls_of_worker w steps ≡ []
none-of images workers w [] past runs = refl
none-of images workers w (Call line caller n export args ∷ steps) past runs =
    let call : Ready = record { line = line; «module» = n; export = export; args = args } in
    let runs_here = All-head (IsRunnable images workers) (Call line caller n export args) steps runs in
    let other : (caller == w) ≡ false = ne_eqb caller w (λ e. absurd (let low = runs_here.0 in omega (arith, low, past, e))) in
    ap (λ b. cond b (call ∷ []) [] ++ calls_of_worker w steps) other
    ∙ none-of images workers w steps past (All-tail (IsRunnable images workers) (Call line caller n export args) steps runs)
none-of images workers w (Move line modules ∷ steps) past runs = none-of images workers w steps past (All-tail (IsRunnable images workers) (Move line modules) steps runs)
none-of images workers w (Stack line owner ∷ steps) past runs = none-of images workers w steps past (All-tail (IsRunnable images workers) (Stack line owner) steps runs)

-- the steps of entries of module m are those of the calls
steps-done : (s : Shared) (m w : ℕ) (ds : List Done) → All (λ (d : Done). is_done_at m d ≡ true) ds → map (step_of m) (map (entry_done s w) ds) ≡ map (step_by w) (map step_done ds)
steps-done s m w [] at = refl
steps-done s m w (d ∷ ds) at =
    let P : Done → Type 0 = λ x. is_done_at m x ≡ true in
    let here : d.step.«module» ≡ m = eqb-true d.step.«module» m (All-head P d ds at) in
    let later = steps-done s m w ds (All-tail P d ds at) in
    λ j. Call d.step.line w (sym here j) d.step.export d.step.args ∷ later j

module _ (slots frames : ℕ) (l : Lines) (s : Shared) (before after : List Hands) (books : List Book) (ran : HasRun slots frames l s before after books) where
  -- the turns at a module reach a lawful book
  pub lawful-book : (m : ℕ) (image : Image) (book : Book) → slice_get l.images m ≡ Some image → slice_get books m ≡ Some book → IsLawful image l.fuel (contents_of book)
  lawful-book m image book e f =
      let k = module-of slots frames l s before after books ran m image book e f in
      let opened : IsLawful image s.fuel (opening_contents image) = refl in
      subst (λ fuel. IsLawful image fuel (contents_of book)) ran.opened.fuel
      (lawful-reached s m image (contents_of k.opening) k.reached.made (contents_of book) k.calls k.reached.reaches (subst (IsLawful image s.fuel) (sym k.first) opened))

  -- each book is lawful
  pub lawful-books : AllZip (λ (i : Image) (b : Contents). IsLawful i l.fuel b) l.images (map contents_of books)
  lawful-books =
      zip-reads (λ (i : Image) (b : Contents). IsLawful i l.fuel b) l.images (map contents_of books)
      (sym (length-map books contents_of ∙ as-many slots frames l s before after books ran))
      (λ m image contents e f.
      let book = map-read contents_of books m contents f in
      subst (IsLawful image l.fuel) book.2 (lawful-book m image book.0 e book.1))

  -- the entries of a worker in a book are those of its calls of the module
  pub entries-done : (m w : ℕ) (contents : Contents) → slice_get (map contents_of books) m ≡ Some contents → (k : HasCalled s l after w) → entries_by w contents.entries ≡ map (entry_done s w) (done_at m k.calls.done)
  entries-done m w contents e k =
      let b = book-of slots frames l s before after books ran m contents e in
      let x = module-of slots frames l s before after books ran m b.image b.book b.loaded b.stored in
      ap (λ (c : Contents). entries_by w c.entries) (sym b.holds)
      ∙ entries-of-worker s m b.image w (contents_of x.opening) x.reached.made (contents_of b.book) x.calls x.reached.reaches (ap (λ (c : Contents). c.entries) x.first)
      ∙ ap (flat_map new_entries) (turns-made slots frames l s before after books ran w m x.opening b.book x.reached k)
      ∙ new-all s w (done_at m k.calls.done) (All-filter (is_done_at m) (IsDone s w) k.calls.done k.calls.are)

  -- a worker that isn't there has no entry
  pub no-entries : (m w : ℕ) (contents : Contents) → slice_get (map contents_of books) m ≡ Some contents → l.workers ≤ w → entries_by w contents.entries ≡ []
  no-entries m w contents e past =
      let b = book-of slots frames l s before after books ran m contents e in
      let x = module-of slots frames l s before after books ran m b.image b.book b.loaded b.stored in
      let others : All (λ (y : Made). (y.worker == w) ≡ false) x.reached.made =
      All-weaker (λ (y : Made). y.worker < length (turn_seats after)) (λ (y : Made). (y.worker == w) ≡ false)
      (λ y low. ne_eqb y.worker w (λ same. absurd (omega (arith, low, length-map after (λ (h : Hands). h.turn_seat), ran.count, past, same)))) x.reached.made x.reached.workers in
      ap (λ (c : Contents). entries_by w c.entries) (sym b.holds)
      ∙ entries-of-worker s m b.image w (contents_of x.opening) x.reached.made (contents_of b.book) x.calls x.reached.reaches (ap (λ (c : Contents). c.entries) x.first)
      ∙ ap (λ made. flat_map new_entries (turns_of made)) (filter-none (λ (y : Made). y.worker == w) x.reached.made others)

  calls-by : (m w : ℕ) (contents : Contents) → slice_get (map contents_of books) m ≡ Some contents → HasCalled s l after w → map (step_of m) (entries_by w contents.entries) ≡ filter (is_by w) (calls_of_module m l.steps)
  calls-by m w contents e k =
      let done = k.calls.done in
      ap (map (step_of m)) (entries-done m w contents e k)
      ∙ steps-done s m w (done_at m done) (filter_passes (is_done_at m) done)
      ∙ ap (map (step_by w)) (sym (filter-made (is_ready_at m) step_done done) ∙ ap (filter (is_ready_at m)) k.calls.steps)
      ∙ sym (steps-of-worker m w l.steps)

  -- the calls of each worker in each book are those that the steps ask for, in order
  pub calls-made : (m w : ℕ) (contents : Contents) → slice_get (map contents_of books) m ≡ Some contents → map (step_of m) (entries_by w contents.entries) ≡ filter (is_by w) (calls_of_module m l.steps)
  calls-made m w contents e = elim (cases_lt w l.workers) [
    | inl low ↦ calls-by m w contents e (worked-by slots frames l s before after books ran w low)
    | inr past ↦
        ap (map (step_of m)) (no-entries m w contents e past)
        ∙ ap (λ calls. map (step_by w) (filter (is_ready_at m) calls)) (sym (none-of l.images l.workers w l.steps past ran.runnable))
        ∙ sym (steps-of-worker m w l.steps)
  ]
