-- The turns at a module, each a call of its worker, and the book that they reach.
use Rattle.std.proofs.Common.{◌≡◌, ℕ, ◌<◌, ◌==◌, Bool, true, false, cond, List, [], ◌∷◌, ◌++◌, drop, length, map, refl, sym, ap, ◌∙◌, subst, ⊎_elim, append_assoc, append-nil}
use Rattle.std.specs.List.{All, Contains, filter, flat_map}
use Rattle.std.proofs.Math.Seq.{drop-append_seam}
use Rattle.std.proofs.lemmas.List.Elements.{All-head, All-tail, filter-append}
use Rattle.ad_base.specs.declared.book.Entry.{Entry}
use Rattle.ad_base.specs.declared.image.Image.{Image}
use Rattle.ad_base.specs.Book.{Contents, contents_of}
use Rattle.ad_call.specs.Call.{after_call}
use Rattle.ad_core.specs.Turn.{IsLawful}
use Rattle.ad_lines.specs.Sound.{entries_by}
use Rattle.ad_lines.proofs.BookRuns.{lawful-call}
use Rattle.ad_lines.proofs.Opens.{there}
use Rattle.ad_lines.proofs.Zips.{filter-made}
use Rattle.ad_maps.proofs.Elements.{cons-cases, none-in}
use Rattle.ad_run.proofs.Done.{Done, IsDone, call_done, done_at, entry_done, is_done_at, turn_done}
use Rattle.ad_run.proofs.Kept.{filter-alike}
use Rattle.ad_turns.specs.declared.view.Turn.{Turn}
use Rattle.ad_turns.specs.Turns.{Made, Reaches, is_of, turns_at, turns_by, turns_of}
use Rattle.ad_wrapper.specs.declared.shared.Shared.{Shared}

-- what a turn added to the entries of its book
abbrev pub new_entries : Turn → List Entry
new_entries t = drop (length t.before.history.entries) t.after.history.entries

-- a turn at module m is a call of its worker, of an export of this image
pub record IsCallAt (s : Shared) (m : ℕ) (image : Image) (e : Made) : Type 0 where
  pub done : Done
  pub is : IsDone s e.worker done
  pub is_turn : done.turn ≡ e.turn
  pub of_module : done.step.«module» ≡ m
  pub of_image : done.image ≡ image
  pub exported : done.step.export < length image.exports

-- what the book held that a turn began with: the entries before its own, which turns reach from the first book
pub record StandsIn (s : Shared) (image : Image) (first last : Contents) (e : Made) : Type 0 where
  pub later : List Entry
  pub stands : last.entries ≡ e.turn.before.history.entries ++ (new_entries e.turn ++ later)
  pub lawful : IsLawful image s.fuel first → IsLawful image s.fuel (contents_of e.turn.before)

module _ (s : Shared) where
  -- a call added its entry
  pub grown-by : (w : ℕ) (d : Done) → IsDone s w d → d.turn.after.history.entries ≡ d.turn.before.history.entries ++ entry_done s w d ∷ []
  unfolding after_call
  grown-by w d is = ap (λ (c : Contents). c.entries) is.called

  pub new-entry : (w : ℕ) (d : Done) → IsDone s w d → new_entries d.turn ≡ entry_done s w d ∷ []
  new-entry w d is =
      let before = d.turn.before.history.entries in
      ap (λ (es : List Entry). drop (length before) es) (grown-by w d is) ∙ drop-append_seam before (entry_done s w d ∷ [])

  -- the turns of calls added their entries, in order
  pub new-all : (w : ℕ) (ds : List Done) → All (IsDone s w) ds → flat_map new_entries (map turn_done ds) ≡ map (entry_done s w) ds
  new-all w [] are = refl
  new-all w (d ∷ ds) are =
      let one = new-entry w d (All-head (IsDone s w) d ds are) in
      let later = new-all w ds (All-tail (IsDone s w) d ds are) in
      λ j. one j ++ later j

  -- the turns at a module are those of its calls
  pub turns-done : (w m : ℕ) (ds : List Done) → All (IsDone s w) ds → turns_at m (map turn_done ds) ≡ map turn_done (done_at m ds)
  turns-done w m ds are =
      let alike : All (λ (d : Done). is_of m (turn_done d) ≡ is_done_at m d) ds = λ k d within. ap (λ (n : ℕ). n == m) (are k d within).at_module in
      filter-made (is_of m) turn_done ds ∙ ap (map turn_done) (filter-alike (λ (d : Done). is_of m (turn_done d)) (is_done_at m) ds alike)

  module _ (m : ℕ) (image : Image) where
    new-at : (e : Made) (c : IsCallAt s m image e) → new_entries e.turn ≡ entry_done s e.worker c.done ∷ []
    new-at e c = subst (λ (t : Turn). new_entries t ≡ entry_done s e.worker c.done ∷ []) c.is_turn (new-entry e.worker c.done c.is)

    grown-at : (e : Made) → IsCallAt s m image e → e.turn.after.history.entries ≡ e.turn.before.history.entries ++ new_entries e.turn
    grown-at e c =
        subst (λ (t : Turn). t.after.history.entries ≡ t.before.history.entries ++ new_entries t) c.is_turn
        (grown-by e.worker c.done c.is ∙ ap (λ es. c.done.turn.before.history.entries ++ es) (sym (new-entry e.worker c.done c.is)))

    -- the entries of the book that turns reach
    pub entries-reached : (first : Contents) (made : List Made) (last : Contents) → All (IsCallAt s m image) made → Reaches first (turns_of made) last → last.entries ≡ first.entries ++ flat_map new_entries (turns_of made)
    entries-reached first [] last calls h = ap (λ (c : Contents). c.entries) (sym h) ∙ sym (append-nil first.entries)
    entries-reached first (e ∷ made) last calls h =
        let rest = flat_map new_entries (turns_of made) in
        let one = grown-at e (All-head (IsCallAt s m image) e made calls) in
        entries-reached (contents_of e.turn.after) made last (All-tail (IsCallAt s m image) e made calls) h.1
        ∙ ap (λ es. es ++ rest) (one ∙ ap (λ (c : Contents). c.entries ++ new_entries e.turn) h.0)
        ∙ append_assoc first.entries (new_entries e.turn) rest

    -- the entries of a worker are those of its turns
    by-worker : (w : ℕ) (made : List Made) → All (IsCallAt s m image) made → entries_by w (flat_map new_entries (turns_of made)) ≡ flat_map new_entries (turns_by w made)
    by-worker w [] calls = refl
    by-worker w (e ∷ made) calls =
        let c = All-head (IsCallAt s m image) e made calls in
        let rest = flat_map new_entries (turns_of made) in
        let own = entry_done s e.worker c.done in
        let one = new-at e c in
        let kept : entries_by w (new_entries e.turn) ≡ cond (e.worker == w) (new_entries e.turn) [] = ap (entries_by w) one ∙ ap (λ (es : List Entry). cond (e.worker == w) es []) (sym one) in
        filter-append (λ (x : Entry). x.worker == w) (new_entries e.turn) rest
        ∙ (λ j. kept j ++ by-worker w made (All-tail (IsCallAt s m image) e made calls) j)
        ∙ in_front (e.worker == w) e (filter (λ (x : Made). x.worker == w) made)
      where
        in_front : (b : Bool) (x : Made) (xs : List Made) → cond b (new_entries x.turn) [] ++ flat_map new_entries (turns_of xs) ≡ flat_map new_entries (turns_of (cond b (x ∷ xs) xs))
        in_front true x xs = refl
        in_front false x xs = refl

    -- in the book that turns reach from one without entries
    pub entries-of-worker : (w : ℕ) (first : Contents) (made : List Made) (last : Contents) → All (IsCallAt s m image) made → Reaches first (turns_of made) last → first.entries ≡ [] → entries_by w last.entries ≡ flat_map new_entries (turns_by w made)
    entries-of-worker w first made last calls h none =
        ap (entries_by w) (entries-reached first made last calls h ∙ ap (λ es. es ++ flat_map new_entries (turns_of made)) none) ∙ by-worker w made calls

    -- each turn that is a call keeps a book lawful
    lawful-at : (e : Made) → IsCallAt s m image e → IsLawful image s.fuel (contents_of e.turn.before) → IsLawful image s.fuel (contents_of e.turn.after)
    lawful-at e c h =
        let d = c.done in
        let k = call_done e.worker d in
        let called : contents_of e.turn.after ≡ after_call image s.fuel (contents_of e.turn.before) k d.step.args =
        subst (λ (t : Turn). contents_of t.after ≡ after_call image s.fuel (contents_of t.before) k d.step.args) c.is_turn
        (subst (λ (i : Image). contents_of d.turn.after ≡ after_call i s.fuel (contents_of d.turn.before) k d.step.args) c.of_image c.is.called) in
        let x = there image.exports d.step.export c.exported in
        subst (IsLawful image s.fuel) (sym called) (lawful-call image s.fuel (contents_of e.turn.before) k d.step.args x.0 x.1 h)

    pub lawful-reached : (first : Contents) (made : List Made) (last : Contents) → All (IsCallAt s m image) made → Reaches first (turns_of made) last → IsLawful image s.fuel first → IsLawful image s.fuel last
    lawful-reached first [] last calls h lawful = subst (IsLawful image s.fuel) h lawful
    lawful-reached first (e ∷ made) last calls h lawful =
        lawful-reached (contents_of e.turn.after) made last (All-tail (IsCallAt s m image) e made calls) h.1
        (lawful-at e (All-head (IsCallAt s m image) e made calls) (subst (IsLawful image s.fuel) (sym h.0) lawful))

    -- a turn of those that reach a book stands in it
    pub stands-in : (first : Contents) (made : List Made) (last : Contents) → All (IsCallAt s m image) made → Reaches first (turns_of made) last → (e : Made) → Contains made e → StandsIn s image first last e
    stands-in first [] last calls h e c = absurd (none-in e c)
    stands-in first (x ∷ made) last calls h e c =
        let one = All-head (IsCallAt s m image) x made calls in
        let others = All-tail (IsCallAt s m image) x made calls in
        let later = flat_map new_entries (turns_of made) in
        let here : StandsIn s image first last x = record {
          later = later;
          stands = entries-reached (contents_of x.turn.after) made last others h.1 ∙ ap (λ es. es ++ later) (grown-at x one) ∙ append_assoc x.turn.before.history.entries (new_entries x.turn) later;
          lawful = subst (IsLawful image s.fuel) (sym h.0);
        } in
        ⊎_elim (λ same. subst (StandsIn s image first last) same here)
        (λ there.
        let found = stands-in (contents_of x.turn.after) made last others h.1 e there in
        record { later = found.later; stands = found.stands; lawful = λ lawful. found.lawful (lawful-at x one (subst (IsLawful image s.fuel) (sym h.0) lawful)) })
        (cons-cases x made e c)
