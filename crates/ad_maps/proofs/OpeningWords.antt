-- The words that the table is opened with.
use Rattle.std.proofs.Common.{◌≡◌, ◌≢◌, ◌⊎◌, inl, inr, ⊎_elim, ℕ, zero, suc, eqb, eq-eqb, ne_eqb, ◌<◌, ◌≤◌, List, find, length, get_or, Option, None, Some, sym, refl, ap, ◌∙◌, subst, arith}
use Rattle.std.specs.List.{position_or_len, slice_get}
use Rattle.std.specs.Option.{option_map_or}
use Rattle.std.proofs.lemmas.Bool.{cases_eq, cases_lt}
use Rattle.std.proofs.lemmas.List.Folds.{find_at}
use Rattle.std.proofs.lemmas.List.Sums.{position_or_len_is}
use Rattle.std.proofs.lemmas.Option.{slice_get-get_or, slice_get_past}
use Rattle.ad_base.specs.Place.{base_of, packed}
use Rattle.ad_maps.specs.declared.shape.Opening.{Opening}
use Rattle.ad_maps.specs.declared.shape.Shape.{Shape}
use Rattle.ad_maps.specs.MapPlace.{no_opening, opening_of, cells_of, cell_word, module_of_frame, IsShape}
use Rattle.ad_maps.specs.Names.{Slot, Current, Directory, Owner, Cell, Count, Member, Words, in_order}
use Rattle.ad_maps.specs.Opening.{in_region, in_frame, opening_words, OpeningWordsLaw}
use Rattle.ad_maps.specs.Private.Laid.{place_of_module, Laid, LaidBy}
use Rattle.ad_maps.proofs.InOrder.{are-in_order, in_order-are}
use Rattle.ad_maps.proofs.MappingFrames.{cell-past}
use Rattle.ad_maps.proofs.Openings.{frame-low, frame-of, frames-apart}

-- ---- the first opening with a key
module _ (key : Opening → ℕ) (os : List Opening) where
  with-key : (m : ℕ) → m < length os → ((k : ℕ) → k < m → key (get_or os k no_opening) ≢ key (get_or os m no_opening)) → find (λ (o : Opening). eqb (key o) (key (get_or os m no_opening))) os ≡ Some (get_or os m no_opening)
  with-key m low apart =
      let has = λ (o : Opening). eqb (key o) (key (get_or os m no_opening)) in
      let here : position_or_len has os ≡ m = position_or_len_is has os m no_opening (omega arith)
      (λ k before. ne_eqb (key (get_or os k no_opening)) (key (get_or os m no_opening)) (apart k before))
      (λ l. eq-eqb (key (get_or os m no_opening)) (key (get_or os m no_opening)) refl) in
      find_at has os ∙ (ap (slice_get os) here ∙ slice_get-get_or os m no_opening low)

  without-key : (n : ℕ) → ((k : ℕ) → k < length os → key (get_or os k no_opening) ≢ n) → find (λ (o : Opening). eqb (key o) n) os ≡ None
  without-key n fails =
      let has = λ (o : Opening). eqb (key o) n in
      let past : position_or_len has os ≡ length os = position_or_len_is has os (length os) no_opening (omega arith) (λ k low. ne_eqb (key (get_or os k no_opening)) n (fails k low)) (λ l. absurd (omega arith)) in
      find_at has os ∙ slice_get_past os (position_or_len has os) (omega arith)

  -- an opening has the key, or none has it
  has-key : (n k : ℕ) → ((m : ℕ) × (m < k) × (key (get_or os m no_opening) ≡ n)) ⊎ ((m : ℕ) → m < k → key (get_or os m no_opening) ≢ n)
  has-key n zero = inr (λ m l. absurd (omega arith))
  has-key n (suc k) =
      elim (cases_eq (key (get_or os k no_opening)) n) [
        | inl e ↦ inl (k, omega arith, e)
        | inr ne ↦
            ⊎_elim
            (λ t. inl (t.0, (let l = t.1 in omega arith), t.2))
            (λ fails. inr (λ m l. ⊎_elim (λ e f. ne (ap (λ (j : ℕ). key (get_or os j no_opening)) (sym e) ∙ f)) (λ far. fails m (omega arith)) (cases_eq m k)))
            (has-key n k)
      ]

module _ (shape : Shape) (form : IsShape shape) where
  -- ---- each of the opening's words
  current-at : (m : ℕ) → m < length shape.modules → (opening_words shape).current m ≡ packed (place_of_module shape m)
  current-at m low = ap (λ (o : Option Opening). option_map_or (λ (x : Opening). packed x.place) o 0) (slice_get-get_or shape.modules m no_opening low)

  current-past : (m : ℕ) → length shape.modules ≤ m → (opening_words shape).current m ≡ 0
  current-past m far = ap (λ (o : Option Opening). option_map_or (λ (x : Opening). packed x.place) o 0) (slice_get_past shape.modules m far)

  region-at : (m : ℕ) → m < length shape.modules → in_region shape (place_of_module shape m).region ≡ Some (opening_of shape m)
  region-at m low = with-key (λ (o : Opening). o.place.region) shape.modules m low (λ k before. form.regions_differ k m before low)

  frame-at : (m : ℕ) → m < length shape.modules → in_frame shape (place_of_module shape m).frame ≡ Some (opening_of shape m)
  frame-at m low = with-key (λ (o : Opening). o.place.frame) shape.modules m low (λ k before. frames-apart shape form k m (omega arith) low (omega arith))

  in-region : (r : ℕ) → ((m : ℕ) × (m < length shape.modules) × ((place_of_module shape m).region ≡ r)) ⊎ ((m : ℕ) → m < length shape.modules → (place_of_module shape m).region ≢ r)
  in-region r = has-key (λ (o : Opening). o.place.region) shape.modules r (length shape.modules)

  in-frame : (f : ℕ) → ((m : ℕ) × (m < length shape.modules) × ((place_of_module shape m).frame ≡ f)) ⊎ ((m : ℕ) → m < length shape.modules → (place_of_module shape m).frame ≢ f)
  in-frame f = has-key (λ (o : Opening). o.place.frame) shape.modules f (length shape.modules)

  directory-at : (m : ℕ) → m < length shape.modules → (opening_words shape).directory (place_of_module shape m).region ≡ packed (place_of_module shape m)
  directory-at m low = ap (λ (o : Option Opening). option_map_or (λ (x : Opening). packed x.place) o 0) (region-at m low)

  directory-none : (r : ℕ) → ((m : ℕ) → m < length shape.modules → (place_of_module shape m).region ≢ r) → (opening_words shape).directory r ≡ 0
  directory-none r fails = ap (λ (o : Option Opening). option_map_or (λ (x : Opening). packed x.place) o 0) (without-key (λ (o : Opening). o.place.region) shape.modules r fails)

  owner-at : (m : ℕ) → m < length shape.modules → (opening_words shape).owner (place_of_module shape m).frame ≡ (place_of_module shape m).mapping
  owner-at m low = ap (λ (o : Option Opening). option_map_or (λ (x : Opening). x.place.mapping) o 0) (frame-at m low)

  owner-none : (f : ℕ) → ((m : ℕ) → m < length shape.modules → (place_of_module shape m).frame ≢ f) → (opening_words shape).owner f ≡ 0
  owner-none f fails = ap (λ (o : Option Opening). option_map_or (λ (x : Opening). x.place.mapping) o 0) (without-key (λ (o : Opening). o.place.frame) shape.modules f fails)

  cell-at : (m : ℕ) → m < length shape.modules → (i : ℕ) → (opening_words shape).cell (place_of_module shape m).frame i ≡ cell_word (cells_of shape m) (base_of (place_of_module shape m)) i
  cell-at m low i = ap (λ (o : Option Opening). option_map_or (λ (x : Opening). cell_word x.cells (base_of x.place) i) o 0) (frame-at m low)

  cell-none : (f i : ℕ) → ((m : ℕ) → m < length shape.modules → (place_of_module shape m).frame ≢ f) → (opening_words shape).cell f i ≡ 0
  cell-none f i fails = ap (λ (o : Option Opening). option_map_or (λ (x : Opening). cell_word x.cells (base_of x.place) i) o 0) (without-key (λ (o : Opening). o.place.frame) shape.modules f fails)

  -- ---- they are those of a table in which each module is laid
  opening-laid : LaidBy shape (length shape.modules) (length shape.modules) 0 (opening_words shape)
  opening-laid = record {
    slot = λ s. refl;
    count = λ b. refl;
    member = λ b i. refl;
    current = current-at;
    directory = directory-at;
    region = λ v has. ⊎_elim (λ t. t) (λ fails. absurd (has (directory-none v fails))) (in-region v);
    owner = owner-at;
    owned = λ f. ⊎_elim
        (λ t. inr (t.0, t.1, t.2, subst (λ (h : ℕ). (opening_words shape).owner h ≡ (place_of_module shape t.0).mapping) t.2 (owner-at t.0 t.1)))
        (λ fails. inl (owner-none f fails))
        (in-frame f);
    cells = cell-at;
    part = λ i b. absurd (omega arith);
    spare = current-past;
    filled = λ f i has. ⊎_elim (λ t. t) (λ fails. absurd (has (cell-none f i fails))) (in-frame f);
    past = λ f i far. ⊎_elim
        (λ t.
        let of : module_of_frame shape f ≡ t.0 = ap (module_of_frame shape) (sym t.2) ∙ frame-of shape form t.0 t.1 in
        let long = ap (λ (j : ℕ). length (cells_of shape j)) of in
        subst (λ (h : ℕ). (opening_words shape).cell h i ≡ 0) t.2 (cell-at t.0 t.1 i ∙ cell-past (cells_of shape t.0) (base_of (place_of_module shape t.0)) i (omega arith)))
        (cell-none f i)
        (in-frame f);
  }

  pub opening-is_laid : Laid shape (length shape.modules) (in_order (opening_words shape))
  opening-is_laid = record { words = opening_words shape; are = in_order-are (opening_words shape); laid = opening-laid }

  -- ---- and no other words are
  module _ (ws : Words) (old : LaidBy shape (length shape.modules) (length shape.modules) 0 ws) where
    same-current : (m : ℕ) → ws.current m ≡ (opening_words shape).current m
    same-current m =
        elim (cases_lt m (length shape.modules)) [
          | inl low ↦ old.current m low ∙ sym (current-at m low)
          | inr far ↦ old.spare m far ∙ sym (current-past m far)
        ]

    -- a word that is 0 wherever no module is, and is the module's elsewhere
    same-directory : (r : ℕ) → ws.directory r ≡ (opening_words shape).directory r
    same-directory r =
        ⊎_elim
        (λ t. subst (λ (v : ℕ). ws.directory v ≡ (opening_words shape).directory v) t.2 (old.directory t.0 t.1 ∙ sym (directory-at t.0 t.1)))
        (λ fails.
        ⊎_elim
        (λ z. z ∙ sym (directory-none r fails))
        (λ some_word. absurd (let t = old.region r some_word in fails t.0 t.1 t.2))
        (cases_eq (ws.directory r) 0))
        (in-region r)

    same-owner : (f : ℕ) → ws.owner f ≡ (opening_words shape).owner f
    same-owner f =
        ⊎_elim
        (λ t. subst (λ (h : ℕ). ws.owner h ≡ (opening_words shape).owner h) t.2 (old.owner t.0 t.1 ∙ sym (owner-at t.0 t.1)))
        (λ fails. ⊎_elim (λ z. z ∙ sym (owner-none f fails)) (λ t. absurd (fails t.0 t.1 t.2)) (old.owned f))
        (in-frame f)

    same-cell : (f i : ℕ) → ws.cell f i ≡ (opening_words shape).cell f i
    same-cell f i =
        ⊎_elim
        (λ t. subst (λ (h : ℕ). ws.cell h i ≡ (opening_words shape).cell h i) t.2 (old.cells t.0 t.1 i ∙ sym (cell-at t.0 t.1 i)))
        (λ fails.
        ⊎_elim
        (λ z. z ∙ sym (cell-none f i fails))
        (λ some_word. absurd (let t = old.filled f i some_word in fails t.0 t.1 t.2))
        (cases_eq (ws.cell f i) 0))
        (in-frame f)

    same-words : ws ≡ opening_words shape
    same-words = λ j. record {
      slot = λ s. old.slot s j;
      current = λ m. same-current m j;
      directory = λ r. same-directory r j;
      owner = λ f. same-owner f j;
      cell = λ f i. same-cell f i j;
      count = λ b. old.count b j;
      member = λ b i. old.member b i j;
    }

  -- so the list in which each module is laid is that of the opening's words, in order
  pub laid-is : (k : ℕ) (xs : List ℕ) → k ≡ length shape.modules → Laid shape k xs → xs ≡ in_order (opening_words shape)
  laid-is k xs all l =
      let done = subst (λ (n : ℕ). Laid shape n xs) all l in
      are-in_order xs done.words done.are ∙ ap in_order (same-words done.words done.laid)

-- the words as they are read by name
pub opening_words_law : OpeningWordsLaw
opening_words_law shape form =
    let are = in_order-are (opening_words shape) in record {
      long = are.0;
      current = λ m low. are.1 (Current m) (let few = form.few_modules in omega arith) ∙ current-at shape form m low;
      mapped = λ m low. record {
        word = are.1 (Directory (place_of_module shape m).region) (form.each m low).place.place.region_to ∙ directory-at shape form m low;
        owns = are.1 (Owner (place_of_module shape m).frame) (frame-low shape form m low) ∙ owner-at shape form m low;
        cells = λ e inside. are.1 (Cell (place_of_module shape m).frame e) (frame-low shape form m low, inside) ∙ cell-at shape form m low e;
      };
      no_mapping = λ r low empty. are.1 (Directory r) low ∙ directory-none shape form r (λ m b. empty m no_opening b);
      no_owner = λ f low empty. are.1 (Owner f) low ∙ owner-none shape form f (λ m b. empty m no_opening b);
      no_cell = λ f e low inside empty. are.1 (Cell f e) (low, inside) ∙ cell-none shape form f e (λ m b. empty m no_opening b);
      no_module = λ m far low. are.1 (Current m) low ∙ current-past shape form m far;
      slots = λ t low. are.1 (Slot t) low;
      counts = λ b low. are.1 (Count b) low;
      members = λ b k low inside. are.1 (Member b k) (low, inside);
    }
