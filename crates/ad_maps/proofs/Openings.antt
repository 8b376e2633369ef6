-- The table that is opened meets the rule.
use Rattle.std.proofs.Common.{◌≡◌, ◌≢◌, ⊎_elim, inl, inr, ℕ, ◌+◌, ◌*◌, ◌/◌, ◌<◌, ◌≤◌, List, length, get_or, set, refl, sym, ap, ◌∙◌, subst, arith}
use Rattle.std.specs.List.{All}
use Rattle.std.proofs.Math.Nat.{mul-div_cancel, mul-le-mul}
use Rattle.std.proofs.lemmas.Bool.{cases_eq, cases_lt}
use Rattle.ad_base.specs.Layout.{local_word}
use Rattle.ad_base.specs.declared.image.Cell.{Cell as CellState}
use Rattle.std.proofs.lemmas.List.{get_or-map}
use Rattle.ad_base.specs.Place.{base_of, packed}
use Rattle.ad_events.proofs.Functions.{changed-here, changed-else}
use Rattle.ad_maps.specs.declared.shape.Shape.{Shape}
use Rattle.ad_maps.specs.MapPlace.{cells_of, cell_word, module_of_frame, IsShape}
use Rattle.ad_maps.specs.Names.{Name, Slot, Current as CurrentWord, Directory, Owner, Cell, Count, Member, index, IsName, read, wrote, Words}
use Rattle.ad_maps.specs.Private.Laid.{place_of_module, Laying, Laid, LaidBy}
use Rattle.ad_maps.proofs.MappingFrames.{cell-past}
use Rattle.ad_maps.proofs.Writes.{writes, row-here, row-column, row-else}

-- ---- laying the words

module _ (shape : Shape) (form : IsShape shape) where
  pub frame-of : (m : ℕ) → m < length shape.modules → module_of_frame shape (place_of_module shape m).frame ≡ m
  frame-of m low = let some = form.some_frames in ap (λ (f : ℕ). f / shape.frames) (form.each m low).frame ∙ mul-div_cancel m (omega arith)

  pub frames-apart : (m k : ℕ) → m < length shape.modules → k < length shape.modules → m ≢ k → (place_of_module shape m).frame ≢ (place_of_module shape k).frame
  frames-apart m k low lower apart e = apart (sym (frame-of m low) ∙ (ap (module_of_frame shape) e ∙ frame-of k lower))

  pub frame-low : (m : ℕ) → m < length shape.modules → (place_of_module shape m).frame < 128
  frame-low m low =
      let frame = (form.each m low).frame in
      let few = form.few_modules in
      let fewer = form.few_frames in
      let most : m * shape.frames ≤ 7 * 16 = bound m shape.frames (omega arith) fewer in
      omega arith
    where
      bound : (m n : ℕ) → m ≤ 7 → n ≤ 16 → m * n ≤ 7 * 16
      bound m n a b = mul-le-mul a b

  -- the three words of the next module
  pub lay_three : (k : ℕ) (xs : List ℕ) → k < length shape.modules → Laid shape k xs
      → let p = place_of_module shape k in Laying shape (k + 1) k 0 (set (set (set xs (16 + k) (packed p)) (24 + p.region) (packed p)) (65560 + p.frame) p.mapping)
  lay_three k xs low l =
      let p = place_of_module shape k in
      let ws = l.words in
      let old = l.laid in
      let few = form.few_modules in
      let region_to = (form.each k low).place.place.region_to in
      let one = writes xs ws (CurrentWord k) (packed p) (let b : k < 8 = omega arith in b) l.are in
      let two = writes (set xs (16 + k) (packed p)) (wrote ws (CurrentWord k) (packed p)) (Directory p.region) (packed p) region_to one in
      let three = writes (set (set xs (16 + k) (packed p)) (24 + p.region) (packed p)) (wrote (wrote ws (CurrentWord k) (packed p)) (Directory p.region) (packed p)) (Owner p.frame) p.mapping (frame-low k low) two in record {
        words = wrote (wrote (wrote ws (CurrentWord k) (packed p)) (Directory p.region) (packed p)) (Owner p.frame) p.mapping;
        are = three;
        laid = record {
          slot = old.slot;
          count = old.count;
          member = old.member;
          current = λ m b.
              elim (cases_eq m k) [
                | inl e ↦ changed-here ws.current k (packed p) m e ∙ ap (λ (i : ℕ). packed (place_of_module shape i)) (sym e)
                | inr ne ↦ changed-else ws.current k (packed p) m ne ∙ old.current m (omega arith)
              ];
          directory = λ m b.
              elim (cases_eq m k) [
                | inl e ↦ changed-here ws.directory p.region (packed p) (place_of_module shape m).region (ap (λ (i : ℕ). (place_of_module shape i).region) e) ∙ ap (λ (i : ℕ). packed (place_of_module shape i)) (sym e)
                | inr ne ↦ changed-else ws.directory p.region (packed p) (place_of_module shape m).region (form.regions_differ m k (omega arith) low) ∙ old.directory m (omega arith)
              ];
          region = λ v has.
              elim (cases_eq v p.region) [
                | inl e ↦ (k, omega arith, sym e)
                | inr ne ↦ let was = old.region v (λ z. has (changed-else ws.directory p.region (packed p) v ne ∙ z)) in (was.0, let b = was.1 in omega arith, was.2)
              ];
          owner = λ m b.
              elim (cases_eq m k) [
                | inl e ↦ changed-here ws.owner p.frame p.mapping (place_of_module shape m).frame (ap (λ (i : ℕ). (place_of_module shape i).frame) e) ∙ ap (λ (i : ℕ). (place_of_module shape i).mapping) (sym e)
                | inr ne ↦ changed-else ws.owner p.frame p.mapping (place_of_module shape m).frame (frames-apart m k (omega arith) low ne) ∙ old.owner m (omega arith)
              ];
          owned = λ f.
              elim (cases_eq f p.frame) [
                | inl e ↦ inr (k, omega arith, sym e, changed-here ws.owner p.frame p.mapping f e)
                | inr ne ↦
                    ⊎_elim
                    (λ z. inl (changed-else ws.owner p.frame p.mapping f ne ∙ z))
                    (λ t. inr (t.0, (let b = t.1 in omega arith), t.2, changed-else ws.owner p.frame p.mapping f ne ∙ t.3))
                    (old.owned f)
              ];
          cells = old.cells;
          part = λ i b. absurd (omega arith);
          spare = λ m far. changed-else ws.current k (packed p) m (λ e. omega arith) ∙ old.spare m (omega arith);
          filled = λ f i has. let was = old.filled f i has in (was.0, let b = was.1 in omega arith, was.2);
          past = old.past;
        };
      }

  -- the words are laid so with other cells
  with_cells : (k c e c' e' : ℕ) (ws : Words) (cell : ℕ → ℕ → ℕ) → LaidBy shape k c e ws
      → ((m : ℕ) → m < c' → (i : ℕ) → cell (place_of_module shape m).frame i ≡ cell_word (cells_of shape m) (base_of (place_of_module shape m)) i)
      → ((i : ℕ) → i < e' → cell (place_of_module shape c').frame i ≡ cell_word (cells_of shape c') (base_of (place_of_module shape c')) i)
      → ((f i : ℕ) → cell f i ≢ 0 → (m : ℕ) × (m < k) × ((place_of_module shape m).frame ≡ f))
      → ((f i : ℕ) → length (cells_of shape (module_of_frame shape f)) ≤ i → cell f i ≡ 0) → LaidBy shape k c' e' (record ws { cell = cell })
  with_cells k c e c' e' ws cell old cells part filled past = record {
    slot = old.slot;
    count = old.count;
    member = old.member;
    current = old.current;
    directory = old.directory;
    region = old.region;
    owner = old.owner;
    owned = old.owned;
    cells = cells;
    part = part;
    spare = old.spare;
    filled = filled;
    past = past;
  }

  -- one cell more of the next module
  pub lay_cell : (k e : ℕ) (xs : List ℕ) (x : ℕ) → k < length shape.modules → e < length (cells_of shape k) → x ≡ cell_word (cells_of shape k) (base_of (place_of_module shape k)) e → Laying shape (k + 1) k e xs
      → Laying shape (k + 1) k (e + 1) (set xs (65688 + (512 * (place_of_module shape k).frame + e)) x)
  lay_cell k e xs x low inside is l =
      let p = place_of_module shape k in
      let f = p.frame in
      let ws = l.words in
      let old = l.laid in
      let few = (form.each k low).few_cells in record {
        words = wrote ws (Cell f e) x;
        are = writes xs ws (Cell f e) x (frame-low k low, (let b : e < 512 = omega arith in b)) l.are;
        laid = with_cells (k + 1) k e k (e + 1) ws (wrote ws (Cell f e) x).cell old
            (λ m b i. row-else ws.cell f e x (place_of_module shape m).frame i (frames-apart m k (omega arith) low (λ z. omega arith)) ∙ old.cells m b i)
            (λ i b.
            elim (cases_eq i e) [
              | inl here ↦ row-here ws.cell f e x f i refl here ∙ (is ∙ ap (cell_word (cells_of shape k) (base_of p)) (sym here))
              | inr else ↦ row-column ws.cell f e x f i else ∙ old.part i (omega arith)
            ])
            (λ h i has.
            elim (cases_eq h f) [
              | inl here ↦ (k, omega arith, sym here)
              | inr else ↦ old.filled h i (λ z. has (row-else ws.cell f e x h i else ∙ z))
            ])
            (λ h i far.
            elim (cases_eq h f) [
              | inl here ↦
                  elim (cases_eq i e) [
                    | inl there ↦ absurd (let of = ap (module_of_frame shape) here ∙ frame-of k low in let long = ap (λ (j : ℕ). length (cells_of shape j)) of in omega arith)
                    | inr else ↦ row-column ws.cell f e x h i else ∙ old.past h i far
                  ]
              | inr else ↦ row-else ws.cell f e x h i else ∙ old.past h i far
            ]);
      }

  -- the next module is laid
  pub lay_done : (k e : ℕ) (xs : List ℕ) → k < length shape.modules → e ≡ length (cells_of shape k) → Laying shape (k + 1) k e xs → Laid shape (k + 1) xs
  lay_done k e xs low all l =
      let old = l.laid in
      let p = place_of_module shape k in record {
        words = l.words;
        are = l.are;
        laid = with_cells (k + 1) k e (k + 1) 0 l.words l.words.cell old
            (λ m b i.
            elim (cases_eq m k) [
              | inl same ↦ subst (λ (j : ℕ). l.words.cell (place_of_module shape j).frame i ≡ cell_word (cells_of shape j) (base_of (place_of_module shape j)) i) (sym same) (by_cell i)
              | inr ne ↦ old.cells m (omega arith) i
            ])
            (λ i b. absurd (omega arith))
            old.filled
            old.past;
      }
    where
      by_cell : (i : ℕ) → l.words.cell (place_of_module shape k).frame i ≡ cell_word (cells_of shape k) (base_of (place_of_module shape k)) i
      by_cell i =
          elim (cases_lt i (length (cells_of shape k))) [
            | inl b ↦ l.laid.part i (omega arith)
            | inr far ↦ l.laid.past (place_of_module shape k).frame i (let of = ap (λ (j : ℕ). length (cells_of shape j)) (frame-of k low) in omega arith) ∙ sym (cell-past (cells_of shape k) (base_of (place_of_module shape k)) i far)
          ]

-- nothing is laid yet
pub none_laid : (shape : Shape) (xs : List ℕ) → length xs ≡ 168088 → All (λ (x : ℕ). x ≡ 0) xs → Laid shape 0 xs
none_laid shape xs long zeros = record {
  words = record { slot = λ _. 0; current = λ _. 0; directory = λ _. 0; owner = λ _. 0; cell = λ _ _. 0; count = λ _. 0; member = λ _ _. 0 };
  are = (long, by_name);
  laid = record {
    slot = λ s. refl;
    count = λ b. refl;
    member = λ b i. refl;
    current = λ m b. absurd (omega arith);
    directory = λ m b. absurd (omega arith);
    region = λ v has. absurd (has refl);
    owner = λ m b. absurd (omega arith);
    owned = λ f. inl refl;
    cells = λ m b i. absurd (omega arith);
    part = λ i b. absurd (omega arith);
    spare = λ m far. refl;
    filled = λ f i has. absurd (has refl);
    past = λ f i far. refl;
  };
}
  where
    by_name : (n : Name) → IsName n → get_or xs (index n) 0 ≡ read (record { slot = λ _. 0; current = λ _. 0; directory = λ _. 0; owner = λ _. 0; cell = λ _ _. 0; count = λ _. 0; member = λ _ _. 0 }) n
    by_name (Slot s) h = let b : s < 16 = h in zeros s 0 (omega arith)
    by_name (CurrentWord m) h = let b : m < 8 = h in zeros (16 + m) 0 (omega arith)
    by_name (Directory v) h = let b : v < 65536 = h in zeros (24 + v) 0 (omega arith)
    by_name (Owner f) h = let b : f < 128 = h in zeros (65560 + f) 0 (omega arith)
    by_name (Cell f e) h = let b : f < 128 = h.0 in let d : e < 512 = h.1 in zeros (65688 + (512 * f + e)) 0 (omega arith)
    by_name (Count n) h = let b : n < 4096 = h in zeros (131224 + n) 0 (omega arith)
    by_name (Member n i) h = let b : n < 4096 = h.0 in let d : i < 8 = h.1 in zeros (135320 + (8 * n + i)) 0 (omega arith)

-- the word at an entry
pub word-at : (cells : List CellState) (base e : ℕ) (d : CellState) → e < length cells → cell_word cells base e ≡ local_word base (get_or cells e d)
word-at cells base e d low = get_or-map (local_word base) cells e d 0 low

-- one cell more, of a frame that is the module's
pub lay_cell_of : (shape : Shape) (form : IsShape shape) (k e : ℕ) (xs : List ℕ) (x f : ℕ) → f ≡ (place_of_module shape k).frame → k < length shape.modules → e < length (cells_of shape k) → x ≡ cell_word (cells_of shape k) (base_of (place_of_module shape k)) e → Laying shape (k + 1) k e xs
    → Laying shape (k + 1) k (e + 1) (set xs (65688 + (512 * f + e)) x)
lay_cell_of shape form k e xs x f is low inside word l = subst (λ (g : ℕ). Laying shape (k + 1) k (e + 1) (set xs (65688 + (512 * g + e)) x)) (sym is) (lay_cell shape form k e xs x low inside word l)

-- the three words, where they are the module's
pub lay_three_of : (shape : Shape) (form : IsShape shape) (k : ℕ) (xs : List ℕ) (word region frame number : ℕ) → k < length shape.modules → word ≡ packed (place_of_module shape k) → region ≡ (place_of_module shape k).region → frame ≡ (place_of_module shape k).frame → number ≡ (place_of_module shape k).mapping
    → Laid shape k xs → Laying shape (k + 1) k 0 (set (set (set xs (16 + k) word) (24 + region) word) (65560 + frame) number)
lay_three_of shape form k xs word region frame number low w v f n l =
    subst (Laying shape (k + 1) k 0) (λ i. set (set (set xs (16 + k) (sym w i)) (24 + sym v i) (sym w i)) (65560 + sym f i) (sym n i)) (lay_three shape form k xs low l)
