-- What the moves of a run draw, what came of them, and what they move.
use Rattle.std.proofs.Common.{◌≡◌, ◌≢◌, ℕ, suc, ◌+◌, ◌-◌, ◌*◌, ◌<◌, ◌≤◌, Bool, true, false, ◌==◌, ◌&&◌, List, [], ◌∷◌, ◌++◌, length, map, fold, get_or, slice_get, Option, Some, None, inl, inr, refl, sym, ap, subst, ◌∙◌, append_assoc, append-nil, eq-eqb, unwrap_or, arith}
use Rattle.std.specs.Prelude.{nat_lt, if◌then◌else◌}
use Rattle.std.specs.List.{All, AllPairs, flat_map}
use Rattle.std.specs.List.Sorted.{IsNonDecreasingBy}
use Rattle.std.specs.Option.{option_map_or}
use Rattle.std.proofs.lemmas.Bool.{ltb-false, ltb-true}
use Rattle.std.proofs.lemmas.Bool.Decides.{eqb_tells}
use Rattle.std.proofs.lemmas.List.{flat_map_more, length-map, length-set, length_push, map_push}
use Rattle.std.proofs.lemmas.List.Elements.{All-head, All-tail}
use Rattle.std.proofs.lemmas.List.Sorted.{IsNonDecreasingBy-push}
use Rattle.std.proofs.lemmas.List.Sums.{fold-append}
use Rattle.std.proofs.lemmas.Option.{none-some, slice_get-get_or}
use Rattle.ad_base.specs.declared.image.Image.{Image}
use Rattle.ad_base.specs.declared.layout.TheConstants.{MAPPINGS, STACK_PAGES}
use Rattle.ad_base.specs.declared.ledger.Kind.{Kind}
use Rattle.ad_base.specs.declared.ledger.Kind.TheVariants as kinds
use Rattle.ad_base.specs.declared.ledger.MoveEnd.TheVariants.{Made, Spent}
use Rattle.ad_base.specs.declared.ledger.Moved.{Moved}
use Rattle.ad_base.specs.declared.place.Place.{Place}
use Rattle.ad_base.specs.Image.{movable_pages}
use Rattle.ad_base.specs.Ledger.{is_same_kind, made_mapping, made_place}
use Rattle.ad_call.specs.declared.call.Call.{Call}
use Rattle.ad_place.specs.Choice.{Drawn, drawn_from, next_place, places_of, with_next}
use Rattle.ad_lines.specs.declared.ready.ReadyStep.{ReadyStep}
use Rattle.ad_lines.specs.declared.ready.ReadyStep.TheVariants as steps
use Rattle.ad_lines.specs.LineLaws.{AreMoveEnds, AreSteps, IsMoveEnd, MoveRequest, last_place, line_of, move_requests, move_request, draw_of, run_of_seed, thing_pages}
use Rattle.ad_lines.specs.LineRun.{ModuleState, Placement, RunState, after_move, after_step, drawn_after, line_run, move_end, place_after, with_module_moved}
use Rattle.ad_lines.specs.Opening.{AreLoaded, drawn_for, opening_drawn, opening_requests, opening_run}
use Rattle.ad_lines.specs.Ready.{IsRunnable}
use Rattle.ad_lines.specs.Room.{images_of}
use Rattle.ad_lines.proofs.Kept.{keeps-step}
use Rattle.ad_lines.proofs.ListReads.{Each, each-push, read-map, set-read}
use Rattle.ad_lines.proofs.OpenRuns.{run-opens}
use Rattle.ad_lines.proofs.Opened.{opening-there}
use Rattle.ad_lines.proofs.Asked.{length-requests}
use Rattle.ad_lines.proofs.Opens.{length-drawn, there}
use Rattle.ad_lines.proofs.RunKeeps.{IsKept, called_run, given_run, moved_run, run-keeps, step-keeps}

-- how many places were drawn after moves
abbrev drawn_by : ℕ → List Moved → ℕ
drawn_by n [] = n
drawn_by n (m ∷ ms) = drawn_by (n + length (made_mapping m)) ms

drawn_by-push : (n : ℕ) (ms : List Moved) (m : Moved) → drawn_by n (ms ++ m ∷ []) ≡ drawn_by n ms + length (made_mapping m)
drawn_by-push n [] m = refl
drawn_by-push n (x ∷ xs) m = drawn_by-push (n + length (made_mapping x)) xs m

ends-push : (n : ℕ) (ms : List Moved) (m : Moved) → AreMoveEnds n ms → IsMoveEnd (drawn_by n ms) m.end → AreMoveEnds n (ms ++ m ∷ [])
ends-push n [] m are is = (is, tt)
ends-push n (x ∷ xs) m are is = (are.0, ends-push (n + length (made_mapping x)) xs m are.1 is)

-- the places are those of the requests so far, and each move came to its end
record IsDrawn (images : List Image) (start : Drawn) (requests : List (Kind × ℕ)) (count : ℕ) (p : Placement) : Type 0 where
  drawn : p.drawn ≡ drawn_from start (requests ++ flat_map (draw_of images) p.moves)
  ends : AreMoveEnds count p.moves
  counted : drawn_by count p.moves ≡ length p.drawn.places

-- what comes of a move, by what was drawn before it
end-by : (d : Drawn) (kind : Kind) (pages : ℕ) (b : Bool) → nat_lt (length d.places) MAPPINGS ≡ b → IsMoveEnd (length d.places) (if b then Made (next_place d kind pages) else Spent)
end-by d kind pages true is =
    let less = ltb-true (length d.places) MAPPINGS is in
    record { spent = ((λ e. absurd cc), (λ all. absurd (omega arith))); not_busy = λ owner e. cc }
end-by d kind pages false is =
    let all = ltb-false (length d.places) MAPPINGS is in
    record { spent = ((λ e. all), (λ x. refl)); not_busy = λ owner e. cc }

-- what a move of a thing draws is what it asks for
draws : (images : List Image) (d : Drawn) (line : ℕ) (kind : Kind) (who pages : ℕ) (b : Bool) → pages ≡ thing_pages images kind who → (let end = if b then Made (next_place d kind pages) else Spent in drawn_after d kind pages end ≡ drawn_from d (draw_of images (record { line = line; kind = kind; who = who; end = end })))
draws images d line kind who pages true same = ap (with_next d kind) same
draws images d line kind who pages false same = refl

draws-count : (d : Drawn) (line : ℕ) (kind : Kind) (who pages : ℕ) (b : Bool) → (let end = if b then Made (next_place d kind pages) else Spent in length (drawn_after d kind pages end).places ≡ length d.places + length (made_mapping (record { line = line; kind = kind; who = who; end = end })))
draws-count d line kind who pages true = length_push d.places (next_place d kind pages)
draws-count d line kind who pages false = omega arith

-- a move of a thing that has its pages goes on so
drawn-move : (images : List Image) (start : Drawn) (requests : List (Kind × ℕ)) (count : ℕ) (p : Placement) (line : ℕ) (kind : Kind) (who : ℕ) (old : Place) → old.pages ≡ thing_pages images kind who → IsDrawn images start requests count p → IsDrawn images start requests count (after_move p line kind who old)
unfolding after_move
drawn-move images start requests count p line kind who old same h =
    let end = move_end p.drawn kind old.pages in
    let m : Moved = record { line = line; kind = kind; who = who; end = end } in
    let b = nat_lt (length p.drawn.places) MAPPINGS in
    record {
      drawn = draws images p.drawn line kind who old.pages b same
          ∙ ap (λ x. drawn_from x (draw_of images m)) h.drawn
          ∙ sym (fold-append (λ (x : Drawn) (o : Kind × ℕ). with_next x o.0 o.1) start (requests ++ flat_map (draw_of images) p.moves) (draw_of images m))
          ∙ ap (drawn_from start) (flat_map_more (draw_of images) requests p.moves m);
      ends = ends-push count p.moves m h.ends (subst (λ n. IsMoveEnd n end) (sym h.counted) (end-by p.drawn kind old.pages b refl));
      counted = drawn_by-push count p.moves m ∙ ap (λ n. n + length (made_mapping m)) h.counted ∙ sym (draws-count p.drawn line kind who old.pages b);
    }

-- each module's part and each stack has the pages of its thing
record HavePages (images : List Image) (s : RunState) : Type 0 where
  parts : (n : ℕ) (m : ModuleState) → slice_get s.modules n ≡ Some m → m.movable.pages ≡ thing_pages images kinds.Code n
  stacks : (n : ℕ) (p : Place) → slice_get s.stacks n ≡ Some p → p.pages ≡ STACK_PAGES

-- the place after a move has the pages of the old one
same-pages : (d : Drawn) (kind : Kind) (old : Place) (b : Bool) → (place_after old (if b then Made (next_place d kind old.pages) else Spent)).pages ≡ old.pages
unfolding next_place
same-pages d kind old true = refl
same-pages d kind old false = refl

module _ (images : List Image) (s : RunState) (h : HavePages images s) where
  pages-called : (n : ℕ) (m : ModuleState) (fuel : ℕ) (c : Call) (args : List ℕ) → slice_get s.modules n ≡ Some m → HavePages images (called_run s n m fuel c args)
  pages-called n m fuel c args there = record {
    parts = λ k x e. elim (set-read s.modules n _ k x e) [
      | inl this ↦ sym (ap (λ (y : ModuleState). y.movable.pages) this.1) ∙ h.parts k m (ap (slice_get s.modules) this.0 ∙ there)
      | inr other ↦ h.parts k x other.1
    ];
    stacks = h.stacks;
  }

  pages-moved : (line n : ℕ) (m : ModuleState) → slice_get s.modules n ≡ Some m → HavePages images (moved_run s line n m)
  pages-moved line n m there = record {
    parts = λ k x e. elim (set-read s.modules n _ k x e) [
      | inl this ↦
          sym (ap (λ (y : ModuleState). y.movable.pages) this.1)
          ∙ same-pages s.placement.drawn kinds.Code m.movable (nat_lt (length s.placement.drawn.places) MAPPINGS)
          ∙ h.parts k m (ap (slice_get s.modules) this.0 ∙ there)
      | inr other ↦ h.parts k x other.1
    ];
    stacks = h.stacks;
  }

  pages-given : (line worker : ℕ) (stack : Place) → slice_get s.stacks worker ≡ Some stack → HavePages images (given_run s line worker stack)
  pages-given line worker stack there = record {
    parts = h.parts;
    stacks = λ k x e. elim (set-read s.stacks worker _ k x e) [
      | inl this ↦
          sym (ap (λ (y : Place). y.pages) this.1)
          ∙ same-pages s.placement.drawn kinds.Stack stack (nat_lt (length s.placement.drawn.places) MAPPINGS)
          ∙ h.stacks worker stack there
      | inr other ↦ h.stacks k x other.1
    ];
  }

-- moves in order of their lines, none behind this one
record IsOrdered (line : ℕ) (moves : List Moved) : Type 0 where
  rising : IsNonDecreasingBy (λ m. m.line) moves
  before : Each (λ m. m.line ≤ line) moves

ordered-push : (moves : List Moved) (m : Moved) → IsOrdered m.line moves → IsOrdered m.line (moves ++ m ∷ [])
ordered-push moves m h = record {
  rising = IsNonDecreasingBy-push (λ (x : Moved). x.line) moves m h.rising (λ d some. h.before (length moves - 1) (get_or moves (length moves - 1) d) (slice_get-get_or moves (length moves - 1) d (omega arith)));
  before = each-push (λ (x : Moved). x.line ≤ m.line) moves m h.before (omega arith);
}

ordered-move : (line : ℕ) (p : Placement) (kind : Kind) (who : ℕ) (old : Place) → IsOrdered line p.moves → IsOrdered line (after_move p line kind who old).moves
unfolding after_move
ordered-move line p kind who old h = ordered-push p.moves (record { line = line; kind = kind; who = who; end = move_end p.drawn kind old.pages }) h

ordered-kept : (line : ℕ) → IsKept (λ s. IsOrdered line s.placement.moves) (λ n. n ≡ line)
ordered-kept line = record {
  call = λ s n m fuel c args there h. h;
  move = λ s at n m same there h. subst (λ i. IsOrdered line (after_move s.placement i kinds.Code n m.movable).moves) (sym same) (ordered-move line s.placement kinds.Code n m.movable h);
  stack = λ s at worker stack same there h. subst (λ i. IsOrdered line (after_move s.placement i kinds.Stack worker stack).moves) (sym same) (ordered-move line s.placement kinds.Stack worker stack h);
}

ordered-run : (fuel : ℕ) (s : RunState) (all : List ReadyStep) (line : ℕ) → IsOrdered line s.placement.moves → All (λ x. line ≤ line_of x) all → AllPairs (λ x y. line_of x < line_of y) all
    → IsNonDecreasingBy (λ (m : Moved). m.line) (line_run fuel s all).placement.moves
ordered-run fuel s [] line h from rising = h.rising
ordered-run fuel s (step ∷ rest) line h from rising =
    let low = All-head (λ x. line ≤ line_of x) step rest from in
    let here : IsOrdered (line_of step) s.placement.moves = record { rising = h.rising; before = λ k m e. omega (arith, h.before k m e, low) } in
    let after = step-keeps (λ t. IsOrdered (line_of step) t.placement.moves) (λ n. n ≡ line_of step) (ordered-kept (line_of step)) fuel s step refl here in
    ordered-run fuel (after_step fuel s step) rest (line_of step) after
    (λ k d within. let less = rising 0 (suc k) d (omega arith) (omega (arith, within)) in omega (arith, less))
    (λ i j d less within. rising (suc i) (suc j) d (omega (arith, less)) (omega (arith, within)))

-- where the last move of a thing put it, once one more came
last-push : (kind : Kind) (who : ℕ) (first : Place) (moves : List Moved) (m : Moved) → last_place kind who first (moves ++ m ∷ []) ≡ (if is_same_kind kind m.kind && (who == m.who) then unwrap_or (made_place m.end) (last_place kind who first moves) else last_place kind who first moves)
last-push kind who first moves m = fold-append (λ (p : Place) (x : Moved). if is_same_kind kind x.kind && (who == x.who) then unwrap_or (made_place x.end) p else p) first moves (m ∷ [])

last-other : (kind : Kind) (who : ℕ) (first : Place) (moves : List Moved) (m : Moved) → (is_same_kind kind m.kind && (who == m.who)) ≡ false → last_place kind who first (moves ++ m ∷ []) ≡ last_place kind who first moves
last-other kind who first moves m other = last-push kind who first moves m ∙ ap (λ b. if b then unwrap_or (made_place m.end) (last_place kind who first moves) else last_place kind who first moves) other

last-same : (kind : Kind) (who : ℕ) (first : Place) (moves : List Moved) (m : Moved) → (is_same_kind kind m.kind && (who == m.who)) ≡ true → last_place kind who first (moves ++ m ∷ []) ≡ place_after (last_place kind who first moves) m.end
last-same kind who first moves m same = last-push kind who first moves m ∙ ap (λ b. if b then unwrap_or (made_place m.end) (last_place kind who first moves) else last_place kind who first moves) same

-- all of a run lie where the last moves of them put them
record AreLast (first s : RunState) : Type 0 where
  parts : (n : ℕ) (a b : ModuleState) → slice_get first.modules n ≡ Some a → slice_get s.modules n ≡ Some b → b.movable ≡ last_place kinds.Code n a.movable s.placement.moves
  stacks : (n : ℕ) (a b : Place) → slice_get first.stacks n ≡ Some a → slice_get s.stacks n ≡ Some b → b ≡ last_place kinds.Stack n a s.placement.moves

apart-numbers : (a b : ℕ) → a ≢ b → (a == b) ≡ false
apart-numbers a b other = elim (eqb_tells a b) [ inl e ↦ absurd (other e.1) | inr e ↦ e.0 ]

module _ (first s : RunState) (h : AreLast first s) where
  last-called : (n : ℕ) (m : ModuleState) (fuel : ℕ) (c : Call) (args : List ℕ) → slice_get s.modules n ≡ Some m → AreLast first (called_run s n m fuel c args)
  last-called n m fuel c args there = record {
    parts = λ k a b e f. elim (set-read s.modules n _ k b f) [
      | inl this ↦ sym (ap (λ (x : ModuleState). x.movable) this.1) ∙ h.parts k a m e (ap (slice_get s.modules) this.0 ∙ there)
      | inr other ↦ h.parts k a b e other.1
    ];
    stacks = h.stacks;
  }

  last-moved : (line n : ℕ) (m : ModuleState) → slice_get s.modules n ≡ Some m → AreLast first (moved_run s line n m)
  unfolding after_move
  last-moved line n m there =
      let end = move_end s.placement.drawn kinds.Code m.movable.pages in
      let x : Moved = record { line = line; kind = kinds.Code; who = n; end = end } in
      let moves = s.placement.moves in
      record {
        parts = λ k a b e f. elim (set-read s.modules n _ k b f) [
          | inl this ↦
              let old = h.parts k a m e (ap (slice_get s.modules) this.0 ∙ there) in
              sym (ap (λ (y : ModuleState). y.movable) this.1) ∙ ap (λ q. place_after q end) old ∙ sym (last-same kinds.Code k a.movable moves x (eq-eqb k n this.0))
          | inr other ↦ h.parts k a b e other.1 ∙ sym (last-other kinds.Code k a.movable moves x (apart-numbers k n other.0))
        ];
        stacks = λ k a b e f. h.stacks k a b e f ∙ sym (last-other kinds.Stack k a moves x refl);
      }

  last-given : (line worker : ℕ) (stack : Place) → slice_get s.stacks worker ≡ Some stack → AreLast first (given_run s line worker stack)
  unfolding after_move
  last-given line worker stack there =
      let end = move_end s.placement.drawn kinds.Stack stack.pages in
      let x : Moved = record { line = line; kind = kinds.Stack; who = worker; end = end } in
      let moves = s.placement.moves in
      record {
        parts = λ k a b e f. h.parts k a b e f ∙ sym (last-other kinds.Code k a.movable moves x refl);
        stacks = λ k a b e f. elim (set-read s.stacks worker _ k b f) [
          | inl this ↦
              let old = h.stacks k a stack e (ap (slice_get s.stacks) this.0 ∙ there) in
              sym this.1 ∙ ap (λ q. place_after q end) old ∙ sym (last-same kinds.Stack k a moves x (eq-eqb k worker this.0))
          | inr other ↦ h.stacks k a b e other.1 ∙ sym (last-other kinds.Stack k a moves x (apart-numbers k worker other.0))
        ];
      }

-- what a line moves of a module
abbrev moving : ℕ → ℕ → MoveRequest
moving line n = record { line = line; kind = kinds.Code; who = n }

-- a module that is there is moved
record MovesOne (line n : ℕ) (s t : RunState) : Type 0 where
  more : map move_request t.placement.moves ≡ map move_request s.placement.moves ++ moving line n ∷ []
  size : length t.modules ≡ length s.modules

moves-one : (line : ℕ) (s : RunState) (n : ℕ) (o : Option ModuleState) → slice_get s.modules n ≡ o → n < length s.modules → MovesOne line n s (option_map_or (λ m. moved_run s line n m) o s)
unfolding after_move
moves-one line s n None e within = let found = there s.modules n within in absurd (none-some found.0 (sym e ∙ found.1))
moves-one line s n (Some m) e within = record {
  more = map_push move_request s.placement.moves (record { line = line; kind = kinds.Code; who = n; end = move_end s.placement.drawn kinds.Code m.movable.pages });
  size = length-set s.modules n _;
}

moves-all : (line count : ℕ) (s : RunState) (ns : List ℕ) → All (λ n. n < count) ns → length s.modules ≡ count
    → map move_request (fold (with_module_moved line) s ns).placement.moves ≡ map move_request s.placement.moves ++ map (moving line) ns
moves-all line count s [] within is = sym (append-nil (map move_request s.placement.moves))
moves-all line count s (n ∷ ns) within is =
    let t = with_module_moved line s n in
    let first = All-head (λ k. k < count) n ns within in
    let one = moves-one line s n (slice_get s.modules n) refl (omega (arith, first, is)) in
    moves-all line count t ns (All-tail (λ k. k < count) n ns within) (one.size ∙ is)
    ∙ ap (λ xs. xs ++ map (moving line) ns) one.more
    ∙ append_assoc (map move_request s.placement.moves) (moving line n ∷ []) (map (moving line) ns)

-- a call moves nothing
called-on : (fuel : ℕ) (s : RunState) (line worker n export : ℕ) (args : List ℕ) (m : ModuleState) (o : Option Place)
    → (option_map_or (λ stack. let call : Call = record { line = line; worker = worker; export = export; under = m.movable; stack = stack } in called_run s n m fuel call args) o s).placement ≡ s.placement
called-on fuel s line worker n export args m None = refl
called-on fuel s line worker n export args m (Some stack) = refl

called-of : (fuel : ℕ) (s : RunState) (line worker n export : ℕ) (args : List ℕ) (o : Option ModuleState)
    → (option_map_or (λ m. option_map_or (λ stack. let call : Call = record { line = line; worker = worker; export = export; under = m.movable; stack = stack } in called_run s n m fuel call args) (slice_get s.stacks worker) s) o s).placement ≡ s.placement
called-of fuel s line worker n export args None = refl
called-of fuel s line worker n export args (Some m) = called-on fuel s line worker n export args m (slice_get s.stacks worker)

-- a worker that is there has a fresh stack
given-one : (line : ℕ) (s : RunState) (worker : ℕ) (o : Option Place) → slice_get s.stacks worker ≡ o → worker < length s.stacks
    → map move_request (option_map_or (λ stack. given_run s line worker stack) o s).placement.moves ≡ map move_request s.placement.moves ++ record { line = line; kind = kinds.Stack; who = worker } ∷ []
unfolding after_move
given-one line s worker None e within = let found = there s.stacks worker within in absurd (none-some found.0 (sym e ∙ found.1))
given-one line s worker (Some stack) e within = map_push move_request s.placement.moves (record { line = line; kind = kinds.Stack; who = worker; end = move_end s.placement.drawn kinds.Stack stack.pages })

moves-step : (fuel : ℕ) (s : RunState) (images : List Image) (workers : ℕ) (step : ReadyStep) → IsRunnable images workers step → length s.modules ≡ length images → length s.stacks ≡ workers
    → map move_request (after_step fuel s step).placement.moves ≡ map move_request s.placement.moves ++ move_requests step
unfolding after_step
moves-step fuel s images workers (steps.Call line worker n export args) can modules stacks =
    ap (λ (p : Placement). map move_request p.moves) (called-of fuel s line worker n export args (slice_get s.modules n)) ∙ sym (append-nil (map move_request s.placement.moves))
moves-step fuel s images workers (steps.Move line ns) can modules stacks = moves-all line (length images) s ns can modules
moves-step fuel s images workers (steps.Stack line worker) can modules stacks = given-one line s worker (slice_get s.stacks worker) refl (omega (arith, can, stacks))

size-images : (s : RunState) → length (images_of s) ≡ length s.modules
size-images s = length-map s.modules (λ (m : ModuleState). m.image)

moves-run : (fuel : ℕ) (s : RunState) (images : List Image) (workers : ℕ) (all : List ReadyStep) → All (IsRunnable images workers) all → length s.modules ≡ length images → length s.stacks ≡ workers
    → map move_request (line_run fuel s all).placement.moves ≡ map move_request s.placement.moves ++ flat_map move_requests all
moves-run fuel s images workers [] can modules stacks = sym (append-nil (map move_request s.placement.moves))
moves-run fuel s images workers (step ∷ rest) can modules stacks =
    let t = after_step fuel s step in
    let keeps = keeps-step fuel s step in
    let size : length t.modules ≡ length images = sym (size-images t) ∙ ap length keeps.images ∙ size-images s ∙ modules in
    moves-run fuel t images workers rest (All-tail (IsRunnable images workers) step rest can) size (keeps.stacks ∙ stacks)
    ∙ ap (λ xs. xs ++ flat_map move_requests rest) (moves-step fuel s images workers step (All-head (IsRunnable images workers) step rest can) modules stacks)
    ∙ append_assoc (map move_request s.placement.moves) (move_requests step) (flat_map move_requests rest)

module _ (seed workers fuel : ℕ) (images : List Image) (steps : List ReadyStep) (loaded : AreLoaded seed workers images) (are : AreSteps images workers steps) where
  pub moves-made : map move_request (run_of_seed seed workers images fuel steps).placement.moves ≡ flat_map move_requests steps
  unfolding opening_run
  moves-made =
      let s = opening_run workers images (opening_drawn seed workers images) in
      let there = opening-there seed workers images loaded in
      moves-run fuel s images workers steps are.runnable (sym (size-images s) ∙ ap length there.images_are) there.stacks_are

  pub moves-rise : IsNonDecreasingBy (λ (m : Moved). m.line) (run_of_seed seed workers images fuel steps).placement.moves
  unfolding opening_run
  moves-rise = ordered-run fuel (opening_run workers images (opening_drawn seed workers images)) steps 1 (record { rising = λ i j d le within. absurd (omega arith); before = λ k m e. absurd cc }) are.from_one are.rising

  opening-pages : HavePages images (opening_run workers images (opening_drawn seed workers images))
  opening-pages =
      let s = opening_run workers images (opening_drawn seed workers images) in
      let opens = run-opens seed workers images loaded in
      let there = opening-there seed workers images loaded in
      record {
        parts = λ n m e.
            let found : slice_get images n ≡ Some m.image = ap (λ xs. slice_get xs n) (sym there.images_are) ∙ read-map (λ (x : ModuleState). x.image) s.modules n m e in
            (opens.modules n m e).pages ∙ sym (ap (λ o. option_map_or movable_pages o 0) found);
        stacks = λ n p e. (opens.stacks n p e).pages;
      }

  all-drawn : IsDrawn images (record { seed = seed; places = [] }) (map drawn_for (opening_requests workers images)) (workers + 2 * length images) (run_of_seed seed workers images fuel steps).placement
  unfolding opening_run opening_drawn
  all-drawn =
      let start : Drawn = record { seed = seed; places = [] } in
      let requests = map drawn_for (opening_requests workers images) in
      let count = workers + 2 * length images in
      (run-keeps (λ s. IsDrawn images start requests count s.placement × HavePages images s) (λ line. Unit {0})
      (record {
        call = λ s n m f c args e h. (h.0, pages-called images s h.1 n m f c args e);
        move = λ s line n m q e h. (drawn-move images start requests count s.placement line kinds.Code n m.movable (h.1.parts n m e) h.0, pages-moved images s h.1 line n m e);
        stack = λ s line worker stack q e h. (drawn-move images start requests count s.placement line kinds.Stack worker stack (h.1.stacks worker stack e) h.0, pages-given images s h.1 line worker stack e);
      })
      fuel (opening_run workers images (opening_drawn seed workers images)) steps (λ k d within. tt)
      (record { drawn = ap (drawn_from start) (sym (append-nil requests)); ends = tt; counted = sym (length-drawn seed workers images loaded) }, opening-pages)).0

  pub ends-are : AreMoveEnds (length (opening_requests workers images)) (run_of_seed seed workers images fuel steps).placement.moves
  ends-are = subst (λ n. AreMoveEnds n (run_of_seed seed workers images fuel steps).placement.moves) (sym (length-requests workers images)) all-drawn.ends

  pub places-are : (run_of_seed seed workers images fuel steps).placement.drawn.places ≡ places_of seed (map drawn_for (opening_requests workers images) ++ flat_map (draw_of images) (run_of_seed seed workers images fuel steps).placement.moves)
  unfolding places_of
  places-are = ap (λ (d : Drawn). d.places) all-drawn.drawn

  all-last : AreLast (opening_run workers images (opening_drawn seed workers images)) (run_of_seed seed workers images fuel steps)
  unfolding opening_run
  all-last =
      let first = opening_run workers images (opening_drawn seed workers images) in
      run-keeps (AreLast first) (λ line. Unit {0})
      (record {
        call = λ s n m f c args e h. last-called first s h n m f c args e;
        move = λ s line n m q e h. last-moved first s h line n m e;
        stack = λ s line worker stack q e h. last-given first s h line worker stack e;
      })
      fuel first steps (λ k d within. tt)
      (record {
        parts = λ n a b e f. let same : Some a ≡ Some b = sym e ∙ f in let is : a ≡ b = cc in sym (ap (λ (m : ModuleState). m.movable) is);
        stacks = λ n a b e f. let same : Some a ≡ Some b = sym e ∙ f in let is : a ≡ b = cc in sym is;
      })

  pub parts-are : (number : ℕ) (first now : ModuleState)
      → slice_get (opening_run workers images (opening_drawn seed workers images)).modules number ≡ Some first
      → slice_get (run_of_seed seed workers images fuel steps).modules number ≡ Some now
      → now.movable ≡ last_place kinds.Code number first.movable (run_of_seed seed workers images fuel steps).placement.moves
  parts-are = all-last.parts

  pub stacks-are : (worker : ℕ) (first now : Place)
      → slice_get (opening_run workers images (opening_drawn seed workers images)).stacks worker ≡ Some first
      → slice_get (run_of_seed seed workers images fuel steps).stacks worker ≡ Some now
      → now ≡ last_place kinds.Stack worker first (run_of_seed seed workers images fuel steps).placement.moves
  stacks-are = all-last.stacks
