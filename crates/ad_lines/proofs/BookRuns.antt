-- The books of a run: what each step adds to them.
use Rattle.std.proofs.Common.{◌≡◌, ◌≢◌, ℕ, ◌<◌, ◌≤◌, Bool, true, false, List, [], ◌∷◌, ◌++◌, length, map, fold, get_or, slice_get, Option, Some, None, refl, sym, ap, subst, ◌∙◌, append_assoc, append-nil, eqb-true, arith}
use Rattle.std.specs.Prelude.{nat_eq, if◌then◌else◌}
use Rattle.std.specs.List.{All, AllPairs}
use Rattle.std.specs.List.Sorted.{IsNonDecreasingBy}
use Rattle.std.specs.Option.{IfSome, option_map}
use Rattle.std.proofs.Math.ListN.{get_or-map, set}
use Rattle.std.proofs.Math.Seq.{map-set_same}
use Rattle.std.proofs.lemmas.Bool.Decides.{nat_tests}
use Rattle.std.proofs.lemmas.List.{get_or-set_other, get_or-set_same, length-map, map-append, map-set}
use Rattle.std.proofs.lemmas.List.Elements.{All-filter, All-head, All-set, All-tail, All-weaker}
use Rattle.std.proofs.lemmas.List.Sorted.{IsNonDecreasingBy-short}
use Rattle.std.proofs.lemmas.List.Sums.{fold-append}
use Rattle.std.proofs.lemmas.Option.{slice_get-map, slice_get_within}
use Rattle.ad_base.specs.declared.book.Entry.{Entry}
use Rattle.ad_base.specs.declared.image.Export.{Export}
use Rattle.ad_base.specs.declared.image.Image.{Image}
use Rattle.ad_base.specs.declared.place.Place.{Place}
use Rattle.ad_base.specs.Book.{Contents}
use Rattle.ad_call.specs.declared.call.Call as calls
use Rattle.ad_call.specs.Call.{after_call, entry_of, outcome_of}
use Rattle.ad_call.proofs.Calls.{offset_there}
use Rattle.ad_core.specs.Turn.{AreTurns, IsLawful, IsTurn, fixed_data_of, opening_contents, plain, writable_of}
use Rattle.ad_lines.specs.declared.ready.ReadyStep.{ReadyStep}
use Rattle.ad_lines.specs.declared.ready.ReadyStep.TheVariants.{Call, Move, Stack}
use Rattle.ad_lines.specs.LineRun.{ModuleState, RunState, after_step, line_run, with_call, with_module_moved}
use Rattle.ad_lines.specs.LineLaws.{IsEntryOf, calls_of_module, line_of, step_of}
use Rattle.ad_lines.specs.Ready.{IsRunnable}
use Rattle.ad_lines.specs.Room.{images_of, is_call_of}
use Rattle.ad_lines.proofs.Kept.{fold-keeps, keeps-step, read}
use Rattle.ad_lines.proofs.Opens.{there}
use Rattle.ad_lines.proofs.Elements.{all-back, all-front, all-read, pairs-head, pairs-tail, rises-cons}
use Rattle.ad_lines.proofs.StepCases.{call-is, call-keeps, call_at, called, fresh-keeps, move-keeps}

-- one more turn behind the others
pub turns-push : (image : Image) (fuel : ℕ) (before : Contents) (es : List Entry) (next : Contents) (e : Entry) (after : Contents) → AreTurns image fuel before es next → IsTurn image fuel next e after → AreTurns image fuel before (es ++ e ∷ []) after
turns-push image fuel before [] next e after h t = (after, subst (λ b. IsTurn image fuel b e after) (sym h) t, refl)
turns-push image fuel before (x ∷ xs) next e after h t = (h.0, h.1, turns-push image fuel h.0 xs next e after h.2 t)

-- a call of an export that is there is a turn
call-turn : (image : Image) (fuel : ℕ) (book : Contents) (c : calls.Call) (args : List ℕ) (export : Export) → slice_get image.exports c.export ≡ Some export → IsTurn image fuel book (entry_of c args (outcome_of image fuel book c args)) (after_call image fuel book c args)
unfolding after_call outcome_of
call-turn image fuel book c args export there =
    let same = ap (λ offset. plain image fuel book c.under c.stack offset args) (offset_there image c.export export there) in
    record {
      export = export;
      exists = there;
      entries = refl;
      end = ap (λ p. p.end) same;
      notes = ap (λ p. p.memory.notes) same;
      writable = ap (λ p. writable_of p) same;
      fixed = ap (λ p. fixed_data_of p) same;
      device = ap (λ p. p.memory.queue) same;
    }

-- the book of a module is lawful
abbrev pub HasLawfulBook : ℕ → ModuleState → Type 0
HasLawfulBook fuel m = IsLawful m.image fuel m.book

-- a call of an export that is there keeps a book lawful
pub lawful-call : (image : Image) (fuel : ℕ) (book : Contents) (c : calls.Call) (args : List ℕ) (export : Export) → slice_get image.exports c.export ≡ Some export → IsLawful image fuel book → IsLawful image fuel (after_call image fuel book c args)
unfolding after_call
lawful-call image fuel book c args export there h =
    turns-push image fuel (opening_contents image) book.entries book (entry_of c args (outcome_of image fuel book c args)) (after_call image fuel book c args) h (call-turn image fuel book c args export there)

-- what each step keeps that is of a kind, a fold over steps of the kind keeps
pub fold-keeps-all : {A S : Type 0} (P : A → Type 0) (Q : S → Type 0) (f : A → S → A) → ((a : A) (x : S) → Q x → P a → P (f a x)) → (a : A) (xs : List S) → All Q xs → P a → P (fold f a xs)
fold-keeps-all P Q f step a [] all p = p
fold-keeps-all P Q f step a (x ∷ xs) all p = fold-keeps-all P Q f step (f a x) xs (All-tail Q x xs all) (step a x (All-head Q x xs all) p)

-- the modules are of these images, beside so many workers
pub record AreThere (images : List Image) (workers : ℕ) (s : RunState) : Type 0 where
  pub images_are : images_of s ≡ images
  pub stacks_are : length s.stacks ≡ workers

pub there-step : (images : List Image) (workers fuel : ℕ) (s : RunState) (step : ReadyStep) → AreThere images workers s → AreThere images workers (after_step fuel s step)
there-step images workers fuel s step h = let k = keeps-step fuel s step in record { images_are = k.images ∙ h.images_are; stacks_are = k.stacks ∙ h.stacks_are }

-- the image of a module that is there
pub image-there : (images : List Image) (workers : ℕ) (s : RunState) (n : ℕ) (m : ModuleState) → AreThere images workers s → slice_get s.modules n ≡ Some m → slice_get images n ≡ Some m.image
image-there images workers s n m h e =
    ap (λ is. slice_get is n) (sym h.images_are) ∙ slice_get-map (λ (x : ModuleState). x.image) s.modules n ∙ ap (option_map (λ (x : ModuleState). x.image)) e

-- the export of a call that may be run
export-there : (images : List Image) (o : Option Image) (i : Image) (n : ℕ) → o ≡ Some i → IfSome o (λ x. n < length x.exports) → n < length i.exports
export-there images None i n e h = absurd cc
export-there images (Some x) i n e h = let same : x ≡ i = cc in subst (λ (y : Image). n < length y.exports) same h

-- what is there stays, and each book is lawful
pub record AreLawful (images : List Image) (workers fuel : ℕ) (s : RunState) : Type 0 where
  pub are_there : AreThere images workers s
  pub books : All (HasLawfulBook fuel) s.modules

module _ (images : List Image) (workers fuel : ℕ) where
  lawful-called : (s : RunState) (line worker n export : ℕ) (args : List ℕ) → IsRunnable images workers (Call line worker n export args) → AreLawful images workers fuel s
      → All (HasLawfulBook fuel) (with_call fuel s line worker n export args).modules
  lawful-called s line worker n export args runs h =
      call-keeps fuel s line worker n export args (λ t. All (HasLawfulBook fuel) t.modules) h.books
      (λ m stack e f.
      let i = image-there images workers s n m h.are_there e in
      let x = there m.image.exports export (export-there images (slice_get images n) m.image export i runs.1) in
      All-set (HasLawfulBook fuel) s.modules n _
      (lawful-call m.image fuel m.book (call_at fuel s line worker n export args m stack) args x.0 x.1 (all-read (HasLawfulBook fuel) s.modules n m h.books e))
      h.books)

  lawful-moved : (line : ℕ) (s : RunState) (n : ℕ) → All (HasLawfulBook fuel) s.modules → All (HasLawfulBook fuel) (with_module_moved line s n).modules
  lawful-moved line s n h =
      move-keeps line s n (λ t. All (HasLawfulBook fuel) t.modules) h
      (λ m e. All-set (HasLawfulBook fuel) s.modules n _ (all-read (HasLawfulBook fuel) s.modules n m h e) h)

  lawful-books : (s : RunState) (step : ReadyStep) → IsRunnable images workers step → AreLawful images workers fuel s → All (HasLawfulBook fuel) (after_step fuel s step).modules
  unfolding after_step
  lawful-books s (Call line worker n export args) runs h = lawful-called s line worker n export args runs h
  lawful-books s (Move line modules) runs h = fold-keeps (λ t. All (HasLawfulBook fuel) t.modules) (with_module_moved line) (λ t n. lawful-moved line t n) s modules h.books
  lawful-books s (Stack line worker) runs h = fresh-keeps line s worker (λ t. All (HasLawfulBook fuel) t.modules) h.books (λ stack e. h.books)

  -- each step that may be run keeps all books lawful, and so do all
  pub lawful-run : (s : RunState) (steps : List ReadyStep) → All (IsRunnable images workers) steps → AreLawful images workers fuel s → AreLawful images workers fuel (line_run fuel s steps)
  lawful-run s steps runs h =
      fold-keeps-all (AreLawful images workers fuel) (IsRunnable images workers) (after_step fuel)
      (λ t step one k. record { are_there = there-step images workers fuel t step k.are_there; books = lawful-books t step one k }) s steps runs h

-- the entries of the modules, in order of their numbers
abbrev pub histories : List ModuleState → List (List Entry)
histories ms = map (λ (m : ModuleState). m.book.entries) ms

abbrev pub history_at : RunState → ℕ → List Entry
history_at s number = get_or (histories s.modules) number []

-- the entries of a module that is there
pub history-there : (s : RunState) (number : ℕ) (m : ModuleState) → slice_get s.modules number ≡ Some m → history_at s number ≡ m.book.entries
history-there s number m e = read (histories s.modules) number m.book.entries [] (slice_get-map (λ (x : ModuleState). x.book.entries) s.modules number ∙ ap (option_map (λ (x : ModuleState). x.book.entries)) e)

-- the step alone, if it calls the module
abbrev called_by : ℕ → ReadyStep → List ReadyStep
called_by number step = if is_call_of number step then step ∷ [] else []

-- steps that call it, one by one
one-more : (b : Bool) (step : ReadyStep) (steps : List ReadyStep) → (if b then step ∷ [] else []) ++ steps ≡ (if b then step ∷ steps else steps)
one-more true step steps = refl
one-more false step steps = refl

-- the entries of a module grow by those of steps
pub record Grows (number : ℕ) (steps : List ReadyStep) (s t : RunState) : Type 0 where
  pub more : List Entry
  pub are : history_at t number ≡ history_at s number ++ more
  pub of_steps : map (step_of number) more ≡ steps

grows-none : (number : ℕ) (s t : RunState) → histories t.modules ≡ histories s.modules → Grows number [] s t
grows-none number s t e = record { more = []; are = ap (λ hs. get_or hs number []) e ∙ sym (append-nil (history_at s number)); of_steps = refl }

grows-trans : (number : ℕ) (a b : List ReadyStep) (s t u : RunState) → Grows number a s t → Grows number b t u → Grows number (a ++ b) s u
grows-trans number a b s t u g h = record {
  more = g.more ++ h.more;
  are = h.are ∙ ap (λ es. es ++ h.more) g.are ∙ append_assoc (history_at s number) g.more h.more;
  of_steps = map-append (step_of number) g.more h.more ∙ (λ j. g.of_steps j ++ h.of_steps j);
}

module _ (fuel : ℕ) (s : RunState) (line worker n export : ℕ) (args : List ℕ) (m : ModuleState) (stack : Place) (there_is : slice_get s.modules n ≡ Some m) where
  -- the entry of a call
  pub made : Entry
  made = let c = call_at fuel s line worker n export args m stack in entry_of c args (outcome_of m.image fuel m.book c args)

  pub made-is : IsEntryOf n (Call line worker n export args) m.movable stack made
  unfolding made
  made-is = record { of_step = refl; at_place = refl; on_stack = refl }

  histories-called : histories (called fuel s line worker n export args m stack).modules ≡ set (histories s.modules) n (m.book.entries ++ made ∷ [])
  unfolding made after_call
  histories-called = map-set (λ (x : ModuleState). x.book.entries) s.modules n _

  -- the module has one entry more
  pub history-called : history_at (called fuel s line worker n export args m stack) n ≡ m.book.entries ++ made ∷ []
  history-called =
      let within : n < length (histories s.modules) = omega (arith, slice_get_within s.modules n m there_is, length-map s.modules (λ (x : ModuleState). x.book.entries)) in
      ap (λ hs. get_or hs n []) histories-called ∙ get_or-set_same (histories s.modules) n (m.book.entries ++ made ∷ []) [] within

  grows-by : (number : ℕ) (b : Bool) → nat_eq n number ≡ b → Grows number (if b then Call line worker n export args ∷ [] else []) s (called fuel s line worker n export args m stack)
  unfolding made
  grows-by number true is =
      let same : n ≡ number = eqb-true n number is in
      record {
        more = made ∷ [];
        are = subst (λ k. history_at (called fuel s line worker n export args m stack) k ≡ history_at s k ++ made ∷ []) same (history-called ∙ ap (λ es. es ++ made ∷ []) (sym (history-there s n m there_is)));
        of_steps = ap (λ k. Call line worker k export args ∷ []) (sym same);
      }
  grows-by number false is =
      let other : number ≢ n = λ e. grind (arith, nat_tests, is, e) in
      record {
        more = [];
        are = ap (λ hs. get_or hs number []) histories-called ∙ get_or-set_other (histories s.modules) n number (m.book.entries ++ made ∷ []) [] other ∙ sym (append-nil (history_at s number));
        of_steps = refl;
      }

  grows-called : (number : ℕ) → Grows number (called_by number (Call line worker n export args)) s (called fuel s line worker n export args m stack)
  grows-called number = grows-by number (nat_eq n number) refl

histories-moved : (line : ℕ) (s : RunState) (n : ℕ) → histories (with_module_moved line s n).modules ≡ histories s.modules
histories-moved line s n =
    move-keeps line s n (λ t. histories t.modules ≡ histories s.modules) refl
    (λ m e. map-set_same (λ (x : ModuleState). x.book.entries) s.modules n _ m (ap (λ (x : ModuleState). x.book.entries) (sym (read s.modules n m m e))))

module _ (images : List Image) (workers fuel number : ℕ) where
  grows-step : (s : RunState) (step : ReadyStep) → IsRunnable images workers step → AreThere images workers s → Grows number (called_by number step) s (after_step fuel s step)
  unfolding after_step
  grows-step s (Call line worker n export args) runs h =
      let m = there s.modules n (omega (arith, runs.2, ap length h.images_are, length-map s.modules (λ (x : ModuleState). x.image))) in
      let stack = there s.stacks worker (omega (arith, runs.0, h.stacks_are)) in
      subst (Grows number (called_by number (Call line worker n export args)) s) (sym (call-is fuel s line worker n export args m.0 stack.0 m.1 stack.1)) (grows-called fuel s line worker n export args m.0 stack.0 m.1 number)
  grows-step s (Move line modules) runs h =
      grows-none number s (fold (with_module_moved line) s modules)
      (fold-keeps (λ t. histories t.modules ≡ histories s.modules) (with_module_moved line) (λ t n e. histories-moved line t n ∙ e) s modules refl)
  grows-step s (Stack line worker) runs h = fresh-keeps line s worker (λ t. Grows number [] s t) (grows-none number s s refl) (λ stack e. grows-none number s _ refl)

  -- steps that may be run add to the entries of a module those of the calls among them
  pub grows-run : (s : RunState) (steps : List ReadyStep) → All (IsRunnable images workers) steps → AreThere images workers s → Grows number (calls_of_module number steps) s (line_run fuel s steps)
  grows-run s [] runs h = grows-none number s s refl
  grows-run s (step ∷ steps) runs h =
      let next = after_step fuel s step in
      subst (λ made. Grows number made s (line_run fuel next steps)) (one-more (is_call_of number step) step (calls_of_module number steps))
      (grows-trans number (called_by number step) (calls_of_module number steps) s next (line_run fuel next steps)
      (grows-step s step (All-head (IsRunnable images workers) step steps runs) h)
      (grows-run next steps (All-tail (IsRunnable images workers) step steps runs) (there-step images workers fuel s step h)))

-- the lines of the steps that call a module rise
rise-kept : (b : Bool) (step : ReadyStep) (steps : List ReadyStep) → All (λ t. line_of step < line_of t) steps → IsNonDecreasingBy line_of steps → IsNonDecreasingBy line_of (if b then step ∷ steps else steps)
rise-kept true step steps low h = rises-cons line_of step steps (All-weaker (λ t. line_of step < line_of t) (λ t. line_of step ≤ line_of t) (λ t less. omega arith) steps low) h
rise-kept false step steps low h = h

pub steps-rise : (number : ℕ) (steps : List ReadyStep) → AllPairs (λ (s t : ReadyStep). line_of s < line_of t) steps → IsNonDecreasingBy line_of (calls_of_module number steps)
steps-rise number [] h = IsNonDecreasingBy-short line_of [] (omega arith)
steps-rise number (step ∷ steps) h =
    let R : ReadyStep → ReadyStep → Type 0 = λ s t. line_of s < line_of t in
    rise-kept (is_call_of number step) step (calls_of_module number steps) (All-filter (is_call_of number) (R step) steps (pairs-head R step steps h)) (steps-rise number steps (pairs-tail R step steps h))

-- and so do those of their entries
pub entries-rise : (number : ℕ) (es : List Entry) (steps : List ReadyStep) → map (step_of number) es ≡ steps → IsNonDecreasingBy line_of steps → IsNonDecreasingBy (λ (e : Entry). e.line) es
entries-rise number es steps same h i j d le within =
    let long : length es ≡ length steps = sym (length-map es (step_of number)) ∙ ap length same in
    let low = h i j (step_of number d) le (omega arith) in
    let at : (k : ℕ) → get_or steps k (step_of number d) ≡ step_of number (get_or es k d) = λ k. ap (λ xs. get_or xs k (step_of number d)) (sym same) ∙ get_or-map (step_of number) es k d in
    omega (arith, low, ap line_of (at i), ap line_of (at j))

module _ (images : List Image) (workers fuel : ℕ) (s : RunState) where
  -- from a run in which a module has no entry, its entries are those of the steps that call it
  pub entries-of-run : (steps : List ReadyStep) (number : ℕ) (m : ModuleState) → All (IsRunnable images workers) steps → AreThere images workers s → history_at s number ≡ []
      → slice_get (line_run fuel s steps).modules number ≡ Some m → map (step_of number) m.book.entries ≡ calls_of_module number steps
  entries-of-run steps number m runs h none is =
      let g = grows-run images workers fuel number s steps runs h in
      let all : m.book.entries ≡ g.more = sym (history-there (line_run fuel s steps) number m is) ∙ g.are ∙ ap (λ es. es ++ g.more) none in
      ap (map (step_of number)) all ∙ g.of_steps

  there-run : (steps : List ReadyStep) → AreThere images workers s → AreThere images workers (line_run fuel s steps)
  there-run steps h = fold-keeps (AreThere images workers) (after_step fuel) (λ t step k. there-step images workers fuel t step k) s steps h

  -- the entry of a call is behind those of the steps before it, at the places of then
  pub entry-of-call : (before after : List ReadyStep) (line worker number export : ℕ) (args : List ℕ) (earlier now : ModuleState) (stack : Place)
      → All (IsRunnable images workers) (before ++ Call line worker number export args ∷ after) → AreThere images workers s → history_at s number ≡ []
      → slice_get (line_run fuel s before).modules number ≡ Some earlier → slice_get (line_run fuel s before).stacks worker ≡ Some stack
      → slice_get (line_run fuel s (before ++ Call line worker number export args ∷ after)).modules number ≡ Some now
      → (entry : Entry) × (later : List Entry) × (now.book.entries ≡ earlier.book.entries ++ entry ∷ later) × IsEntryOf number (Call line worker number export args) earlier.movable stack entry
  unfolding after_step
  entry-of-call before after line worker number export args earlier now stack runs h none was on is =
      let step = Call line worker number export args in
      let first : All (IsRunnable images workers) before = all-front (IsRunnable images workers) before (step ∷ after) runs in
      let last : All (IsRunnable images workers) after = All-tail (IsRunnable images workers) step after (all-back (IsRunnable images workers) before (step ∷ after) runs) in
      let t = line_run fuel s before in
      let u = called fuel t line worker number export args earlier stack in
      let e = made fuel t line worker number export args earlier stack was in
      let next : after_step fuel t step ≡ u = call-is fuel t line worker number export args earlier stack was on in
      let at : AreThere images workers u = subst (AreThere images workers) next (there-step images workers fuel t step (there-run before h)) in
      let split : line_run fuel s (before ++ step ∷ after) ≡ line_run fuel u after = fold-append (after_step fuel) s before (step ∷ after) ∙ ap (λ x. line_run fuel x after) next in
      let g = grows-run images workers fuel number u after last at in
      let all : now.book.entries ≡ earlier.book.entries ++ e ∷ g.more =
      sym (history-there (line_run fuel s (before ++ step ∷ after)) number now is)
      ∙ ap (λ x. history_at x number) split
      ∙ g.are
      ∙ ap (λ es. es ++ g.more) (history-called fuel t line worker number export args earlier stack was)
      ∙ append_assoc earlier.book.entries (e ∷ []) g.more in
      (e, g.more, all, made-is fuel t line worker number export args earlier stack was)
