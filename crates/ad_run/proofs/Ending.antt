-- What a run comes to once its threads have ended, from what it was opened with.
use Rattle.std.proofs.Common.{◌≡◌, ℕ, suc, ◌+◌, ◌<◌, ◌≤◌, List, [], ◌∷◌, length, map, get_or, Option, None, Some, slice_get, length-append, refl, sym, ap, ◌∙◌, subst, arith}
use Rattle.std.specs.List.{All, AllPairs, flat_map, range_with_len, sum_by}
use Rattle.std.specs.Option.{IsSomeAnd}
use Rattle.std.specs.Prelude.{Result, Ok, Err, IfOk}
use Rattle.std.proofs.lemmas.List.{length-map}
use Rattle.std.proofs.lemmas.List.Elements.{All-cons, All-head, All-nil, All-tail}
use Rattle.std.proofs.lemmas.List.FromFn.{length-map-range_with_len}
use Rattle.std.proofs.lemmas.List.Sums.{sum_by-cons}
use Rattle.std.proofs.lemmas.Option.{slice_get_within}
use Rattle.ad_base.specs.declared.image.Image.{Image}
use Rattle.ad_lines.specs.declared.ready.ReadyStep.{ReadyStep}
use Rattle.ad_lines.specs.declared.ready.ReadyStep.TheVariants as ready
use Rattle.ad_lines.specs.LineLaws as laws
use Rattle.ad_lines.specs.LineLaws.{AreSteps, move_requests}
use Rattle.ad_lines.specs.Opening.{AreLoaded}
use Rattle.ad_lines.specs.Room as room
use Rattle.ad_lines.specs.Sound.{Lines}
use Rattle.ad_lines.proofs.Elements.{all-read, all-reads, pairs-head, pairs-tail}
use Rattle.ad_lines.proofs.Kept.{read}
use Rattle.ad_lines.proofs.ListReads.{map-read, read-map}
use Rattle.ad_lines.proofs.Opens.{stacks-count, there}
use Rattle.ad_maps.specs.declared.shape.Shape.{Shape}
use Rattle.ad_maps.specs.declared.words.TheConstants.{LINES}
use Rattle.ad_mover.specs.Seen as mover
use Rattle.ad_mover.specs.Seen.{MayBeMade}
use Rattle.ad_run.specs.declared.threads.Job.{Job}
use Rattle.ad_run.specs.Calls.{calls_of_worker, PerformsAll}
use Rattle.ad_run.specs.Ended.{AreAllWorkers, HaveHands, HaveMadeCalls}
use Rattle.ad_run.specs.Jobs.{AreNewJobs, HasWorked}
use Rattle.ad_run.specs.Opened.{AreNewHands, IsOpenedFor, draws_for}
use Rattle.ad_run.proofs.OpeningJobs.{read-counted}
use Rattle.ad_run.proofs.ScriptSteps.{AreMovable, AreReadyAs, IsMovable, step_requests}
use Rattle.ad_script.specs.declared.script.Step.{Step}
use Rattle.ad_script.specs.declared.script.Step.TheVariants as steps
use Rattle.ad_script.specs.declared.script.TheConstants.{SCRIPT_LINES}
use Rattle.ad_script.specs.Script.{line_of}
use Rattle.ad_wrapper.specs.Fits.{AreHandsOf}
use Rattle.ad_wrapper.specs.declared.hands.Hands.{Hands}
use Rattle.ad_wrapper.specs.declared.hands.Ready.{Ready}
use Rattle.ad_wrapper.specs.declared.shared.Shared.{Shared}

-- what follows of an answer follows of it where there is one
pub if-ok : {A E : Type 0} (r : Result A E) (P Q : A → Type 0) → ((a : A) → P a → Q a) → IfOk r P → IfOk r Q
if-ok (Ok a) P Q f h = f a h
if-ok (Err e) P Q f h = tt

-- one that is there
some-and : {A : Type 0} (o : Option A) (P : A → Type 0) → IsSomeAnd o P → (x : A) × (o ≡ Some x) × P x
some-and None P h = absurd h
some-and (Some x) P h = (x, refl, h)

-- each of these workers has worked, in order
pub record HaveWorked (s : Shared) (before after : List Job) : Type 0 where
  pub count : length after ≡ length before
  pub each : (worker : ℕ) (other : Job) → worker < length before → HasWorked s (get_or before worker other) (get_or after worker other)

-- then each has something in hand
pub record InHand (after : List Job) : Type 0 where
  pub hands : List Hands
  pub have : HaveHands after hands

pub in-hand : (s : Shared) (before after : List Job) → HaveWorked s before after → InHand after
in-hand s [] [] w = record { hands = []; have = refl }
in-hand s [] (a ∷ after) w = absurd (omega (arith, w.count))
in-hand s (b ∷ before) [] w = absurd (omega (arith, w.count))
in-hand s (b ∷ before) (a ∷ after) w =
    let first = w.each 0 b (omega arith) in
    let rest = in-hand s before after (record { count = omega (arith, w.count); each = λ worker other low. w.each (suc worker) other (omega (arith, low)) }) in
    record { hands = first.last ∷ rest.hands; have = λ j. first.has j ∷ rest.have j }

-- hands that are had are those at the worker's place
pub hands-at : (jobs : List Job) (hands : List Hands) (w : ℕ) (job : Job) (h : Hands) → HaveHands jobs hands → slice_get jobs w ≡ Some job → slice_get hands w ≡ Some h → job.hands ≡ Some h
hands-at jobs hands w job h have e f =
    let read : slice_get (map (λ (j : Job). j.hands) jobs) w ≡ Some job.hands = read-map (λ (j : Job). j.hands) jobs w job e in
    let other : slice_get (map (λ (x : Hands). Some x) hands) w ≡ Some (Some h) = read-map (λ (x : Hands). Some x) hands w h f in
    let same : Some job.hands ≡ Some (Some h) = sym read ∙ ap (λ xs. slice_get xs w) have ∙ other in
    cc

-- the worker stays the same
pub same-worker : (s : Shared) (before : Hands) (calls : List Ready) (after : Hands) → PerformsAll s before calls after → after.worker ≡ before.worker
same-worker s before [] after made = ap (λ (h : Hands). h.worker) made
same-worker s before (c ∷ cs) after made = same-worker s made.0 cs after made.2 ∙ made.1.worker

-- ---- what the mover is asked for

length-requests : (step : Step) → length (step_requests step) ≡ mover.moves_of step
length-requests (steps.Call line worker «module» export args) = refl
length-requests (steps.Move line modules) = length-map modules _
length-requests (steps.Stack line worker) = refl

length-asked : (script : List Step) → length (flat_map step_requests script) ≡ sum_by mover.moves_of script
length-asked [] = refl
length-asked (step ∷ script) =
    let first = length-requests step in
    let rest = length-asked script in
    length-append (step_requests step) (flat_map step_requests script) ∙ (λ j. first j + rest j) ∙ sym (sum_by-cons mover.moves_of step script)

length-moves : (step : ReadyStep) → length (move_requests step) ≡ room.moves_of step
length-moves (ready.Call line worker «module» export args) = refl
length-moves (ready.Move line modules) = length-map modules _
length-moves (ready.Stack line worker) = refl

length-ready : (list : List ReadyStep) → length (flat_map move_requests list) ≡ sum_by room.moves_of list
length-ready [] = refl
length-ready (step ∷ list) =
    let first = length-moves step in
    let rest = length-ready list in
    length-append (move_requests step) (flat_map move_requests list) ∙ (λ j. first j + rest j) ∙ sym (sum_by-cons room.moves_of step list)

-- the script's steps move as much as those that are ready
pub same-moves : (images : List Image) (workers : ℕ) (script : List Step) (list : List ReadyStep) → AreReadyAs images workers script list → sum_by mover.moves_of script ≡ sum_by room.moves_of list
same-moves images workers script list are = sym (length-asked script) ∙ ap length are.asks ∙ length-ready list

may-one : (modules workers : ℕ) (step : Step) → IsMovable modules workers step → line_of step ≤ LINES → MayBeMade modules workers step
may-one modules workers (steps.Call line worker «module» export args) can few = tt
may-one modules workers (steps.Move line members) can few = (can.1, can.0, few)
may-one modules workers (steps.Stack line worker) can few = (can.1, can.0)

-- and may be made
pub may-all : (modules workers : ℕ) (script : List Step) → AreMovable modules workers script → All (λ (step : Step). line_of step ≤ LINES) script → All (MayBeMade modules workers) script
may-all modules workers [] can few = All-nil (MayBeMade modules workers)
may-all modules workers (step ∷ script) can few =
    All-cons (MayBeMade modules workers) step script (may-one modules workers step can.0 (All-head (λ (x : Step). line_of x ≤ LINES) step script few))
    (may-all modules workers script can.1 (All-tail (λ (x : Step). line_of x ≤ LINES) step script few))

-- ---- how many steps there are

-- there are no more numbers that rise behind one than there are up to their bound
few-rising : {A : Type 0} (f : A → ℕ) (bound n : ℕ) (xs : List A) → n ≤ bound → All (λ x. n < f x) xs → All (λ x. f x ≤ bound) xs → AllPairs (λ x y. f x < f y) xs → n + length xs ≤ bound
few-rising f bound n [] low above most rise = omega (arith, low)
few-rising f bound n (x ∷ xs) low above most rise =
    let first = All-head (λ y. n < f y) x xs above in
    let behind = All-tail (λ y. f y ≤ bound) x xs most in
    let rest = few-rising f bound (f x) xs (All-head (λ y. f y ≤ bound) x xs most) (pairs-head (λ a b. f a < f b) x xs rise) behind (pairs-tail (λ a b. f a < f b) x xs rise) in
    omega (arith, first, rest)

-- steps in lines of a script are no more than its lines may be
pub few-steps : (images : List Image) (workers : ℕ) (script : List Step) (list : List ReadyStep) → AreReadyAs images workers script list → AreSteps images workers list → All (λ (step : Step). line_of step ≤ LINES) script
    → length list ≤ SCRIPT_LINES
few-steps images workers script list are steps few =
    let most : All (λ (r : ReadyStep). laws.line_of r ≤ LINES) list = all-reads (λ (r : ReadyStep). laws.line_of r ≤ LINES) list (λ k r e.
    let s = map-read line_of script k (laws.line_of r) (ap (λ xs. slice_get xs k) are.lines ∙ read-map laws.line_of list k r e) in
    subst (λ n. n ≤ LINES) s.2 (all-read (λ (x : Step). line_of x ≤ LINES) script k s.0 few s.1)) in
    let count = few-rising laws.line_of LINES 0 list (omega arith) steps.from_one most steps.rising in
    omega (arith, count)

-- ---- the whole

module _ (slots frames : ℕ) (l : Lines) (s : Shared) (before after : List Job) (opened : IsOpenedFor slots frames l s) (loaded : AreLoaded l.seed l.workers l.images) (new : AreNewJobs s l before) (worked : HaveWorked s before after) where
  all-in-hand : InHand after
  all-in-hand = in-hand s before after worked

  count-before : length before ≡ l.workers
  count-before = sym (length-map before (λ (j : Job). j.hands)) ∙ ap length new.have ∙ length-map new.hands (λ (h : Hands). Some h) ∙ new.new.count

  -- there is one for each worker
  pub count-all : length after ≡ l.workers
  count-all = worked.count ∙ count-before

  count-after : length all-in-hand.hands ≡ l.workers
  count-after = sym (length-map all-in-hand.hands (λ (h : Hands). Some h)) ∙ sym (ap length all-in-hand.have) ∙ length-map after (λ (j : Job). j.hands) ∙ worked.count ∙ count-before

  record IsWorker (w : ℕ) (first last : Hands) : Type 0 where
    made : PerformsAll s first (calls_of_worker w l.steps) last
    of_worker : AreHandsOf s last

  worker-at : (w : ℕ) (first last : Hands) → slice_get new.hands w ≡ Some first → slice_get all-in-hand.hands w ≡ Some last → IsWorker w first last
  worker-at w first last e f =
      let low : w < length before = omega (arith, slice_get_within new.hands w first e, new.new.count, count-before) in
      let low_after : w < length after = omega (arith, low, worked.count) in
      let old = there before w low in
      let now = there after w low_after in
      let is = worked.each w old.0 low in
      let old_is : get_or before w old.0 ≡ old.0 = read before w old.0 old.0 old.1 in
      let now_is : get_or after w old.0 ≡ now.0 = read after w now.0 old.0 now.1 in
      let had : Some is.first ≡ Some first = sym is.had ∙ ap (λ (j : Job). j.hands) old_is ∙ hands-at before new.hands w old.0 first new.have old.1 e in
      let has : Some is.last ≡ Some last = sym is.has ∙ ap (λ (j : Job). j.hands) now_is ∙ hands-at after all-in-hand.hands w now.0 last all-in-hand.have now.1 f in
      let first_is : is.first ≡ first = cc in
      let last_is : is.last ≡ last = cc in
      let calls : Some old.0.calls.items ≡ Some (calls_of_worker w l.steps) =
      sym (read-map (λ (j : Job). j.calls.items) before w old.0 old.1) ∙ ap (λ xs. slice_get xs w) new.calls
      ∙ read-map (λ k. calls_of_worker k l.steps) (range_with_len 0 l.workers) w w (read-counted l.workers w (omega (arith, low, count-before))) in
      let same : old.0.calls.items ≡ calls_of_worker w l.steps = cc in
      let made = subst (λ (j : Job). PerformsAll s is.first j.calls.items is.last) old_is is.made in
      record {
        made = subst (λ x. PerformsAll s first (calls_of_worker w l.steps) x) last_is (subst (λ x. PerformsAll s x (calls_of_worker w l.steps) is.last) first_is (subst (λ xs. PerformsAll s is.first xs is.last) same made));
        of_worker = subst (AreHandsOf s) last_is is.of_worker;
      }

  pub made-calls : HaveMadeCalls s l after
  made-calls = record {
    before = new.hands;
    after = all-in-hand.hands;
    new = new.new;
    have = all-in-hand.have;
    count = count-after;
    performed = λ w first last e f. (worker-at w first last e f).made;
  }

  pub all-workers : AreAllWorkers s after
  all-workers = record {
    hands = all-in-hand.hands;
    have = all-in-hand.have;
    in_maps = count-after ∙ sym (ap (λ (x : Shape). x.workers) opened.shape);
    in_stacks = count-after ∙ sym (ap length opened.lanes ∙ stacks-count l.seed l.workers l.images loaded);
    in_turns = count-after ∙ sym (ap length opened.calls ∙ length-map-range_with_len (draws_for l) 0 l.workers);
    each = λ w h e.
        let low : w < l.workers = omega (arith, slice_get_within all-in-hand.hands w h e, count-after) in
        let first = some-and (slice_get new.hands w) (AreNewHands s l w) (new.new.each w low) in
        let is = worker-at w first.0 h first.1 e in
        (is.of_worker, same-worker s first.0 (calls_of_worker w l.steps) h is.made ∙ first.2.worker);
  }
