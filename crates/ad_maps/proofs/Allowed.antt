-- The table allows each step to a seat that may make it, and the step tells what it is to tell.
use Rattle.std.proofs.Common.{◌≡◌, ⊎_elim, ℕ, ◌+◌, ◌*◌, ◌-◌, ◌/◌, ◌%◌, ◌^◌, ◌<◌, ◌≤◌, List, [], ◌∷◌, length, get_or, Some, refl, sym, ap, ◌∙◌, subst, arith}
use Rattle.std.specs.List.{Contains}
use Rattle.atomic_table.specs.Seated.{TableId}
use Rattle.atomic_table.specs.Table.{Step, Allows, Splits, keeps, stepped}
use Rattle.ad_base.specs.declared.place.Place.{Place}
use Rattle.ad_base.specs.Place.{base_of, packed, place_at}
use Rattle.ad_maps.specs.declared.shape.Shape.{Shape}
use Rattle.ad_maps.specs.declared.view.Act.TheVariants as act
use Rattle.ad_maps.specs.declared.view.Stance.TheVariants as stance
use Rattle.ad_maps.specs.declared.view.Stage.{Stage}
use Rattle.ad_maps.specs.declared.view.Stage.TheVariants as stage
use Rattle.ad_maps.specs.declared.view.Freeing.TheVariants as freeing
use Rattle.ad_maps.specs.declared.view.Passing.TheVariants as passing
use Rattle.ad_maps.specs.declared.view.Made.{Made}
use Rattle.ad_maps.specs.declared.view.Plan.{Plan}
use Rattle.ad_maps.specs.declared.view.Doing.{Doing}
use Rattle.ad_maps.specs.declared.view.Doing.TheVariants.{Spent, Worker, Mover}
use Rattle.ad_maps.specs.Laws.{MayList, MayMap}
use Rattle.ad_maps.specs.MapPlace.{cell_word, cells_of, member_word}
use Rattle.ad_maps.specs.Names.{Owner}
use Rattle.ad_maps.specs.Rule.{St, Kept, PassingStands, StageStands, IsTaken}
use Rattle.ad_maps.specs.Steps.{Sat, hand, made, after_enter, after_read, after_act, after_leave, after_pay, after_member, after_unmap, after_give, after_list, after_open, after_push, after_settle, gives_of, settles, after_look, after_take, after_fill, after_map, after_switch, after_deal, given_off, freeing_of}
use Rattle.ad_maps.specs.Private.Handles.{acts_of, worker_of, stance_of, entry_in, module_in, pinned_by, plan_of, IsAt, IsWorker, IsEntered, HasRetired, IsPinned, IsMover, IsToFree}
use Rattle.ad_maps.specs.Private.Tells.{Leaves, Opens, Reads, Pages, Cells, Looks, Switches, Unmaps}
use Rattle.ad_maps.proofs.Frames.{worker_knows}
use Rattle.ad_maps.proofs.Pinned.{own_pages_law, own_cells_law}
use Rattle.ad_events.specs.declared.mapping.Status.TheVariants.{Current, Out}
use mathlib.Core.Option.{some}
use lib.ListN.{get_elem?}
use Rattle.std.specs.FinMap as map
use Rattle.ad_events.specs.declared.mapping.Mapping.{Mapping}
use Rattle.ad_events.specs.World.{mapping_of}
use Rattle.ad_maps.specs.declared.view.Hand.{Hand}
use Rattle.ad_maps.specs.Ledger.{retires_in}
use Rattle.ad_maps.proofs.Batches.{few-batches, room-for}
use Rattle.ad_maps.proofs.Machine.{holds_of}
use Rattle.ad_maps.proofs.FreeLaws.{member_law, unmap_law, unmap_found, give_law}
use Rattle.ad_maps.proofs.ListLaw.{list_law}
use Rattle.ad_maps.proofs.Numbers.{frame-few}
use Rattle.ad_maps.proofs.Owners.{owner_law}
use Rattle.ad_maps.proofs.OpenLaw.{open_law, push_law, settle_law}
use Rattle.ad_maps.proofs.PayLaw.{pay_law}
use Rattle.ad_maps.proofs.MapLaw.{map_law}
use Rattle.ad_maps.proofs.MappingFrames.{mover_knows}
use Rattle.ad_maps.proofs.MoverLaws.{look_law, take_law, fill_law}
use Rattle.ad_maps.proofs.ReadLaw.{current_known, falls_more, read_law}
use Rattle.ad_maps.specs.Opening.{mover_dealt}
use Rattle.ad_maps.proofs.SeatLaws.{split_law}
use Rattle.ad_maps.proofs.SwitchLaw.{switch_law}
use Rattle.ad_maps.proofs.WorkerLaws.{slot_known, enter_law, leave_law, page_law, cell_law}

-- the view after is this function of the view before and of the word found
abbrev Then : (Doing → ℕ → Doing) → Sat → ℕ → Sat → Type 0
Then f me found me' = me' ≡ (f me.0 found, me.1)

-- the word stands in the table
pub stands : {table seat : TableId} (index : ℕ) → IsAt table seat → index < 168088 → index < table.words
stands index at low = let w = at.words in omega arith

-- the mapping that a pinned seat is inside
pub pinned_is : (me : Sat) (slot : ℕ) (p : Place) → IsPinned me slot p → pinned_by (stance_of me.0) ≡ Some (made (module_in (stance_of me.0)) p)
pinned_is me slot p is = ap (λ (x : Sat). pinned_by (stance_of x.0)) is.view

-- an owner is 0 or the number of a mapping
owner-number : (shape : Shape) (s : St) (r : Kept shape s) (f : ℕ) → r.words.owner f ≤ 4095
owner-number shape s r f = ⊎_elim (λ e. omega arith)
    (λ d. ⊎_elim
    (λ t. let old = r.mappings.each (r.words.owner f) t.0 t.1 in let to = old.form.place.place.mapping_to in let number = old.number in omega arith)
    (λ d. ⊎_elim
    (λ t. let give = r.mappings.each_give t.0 t.1 in let old = r.mappings.each t.0.mapping _ give.gone.there in let to = old.form.place.place.mapping_to in let number = old.number in let same = t.3 in omega arith)
    (λ t. taken r.plan.stage r.mappings.stage t)
    d) d)
    (r.mappings.each_owner f)
  where
    taken : (d : Stage) → StageStands shape r.ledger r.words.owner r.words.cell d → IsTaken d f (r.words.owner f) → r.words.owner f ≤ 4095
    taken stage.Idle h t = absurd t
    taken (stage.Taken g filled) h t = let to = h.form.place.place.mapping_to in let same = t.1 in omega arith

module _ (shape : Shape) (slots id : ℕ) where
  pub allows_enter : (me : Sat) (slot : ℕ) → IsWorker me slot stance.Away → Allows (Kept shape) slots id me slot (λ n. (n + 1) % 2 ^ 64) (Then after_enter me)
  allows_enter me slot is = subst (λ (m : Sat). Allows (Kept shape) slots id m slot (λ n. (n + 1) % 2 ^ 64) (Then after_enter m)) (sym is.view) (λ s r homes at fits.
      let step = enter_law shape s r id (worker_of me.0) slot [] (acts_of me.0) at in
      (after_enter (Worker (worker_of me.0) (hand slot stance.Away [] (acts_of me.0))) (get_or s.words slot 0), keeps, tt, step.kept, refl))

  pub allows_read : (st : Step (Unit {0})) (me : Sat) (slot m : ℕ) (shape' : Shape) (m' : ℕ) → shape' ≡ shape → m' ≡ m → IsEntered me slot → m < length shape.modules
      → Allows (Kept shape) slots id me (16 + m) (λ n. n) (Reads shape' m' st me)
  allows_read st me slot m shape' m' known number is low = subst (λ (k : Shape). Allows (Kept shape) slots id me (16 + m) (λ n. n) (Reads k m' st me)) (sym known)
      (subst (λ (k : ℕ). Allows (Kept shape) slots id me (16 + m) (λ n. n) (Reads shape k st me)) (sym number)
      (subst (λ (x : Sat). Allows (Kept shape) slots id x (16 + m) (λ n. n) (Reads shape m st x)) (sym is.view) (λ s r homes at fits.
      let w = worker_of me.0 in
      let entry = entry_in (stance_of me.0) in
      let acts = acts_of me.0 in
      let view : Doing = Worker w (hand slot (stance.Entered entry) [] acts) in
      let found = get_or s.words (16 + m) 0 in
      let step = read_law shape s r id w slot entry m [] acts at low in
      let current = current_known shape s r m low in
      let k = worker_knows shape s r id w (hand slot (stance.Entered entry) [] acts) at in (
        after_read m view found,
        keeps,
        tt,
        step.kept,
        record {
          becomes = refl;
          word = record { place = current.form; packs = current.word };
          falls = falls_more shape s r w m (place_at found) current acts k.hand.reads k.hand.falls m;
        },
      ))))

  pub allows_page : (st : Step (Unit {0})) (me : Sat) (slot : ℕ) (p : Place) (va va' : ℕ) → va' ≡ va → IsPinned me slot p → va / 262144 < 65536
      → Allows (Kept shape) slots id me (24 + va / 262144) (λ n. n) (Pages va' st me)
  allows_page st me slot p va va' number is low = subst (λ (k : ℕ). Allows (Kept shape) slots id me (24 + va / 262144) (λ n. n) (Pages k st me)) (sym number)
      (subst (λ (x : Sat). Allows (Kept shape) slots id x (24 + va / 262144) (λ n. n) (Pages va st x)) (sym is.view) (λ s r homes at fits.
      let w = worker_of me.0 in
      let entry = entry_in (stance_of me.0) in
      let m = module_in (stance_of me.0) in
      let acts = acts_of me.0 in
      let step = page_law shape s r id w slot entry m p [] acts va at low in
      let own = own_pages_law shape s r id w slot entry m p [] acts at in (
        after_act (act.Page va) (Worker w (hand slot (stance.Inside entry m p) [] acts)) (get_or s.words (24 + va / 262144) 0),
        keeps,
        tt,
        step.kept,
        record {
          becomes = refl;
          own = λ g e here. (let same : made m p ≡ g = cc in let place = ap (λ (x : Made). x.place) same in
              ap (λ (v : ℕ). get_or s.words (24 + v) 0) (here ∙ ap (λ (x : Place). x.region) (sym place)) ∙ (own.0 ∙ ap packed place));
          other = λ g e apart q form word. (let same : made m p ≡ g = cc in let place = ap (λ (x : Made). x.place) same in
              λ number. own.1 (va / 262144) q low (λ r. apart (r ∙ ap (λ (x : Place). x.region) place)) form word (number ∙ ap (λ (x : Place). x.mapping) (sym place)));
        },
      )))

  pub allows_entry : (st : Step (Unit {0})) (me : Sat) (slot : ℕ) (p : Place) (e : ℕ) (shape' : Shape) (e' index : ℕ) → shape' ≡ shape → e' ≡ e → index ≡ 65688 + (512 * p.frame + e) → IsPinned me slot p → e < 512
      → Allows (Kept shape) slots id me index (λ n. n) (Cells shape' e' st me)
  allows_entry st me slot p e shape' e' index known number where_is is low = subst (λ (k : Shape). Allows (Kept shape) slots id me index (λ n. n) (Cells k e' st me)) (sym known)
      (subst (λ (k : ℕ). Allows (Kept shape) slots id me index (λ n. n) (Cells shape k st me)) (sym number)
      (subst (λ (k : ℕ). Allows (Kept shape) slots id me k (λ n. n) (Cells shape e st me)) (sym where_is)
      (subst (λ (x : Sat). Allows (Kept shape) slots id x (65688 + (512 * p.frame + e)) (λ n. n) (Cells shape e st x)) (sym is.view) (λ s r homes at fits.
      let w = worker_of me.0 in
      let entry = entry_in (stance_of me.0) in
      let m = module_in (stance_of me.0) in
      let acts = acts_of me.0 in
      let step = cell_law shape s r id w slot entry m p [] acts e at low in
      let own = own_cells_law shape s r id w slot entry m p [] acts e at low in (
        after_act (act.Cell e) (Worker w (hand slot (stance.Inside entry m p) [] acts)) (get_or s.words (65688 + (512 * p.frame + e)) 0),
        keeps,
        tt,
        step.kept,
        record {
          becomes = refl;
          word = λ g f. (let same : made m p ≡ g = cc in own ∙ ap (λ (x : Made). cell_word (cells_of shape x.of_module) (base_of x.place) e) same);
        },
      )))))

  pub allows_leave : (st : Step (Unit {0})) (me : Sat) (slot : ℕ) (p : Place) → IsPinned me slot p → Allows (Kept shape) slots id me slot (λ n. (n + (2 ^ 64 - 1)) % 2 ^ 64) (Leaves st me)
  allows_leave st me slot p is = subst (λ (x : Sat). Allows (Kept shape) slots id x slot (λ n. (n + (2 ^ 64 - 1)) % 2 ^ 64) (Leaves st x)) (sym is.view) (λ s r homes at fits.
      let w = worker_of me.0 in
      let entry = entry_in (stance_of me.0) in
      let m = module_in (stance_of me.0) in
      let acts = acts_of me.0 in
      let h : Hand = hand slot (stance.Inside entry m p) [] acts in
      let step = leave_law shape s r id w slot entry m p [] acts at in
      let t = slot_known shape s r w slot (worker_knows shape s r id w h at).hand.slot in
      let pushed = (holds_of shape r.form r.state r.reached).owed.pushed slot t.inside in
      let most = few-batches shape s r in
      let word = t.pushed in (
        after_leave (Worker w h) (get_or s.words slot 0),
        keeps,
        tt,
        step.kept,
        record { becomes = refl; few = omega arith },
      ))

  pub allows_look : (st : Step (Unit {0})) (me : Sat) (f : ℕ) (shape' : Shape) (f' : ℕ) → shape' ≡ shape → f' ≡ f → IsMover me → f < 128 → Allows (Kept shape) slots id me (65560 + f) (λ n. n) (Looks shape' f' st me)
  allows_look st me f shape' f' known number is few = subst (λ (k : Shape). Allows (Kept shape) slots id me (65560 + f) (λ n. n) (Looks k f' st me)) (sym known)
      (subst (λ (k : ℕ). Allows (Kept shape) slots id me (65560 + f) (λ n. n) (Looks shape k st me)) (sym number)
      (subst (λ (x : Sat). Allows (Kept shape) slots id x (65560 + f) (λ n. n) (Looks shape f st x)) (sym is) (λ s r homes at fits.
      let step = look_law shape s r id (plan_of me.0) f at few in (
        after_look f (Mover (plan_of me.0)) (get_or s.words (65560 + f) 0),
        keeps,
        tt,
        step.kept,
        record {
          becomes = refl;
          number = let word = r.reads.1 (Owner f) few in let small = owner-number shape s r f in omega arith;
          last = λ idle some. owner_law shape s r id (plan_of me.0) f at idle few some;
        },
      ))))

  pub allows_take : (me : Sat) (g g' : Made) (word index : ℕ) → g' ≡ g → word ≡ g.place.mapping → index ≡ 65560 + g.place.frame → IsMover me → (plan_of me.0).stage ≡ stage.Idle → MayMap shape (plan_of me.0) g
      → Allows (Kept shape) slots id me index (λ _. word) (λ _. Then (after_take g') me word)
  allows_take me g g' word index same holds where_is is idle may = subst (λ (x : Made). Allows (Kept shape) slots id me index (λ _. word) (λ _. Then (after_take x) me word)) (sym same)
      (subst (λ (k : ℕ). Allows (Kept shape) slots id me k (λ _. word) (λ _. Then (after_take g) me word)) (sym where_is)
      (subst (λ (x : ℕ). Allows (Kept shape) slots id me (65560 + g.place.frame) (λ _. x) (λ _. Then (after_take g) me x)) (sym holds)
      (subst (λ (x : Sat). Allows (Kept shape) slots id x (65560 + g.place.frame) (λ _. g.place.mapping) (λ _. Then (after_take g) x g.place.mapping)) (sym is) (λ s r homes at fits.
      let step = take_law shape s r id (plan_of me.0) g at idle may in
      (after_take g (Mover (plan_of me.0)) 0, keeps, tt, step.kept, refl)))))

  pub allows_fill : (me : Sat) (g : Made) (e word index : ℕ) → index ≡ 65688 + (512 * g.place.frame + e) → word ≡ cell_word (cells_of shape g.of_module) (base_of g.place) e → IsMover me → (plan_of me.0).stage ≡ stage.Taken g e → e < length (cells_of shape g.of_module)
      → Allows (Kept shape) slots id me index (λ _. word) (λ _. Then after_fill me word)
  allows_fill me g e word index where_is holds is taken low = subst (λ (k : ℕ). Allows (Kept shape) slots id me k (λ _. word) (λ _. Then after_fill me word)) (sym where_is)
      (subst (λ (x : ℕ). Allows (Kept shape) slots id me (65688 + (512 * g.place.frame + e)) (λ _. x) (λ _. Then after_fill me x)) (sym holds)
      (subst (λ (x : Sat). Allows (Kept shape) slots id x (65688 + (512 * g.place.frame + e)) (λ _. cell_word (cells_of shape g.of_module) (base_of g.place) e) (λ _. Then after_fill x (cell_word (cells_of shape g.of_module) (base_of g.place) e))) (sym is) (λ s r homes at fits.
      let step = fill_law shape s r id (plan_of me.0) g e at taken low in
      (after_fill (Mover (plan_of me.0)) 0, keeps, tt, step.kept, refl))))

  pub allows_map : (me : Sat) (g : Made) (word index : ℕ) → index ≡ 24 + g.place.region → word ≡ packed g.place → IsMover me → (plan_of me.0).stage ≡ stage.Taken g (length (cells_of shape g.of_module))
      → Allows (Kept shape) slots id me index (λ _. word) (λ _. Then after_map me word)
  allows_map me g word index where_is holds is taken = subst (λ (k : ℕ). Allows (Kept shape) slots id me k (λ _. word) (λ _. Then after_map me word)) (sym where_is)
      (subst (λ (x : ℕ). Allows (Kept shape) slots id me (24 + g.place.region) (λ _. x) (λ _. Then after_map me x)) (sym holds)
      (subst (λ (x : Sat). Allows (Kept shape) slots id x (24 + g.place.region) (λ _. packed g.place) (λ _. Then after_map x (packed g.place))) (sym is) (λ s r homes at fits.
      let step = map_law shape s r id (plan_of me.0) g at taken in
      (after_map (Mover (plan_of me.0)) 0, keeps, tt, step.kept, refl))))

  pub allows_switch : (st : Step (Unit {0})) (me : Sat) (g : Made) (word : ℕ) (shape' : Shape) (g' : Made) → shape' ≡ shape → g' ≡ g → word ≡ packed g.place → IsMover me → Contains (plan_of me.0).fresh g → get_or (plan_of me.0).current g.of_module 0 < g.place.mapping
      → Allows (Kept shape) slots id me (16 + g.of_module) (λ _. word) (Switches shape' g' st me)
  allows_switch st me g word shape' g' known same holds is fresh above = subst (λ (k : Shape). Allows (Kept shape) slots id me (16 + g.of_module) (λ _. word) (Switches k g' st me)) (sym known)
      (subst (λ (x : Made). Allows (Kept shape) slots id me (16 + g.of_module) (λ _. word) (Switches shape x st me)) (sym same)
      (subst (λ (x : ℕ). Allows (Kept shape) slots id me (16 + g.of_module) (λ _. x) (Switches shape g st me)) (sym holds)
      (subst (λ (x : Sat). Allows (Kept shape) slots id x (16 + g.of_module) (λ _. packed g.place) (Switches shape g st x)) (sym is) (λ s r homes at fits.
      let q = plan_of me.0 in
      let step = switch_law shape s r id q g at fresh above in
      let k = mover_knows shape s r id q at in
      let low = (k.mappings.each g.place.mapping _ (k.mappings.fresh.each g fresh).there).form.for_module in
      let current = current_known shape s r g.of_module low in (
        after_switch g (Mover q) (get_or s.words (16 + g.of_module) 0),
        keeps,
        tt,
        step.kept,
        record {
          becomes = refl;
          word = record { place = current.form; packs = current.word };
          number = current.number ∙ ap (λ (p : Plan). get_or p.current g.of_module 0) (sym k.is);
          new = λ o out same. (
              let there = (k.mappings.outs.each o out).there in
              let e : Some (mapping_of o.of_module Out) ≡ Some (mapping_of g.of_module Current) = sym there ∙ (ap (map.get r.state.world.mappings) same ∙ current.is.there) in
              let is : mapping_of o.of_module Out ≡ mapping_of g.of_module Current = cc in
              let status : Out ≡ Current = ap (λ (x : Mapping). x.status) is in let no : ⊥ = cc in no);
          room = let few = room-for shape s r (place_at (get_or s.words (16 + g.of_module) 0)).mapping (mapping_of g.of_module Current) current.is.there (omega arith) in let number = k.batching.number in let enough = k.batching.enough in let deeds = ap (λ (p : Plan). length (retires_in p.deeds)) k.is in omega arith;
        },
      )))))

-- ---- batches

-- whose view is a word more
module _ (shape : Shape) (slots id : ℕ) where
  pub allows_pay : (me : Sat) (slot paid last index : ℕ) → index ≡ 131224 + (paid + 1) → IsWorker me slot (stance.Paying paid last) → Allows (Kept shape) slots id me index (λ n. (n + (2 ^ 64 - 1)) % 2 ^ 64) (Then after_pay me)
  allows_pay me slot paid last index where_is is = subst (λ (k : ℕ). Allows (Kept shape) slots id me k (λ n. (n + (2 ^ 64 - 1)) % 2 ^ 64) (Then after_pay me)) (sym where_is)
      (subst (λ (x : Sat). Allows (Kept shape) slots id x (131224 + (paid + 1)) (λ n. (n + (2 ^ 64 - 1)) % 2 ^ 64) (Then after_pay x)) (sym is.view) (λ s r homes at fits.
      let step = pay_law shape s r id (worker_of me.0) slot paid last [] (acts_of me.0) at in
      (after_pay (Worker (worker_of me.0) (hand slot (stance.Paying paid last) [] (acts_of me.0))) (get_or s.words (131224 + (paid + 1)) 0), keeps, tt, step.kept, refl)))

  pub allows_member : (me : Sat) (b k index : ℕ) → index ≡ 135320 + (8 * b + k) → IsToFree me (freeing.Batch b k) → Allows (Kept shape) slots id me index (λ n. n) (Then after_member me)
  allows_member me b k index where_is is = subst (λ (i : ℕ). Allows (Kept shape) slots id me i (λ n. n) (Then after_member me)) (sym where_is)
      (subst (λ (c : List (ℕ × Unit {0})). Allows (Kept shape) slots id (me.0, c) (135320 + (8 * b + k)) (λ n. n) (Then after_member (me.0, c))) (sym is.slots) (λ s r homes at fits.
      let step = member_law shape s r id me.0 b k at is.freeing in
      (after_member me.0 (get_or s.words (135320 + (8 * b + k)) 0), keeps, tt, step.kept, refl)))

  -- the mover retired each mapping that it unmaps
  has_retired : (s : St) (r : Kept shape s) (view : Doing) (b k word : ℕ) → get_elem? s.views id ≡ some view → freeing_of view ≡ freeing.Found b k word → HasRetired view (place_at (get_or s.words (24 + word % 2 ^ 16) 0)).mapping
  has_retired s r Spent b k word at is = tt
  has_retired s r (Worker w h) b k word at is = tt
  has_retired s r (Mover q) b k word at is =
      let known = (unmap_found shape s r id (Mover q) b k word at is).1 in
      let n : ℕ = (place_at (get_or s.words (24 + word % 2 ^ 16) 0)).mapping in
      subst (λ (line : ℕ). 0 < line) ((mover_knows shape s r id q at).lines_are n) (r.owing.some_line n b known.listed)

  pub allows_unmap : (st : Step (Unit {0})) (me : Sat) (b k word index : ℕ) → index ≡ 24 + word % 2 ^ 16 → IsToFree me (freeing.Found b k word) → Allows (Kept shape) slots id me index (λ n. (n + 2 ^ 56) % 2 ^ 64) (Unmaps st me)
  allows_unmap st me b k word index where_is is = subst (λ (i : ℕ). Allows (Kept shape) slots id me i (λ n. (n + 2 ^ 56) % 2 ^ 64) (Unmaps st me)) (sym where_is)
      (subst (λ (c : List (ℕ × Unit {0})). Allows (Kept shape) slots id (me.0, c) (24 + word % 2 ^ 16) (λ n. (n + 2 ^ 56) % 2 ^ 64) (Unmaps st (me.0, c))) (sym is.slots) (λ s r homes at fits.
      let step = unmap_law shape s r id me.0 b k word at is.freeing is.gives in
      let known = unmap_found shape s r id me.0 b k word at is.freeing in (
        after_unmap me.0 (get_or s.words (24 + word % 2 ^ 16) 0),
        keeps,
        tt,
        step.kept,
        record { becomes = refl; place = known.1.stands.form.place.place; packs = known.1.word; frame = frame-few shape known.0 (place_at (get_or s.words (24 + word % 2 ^ 16) 0)) r.form known.1.stands.form; retired = has_retired s r me.0 b k word at is.freeing },
      )))

  pub allows_give : (me : Sat) (p : Place) (index : ℕ) → index ≡ 65560 + p.frame → gives_of me.0 ≡ p ∷ [] → me.1 ≡ [] → Allows (Kept shape) slots id me index (λ _. 0) (λ _. Then after_give me 0)
  allows_give me p index where_is is none = subst (λ (i : ℕ). Allows (Kept shape) slots id me i (λ _. 0) (λ _. Then after_give me 0)) (sym where_is)
      (subst (λ (c : List (ℕ × Unit {0})). Allows (Kept shape) slots id (me.0, c) (65560 + p.frame) (λ _. 0) (λ _. Then after_give (me.0, c) 0)) (sym none) (λ s r homes at fits.
      let step = give_law shape s r id me.0 p at is in
      (after_give me.0 0, keeps, tt, subst (λ (v : Doing). Kept shape (stepped s (65560 + p.frame) 0 id [] v keeps)) (give-any me.0 (get_or s.words (65560 + p.frame) 0) 0) step.kept, refl)))
    where
      give-any : (d : Doing) (x y : ℕ) → after_give d x ≡ after_give d y
      give-any Spent x y = refl
      give-any (Worker w h) x y = refl
      give-any (Mover q) x y = refl

  pub allows_list : (me : Sat) (g g' : Made) (line line' k word index : ℕ) → g' ≡ g → line' ≡ line → word ≡ member_word line g.place.region → index ≡ 135320 + (8 * ((plan_of me.0).batches + 1) + k) → IsMover me → MayList (plan_of me.0).passing k → k < 8 → Contains (plan_of me.0).outs g → 0 < line
      → Allows (Kept shape) slots id me index (λ _. word) (λ _. Then (after_list g' line') me word)
  allows_list me g g' line line' k word index same same_line holds where_is is may low out positive = subst (λ (x : Made). Allows (Kept shape) slots id me index (λ _. word) (λ _. Then (after_list x line') me word)) (sym same)
      (subst (λ (x : ℕ). Allows (Kept shape) slots id me index (λ _. word) (λ _. Then (after_list g x) me word)) (sym same_line)
      (subst (λ (i : ℕ). Allows (Kept shape) slots id me i (λ _. word) (λ _. Then (after_list g line) me word)) (sym where_is)
      (subst (λ (x : ℕ). Allows (Kept shape) slots id me (135320 + (8 * ((plan_of me.0).batches + 1) + k)) (λ _. x) (λ _. Then (after_list g line) me x)) (sym holds)
      (subst (λ (x : Sat). Allows (Kept shape) slots id x (135320 + (8 * ((plan_of me.0).batches + 1) + k)) (λ _. member_word line g.place.region) (λ _. Then (after_list g line) x (member_word line g.place.region))) (sym is) (λ s r homes at fits.
      let step = list_law shape s r id (plan_of me.0) g line k at may low out positive in
      (after_list g line (Mover (plan_of me.0)) 0, keeps, tt, step.kept, refl))))))

  pub allows_open : (st : Step (Unit {0})) (me : Sat) (k word index : ℕ) → word ≡ shape.slots * 2 ^ 32 → index ≡ 131224 + ((plan_of me.0).batches + 1) → IsMover me → (plan_of me.0).passing ≡ passing.Listing k → Allows (Kept shape) slots id me index (λ _. word) (λ _. Opens st me word)
  allows_open st me k word index holds where_is is listing = subst (λ (i : ℕ). Allows (Kept shape) slots id me i (λ _. word) (λ _. Opens st me word)) (sym where_is)
      (subst (λ (x : ℕ). Allows (Kept shape) slots id me (131224 + ((plan_of me.0).batches + 1)) (λ _. x) (λ _. Opens st me x)) (sym holds)
      (subst (λ (x : Sat). Allows (Kept shape) slots id x (131224 + ((plan_of me.0).batches + 1)) (λ _. shape.slots * 2 ^ 32) (λ _. Opens st x (shape.slots * 2 ^ 32))) (sym is) (λ s r homes at fits.
      let q = plan_of me.0 in
      let m = mover_knows shape s r id q at in
      let step = open_law shape s r id q k at listing in
      let stands : PassingStands r.state.owed (length (retires_in q.deeds)) (passing.Listing k) = subst (PassingStands r.state.owed (length (retires_in q.deeds))) listing m.batching.stands in (
        after_open (Mover q) 0,
        keeps,
        tt,
        step.kept,
        record {
          becomes = refl;
          room = λ g out. (let few = room-for shape s r g.place.mapping (mapping_of g.of_module Out) (m.mappings.outs.each g out).there (omega arith) in
              let more = stands.1 in let number = m.batching.number in let deeds = ap (λ (p : Plan). length (retires_in p.deeds)) m.is in omega arith);
        },
      ))))

  pub allows_push : (me : Sat) (slot : ℕ) → IsMover me → (plan_of me.0).passing ≡ passing.Settled slot → Allows (Kept shape) slots id me slot (λ n. (n + 2 ^ 32) % 2 ^ 64) (Then after_push me)
  allows_push me slot is settled = subst (λ (x : Sat). Allows (Kept shape) slots id x slot (λ n. (n + 2 ^ 32) % 2 ^ 64) (Then after_push x)) (sym is) (λ s r homes at fits.
      let step = push_law shape s r id (plan_of me.0) slot at settled in
      (after_push (Mover (plan_of me.0)) (get_or s.words slot 0), keeps, tt, step.kept, refl))

  pub allows_settle : (me : Sat) (slot inside take index : ℕ) → take ≡ settles inside → index ≡ 131224 + (plan_of me.0).batches → IsMover me → (plan_of me.0).passing ≡ passing.Pushed slot inside → (plan_of me.0).freeing ≡ freeing.Nothing
      → Allows (Kept shape) slots id me index (λ n. (n + (2 ^ 64 - take)) % 2 ^ 64) (Then after_settle me)
  allows_settle me slot inside take index takes where_is is pushed free = subst (λ (i : ℕ). Allows (Kept shape) slots id me i (λ n. (n + (2 ^ 64 - take)) % 2 ^ 64) (Then after_settle me)) (sym where_is)
      (subst (λ (t : ℕ). Allows (Kept shape) slots id me (131224 + (plan_of me.0).batches) (λ n. (n + (2 ^ 64 - t)) % 2 ^ 64) (Then after_settle me)) (sym takes)
      (subst (λ (x : Sat). Allows (Kept shape) slots id x (131224 + (plan_of me.0).batches) (λ n. (n + (2 ^ 64 - settles inside)) % 2 ^ 64) (Then after_settle x)) (sym is) (λ s r homes at fits.
      let step = settle_law shape s r id (plan_of me.0) slot inside at pushed free in
      (after_settle (Mover (plan_of me.0)) (get_or s.words (131224 + (plan_of me.0).batches) 0), keeps, tt, step.kept, refl))))

-- the next worker's seat may be split off
pub allows_split : (shape : Shape) (id : ℕ) (me : Sat) (k : ℕ) → me ≡ (mover_dealt shape k, []) → k < shape.workers → Splits (Kept shape) id me.0 (after_deal me.0) (given_off me.0)
allows_split shape id me k is few = subst (λ (m : Sat). Splits (Kept shape) id m.0 (after_deal m.0) (given_off m.0)) (sym is)
    (λ s r at. (split_law shape s r id (plan_of (mover_dealt shape k)) at few refl).kept)
