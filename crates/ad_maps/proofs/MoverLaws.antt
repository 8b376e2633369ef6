-- The mover's looks, takes and fills keep the rule.
use Rattle.std.proofs.Common.{◌≡◌, ⊎_elim, inl, inr, ℕ, ◌+◌, ◌*◌, ◌<◌, Bool, cond, eqb, eqb-true, List, ◌∷◌, length, get_or, set, Some, refl, sym, ap, ◌∙◌, subst, arith}
use Rattle.std.specs.List.{Contains}
use Rattle.std.specs.FinMap as map
use Rattle.std.proofs.lemmas.Bool.{cases_Bool, cases_eq}
use mathlib.Core.Option.{some}
use lib.ListN.{get_elem?}
use Rattle.ad_base.specs.declared.place.Place.{Place}
use Rattle.ad_base.specs.Place.{base_of}
use Rattle.ad_events.specs.declared.mapping.Mapping.{Mapping}
use Rattle.ad_events.specs.Functions.{changed}
use Rattle.ad_events.proofs.Functions.{changed-here, changed-else}
use Rattle.ad_events.specs.Reclaim as machine
use Rattle.ad_maps.specs.declared.shape.Shape.{Shape}
use Rattle.ad_maps.specs.declared.view.Deed.TheVariants as deed
use Rattle.ad_maps.specs.declared.view.Made.{Made}
use Rattle.ad_maps.specs.declared.view.Stage.{Stage}
use Rattle.ad_maps.specs.declared.view.Stage.TheVariants as stage
use Rattle.ad_maps.specs.declared.view.Plan.{Plan}
use Rattle.ad_maps.specs.declared.view.Doing.TheVariants.{Mover}
use Rattle.ad_maps.specs.Laws.{Stays, moved, LookLaw, TakeLaw, FillLaw}
use Rattle.ad_maps.specs.MapPlace.{cell_word, cells_of, module_of_frame, IsShape}
use Rattle.ad_maps.specs.Names.{Owner, Cell, AreWords}
use Rattle.ad_maps.specs.Ledger.{unmaps_in_deeds}
use Rattle.ad_maps.specs.Rule.{St, Kept, OwnerStands, IsToGive, Mappings, StageStands, IsFilled}
use Rattle.ad_maps.specs.Steps.{filling, looking, without}
use Rattle.ad_maps.proofs.Elements.{cons-cases, without-from, lines-push, retires-same}
use Rattle.ad_maps.proofs.Frames.{mover_step}
use Rattle.ad_maps.proofs.Freeings.{batching-plan}
use Rattle.ad_maps.proofs.MappingFrames.{mappings-stay, words-stay, mover_knows, ledger-same, same_currents}
use Rattle.ad_maps.proofs.Numbers.{frame-few}
use Rattle.ad_maps.proofs.Owners.{newest-take}
use Rattle.ad_maps.proofs.Writes.{writes, rereads, row-here, row-column, row-else}
use Rattle.ad_maps.proofs.Telling.{deeds-more, deeds-stay, told-none}

-- ---- look

pub look_law : LookLaw
look_law shape s r id q f at few =
    let k = mover_knows shape s r id q at in
    let m = k.mappings in
    let i : ℕ = 65560 + f in
    let found = get_or s.words i 0 in
    let word : found ≡ r.words.owner f = r.reads.1 (Owner f) few in
    let q' : Plan = looking f q found in
    let free : (g : ℕ) → Contains (cond (eqb found 0) (f ∷ q.rooms) q.rooms) g → r.words.owner g ≡ 0 =
    elim (cases_Bool (eqb found 0)) [
      | inl none ↦ subst (λ (b : Bool). (g : ℕ) → Contains (cond b (f ∷ q.rooms) q.rooms) g → r.words.owner g ≡ 0) (sym none)
          (λ g c. ⊎_elim (λ e. ap r.words.owner (sym e) ∙ (sym word ∙ eqb-true found 0 none)) (m.rooms g) (cons-cases f q.rooms g c))
      | inr owned ↦ subst (λ (b : Bool). (g : ℕ) → Contains (cond b (f ∷ q.rooms) q.rooms) g → r.words.owner g ≡ 0) (sym owned) m.rooms
    ] in
    let step = mover_step shape s r id q' k.mine (set s.words i found) r.words r.state r.places r.ledger
    (ap (λ (p : Plan). p.slots) k.is) (ap (λ (p : Plan). p.dealt) k.is) (ap (λ (p : Plan). p.back) k.is)
    (rereads s.words r.words i r.reads)
    r.reached
    (told-none machine.Mover r.reached.past (unmaps_in_deeds r.plan.deeds) (unmaps_in_deeds q'.deeds) (deeds-more q r.plan (deed.Look f found) k.is (λ n. refl)))
    (mappings-stay shape s r q m free)
    r.owing
    (batching-plan r.state.owed r.state.batch r.words.member q q' refl refl (retires-same q.deeds (deed.Look f found) refl) k.batching)
    r.freed
    (ap (λ (p : Plan). p.freeing) k.is) (ap (λ (p : Plan). p.gives) k.is)
    (k.ledger_is ∙ sym (ledger-same shape q.deeds (deed.Look f found) refl))
    (λ n. k.lines_are n ∙ sym (lines-push q.deeds (deed.Look f found) (λ n. refl) n))
    (λ v. refl)
    (same_currents shape s r q k.is) in
    record { kept = step.kept; state = step.state }

-- a frame's owner or its cells are others, and the plan changes in its stage and its rooms alone
frame_step : (shape : Shape) (s : St) (r : Kept shape s) (id : ℕ) (q : Plan) → get_elem? s.views id ≡ some (Mover q) → (xs : List ℕ) (owner : ℕ → ℕ) (cell : ℕ → ℕ → ℕ) (d : Stage) (rooms : List ℕ)
    → AreWords xs (record r.words { owner = owner; cell = cell })
    → Mappings shape r.state.world.mappings r.places r.ledger (record q { stage = d; rooms = rooms }) r.gives r.words.current r.words.directory owner cell
    → Stays shape s r (record { words = xs; homes = s.homes; views = set s.views id (Mover (record q { stage = d; rooms = rooms })) })
frame_step shape s r id q at xs owner cell d rooms reads mappings =
    let k = mover_knows shape s r id q at in
    let q' : Plan = record q { stage = d; rooms = rooms } in
    let step = mover_step shape s r id q' k.mine xs (record r.words { owner = owner; cell = cell }) r.state r.places r.ledger
    (ap (λ (p : Plan). p.slots) k.is) (ap (λ (p : Plan). p.dealt) k.is) (ap (λ (p : Plan). p.back) k.is)
    reads
    r.reached
    (told-none machine.Mover r.reached.past (unmaps_in_deeds r.plan.deeds) (unmaps_in_deeds q.deeds) (deeds-stay q r.plan k.is))
    mappings
    r.owing
    (batching-plan r.state.owed r.state.batch r.words.member q q' refl refl refl k.batching)
    r.freed
    (ap (λ (p : Plan). p.freeing) k.is) (ap (λ (p : Plan). p.gives) k.is)
    k.ledger_is
    k.lines_are
    (λ v. refl)
    (same_currents shape s r q k.is) in
    record { kept = step.kept; state = step.state }

-- ---- take

-- what a mapping of the world has
abbrev numbered : (shape : Shape) (s : St) (r : Kept shape s) (n : ℕ) (x : Mapping) → map.get r.state.world.mappings n ≡ Some x → 0 < (r.places n).mapping
numbered shape s r n x there = let from = (r.mappings.each n x there).form.place.place.mapping_from in omega arith

pub take_law : TakeLaw
take_law shape s r id q g at idle may =
    let k = mover_knows shape s r id q at in
    let m = k.mappings in
    let f = g.place.frame in
    let n = g.place.mapping in
    let few = frame-few shape g.of_module g.place r.form may.form in
    let free : r.words.owner f ≡ 0 = m.rooms f may.room in
    let owner' : ℕ → ℕ = changed r.words.owner f n in
    -- a frame that a number above 0 owns is another
    let else : (h : ℕ) → 0 < r.words.owner h → owner' h ≡ r.words.owner h = λ h some. changed-else r.words.owner f n h (λ e. let same = ap r.words.owner e in omega arith) in
    frame_step shape s r id q at (set s.words (65560 + f) n) owner' r.words.cell (stage.Taken g 0) (without f q.rooms) (writes s.words r.words (Owner f) n few r.reads)
    (record {
      each = λ j x there. (let old = m.each j x there in let some = numbered shape s r j x there in record {
        number = old.number;
        form = old.form;
        listed = old.listed;
        words = words-stay shape r.words.directory r.words.owner r.words.directory owner' r.words.cell r.words.cell x.module (r.places j) refl (λ owns. else (r.places j).frame (omega arith)) (λ owns e. refl) x.status old.words;
      });
      each_made = m.each_made;
      wide = m.wide;
      each_current = m.each_current;
      each_region = m.each_region;
      each_owner = λ h.
          elim (cases_eq h f) [
            | inl e ↦ inr (inr (inr (sym e, sym (changed-here r.words.owner f n h e))))
            | inr ne ↦ subst (OwnerStands r.state.world.mappings r.places (IsToGive r.gives) (stage.Taken g 0) h) (sym (changed-else r.words.owner f n h ne)) (not-taken h (r.words.owner h) (subst (λ (d : Stage). OwnerStands r.state.world.mappings r.places (IsToGive r.gives) d h (r.words.owner h)) idle (m.each_owner h)))
          ];
      newest = newest-take r.ledger r.words.owner f n m.newest (λ x c. may.above x (subst (λ (gs : List Made). Contains gs x) k.ledger_is c));
      each_give = λ p c. (let old = m.each_give p c in let some = (m.each p.mapping _ old.gone.there).form.place.place.mapping_from in let same = ap (λ (x : Place). x.mapping) old.gone.placed in let owns = old.owns in record {
        «module» = old.module;
        gone = old.gone;
        owns = else p.frame (omega arith) ∙ old.owns;
      });
      past_cells = m.past_cells;
      fresh = m.fresh;
      outs = m.outs;
      rooms = λ h c. (let t = without-from f q.rooms h c in changed-else r.words.owner f n h t.1 ∙ m.rooms h t.0);
      stage = record {
        form = may.form;
        above = λ x c. may.above x (subst (λ (gs : List Made). Contains gs x) k.ledger_is c);
        region = λ x c. may.region x (subst (λ (gs : List Made). Contains gs x) k.ledger_is c);
        owns = changed-here r.words.owner f n f refl;
        within = omega arith;
        cells = λ e l. absurd (omega arith);
      };
    })
  where
    not-taken : (h o : ℕ) → OwnerStands r.state.world.mappings r.places (IsToGive r.gives) stage.Idle h o → OwnerStands r.state.world.mappings r.places (IsToGive r.gives) (stage.Taken g 0) h o
    not-taken h o c = ⊎_elim inl (λ d. ⊎_elim (λ t. inr (inl t)) (λ d. ⊎_elim (λ t. inr (inr (inl t))) (λ t. absurd t) d) d) c

-- ---- fill

pub fill_law : FillLaw
fill_law shape s r id q g e at taken low =
    let k = mover_knows shape s r id q at in
    let m = k.mappings in
    let f = g.place.frame in
    let now : IsFilled shape r.ledger r.words.owner r.words.cell g e = subst (StageStands shape r.ledger r.words.owner r.words.cell) taken m.stage in
    let few = frame-few shape g.of_module g.place r.form now.form in
    let x = cell_word (cells_of shape g.of_module) (base_of g.place) e in
    let cell' : ℕ → ℕ → ℕ = changed r.words.cell f (changed (r.words.cell f) e x) in
    let small : e < 512 = few_cells shape r.form g.of_module e now.form.for_module low in
    subst (λ (d : Stage). Stays shape s r (moved s id (Cell f e) (λ _. x) (Mover (record q { stage = filling d })))) (sym taken)
    (frame_step shape s r id q at (set s.words (65688 + (512 * f + e)) x) r.words.owner cell' (stage.Taken g (e + 1)) q.rooms (writes s.words r.words (Cell f e) x (few, small) r.reads)
    (record {
      each = λ j y there. (let old = m.each j y there in let below = now.above _ old.listed in let frame = now.owns in record {
        number = old.number;
        form = old.form;
        listed = old.listed;
        words = words-stay shape r.words.directory r.words.owner r.words.directory r.words.owner r.words.cell cell' y.module (r.places j) refl (λ owns. refl)
            (λ owns d. row-else r.words.cell f e x (r.places j).frame d (λ same. let both = ap r.words.owner same in omega arith)) y.status old.words;
      });
      each_made = m.each_made;
      wide = m.wide;
      each_current = m.each_current;
      each_region = m.each_region;
      each_owner = λ h. subst (λ (d : Stage). OwnerStands r.state.world.mappings r.places (IsToGive r.gives) d h (r.words.owner h)) taken (m.each_owner h);
      newest = m.newest;
      each_give = m.each_give;
      past_cells = λ h d past.
          elim (cases_eq h f) [
            | inl here ↦
                elim (cases_eq d e) [
                  | inl there ↦ absurd (let of = ap (module_of_frame shape) here ∙ now.form.frame in let long = ap (λ (i : ℕ). length (cells_of shape i)) of in omega arith)
                  | inr else ↦ row-column r.words.cell f e x h d else ∙ m.past_cells h d past
                ]
            | inr else ↦ row-else r.words.cell f e x h d else ∙ m.past_cells h d past
          ];
      fresh = m.fresh;
      outs = m.outs;
      rooms = m.rooms;
      stage = record {
        form = now.form;
        above = now.above;
        region = now.region;
        owns = now.owns;
        within = omega arith;
        cells = λ d l.
            elim (cases_eq d e) [
              | inl here ↦ row-here r.words.cell f e x f d refl here ∙ ap (cell_word (cells_of shape g.of_module) (base_of g.place)) (sym here)
              | inr else ↦ row-column r.words.cell f e x f d else ∙ now.cells d (omega arith)
            ];
      };
    }))
  where
    few_cells : (shape : Shape) → IsShape shape → (m e : ℕ) → m < length shape.modules → e < length (cells_of shape m) → e < 512
    few_cells shape form m e in_range low = let few = (form.each m in_range).few_cells in omega arith
