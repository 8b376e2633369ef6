-- The mover's map keeps the rule.
use Rattle.std.proofs.Common.{◌≡◌, ◌≢◌, ⊎_elim, inl, inr, ℕ, ◌+◌, ◌<◌, List, [], ◌∷◌, ◌++◌, length, get_or, set, Some, None, refl, sym, ap, ◌∙◌, subst, arith, append_assoc}
use Rattle.std.specs.List.{Contains}
use Rattle.std.specs.FinMap as map
use Rattle.std.proofs.lemmas.Bool.{cases_eq, cases_lt}
use Rattle.std.proofs.lemmas.List.Elements.{Contains-append_left, Contains-push, Contains-push_cases}
use Rattle.ad_base.specs.declared.place.Place.{Place}
use Rattle.ad_base.specs.Place.{base_of, packed}
use Rattle.ad_events.specs.declared.mapping.Status.{Status}
use Rattle.ad_events.specs.declared.mapping.Status.TheVariants.{Fresh, Out, Gone}
use Rattle.ad_events.specs.declared.mapping.Mapping.{Mapping}
use Rattle.ad_events.specs.Functions.{changed}
use Rattle.ad_events.specs.World.{mapping_of}
use Rattle.ad_events.specs.Reclaim as machine
use Rattle.ad_events.proofs.Functions.{changed-here, changed-else, option-cases}
use Rattle.ad_events.proofs.WorldLemmas.{same_mapping}
use Rattle.ad_events.proofs.WorldReads.{map-here, map-other}
use Rattle.ad_maps.specs.declared.shape.Shape.{Shape}
use Rattle.ad_maps.specs.declared.view.Deed.TheVariants as deed
use Rattle.ad_maps.specs.declared.view.Made.{Made}
use Rattle.ad_maps.specs.declared.view.Stage.{Stage}
use Rattle.ad_maps.specs.declared.view.Stage.TheVariants as stage
use Rattle.ad_maps.specs.declared.view.Plan.{Plan}
use Rattle.ad_maps.specs.declared.view.Doing.TheVariants.{Mover}
use Rattle.ad_maps.specs.Laws.{Adds, moved, MapLaw}
use Rattle.ad_maps.specs.Ledger.{maps_in, opened_from, unmaps_in_deeds}
use Rattle.ad_maps.specs.MapPlace.{cell_word, cells_of, member_word}
use Rattle.ad_maps.specs.Names.{Directory, wrote}
use Rattle.ad_maps.specs.Rule.{St, Kept, AllMappings, IsAs, IsMapped, MappingStands, Mappings, OwnerStands, RegionStands, GiveStands, IsToGive, StageStands, IsFilled, AreAll, CurrentStands, IsMember}
use Rattle.ad_maps.specs.Steps.{made, mapping}
use Rattle.ad_maps.proofs.Elements.{maps-append, lines-push, retires-same}
use Rattle.ad_maps.proofs.Batches.{listed-there}
use Rattle.ad_maps.proofs.Frames.{mover_step}
use Rattle.ad_maps.proofs.Freeings.{map-brings, freed-after, batching-plan}
use Rattle.ad_maps.proofs.Hands.{hand_stays}
use Rattle.ad_maps.proofs.Machine.{holds_of, reached_after, lawful_of}
use Rattle.ad_maps.proofs.MappingFrames.{words-stay, cell-past, mover_knows, module-there}
use Rattle.ad_maps.proofs.Numbers.{region-few}
use Rattle.ad_maps.proofs.Owners.{newest-map}
use Rattle.ad_maps.proofs.Writes.{writes}
use Rattle.ad_maps.proofs.Telling.{deeds-more, told-quiet}

module _ (shape : Shape) (s : St) (r : Kept shape s) (q : Plan) (g : Made)
    (m : Mappings shape r.state.world.mappings r.places r.ledger q r.gives r.words.current r.words.directory r.words.owner r.words.cell)
    (now : IsFilled shape r.ledger r.words.owner r.words.cell g (length (cells_of shape g.of_module))) where
  abbrev n : ℕ
  n = g.place.mapping

  abbrev ms : AllMappings
  ms = r.state.world.mappings

  abbrev ms' : AllMappings
  ms' = (machine.after r.state (machine.Map g.of_module n)).world.mappings

  abbrev places' : ℕ → Place
  places' = changed r.places n g.place

  abbrev ledger' : List Made
  ledger' = r.ledger ++ g ∷ []

  abbrev directory' : ℕ → ℕ
  directory' = changed r.words.directory g.place.region (packed g.place)

  abbrev plan' : Plan
  plan' = record q { stage = stage.Idle; fresh = q.fresh ++ g ∷ []; deeds = q.deeds ++ deed.Map g.of_module g.place ∷ [] }

  -- a mapping of the world has another number, and lies in another region
  pub other : (k : ℕ) (x : Mapping) → map.get ms k ≡ Some x → k ≢ n
  other k x there e = let old = m.each k x there in let below = now.above (made x.module (r.places k)) old.listed in let number = old.number in omega arith

  pub absent : map.get ms n ≡ None
  absent = ⊎_elim (λ e. e) (λ t. absurd (other n t.0 t.1 refl)) (option-cases (map.get ms n))

  here : map.get ms' n ≡ Some (mapping_of g.of_module Fresh)
  here = map-here r.state.world g.of_module n n refl

  else : (k : ℕ) → k ≢ n → map.get ms' k ≡ map.get ms k
  else k ne = map-other r.state.world g.of_module n k ne

  stays : (k : ℕ) (x : Mapping) → map.get ms k ≡ Some x → map.get ms' k ≡ Some x
  stays k x there = else k (other k x there) ∙ there

  pub goes_on : (y : Made) (t : Status) → IsAs ms r.places y t → IsAs ms' places' y t
  goes_on y t is = record { there = stays y.place.mapping _ is.there; placed = changed-else r.places n g.place y.place.mapping (other y.place.mapping _ is.there) ∙ is.placed }

  is_new : IsAs ms' places' g Fresh
  is_new = record { there = here; placed = changed-here r.places n g.place n refl }

  new_mapped : IsMapped shape directory' r.words.owner r.words.cell g.of_module g.place
  new_mapped = record {
    word = changed-here r.words.directory g.place.region (packed g.place) g.place.region refl;
    owns = now.owns;
    cells = λ e l. by_cell e;
  }
    where
      by_cell : (e : ℕ) → r.words.cell g.place.frame e ≡ cell_word (cells_of shape g.of_module) (base_of g.place) e
      by_cell e = elim (cases_lt e (length (cells_of shape g.of_module))) [
        | inl l ↦ now.cells e l
        | inr past ↦
            m.past_cells g.place.frame e (let of = now.form.frame in let long = ap (λ (i : ℕ). length (cells_of shape i)) of in omega arith)
            ∙ sym (cell-past (cells_of shape g.of_module) (base_of g.place) e past)
      ]

  each' : (k : ℕ) (x : Mapping) → map.get ms' k ≡ Some x → MappingStands shape ledger' directory' r.words.owner r.words.cell (places' k) k x
  each' k x there =
      elim (cases_eq k n) [
        | inl e ↦
            subst (λ (p : Place). MappingStands shape ledger' directory' r.words.owner r.words.cell p k x) (sym (changed-here r.places n g.place k e))
            (subst (MappingStands shape ledger' directory' r.words.owner r.words.cell g.place k) (same_mapping (mapping_of g.of_module Fresh) x (sym here ∙ (ap (map.get ms') (sym e) ∙ there)))
            (record { number = sym e; form = now.form; listed = Contains-push r.ledger g; words = new_mapped }))
        | inr ne ↦
            let was = sym (else k ne) ∙ there in
            let old = m.each k x was in
            subst (λ (p : Place). MappingStands shape ledger' directory' r.words.owner r.words.cell p k x) (sym (changed-else r.places n g.place k ne)) (record {
              number = old.number;
              form = old.form;
              listed = Contains-append_left r.ledger (g ∷ []) (made x.module (r.places k)) old.listed;
              words = words-stay shape r.words.directory r.words.owner directory' r.words.owner r.words.cell r.words.cell x.module (r.places k)
                  (changed-else r.words.directory g.place.region (packed g.place) (r.places k).region (now.region (made x.module (r.places k)) old.listed)) (λ owns. refl) (λ owns e. refl) x.status old.words;
            })
      ]

  each_made' : (y : Made) → Contains ledger' y → (t : Status) × IsAs ms' places' y t
  each_made' y c = ⊎_elim (λ before. let was = m.each_made y before in (was.0, goes_on y was.0 was.1)) (λ e. (Fresh, subst (λ (z : Made). IsAs ms' places' z Fresh) e is_new)) (Contains-push_cases r.ledger g y c)

  each_current' : (i : ℕ) → i < length shape.modules → CurrentStands ms' places' q.current r.words.current i
  each_current' i l = let old = m.each_current i l in let c = get_or q.current i 0 in record {
    there = stays c _ old.there;
    word = old.word ∙ ap packed (sym (changed-else r.places n g.place c (other c _ old.there)));
  }

  each_region' : (v : ℕ) → RegionStands ms' places' directory' v
  each_region' v has =
      elim (cases_eq v g.place.region) [
        | inl e ↦ (n, mapping_of g.of_module Fresh, here, ap (λ (p : Place). p.region) (changed-here r.places n g.place n refl) ∙ sym e)
        | inr ne ↦
            let old = m.each_region v (λ z. has (changed-else r.words.directory g.place.region (packed g.place) v ne ∙ z)) in
            (old.0, old.1, stays old.0 old.1 old.2, ap (λ (p : Place). p.region) (changed-else r.places n g.place old.0 (other old.0 old.1 old.2)) ∙ old.3)
      ]

  each_owner' : q.stage ≡ stage.Taken g (length (cells_of shape g.of_module)) → (f : ℕ) → OwnerStands ms' places' (IsToGive r.gives) stage.Idle f (r.words.owner f)
  each_owner' taken f = ⊎_elim inl
      (λ d. ⊎_elim
      (λ t. inr (inl (t.0, stays (r.words.owner f) t.0 t.1, t.2, ap (λ (p : Place). p.frame) (changed-else r.places n g.place (r.words.owner f) (other (r.words.owner f) t.0 t.1)) ∙ t.3)))
      (λ d. ⊎_elim (λ t. inr (inr (inl t)))
      (λ t. inr (inl (mapping_of g.of_module Fresh, ap (map.get ms') (sym t.1) ∙ here, (λ e. let z : ⊥ = cc in z), ap (λ (p : Place). p.frame) (changed-here r.places n g.place (r.words.owner f) (sym t.1)) ∙ t.0)))
      d) d)
      (subst (λ (d : Stage). OwnerStands ms r.places (IsToGive r.gives) d f (r.words.owner f)) taken (m.each_owner f))

  each_give' : (p : Place) → IsToGive r.gives p → GiveStands ms' places' r.words.owner p
  each_give' p c = let old = m.each_give p c in record { «module» = old.module; gone = goes_on (made old.module p) Gone old.gone; owns = old.owns }

  fresh' : AreAll ms' places' (q.fresh ++ g ∷ []) Fresh
  fresh' = record {
    each = λ y c. ⊎_elim (λ before. goes_on y Fresh (m.fresh.each y before)) (λ e. subst (λ (z : Made). IsAs ms' places' z Fresh) e is_new) (Contains-push_cases q.fresh g y c);
    only = only;
  }
    where
      only : (k i : ℕ) → map.get ms' k ≡ Some (mapping_of i Fresh) → Contains (q.fresh ++ g ∷ []) (made i (places' k))
      only k i there =
          elim (cases_eq k n) [
            | inl e ↦
                let same = same_mapping (mapping_of g.of_module Fresh) (mapping_of i Fresh) (sym here ∙ (ap (map.get ms') (sym e) ∙ there)) in
                let place = changed-here r.places n g.place k e in
                subst (Contains (q.fresh ++ g ∷ [])) (λ j. made (same j).module (sym place j)) (Contains-push q.fresh g)
            | inr ne ↦
                subst (λ (p : Place). Contains (q.fresh ++ g ∷ []) (made i p)) (sym (changed-else r.places n g.place k ne))
                (Contains-append_left q.fresh (g ∷ []) (made i (r.places k)) (m.fresh.only k i (sym (else k ne) ∙ there)))
          ]

  outs' : AreAll ms' places' q.outs Out
  outs' = record {
    each = λ y c. goes_on y Out (m.outs.each y c);
    only = λ k i there.
        elim (cases_eq k n) [
          | inl e ↦ absurd (let same = same_mapping (mapping_of g.of_module Fresh) (mapping_of i Out) (sym here ∙ (ap (map.get ms') (sym e) ∙ there)) in let status : Fresh ≡ Out = ap (λ (x : Mapping). x.status) same in let z : ⊥ = cc in z)
          | inr ne ↦ subst (λ (p : Place). Contains q.outs (made i p)) (sym (changed-else r.places n g.place k ne)) (m.outs.only k i (sym (else k ne) ∙ there))
        ];
  }

  pub mappings' : q.stage ≡ stage.Taken g (length (cells_of shape g.of_module)) → Mappings shape ms' places' ledger' plan' r.gives r.words.current directory' r.words.owner r.words.cell
  mappings' taken = record {
    each = each';
    each_made = each_made';
    wide = m.wide;
    each_current = each_current';
    each_region = each_region';
    each_owner = each_owner' taken;
    newest = newest-map r.ledger r.words.owner g m.newest now.owns;
    each_give = each_give';
    past_cells = m.past_cells;
    fresh = fresh';
    outs = outs';
    rooms = m.rooms;
    stage = tt;
  }

pub map_law : MapLaw
map_law shape s r id q g at taken =
    let k = mover_knows shape s r id q at in
    let now : IsFilled shape r.ledger r.words.owner r.words.cell g (length (cells_of shape g.of_module)) = subst (StageStands shape r.ledger r.words.owner r.words.cell) taken k.mappings.stage in
    let n = g.place.mapping in
    let x : machine.Step = machine.Map g.of_module n in
    let w = r.state.world in
    let may : machine.MayStep r.state x = (module-there shape s r g.of_module now.form.for_module, absent shape s r q g k.mappings now) in
    let j = machine.after r.state x in
    let q' : Plan = record q { stage = stage.Idle; fresh = q.fresh ++ g ∷ []; deeds = q.deeds ++ deed.Map g.of_module g.place ∷ [] } in
    let places' : ℕ → Place = changed r.places n g.place in
    let ledger' : List Made = r.ledger ++ g ∷ [] in
    let row : (j b : ℕ) → r.state.batch j ≡ Some b → member_word (r.lines j) (places' j).region ≡ member_word (r.lines j) (r.places j).region = λ j b is.
    (let t = listed-there shape s r j b is in ap (λ (p : Place). member_word (r.lines j) p.region) (changed-else r.places n g.place j (other shape s r q g k.mappings now j t.0 t.1))) in
    let still : (b i j : ℕ) → r.state.batch j ≡ Some b → IsMember r.words.member r.lines r.places b i j → IsMember r.words.member r.lines places' b i j = λ b i j is e.
    e ∙ sym (row j b is) in
    let step = mover_step shape s r id q' k.mine (set s.words (24 + g.place.region) (packed g.place)) (wrote r.words (Directory g.place.region) (packed g.place)) j places' ledger'
    (ap (λ (p : Plan). p.slots) k.is) (ap (λ (p : Plan). p.dealt) k.is) (ap (λ (p : Plan). p.back) k.is)
    (writes s.words r.words (Directory g.place.region) (packed g.place) (region-few shape g.of_module g.place now.form) r.reads)
    (reached_after shape r.state x r.reached may)
    (told-quiet shape r.state r.reached machine.Mover x may (unmaps_in_deeds r.plan.deeds) (unmaps_in_deeds q'.deeds) (λ c n. refl) (deeds-more q r.plan (deed.Map g.of_module g.place) k.is (λ i. refl)))
    (mappings' shape s r q g k.mappings now taken)
    (record {
      slots = r.owing.slots;
      seats = r.owing.seats;
      each_slot = r.owing.each_slot;
      each_count = r.owing.each_count;
      no_count = r.owing.no_count;
      each_listed = λ i b is. (let t = r.owing.each_listed i b is in (t.0, t.1, still b t.0 i is t.2));
      each_member = λ b i some. (let t = r.owing.each_member b i some in (t.0, t.1, still b i t.0 t.1 t.2));
      once = r.owing.once;
      each_line = r.owing.each_line;
      some_line = r.owing.some_line;
    })
    (batching-plan r.state.owed r.state.batch r.words.member q q' refl refl (retires-same q.deeds (deed.Map g.of_module g.place) refl) k.batching)
    (freed-after r.state (holds_of shape r.form r.state r.reached) x may r.words.member r.words.member r.lines r.lines r.places places' (λ b i opened. refl) (λ j b is. row j b is) (map-brings r.state g.of_module n) r.gives r.frees r.freed)
    (ap (λ (p : Plan). p.freeing) k.is) (ap (λ (p : Plan). p.gives) k.is)
    (ap (λ (gs : List Made). gs ++ g ∷ []) k.ledger_is ∙ (append_assoc (opened_from 0 shape.modules) (maps_in q.deeds) (g ∷ []) ∙ ap (λ (gs : List Made). opened_from 0 shape.modules ++ gs) (sym (maps-append q.deeds (deed.Map g.of_module g.place ∷ [])))))
    (λ i. k.lines_are i ∙ sym (lines-push q.deeds (deed.Map g.of_module g.place) (λ i. refl) i))
    (λ v. refl)
    (λ v. hand_stays shape w j.world r.places places' r.ledger ledger' r.plan.current q'.current r.gives v refl refl
    (λ y t is. (t, goes_on shape s r q g k.mappings now y t is))
    (λ y c. Contains-append_left r.ledger (g ∷ []) y c)
    (λ i. let same = ap (λ (p : Plan). get_or p.current i 0) k.is in omega arith)
    (r.hands v)) in
    subst (λ (d : Stage). Adds shape s r (moved s id (Directory g.place.region) (λ _. packed g.place) (Mover (mapping q d))) x) (sym taken) (record { may = may; lawful = lawful_of shape r.form r.state r.reached x may; kept = step.kept; state = step.state })
