-- The mover's switch keeps the rule.
use Rattle.std.proofs.Common.{◌≡◌, ◌≢◌, ◌⊎◌, ⊎_elim, inl, inr, ℕ, ◌+◌, ◌<◌, ◌≤◌, Bool, cond, ◌&&◌, eqb, eqb-true, [], ◌∷◌, ◌++◌, length, get_or, set, Option, Some, None, refl, sym, ap, ◌∙◌, subst, arith}
use Rattle.std.specs.Option.{option_map}
use Rattle.std.specs.List.{Contains}
use Rattle.std.specs.FinMap as map
use Rattle.std.proofs.Math.ListN.{length-set}
use Rattle.std.proofs.lemmas.Bool.{cases_Bool, cases_eq, and_parts}
use Rattle.std.proofs.lemmas.List.{get_or-set_same, get_or-set_other}
use Rattle.std.proofs.lemmas.List.Elements.{Contains-append_left, Contains-push, Contains-push_cases}
use Rattle.ad_base.specs.declared.place.Place.{Place}
use Rattle.ad_base.specs.Place.{packed, place_at}
use Rattle.ad_events.specs.declared.mapping.Status.{Status}
use Rattle.ad_events.specs.declared.mapping.Status.TheVariants.{Fresh, Current, Out, Gone}
use Rattle.ad_events.specs.declared.mapping.Mapping.{Mapping}
use Rattle.ad_events.specs.Functions.{changed}
use Rattle.ad_events.specs.World.{mapping_of, is_current, ended}
use Rattle.ad_events.specs.Reclaim as machine
use Rattle.ad_events.proofs.Functions.{changed-here, changed-else, some≢none}
use Rattle.ad_events.proofs.Events.{current_of}
use Rattle.ad_events.proofs.WorldLemmas.{same_mapping}
use Rattle.ad_events.proofs.WorldReads.{switch-here, switch-elsewhere, switch-out}
use Rattle.ad_maps.specs.declared.shape.Shape.{Shape}
use Rattle.ad_maps.specs.declared.view.Deed.TheVariants as deed
use Rattle.ad_maps.specs.declared.view.Made.{Made}
use Rattle.ad_maps.specs.declared.view.Plan.{Plan}
use Rattle.ad_maps.specs.declared.view.Doing.TheVariants.{Mover}
use Rattle.ad_maps.specs.Laws.{Adds, SwitchLaw}
use Rattle.ad_maps.specs.Names.{Current as CurrentWord, wrote}
use Rattle.ad_maps.specs.Ledger.{unmaps_in_deeds}
use Rattle.ad_maps.specs.Rule.{St, Kept, AllMappings, IsAs, IsMapped, MappingStands, Mappings, OwnerStands, RegionStands, GiveStands, IsToGive, AreAll, CurrentStands}
use Rattle.ad_maps.specs.Steps.{made, but}
use Rattle.ad_maps.proofs.Elements.{but-from, but-to, lines-push, retires-same}
use Rattle.ad_maps.proofs.Batches.{freed-same}
use Rattle.ad_maps.proofs.Frames.{mover_step}
use Rattle.ad_maps.proofs.Freeings.{switch-brings, batching-plan}
use Rattle.ad_maps.proofs.Hands.{hand_stays}
use Rattle.ad_maps.proofs.Pinned.{gone-or}
use Rattle.ad_maps.proofs.Machine.{reached_after, lawful_of}
use Rattle.ad_maps.proofs.MappingFrames.{mapped-says, MoverKnows, mover_knows, ledger-same, one-current}
use Rattle.ad_maps.proofs.ReadLaw.{CurrentKnown, current_known}
use Rattle.ad_maps.proofs.Writes.{writes}
use Rattle.ad_maps.proofs.Telling.{deeds-more, told-quiet}

-- ---- what becomes of a mapping

-- one that was current in the module is out, and any other stays as it is
ended-cases : (m : ℕ) (x : Mapping) → (ended m x ≡ x) ⊎ ((x ≡ mapping_of m Current) × (ended m x ≡ mapping_of m Out))
ended-cases m x =
    elim (cases_Bool (eqb x.module m && is_current x.status)) [
      | inl both ↦
          let parts = and_parts (eqb x.module m) (is_current x.status) both in
          let of = eqb-true x.module m parts.0 in
          let status = current_of x.status parts.1 in
          inr (λ i. mapping_of (of i) (status i), ap (λ (b : Bool). cond b (mapping_of x.module Out) x) both ∙ ap (λ (k : ℕ). mapping_of k Out) of)
      | inr none ↦ inl (ap (λ (b : Bool). cond b (mapping_of x.module Out) x) none)
    ]

status-apart : (m n : ℕ) (s t : Status) → (s ≡ t → ⊥) → mapping_of m s ≡ mapping_of n t → ⊥
status-apart m n s t apart e = apart (ap (λ (x : Mapping). x.status) e)

-- one that isn't current stays as it is
ended-other : (m : ℕ) (x : Mapping) → x.status ≢ Current → ended m x ≡ x
ended-other m x apart = ⊎_elim (λ e. e) (λ t. absurd (apart (ap (λ (y : Mapping). y.status) t.0))) (ended-cases m x)

-- one of another module stays as it is
ended-else : (m : ℕ) (x : Mapping) → x.module ≢ m → ended m x ≡ x
ended-else m x apart = ⊎_elim (λ e. e) (λ t. absurd (apart (ap (λ (y : Mapping). y.module) t.0))) (ended-cases m x)

module _ (shape : Shape) (s : St) (r : Kept shape s) (q : Plan) (g : Made)
    (k : Mappings shape r.state.world.mappings r.places r.ledger q r.gives r.words.current r.words.directory r.words.owner r.words.cell)
    (is_fresh : IsAs r.state.world.mappings r.places g Fresh) (old : Place) (known : CurrentKnown shape s r g.of_module old) where
  abbrev n : ℕ
  n = g.place.mapping

  abbrev m : ℕ
  m = g.of_module

  abbrev ms : AllMappings
  ms = r.state.world.mappings

  abbrev ms' : AllMappings
  ms' = (machine.after r.state (machine.Switch m n)).world.mappings

  here : map.get ms' n ≡ Some (mapping_of m Current)
  here = switch-here r.state.world m n n refl

  else : (i : ℕ) → i ≢ n → map.get ms' i ≡ option_map (ended m) (map.get ms i)
  else i ne = switch-elsewhere r.state.world m n i ne

  -- a mapping that isn't Fresh isn't the new one
  apart : (i : ℕ) (x : Mapping) → map.get ms i ≡ Some x → x.status ≢ Fresh → i ≢ n
  apart i x there ne e = ne (ap (λ (y : Mapping). y.status) (same_mapping x (mapping_of m Fresh) (sym there ∙ (ap (map.get ms) e ∙ is_fresh.there))))

  goes : (i : ℕ) (x : Mapping) → i ≢ n → map.get ms i ≡ Some x → map.get ms' i ≡ Some (ended m x)
  goes i x ne there = else i ne ∙ ap (option_map (ended m)) there

  -- where a mapping comes from
  data From (i : ℕ) (x : Mapping) : Type 0 where
    new : i ≡ n → x ≡ mapping_of m Current → From i x
    same : i ≢ n → map.get ms i ≡ Some x → From i x
    out : i ≢ n → map.get ms i ≡ Some (mapping_of m Current) → x ≡ mapping_of m Out → From i x

  from : (i : ℕ) (x : Mapping) → map.get ms' i ≡ Some x → From i x
  from i x there =
      elim (cases_eq i n) [
        | inl e ↦ new e (same_mapping x (mapping_of m Current) (sym there ∙ (ap (map.get ms') e ∙ here)))
        | inr ne ↦ by_old ne (map.get ms i) refl
      ]
    where
      by_old : i ≢ n → (o : Option Mapping) → map.get ms i ≡ o → From i x
      by_old ne None e = absurd (some≢none x (sym there ∙ (else i ne ∙ ap (option_map (ended m)) e)))
      by_old ne (Some y) e =
          let is : ended m y ≡ x = same_mapping (ended m y) x (sym (goes i y ne e) ∙ there) in
          ⊎_elim
          (λ stays. same ne (e ∙ ap (λ (z : Mapping). Some z) (sym stays ∙ is)))
          (λ ends. out ne (e ∙ ap (λ (z : Mapping). Some z) ends.0) (sym is ∙ ends.1))
          (ended-cases m y)

  -- a mapping goes on, and isn't Gone by this
  pub keeps : (i : ℕ) (x : Mapping) → map.get ms i ≡ Some x → (t : Status) × (map.get ms' i ≡ Some (mapping_of x.module t)) × ((x.status ≡ t) ⊎ (t ≢ Gone))
  keeps i x there =
      elim (cases_eq i n) [
        | inl e ↦
            let is = same_mapping x (mapping_of m Fresh) (sym there ∙ (ap (map.get ms) e ∙ is_fresh.there)) in
            (Current, ap (map.get ms') e ∙ (here ∙ ap (λ (y : Mapping). Some (mapping_of y.module Current)) (sym is)), inr (λ z. let f : ⊥ = cc in f))
        | inr ne ↦ ⊎_elim
            (λ stays. (x.status, goes i x ne there ∙ ap (λ (z : Mapping). Some z) stays, inl refl))
            (λ ends. (Out, goes i x ne there ∙ (ap (λ (z : Mapping). Some z) ends.1 ∙ ap (λ (y : Mapping). Some (mapping_of y.module Out)) (sym ends.0)), inr (λ z. let f : ⊥ = cc in f)))
            (ended-cases m x)
      ]

  pub goes_on : (y : Made) (t : Status) → IsAs ms r.places y t → (u : Status) × IsAs ms' r.places y u
  goes_on y t is = let on = keeps y.place.mapping (mapping_of y.of_module t) is.there in (on.0, record { there = on.1; placed = is.placed })

  -- one that isn't Fresh or Current keeps its status
  stays : (y : Made) (t : Status) → t ≢ Fresh → t ≢ Current → IsAs ms r.places y t → IsAs ms' r.places y t
  stays y t ne other is = record {
    there = goes y.place.mapping (mapping_of y.of_module t) (apart y.place.mapping (mapping_of y.of_module t) is.there ne) is.there ∙ ap (λ (z : Mapping). Some z) (ended-other m (mapping_of y.of_module t) other);
    placed = is.placed;
  }

  mapped : (i : ℕ) (x : Mapping) → map.get ms i ≡ Some x → x.status ≢ Gone → IsMapped shape r.words.directory r.words.owner r.words.cell x.module (r.places i)
  mapped i x there ne = ⊎_elim (λ gone. absurd (ne gone.0)) (λ t. t.1) (gone-or shape r.words.directory r.words.owner r.words.cell x.module (r.places i) x.status (k.each i x there).words)

  -- a mapping with another status, which isn't Gone, stands
  restated : (i : ℕ) (s t : Status) (j : ℕ) → map.get ms i ≡ Some (mapping_of j s) → s ≢ Gone → t ≢ Gone → MappingStands shape r.ledger r.words.directory r.words.owner r.words.cell (r.places i) i (mapping_of j t)
  restated i s t j there ne other = let was = k.each i (mapping_of j s) there in record {
    number = was.number;
    form = was.form;
    listed = was.listed;
    words = mapped-says shape r.words.directory r.words.owner r.words.cell j (r.places i) t other (mapped i (mapping_of j s) there ne);
  }

  each' : (i : ℕ) (x : Mapping) → map.get ms' i ≡ Some x → MappingStands shape r.ledger r.words.directory r.words.owner r.words.cell (r.places i) i x
  each' i x there = by_from (from i x there)
    where
      by_from : From i x → MappingStands shape r.ledger r.words.directory r.words.owner r.words.cell (r.places i) i x
      by_from (new e is) = subst (MappingStands shape r.ledger r.words.directory r.words.owner r.words.cell (r.places i) i) (sym is) (restated i Fresh Current m (ap (map.get ms) e ∙ is_fresh.there) (λ z. let f : ⊥ = cc in f) (λ z. let f : ⊥ = cc in f))
      by_from (same ne was) = k.each i x was
      by_from (out ne was is) = subst (MappingStands shape r.ledger r.words.directory r.words.owner r.words.cell (r.places i) i) (sym is) (restated i Current Out m was (λ z. let f : ⊥ = cc in f) (λ z. let f : ⊥ = cc in f))

  each_current' : m < length shape.modules → (i : ℕ) → i < length shape.modules → CurrentStands ms' r.places (set q.current m n) (changed r.words.current m (packed g.place)) i
  each_current' low i l =
      elim (cases_eq i m) [
        | inl e ↦
            let number : get_or (set q.current m n) i 0 ≡ n = ap (λ (j : ℕ). get_or (set q.current m n) j 0) e ∙ get_or-set_same q.current m n 0 (let wide = k.wide in omega arith) in record {
              there = ap (map.get ms') number ∙ (here ∙ ap (λ (j : ℕ). Some (mapping_of j Current)) (sym e));
              word = changed-here r.words.current m (packed g.place) i e ∙ ap packed (sym is_fresh.placed ∙ ap r.places (sym number));
            }
        | inr ne ↦
            let number : get_or (set q.current m n) i 0 ≡ get_or q.current i 0 = get_or-set_other q.current m i n 0 ne in
            let was = k.each_current i l in
            let c = get_or q.current i 0 in record {
              there = ap (map.get ms') number ∙ (goes c (mapping_of i Current) (apart c (mapping_of i Current) was.there (λ z. let f : ⊥ = cc in f)) was.there ∙ ap (λ (z : Mapping). Some z) (ended-else m (mapping_of i Current) ne));
              word = changed-else r.words.current m (packed g.place) i ne ∙ (was.word ∙ ap (λ (j : ℕ). packed (r.places j)) (sym number));
            }
      ]

  each_region' : (v : ℕ) → RegionStands ms' r.places r.words.directory v
  each_region' v has = let was = k.each_region v has in let on = keeps was.0 was.1 was.2 in (was.0, mapping_of was.1.module on.0, on.1, was.3)

  each_owner' : (f : ℕ) → OwnerStands ms' r.places (IsToGive r.gives) q.stage f (r.words.owner f)
  each_owner' f = ⊎_elim inl
      (λ d. ⊎_elim
      (λ t. let on = keeps (r.words.owner f) t.0 t.1 in inr (inl (mapping_of t.0.module on.0, on.1, ⊎_elim (λ e z. t.2 (e ∙ z)) (λ z. z) on.2, t.3)))
      (λ d. inr (inr d)) d)
      (k.each_owner f)

  each_give' : (p : Place) → IsToGive r.gives p → GiveStands ms' r.places r.words.owner p
  each_give' p c = let was = k.each_give p c in record { «module» = was.module; gone = stays (made was.module p) Gone (λ z. let f : ⊥ = cc in f) (λ z. let f : ⊥ = cc in f) was.gone; owns = was.owns }

  fresh' : AreAll ms' r.places (but n q.fresh) Fresh
  fresh' = record {
    each = λ y c. (let t = but-from n q.fresh y c in let is = k.fresh.each y t.0 in record {
      there = goes y.place.mapping (mapping_of y.of_module Fresh) t.1 is.there ∙ ap (λ (z : Mapping). Some z) (ended-other m (mapping_of y.of_module Fresh) (λ z. let f : ⊥ = cc in f));
      placed = is.placed;
    });
    only = λ i j there. by_from i j (from i (mapping_of j Fresh) there);
  }
    where
      by_from : (i j : ℕ) → From i (mapping_of j Fresh) → Contains (but n q.fresh) (made j (r.places i))
      by_from i j (new e is) = absurd (status-apart j m Fresh Current (λ z. let f : ⊥ = cc in f) is)
      by_from i j (same ne was) = but-to n q.fresh (made j (r.places i)) (k.fresh.only i j was) (λ e. ne (sym (k.each i (mapping_of j Fresh) was).number ∙ e))
      by_from i j (out ne was is) = absurd (status-apart j m Fresh Out (λ z. let f : ⊥ = cc in f) is)

  outs' : AreAll ms' r.places (q.outs ++ made m old ∷ []) Out
  outs' = record {
    each = λ y c. ⊎_elim (λ before. stays y Out (λ z. let f : ⊥ = cc in f) (λ z. let f : ⊥ = cc in f) (k.outs.each y before)) (λ e. subst (λ (z : Made). IsAs ms' r.places z Out) e went) (Contains-push_cases q.outs (made m old) y c);
    only = λ i j there. by_from i j (from i (mapping_of j Out) there);
  }
    where
      went : IsAs ms' r.places (made m old) Out
      went = record {
        there = switch-out r.state.world m n old.mapping (apart old.mapping (mapping_of m Current) known.is.there (λ z. let f : ⊥ = cc in f)) known.is.there;
        placed = known.is.placed;
      }

      by_from : (i j : ℕ) → From i (mapping_of j Out) → Contains (q.outs ++ made m old ∷ []) (made j (r.places i))
      by_from i j (new e is) = absurd (status-apart j m Out Current (λ z. let f : ⊥ = cc in f) is)
      by_from i j (same ne was) = Contains-append_left q.outs (made m old ∷ []) (made j (r.places i)) (k.outs.only i j was)
      by_from i j (out ne was is) =
          let of : m ≡ j = ap (λ (x : Mapping). x.module) (sym is) in
          let number = one-current shape s r m i old.mapping was known.is.there in
          let place : old ≡ r.places i = sym known.is.placed ∙ ap r.places (sym number) in
          subst (Contains (q.outs ++ made m old ∷ [])) (λ t. made (of t) (place t)) (Contains-push q.outs (made m old))

  pub mappings' : m < length shape.modules → Mappings shape ms' r.places r.ledger
      (record q { current = set q.current m n; fresh = but n q.fresh; outs = q.outs ++ made m old ∷ []; deeds = q.deeds ++ deed.Switch m g.place ∷ [] })
      r.gives (changed r.words.current m (packed g.place)) r.words.directory r.words.owner r.words.cell
  mappings' low = record {
    each = each';
    each_made = λ y c. (let was = k.each_made y c in goes_on y was.0 was.1);
    wide = length-set q.current m n ∙ k.wide;
    each_current = each_current' low;
    each_region = each_region';
    each_owner = each_owner';
    newest = k.newest;
    each_give = each_give';
    past_cells = k.past_cells;
    fresh = fresh';
    outs = outs';
    rooms = k.rooms;
    stage = k.stage;
  }

pub switch_law : SwitchLaw
switch_law shape s r id q g at fresh above =
    let k = mover_knows shape s r id q at in
    let is_fresh = k.mappings.fresh.each g fresh in
    let low = (k.mappings.each g.place.mapping _ is_fresh.there).form.for_module in
    switch_with (place_at (get_or s.words (16 + g.of_module) 0)) k is_fresh low (current_known shape s r g.of_module low)
  where
    switch_with : (old : Place) → MoverKnows shape s r id q → IsAs r.state.world.mappings r.places g Fresh → g.of_module < length shape.modules → CurrentKnown shape s r g.of_module old
        → Adds shape s r (record {
          words = set s.words (16 + g.of_module) (packed g.place);
          homes = s.homes;
          views = set s.views id (Mover (record q { current = set q.current g.of_module g.place.mapping; fresh = but g.place.mapping q.fresh; outs = q.outs ++ made g.of_module old ∷ []; deeds = q.deeds ++ deed.Switch g.of_module g.place ∷ [] }));
        }) (machine.Switch g.of_module g.place.mapping)
    switch_with old k is_fresh low known =
        let m = g.of_module in
        let n = g.place.mapping in
        let few = r.form.few_modules in
        let x : machine.Step = machine.Switch m n in
        let may : machine.MayStep r.state x = is_fresh.there in
        let j = machine.after r.state x in
        let q' : Plan = record q { current = set q.current m n; fresh = but n q.fresh; outs = q.outs ++ made m old ∷ []; deeds = q.deeds ++ deed.Switch m g.place ∷ [] } in
        let wide = k.mappings.wide in
        let rises : (i : ℕ) → get_or r.plan.current i 0 ≤ get_or q'.current i 0 = λ i.
        (let same = ap (λ (p : Plan). get_or p.current i 0) k.is in
        elim (cases_eq i m) [
          | inl e ↦ let now : get_or (set q.current m n) i 0 ≡ n = ap (λ (t : ℕ). get_or (set q.current m n) t 0) e ∙ get_or-set_same q.current m n 0 (omega arith) in let before = ap (λ (t : ℕ). get_or q.current t 0) e in omega arith
          | inr ne ↦ let now : get_or (set q.current m n) i 0 ≡ get_or q.current i 0 = get_or-set_other q.current m i n 0 ne in omega arith
        ]) in
        let step = mover_step shape s r id q' k.mine (set s.words (16 + m) (packed g.place)) (wrote r.words (CurrentWord m) (packed g.place)) j r.places r.ledger
        (ap (λ (p : Plan). p.slots) k.is) (ap (λ (p : Plan). p.dealt) k.is) (ap (λ (p : Plan). p.back) k.is)
        (writes s.words r.words (CurrentWord m) (packed g.place) (let l : m < 8 = omega arith in l) r.reads)
        (reached_after shape r.state x r.reached may)
        (told-quiet shape r.state r.reached machine.Mover x may (unmaps_in_deeds r.plan.deeds) (unmaps_in_deeds q'.deeds) (λ c n. refl) (deeds-more q r.plan (deed.Switch m g.place) k.is (λ i. refl)))
        (mappings' shape s r q g k.mappings is_fresh old known low)
        r.owing
        (batching-plan r.state.owed r.state.batch r.words.member q q' refl refl (retires-same q.deeds (deed.Switch m g.place) refl) k.batching)
        (freed-same shape s r x may (switch-brings r.state m n))
        (ap (λ (p : Plan). p.freeing) k.is) (ap (λ (p : Plan). p.gives) k.is)
        (k.ledger_is ∙ sym (ledger-same shape q.deeds (deed.Switch m g.place) refl))
        (λ i. k.lines_are i ∙ sym (lines-push q.deeds (deed.Switch m g.place) (λ i. refl) i))
        (λ v. refl)
        (λ v. hand_stays shape r.state.world j.world r.places r.places r.ledger r.ledger r.plan.current q'.current r.gives v refl refl (goes_on shape s r q g k.mappings is_fresh old known) (λ y c. c) rises (r.hands v)) in
        record { may = may; lawful = lawful_of shape r.form r.state r.reached x may; kept = step.kept; state = step.state }
