-- What the tests keep of a table and its mover, through a move and a retire.
use Rattle.std.proofs.Common.{◌≡◌, ◌≢◌, ⊎_elim, inl, inr, ℕ, zero, suc, ◌+◌, ◌<◌, ◌≤◌, List, [], ◌∷◌, ◌++◌, length, get_or, set, IfSome, refl, sym, ap, ◌∙◌, subst, arith}
use Rattle.std.specs.List.{slice_get, Contains}
use Rattle.atomic_table.specs.Seated.{TableId}
use Rattle.ad_maps.specs.Rows.{AreAllSeats}
use Rattle.std.proofs.Math.ListN.{length-set}
use Rattle.std.proofs.lemmas.Bool.{cases_eq}
use Rattle.std.proofs.lemmas.List.{get_or-set_same, get_or-set_other, get_or_default}
use Rattle.std.proofs.lemmas.List.Elements.{Contains-append_left, Contains-push, Contains-push_cases}
use Rattle.std.proofs.lemmas.List.Quantifiers.{all_pairs_push}
use Rattle.ad_base.specs.declared.place.Place.{Place}
use Rattle.ad_maps.specs.declared.view.Deed.{Deed}
use Rattle.ad_maps.specs.declared.view.Deed.TheVariants as deed
use Rattle.ad_maps.specs.declared.view.Made.{Made}
use Rattle.ad_maps.specs.Ledger.{all_made}
use Rattle.ad_maps.specs.Seen.{looks_from, AddsRetires, AreOuts, MoverSeen, OpenMaps, SeatSeen}
use Rattle.ad_maps.specs.Steps.{made}
use Rattle.ad_maps.specs.Private.Trials.{MayMove}
use Rattle.ad_maps.proofs.Elements.{none-in}
use Rattle.ad_maps.proofs.Ledgers.{all-after_looks, all-after_map, all-after_retires, all-after_switch}

pub none-out : (all : List Made) → AreOuts all []
none-out all = record { each = λ g c. absurd (none-in g c); differ = λ i j d before inside. absurd (omega arith) }

-- the same mappings are current and no other was made, and the number may rise
may-stay : (maps : OpenMaps) (mover mover' : MoverSeen) (away away' : List Made) (number number' : ℕ) → MayMove maps mover away number → mover'.table ≡ mover.table → mover'.current ≡ mover.current → number ≤ number'
    → ((f : Made → ℕ) (n : ℕ) → ((x : Made) → Contains (all_made maps.shape mover.deeds) x → f x < n) → (x : Made) → Contains (all_made maps.shape mover'.deeds) x → f x < n) → AreOuts mover'.outs away' → MayMove maps mover' away' number'
may-stay maps mover mover' away away' number number' may table current rises made_before outs = record {
  table = table ∙ may.table;
  frames = may.frames;
  pages = may.pages;
  cells = may.cells;
  currents = ap length current ∙ may.currents;
  current = λ m low. (let same = ap (λ (ns : List ℕ). get_or ns m 0) current in let below = may.current m low in omega arith);
  above = λ x c. (let l = made_before (λ y. y.place.mapping) number may.above x c in omega arith);
  region = λ x c. (let l = made_before (λ y. y.place.region) (2 + number) may.region x c in omega arith);
  outs = outs;
}

-- the mover has looked at frames, and the number goes by
pub may-look : (maps : OpenMaps) (mover mover' : MoverSeen) (away : List Made) (number first : ℕ) (owners : List ℕ) → MayMove maps mover away number
    → mover'.table ≡ mover.table → mover'.current ≡ mover.current → mover'.outs ≡ mover.outs → mover'.deeds ≡ mover.deeds ++ looks_from first owners → MayMove maps mover' away (number + 1)
may-look maps mover mover' away number first owners may table current outs deeds = may-stay maps mover mover' away away number (number + 1) may table current (omega arith)
    (λ f n old. all-after_looks (λ x. f x < n) maps.shape mover.deeds mover'.deeds first owners deeds old) (subst (λ (gs : List Made). AreOuts gs away) (sym outs) may.outs)

-- one mapping more is out
outs-more : (all all' away away' : List Made) (out : Made) → all' ≡ all ++ out ∷ [] → away' ≡ away ++ out ∷ [] → ((g : Made) → Contains all g → g.place.mapping ≢ out.place.mapping) → AreOuts all away → AreOuts all' away'
outs-more all all' away away' out is is_away new are = subst (λ (gs : List Made). AreOuts gs away') (sym is) (subst (AreOuts (all ++ out ∷ [])) (sym is_away) (record {
  each = λ g c. ⊎_elim (λ old. Contains-append_left all (out ∷ []) g (are.each g old)) (λ e. subst (Contains (all ++ out ∷ [])) e (Contains-push all out)) (Contains-push_cases away out g c);
  differ = all_pairs_push (λ (g h : Made). g.place.mapping ≢ h.place.mapping) away out are.differ (λ i d inside same. new (get_or away i d) (are.each (get_or away i d) (i, inside, get_or_default away i (get_or away i d) d inside)) same);
}))

module _ (maps : OpenMaps) (mover one two three : MoverSeen) (away away' : List Made) (number first m k : ℕ) (owners : List ℕ) (p q : Place) (out : Made) (may : MayMove maps mover away number)
    (looks : one.deeds ≡ mover.deeds ++ looks_from first owners) (maps_it : two.deeds ≡ one.deeds ++ deed.Map m p ∷ []) (switches : three.deeds ≡ two.deeds ++ deed.Switch k q ∷ []) where
  all-below : (f : Made → ℕ) (n : ℕ) → ((x : Made) → Contains (all_made maps.shape mover.deeds) x → f x < n) → f (made m p) < 1 + n → (x : Made) → Contains (all_made maps.shape three.deeds) x → f x < 1 + n
  all-below f n old new = all-after_switch (λ x. f x < 1 + n) maps.shape two.deeds three.deeds k q switches
      (subst (λ (ds : List Deed). (x : Made) → Contains (all_made maps.shape ds) x → f x < 1 + n) (sym maps_it)
      (all-after_map (λ x. f x < 1 + n) maps.shape one.deeds m p (all-after_looks (λ x. f x < 1 + n) maps.shape mover.deeds one.deeds first owners looks (λ x c. let l = old x c in omega arith)) new))

  -- the mover has made a mapping of this number current
  pub may-moved : three.table ≡ mover.table → three.current ≡ set mover.current k number → three.outs ≡ mover.outs ++ out ∷ [] → away' ≡ away ++ out ∷ [] → p.mapping ≡ number → p.region ≡ 2 + number
      → ((g : Made) → Contains mover.outs g → g.place.mapping ≢ out.place.mapping) → MayMove maps three away' (number + 1)
  may-moved table current outs is_away is is_region new = record {
    table = table ∙ may.table;
    frames = may.frames;
    pages = may.pages;
    cells = may.cells;
    currents = ap length current ∙ (length-set mover.current k number ∙ may.currents);
    current = λ i low.
        (let same = ap (λ (ns : List ℕ). get_or ns i 0) current in
        let wide = may.currents in
        elim (cases_eq i k) [
          | inl e ↦ let now : get_or (set mover.current k number) i 0 ≡ number = ap (λ (t : ℕ). get_or (set mover.current k number) t 0) e ∙ get_or-set_same mover.current k number 0 (omega arith) in omega arith
          | inr ne ↦ let now : get_or (set mover.current k number) i 0 ≡ get_or mover.current i 0 = get_or-set_other mover.current k i number 0 ne in let below = may.current i low in omega arith
        ]);
    above = λ x c. (let l = all-below (λ y. y.place.mapping) number may.above (omega arith) x c in omega arith);
    region = λ x c. (let l = all-below (λ y. y.place.region) (2 + number) may.region (omega arith) x c in omega arith);
    outs = outs-more mover.outs three.outs away away' out outs is_away new may.outs;
  }

-- the mover has retired what was out
pub may-retired : (maps : OpenMaps) (mover mover' : MoverSeen) (away away' : List Made) (line : ℕ) → away' ≡ [] → mover'.table ≡ mover.table → mover'.current ≡ mover.current → AddsRetires away line mover.deeds mover'.deeds
    → (number : ℕ) → MayMove maps mover away number → MayMove maps mover' away' number
may-retired maps mover mover' away away' line empty table current adds number may = may-stay maps mover mover' away away' number number may table current (omega arith)
    (λ f n old. all-after_retires (λ x. f x < n) maps.shape away line mover.deeds mover'.deeds adds old) (subst (AreOuts mover'.outs) (sym empty) (none-out mover'.outs))

-- all seats of a table of two workers
pub two-seats : (table : TableId) (first second : SeatSeen) → first.table ≡ table → first.worker ≡ 0 → second.table ≡ table → second.worker ≡ 1 → AreAllSeats table 2 (first ∷ second ∷ [])
two-seats table first second at_first one at_second two = record { count = refl; each = each }
  where
    each : (w : ℕ) → IfSome (slice_get (first ∷ second ∷ []) w) (λ s. (s.table ≡ table) × (s.worker ≡ w))
    each zero = (at_first, one)
    each (suc zero) = (at_second, two)
    each (suc (suc w)) = tt
