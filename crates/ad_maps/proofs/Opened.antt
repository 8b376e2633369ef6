-- The rule holds of the table as it is opened.
use Rattle.std.proofs.Common.{◌≡◌, ◌≢◌, ⊎_elim, inl, inr, ℕ, zero, suc, ◌+◌, ◌*◌, ◌%◌, ◌^◌, ◌<◌, Bool, cond, eqb, eq-eqb, ne_eqb, List, [], ◌∷◌, append-nil, length, get_or, Some, refl, sym, ap, ◌∙◌, subst, arith}
use Rattle.std.specs.List.{Contains}
use Rattle.std.specs.Prelude.{replicate}
use Rattle.std.specs.FinMap as map
use Rattle.std.proofs.lemmas.Bool.{cases_lt}
use Rattle.std.proofs.lemmas.List.{length-map, length-replicate, get_or-replicate, get_or_past}
use Rattle.std.proofs.lemmas.List.Elements.{Contains-append_left}
use mathlib.Core.Option.{some, some-injective, some-ne-none}
use lib.ListN.{get_elem?}
use Rattle.atomic_table.specs.Table.{opening}
use Rattle.ad_base.specs.declared.place.Place.{Place}
use Rattle.ad_base.specs.Place.{packed}
use Rattle.ad_events.specs.declared.mapping.Status.{Status}
use Rattle.ad_events.specs.declared.mapping.Status.TheVariants.{Fresh, Current, Out}
use Rattle.ad_events.specs.declared.mapping.Mapping.{Mapping}
use Rattle.ad_events.specs.World.{mapping_of}
use Rattle.ad_events.specs.Owed as owing
use Rattle.ad_events.specs.Owed.{slot_at}
use Rattle.ad_events.specs.OwedLaws.{slot_word}
use Rattle.ad_events.specs.Reclaim as machine
use Rattle.ad_events.proofs.Functions.{some≢none}
use Rattle.ad_events.specs.WorldLaws.{OpeningHas}
use Rattle.ad_events.proofs.OwedRuns.{no_batch, opening-away}
use Rattle.ad_events.proofs.WorldReads.{opening-has}
use Rattle.ad_maps.specs.declared.shape.Opening.{Opening}
use Rattle.ad_maps.specs.declared.shape.Shape.{Shape}
use Rattle.ad_maps.specs.declared.view.Freeing.TheVariants as freeing
use Rattle.ad_maps.specs.declared.view.Hand.{Hand}
use Rattle.ad_maps.specs.declared.view.Made.{Made}
use Rattle.ad_maps.specs.declared.view.Plan.{Plan}
use Rattle.ad_maps.specs.declared.view.Doing.{Doing}
use Rattle.ad_maps.specs.declared.view.Doing.TheVariants.{Mover}
use Rattle.ad_maps.specs.Ledger.{opened_from, all_made}
use Rattle.ad_maps.specs.MapPlace.{no_opening, nowhere, module_of_frame, opening_of, numbers, IsPlaceOf, IsShape}
use Rattle.ad_maps.specs.Rule.{AllMappings, IsAs, Kept, Knows, Mappings, MappingStands, OwnersAreNewest, starting, starting_plan}
use Rattle.ad_maps.specs.Steps.{made, new_hand}
use Rattle.ad_maps.specs.Private.Laid.{place_of_module, Laid}
use Rattle.ad_maps.proofs.Elements.{none-in, cons-cases, cons-here, cons-later}
use Rattle.ad_maps.proofs.Machine.{number_at, differ}
use Rattle.ad_maps.proofs.Openings.{frame-of}

-- ---- the places by number, and the ledger

-- the place of a mapping of the opening, by its number
abbrev place_by : List Opening → ℕ → Place
place_by [] n = nowhere
place_by (o ∷ os) n = cond (eqb o.place.mapping n) o.place (place_by os n)

place_by-at : (os : List Opening) → ((i j : ℕ) → i < j → j < length os → (get_or os i no_opening).place.mapping ≢ (get_or os j no_opening).place.mapping) → (m : ℕ) → m < length os
    → place_by os (get_or os m no_opening).place.mapping ≡ (get_or os m no_opening).place
place_by-at [] apart m low = absurd (omega arith)
place_by-at (o ∷ os) apart zero low = ap (λ (b : Bool). cond b o.place (place_by os o.place.mapping)) (eq-eqb o.place.mapping o.place.mapping refl)
place_by-at (o ∷ os) apart (suc m) low =
    let n = (get_or os m no_opening).place.mapping in
    ap (λ (b : Bool). cond b o.place (place_by os n)) (ne_eqb o.place.mapping n (apart zero (suc m) (omega arith) low))
    ∙ place_by-at os (λ i j before inside. apart (suc i) (suc j) (omega arith) (omega arith)) m (omega arith)

opened-has : (n : ℕ) (os : List Opening) (m : ℕ) → m < length os → Contains (opened_from n os) (made (n + m) (get_or os m no_opening).place)
opened-has n [] m low = absurd (omega arith)
opened-has n (o ∷ os) zero low = cons-here (made n o.place) (opened_from (n + 1) os) (made (n + 0) o.place) (let same : n ≡ n + 0 = omega arith in ap (λ (i : ℕ). made i o.place) same)
opened-has n (o ∷ os) (suc m) low = cons-later (made n o.place) (opened_from (n + 1) os) (made (n + suc m) (get_or os m no_opening).place)
    (subst (λ (i : ℕ). Contains (opened_from (n + 1) os) (made i (get_or os m no_opening).place)) (let same : n + 1 + m ≡ n + suc m = omega arith in same) (opened-has (n + 1) os m (omega arith)))

opened-is : (n : ℕ) (os : List Opening) (g : Made) → Contains (opened_from n os) g → (m : ℕ) × (m < length os) × (g ≡ made (n + m) (get_or os m no_opening).place)
opened-is n [] g c = absurd (none-in g c)
opened-is n (o ∷ os) g c = ⊎_elim
    (λ e. (zero, (omega arith), sym e ∙ (let same : n ≡ n + 0 = omega arith in ap (λ (i : ℕ). made i o.place) same)))
    (λ d. let later = opened-is (n + 1) os g d in (suc later.0, (let b = later.1 in omega arith), later.2 ∙ (let same : n + 1 + later.0 ≡ n + suc later.0 = omega arith in ap (λ (i : ℕ). made i (get_or os later.0 no_opening).place) same)))
    (cons-cases (made n o.place) (opened_from (n + 1) os) g c)

-- what holds of the first mapping of each module holds of all that was made at the opening
pub opened-all : (P : Made → Type 0) (shape : Shape) → ((m : ℕ) → m < length shape.modules → P (made m (opening_of shape m).place)) → (x : Made) → Contains (all_made shape []) x → P x
opened-all P shape each x c =
    let t = opened-is 0 shape.modules x (subst (λ (gs : List Made). Contains gs x) (append-nil (opened_from 0 shape.modules)) c) in
    let same : 0 + t.0 ≡ t.0 = omega arith in
    subst P (ap (λ (i : ℕ). made i (opening_of shape t.0).place) (sym same) ∙ sym t.2) (each t.0 t.1)

-- the first mapping of each module has a place of the module
first-place : (shape : Shape) → IsShape shape → (m : ℕ) → m < length shape.modules → IsPlaceOf shape m (opening_of shape m).place
first-place shape form m low = record { for_module = low; place = (form.each m low).place; size = refl; frame = frame-of shape form m low }

-- and so has each mapping that was made at the opening
pub opened-places : (shape : Shape) → IsShape shape → (x : Made) → Contains (all_made shape []) x → IsPlaceOf shape x.of_module x.place
opened-places shape form = opened-all (λ (x : Made). IsPlaceOf shape x.of_module x.place) shape (first-place shape form)

-- ---- the machine at the opening

slot-opening : (slots seats s : ℕ) → slot_word (owing.owed_opening slots seats) s ≡ 0
slot-opening slots seats s = ap (λ (x : owing.Slot). 2 ^ 32 * x.pushed + x.inside) here
  where
    empty : owing.Slot
    empty = record { inside = 0; pushed = 0 }

    here : slot_at (owing.owed_opening slots seats) s ≡ record { inside = 0; pushed = 0 }
    here =
        elim (cases_lt s slots) [
          | inl low ↦ get_or-replicate slots s empty empty low
          | inr far ↦ get_or_past (replicate slots empty) s empty (let same = length-replicate slots empty in omega arith)
        ]

module _ (shape : Shape) (form : IsShape shape) (xs : List ℕ) (laid : Laid shape (length shape.modules) xs) where
  abbrev places : ℕ → Place
  places = place_by shape.modules

  abbrev ms : AllMappings
  ms = (machine.reclaim_opening shape.slots shape.workers (numbers shape)).world.mappings

  abbrev ledger : List Made
  ledger = all_made shape []

  place : ℕ → Place
  place m = place_of_module shape m

  has : OpeningHas shape.workers (numbers shape)
  has = opening-has shape.workers (numbers shape) (differ shape form)

  long : length (numbers shape) ≡ length shape.modules
  long = length-map shape.modules (λ (o : Opening). o.place.mapping)

  placed : (m : ℕ) → m < length shape.modules → places (place_of_module shape m).mapping ≡ place_of_module shape m
  placed m low = place_by-at shape.modules form.numbers_differ m low

  is_current : (m : ℕ) → m < length shape.modules → IsAs ms places (made m (place_of_module shape m)) Current
  is_current m low = record { there = ap (map.get ms) (sym (number_at shape m low)) ∙ has.given m (omega (arith, long)); placed = placed m low }

  -- a mapping of the world is that of a module, and current
  from : (n : ℕ) (x : Mapping) → map.get ms n ≡ Some x → (m : ℕ) × (m < length shape.modules) × ((place_of_module shape m).mapping ≡ n) × (x ≡ mapping_of m Current)
  from n x there = let t = has.no_other n x there in let low : t.0 < length shape.modules = (let b = t.1 in omega (arith, long)) in (t.0, low, sym (number_at shape t.0 low) ∙ t.2, t.3)

  listed : (m : ℕ) → m < length shape.modules → Contains ledger (made m (place_of_module shape m))
  listed m low = Contains-append_left (opened_from 0 shape.modules) [] (made m (place_of_module shape m)) (subst (λ (i : ℕ). Contains (opened_from 0 shape.modules) (made i (place_of_module shape m))) (let same : 0 + m ≡ m = omega arith in same) (opened-has 0 shape.modules m low))

  stands : (m : ℕ) → m < length shape.modules → MappingStands shape ledger laid.words.directory laid.words.owner laid.words.cell (place_of_module shape m) (place_of_module shape m).mapping (mapping_of m Current)
  stands m low = record {
    number = refl;
    form = first-place shape form m low;
    listed = listed m low;
    words = record { word = laid.laid.directory m low; owns = laid.laid.owner m low; cells = λ e b. laid.laid.cells m low e };
  }

  none-other : (s : Status) → s ≢ Current → (n m : ℕ) → map.get ms n ≡ Some (mapping_of m s) → ⊥
  none-other s apart n m there = apart (ap (λ (x : Mapping). x.status) (from n (mapping_of m s) there).3)

  -- in a frame of the table as it is opened no mapping was made but the first of a module
  newest-opened : OwnersAreNewest ledger laid.words.owner
  newest-opened f owned x c in_frame =
      let t = opened-is 0 shape.modules x (subst (λ (gs : List Made). Contains gs x) (append-nil (opened_from 0 shape.modules)) c) in
      let place : x.place ≡ place_of_module shape t.0 = ap (λ (y : Made). y.place) t.2 in
      ⊎_elim (λ none. absurd (owned none))
      (λ o.
      let here : (place_of_module shape t.0).frame ≡ (place_of_module shape o.0).frame = ap (λ (p : Place). p.frame) (sym place) ∙ (in_frame ∙ sym o.2) in
      let of : t.0 ≡ o.0 = sym (frame-of shape form t.0 t.1) ∙ (ap (module_of_frame shape) here ∙ frame-of shape form o.0 o.1) in
      let number : x.place.mapping ≡ laid.words.owner f = ap (λ (p : Place). p.mapping) (place ∙ ap (place_of_module shape) of) ∙ sym o.3 in omega arith)
      (laid.laid.owned f)

  mappings : Mappings shape ms places ledger (starting_plan shape) (λ _. [])
      laid.words.current laid.words.directory laid.words.owner laid.words.cell
  mappings = record {
    each = λ n x there.
        (let t = from n x there in
        subst (λ (y : Mapping). MappingStands shape ledger laid.words.directory laid.words.owner laid.words.cell (places n) n y) (sym t.3)
        (subst (λ (k : ℕ). MappingStands shape ledger laid.words.directory laid.words.owner laid.words.cell (places k) k (mapping_of t.0 Current)) t.2
        (subst (λ (p : Place). MappingStands shape ledger laid.words.directory laid.words.owner laid.words.cell p (place_of_module shape t.0).mapping (mapping_of t.0 Current)) (sym (placed t.0 t.1)) (stands t.0 t.1))));
    each_made = λ g c.
        (let t = opened-is 0 shape.modules g (subst (λ (gs : List Made). Contains gs g) (append-nil (opened_from 0 shape.modules)) c) in
        let same : 0 + t.0 ≡ t.0 = omega arith in
        let is : made t.0 (place_of_module shape t.0) ≡ g = ap (λ (i : ℕ). made i (place_of_module shape t.0)) (sym same) ∙ sym t.2 in
        (Current, subst (λ (y : Made). IsAs ms places y Current) is (is_current t.0 t.1)));
    wide = long;
    each_current = λ m low. record {
      there = has.given m (omega (arith, long));
      word = laid.laid.current m low ∙ ap packed (sym (ap places (number_at shape m low) ∙ placed m low));
    };
    each_region = λ v some_word. (let t = laid.laid.region v some_word in ((place_of_module shape t.0).mapping, mapping_of t.0 Current, (is_current t.0 t.1).there, ap (λ (p : Place). p.region) (placed t.0 t.1) ∙ t.2));
    each_owner = λ f. ⊎_elim inl
        (λ t. inr (inl (mapping_of t.0 Current, ap (map.get ms) t.3 ∙ (is_current t.0 t.1).there, (λ e. let z : ⊥ = cc in z), ap (λ (p : Place). p.frame) (ap places t.3 ∙ placed t.0 t.1) ∙ t.2)))
        (laid.laid.owned f);
    newest = newest-opened;
    each_give = λ p c. absurd (none-in p c.1);
    past_cells = laid.laid.past;
    fresh = record { each = λ g c. absurd (none-in g c); only = λ n m there. absurd (none-other Fresh (λ e. let z : ⊥ = cc in z) n m there) };
    outs = record { each = λ g c. absurd (none-in g c); only = λ n m there. absurd (none-other Out (λ e. let z : ⊥ = cc in z) n m there) };
    rooms = λ f c. absurd (none-in f c);
    stage = tt;
  }

  -- the rule holds of the table as it is opened
  pub opening_kept : Kept shape (opening xs [] (starting shape))
  opening_kept =
      let plan : Plan = starting_plan shape in
      let hands : ℕ → Hand = λ w. new_hand (w % shape.slots) in record {
        words = laid.words;
        state = machine.reclaim_opening shape.slots shape.workers (numbers shape);
        places = places;
        ledger = ledger;
        lines = λ _. 0;
        gives = λ _. [];
        frees = λ _. freeing.Nothing;
        hands = hands;
        seater = λ _. 0;
        plan = plan;
        mover = 0;
        form = form;
        reads = laid.are;
        reached = record { past = []; may = tt; is = refl };
        mappings = mappings;
        owing = record {
          slots = length-replicate shape.slots (let x : owing.Slot = record { inside = 0; pushed = 0 } in x);
          seats = length-replicate shape.workers owing.Away;
          each_slot = λ s low. laid.laid.slot s ∙ sym (slot-opening shape.slots shape.workers s);
          each_count = λ b opened. absurd (no_batch shape.slots shape.workers b opened);
          no_count = λ b low. laid.laid.count b;
          each_listed = λ n b is. absurd (some≢none b (sym is));
          each_member = λ b k some_word. absurd (some_word (laid.laid.member b k));
          once = λ b i k some_word. absurd (some_word (laid.laid.member b i));
          each_line = λ n is. refl;
          some_line = λ n b is. absurd (some≢none b (sym is));
        };
        batching = record {
          number = refl;
          stands = λ b opened. absurd (no_batch shape.slots shape.workers b opened);
          enough = omega arith;
          retired = λ n c. absurd (none-in n c);
          differ = λ i j d before inside. absurd (omega arith);
          next = λ k l. laid.laid.member (0 + 1) k;
          later = λ b k l. laid.laid.member b k;
        };
        freed = record { each = λ a n b is. absurd (some≢none b (sym is)); each_give = λ a p c. absurd (none-in p c) };
        tells = record { hand = λ w. refl; own = refl; own_gives = refl };
        unmaps = record { worker = λ w n. refl; mover = λ n. refl };
        ledger_is = refl;
        lines_are = λ n. refl;
        each_stance = λ w. opening-away shape.slots shape.workers w;
        each_hand = λ w. record { slot = refl; to_give = refl; stance = tt; reads = λ m p c. absurd (none-in _ c); falls = λ m i j d before inside. absurd (omega arith) };
        each_seat = λ i view e. one_seat hands plan i view e;
        seated = record { worker = λ w low high. absurd (omega arith); own = refl };
        dealt = record { slots = refl; few = omega arith; undealt = λ w low. refl; back = λ w low. absurd (omega arith) };
      }
    where
      one_seat : (hands : ℕ → Hand) (plan : Plan) (i : ℕ) (view : Doing) → get_elem? (Mover plan ∷ []) i ≡ some view → Knows hands (λ _. 0) plan 0 i view
      one_seat hands plan zero view e = subst (Knows hands (λ _. 0) plan 0 0) (some-injective (Mover plan) view e) (refl, refl)
      one_seat hands plan (suc i) view e = absurd (some-ne-none view (sym e))
