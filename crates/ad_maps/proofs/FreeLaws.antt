-- The steps of who frees a batch keep the rule: they load a member's word, unmap a mapping, and give its frame back.
use Rattle.std.proofs.Common.{◌≡◌, ◌≢◌, ◌⊎◌, ⊎_elim, ℕ, ◌+◌, ◌*◌, ◌%◌, ◌^◌, ◌<◌, Bool, cond, eqb, eqb-true, List, [], ◌∷◌, ◌++◌, get_or, set, Option, Some, refl, sym, ap, ◌∙◌, subst, inl, inr, arith, unwrap_or}
use Rattle.std.specs.List.{Contains}
use Rattle.std.specs.Option.{option_map}
use Rattle.std.specs.FinMap as map
use Rattle.std.proofs.lemmas.Bool.{cases_eq, cases_Bool, eqb-false}
use Rattle.std.proofs.lemmas.List.{append-nil}
use Rattle.std.proofs.lemmas.List.Sums.{sum_by_push}
use Rattle.std.proofs.lemmas.List.Elements.{Contains-push_cases}
use Rattle.ad_maps.specs.Ledger.{act_unmaps, deed_unmaps, reads_of, unmaps_in_acts, unmaps_in_deeds, NeverFall}
use mathlib.Core.Option.{some}
use lib.ListN.{get_elem?}
use Rattle.ad_base.specs.declared.place.Place.{Place}
use Rattle.ad_base.specs.Place.{packed, place_at}
use Rattle.ad_base.proofs.Packing.{place_at-packed}
use Rattle.ad_events.specs.Functions.{changed}
use Rattle.ad_events.proofs.Functions.{changed-here, changed-else}
use Rattle.ad_events.specs.declared.mapping.Status.{Status}
use Rattle.ad_events.specs.declared.mapping.Status.TheVariants.{Fresh, Current, Out, Retired, Gone}
use Rattle.ad_events.specs.declared.mapping.Mapping.{Mapping}
use Rattle.ad_events.specs.World.{mapping_of, status_of}
use Rattle.ad_events.specs.Owed.{IsOpened}
use Rattle.ad_events.specs.Reclaim as machine
use Rattle.ad_events.specs.Reclaim.{Agent, ReclaimState}
use Rattle.ad_events.specs.ReclaimInvariant.{Holds}
use Rattle.ad_events.specs.ReclaimLaws.{NothingLeftBut}
use Rattle.ad_events.proofs.ReclaimLaws.{left_by_own_steps}
use Rattle.ad_events.proofs.WorldLemmas.{from_status, same_mapping}
use Rattle.ad_events.proofs.WorldReads.{unmap-mapping, unmap-other}
use Rattle.ad_maps.specs.declared.shape.Shape.{Shape}
use Rattle.ad_maps.specs.declared.view.Act.TheVariants as act
use Rattle.ad_maps.specs.declared.view.Deed.{Deed}
use Rattle.ad_maps.specs.declared.view.Deed.TheVariants as deed
use Rattle.ad_maps.specs.declared.view.Stage.{Stage}
use Rattle.ad_maps.specs.declared.view.Stage.TheVariants as stage
use Rattle.ad_maps.specs.declared.view.Freeing.{Freeing}
use Rattle.ad_maps.specs.declared.view.Freeing.TheVariants as freeing
use Rattle.ad_maps.specs.declared.view.Hand.{Hand}
use Rattle.ad_maps.specs.declared.view.Made.{Made}
use Rattle.ad_maps.specs.declared.view.Plan.{Plan}
use Rattle.ad_maps.specs.declared.view.Doing.{Doing}
use Rattle.ad_maps.specs.declared.view.Doing.TheVariants.{Spent, Worker, Mover}
use Rattle.ad_maps.specs.Laws.{Adds, MemberLaw, UnmapLaw, GiveLaw}
use Rattle.ad_maps.specs.MapPlace.{directory_word, member_word}
use Rattle.ad_maps.specs.Names.{Directory, Member, Owner, wrote}
use Rattle.ad_maps.specs.Rule.{St, Kept, AllMappings, AreAll, FreeingStands, Freed, FreesFrom, GiveStands, HandStands, IsAs, IsMember, IsToGive, Mappings, MappingStands, OwnerStands, StageStands, WordsSay}
use Rattle.ad_maps.specs.Steps.{freeing_of, given, made, member_found, member_unmapped, next_member}
use Rattle.ad_maps.proofs.Batches.{few-batches, listed-there}
use Rattle.ad_maps.proofs.Elements.{cons-cases, cons-here, lines-push, none-in, reads-push, retires-same}
use Rattle.ad_maps.proofs.Frames.{worker_knows, worker_step_as, mover_step_as}
use Rattle.ad_maps.proofs.Freeings.{batching-plan, changed_for, for-here, for-worker, for-cases, stands-after, unmap-brings, zeroed-after}
use Rattle.ad_maps.proofs.Hands.{hand_regives, hand_stays, stance_stays}
use Rattle.ad_maps.proofs.Machine.{holds_of, reached_after, lawful_of}
use Rattle.ad_maps.proofs.MappingFrames.{ledger-same, mapped-says, mappings-stay, mover_knows, same_currents, words-stay}
use Rattle.ad_maps.proofs.Owners.{newest-give}
use Rattle.ad_maps.proofs.Numbers.{frame-few, packed-small, region-few}
use Rattle.ad_maps.proofs.Pinned.{gone-or}
use Rattle.ad_maps.proofs.Regions.{one-member, one-region}
use Rattle.ad_maps.proofs.Writes.{writes, rereads}
use Rattle.ad_maps.proofs.Telling.{deeds-stay, told-none, told-unmap}

-- ---- what an agent has to free

module _ (shape : Shape) (s : St) (r : Kept shape s) where
  -- it has to free what its view tells
  frees-told : (a : Agent) (d e : Freeing) → d ≡ r.frees a → d ≡ e → FreeingStands r.state r.words.member r.lines r.places a e
  frees-told a d e told is = subst (FreeingStands r.state r.words.member r.lines r.places a) (sym told ∙ is) (r.freed.each a)

  pub holds : Holds r.state
  holds = holds_of shape r.form r.state r.reached

  -- the batch that an agent frees is opened, and the number of its members' words is one of the table's
  pub frees-few : (a : Agent) (b k : ℕ) → FreesFrom r.state r.words.member r.lines r.places a b k → b < 4096
  frees-few a b k f = let opened = (holds.zeroed b (a, f.brought)).0 in let within = opened.within in let most = few-batches shape s r in omega arith

-- an agent that has freed the members up to this one goes on with the next
module _ (j : ReclaimState) (h : Holds j) (member : ℕ → ℕ → ℕ) (lines : ℕ → ℕ) (places : ℕ → Place) (a : Agent) (b k : ℕ) where
  pub past-member : j.zeroed b ≡ Some a → NothingLeftBut j a b → k < 8
      → ((n : ℕ) → j.batch n ≡ Some b → status_of j.world n ≢ Some Gone → (i : ℕ) × (k < i) × (i < 8) × IsMember member lines places b i n)
      → ((n i : ℕ) → j.batch n ≡ Some b → k < i → IsMember member lines places b i n → status_of j.world n ≢ Some Gone)
      → FreeingStands j member lines places a (next_member b k)
  past-member brought other low rest ahead =
      elim (cases_Bool (eqb (k + 1) 8)) [
        | inl end ↦
            let last = eqb-true (k + 1) 8 end in
            subst (λ (t : Bool). FreeingStands j member lines places a (cond t freeing.Nothing (freeing.Batch b (k + 1)))) (sym end)
            ((left_by_own_steps j h).done a b other (λ n is. ⊎_elim
            (λ retired. absurd (let t = rest n is (λ gone. status-apart retired gone) in let from = t.1 in let to = t.2 in let z : ⊥ = omega arith in z))
            (λ gone. gone)
            (h.told n b is)))
        | inr more ↦
            let ne = eqb-false (k + 1) 8 more in
            subst (λ (t : Bool). FreeingStands j member lines places a (cond t freeing.Nothing (freeing.Batch b (k + 1)))) (sym more) (record {
              brought = brought;
              other = other;
              low = omega arith;
              rest = λ n is there. (let t = rest n is there in (t.0, (let from = t.1 in omega arith), t.2, t.3));
              ahead = λ n i is l word. ahead n i is (omega arith) word;
            })
      ]
    where
      status-apart : {o : Option Status} → o ≡ Some Retired → o ≡ Some Gone → ⊥
      status-apart e f = let t : Some Retired ≡ Some Gone = sym e ∙ f in let same : Retired ≡ Gone = cc in let z : ⊥ = cc in z

  -- a member's word was loaded
  pub found-stands : (word : ℕ) → member b k ≡ word → ((n : ℕ) → j.batch n ≡ Some b → 0 < lines n) → FreesFrom j member lines places a b k → FreeingStands j member lines places a (member_found (freeing.Batch b k) word)
  found-stands word is some_line f =
      elim (cases_Bool (eqb word 0)) [
        | inl none ↦
            let zero = eqb-true word 0 none in
            subst (λ (t : Bool). FreeingStands j member lines places a (cond t (next_member b k) (freeing.Found b k word))) (sym none)
            (past-member f.brought f.other f.low
            (λ n listed there.
            let t = f.rest n listed there in
            let from = t.1 in (
              t.0,
              elim (cases_eq t.0 k) [
                | inl e ↦ absurd (let line = some_line n listed in let at = ap (member b) e in let word_of = t.3 in let sum : 0 ≡ lines n * 2 ^ 16 + (places n).region = sym zero ∙ (sym is ∙ (sym at ∙ word_of)) in let z : ⊥ = omega arith in z)
                | inr ne ↦ omega arith
              ],
              t.2,
              t.3,
            ))
            (λ n i listed l word_of. f.ahead n i listed (omega arith) word_of))
        | inr has ↦
            subst (λ (t : Bool). FreeingStands j member lines places a (cond t (next_member b k) (freeing.Found b k word))) (sym has)
            (f, is, eqb-false word 0 has)
      ]

-- ---- member

-- what is to be freed, where one agent's changed
freed-for : (j : ReclaimState) (member : ℕ → ℕ → ℕ) (lines : ℕ → ℕ) (places : ℕ → Place) (gives : Agent → List Place) (frees : Agent → Freeing) (a : Agent) (f : Freeing) → Freed j member lines places gives frees → FreeingStands j member lines places a f
    → Freed j member lines places gives (changed_for frees a f)
freed-for j member lines places gives frees a f old mine = record {
  each = λ c. ⊎_elim
      (λ e. subst (λ (d : Agent). FreeingStands j member lines places d (changed_for frees a f d)) (sym e) (subst (FreeingStands j member lines places a) (sym (for-here frees a f)) mine))
      (λ t. subst (FreeingStands j member lines places c) (sym t.1) (old.each c))
      (for-cases frees a f c);
  each_give = old.each_give;
}

-- an agent has loaded the word of its batch's next member
member-loaded : (shape : Shape) (s : St) (r : Kept shape s) (a : Agent) (d : Freeing) (b k : ℕ) → d ≡ r.frees a → d ≡ freeing.Batch b k
    → Freed r.state r.words.member r.lines r.places r.gives (changed_for r.frees a (member_found d (get_or s.words (135320 + (8 * b + k)) 0)))
member-loaded shape s r a d b k told is =
    let f : FreesFrom r.state r.words.member r.lines r.places a b k = frees-told shape s r a d (freeing.Batch b k) told is in
    let few = frees-few shape s r a b k f in
    let found = get_or s.words (135320 + (8 * b + k)) 0 in
    let word : r.words.member b k ≡ found = sym (r.reads.1 (Member b k) (few, f.low)) in
    let stands = found-stands r.state (holds shape s r) r.words.member r.lines r.places a b k found word (λ n listed. r.owing.some_line n b listed) f in
    freed-for r.state r.words.member r.lines r.places r.gives r.frees a (member_found d found) r.freed
    (subst (λ (e : Freeing). FreeingStands r.state r.words.member r.lines r.places a (member_found e found)) (sym is) stands)

pub member_law : MemberLaw
member_law shape s r id Spent b k at is = absurd (let z : ⊥ = cc in z)
member_law shape s r id (Worker w h) b k at is =
    let m = worker_knows shape s r id w h at in
    let a : Agent = machine.Worker w in
    let i : ℕ = 135320 + (8 * b + k) in
    let found = get_or s.words i 0 in
    let g : Freeing = member_found h.freeing found in
    let h' : Hand = record { slot = h.slot; stance = h.stance; freeing = g; gives = h.gives; acts = h.acts } in
    let step = worker_step_as shape s r id w h h' at (set s.words i found) r.words r.state r.gives (changed_for r.frees a g)
    (rereads s.words r.words i r.reads) r.reached
    (told-none (machine.Worker w) r.reached.past (unmaps_in_acts h.acts) (unmaps_in_acts h.acts) (λ n. refl))
    r.mappings r.owing r.batching
    (member-loaded shape s r a h.freeing b k m.freeing is)
    (sym (for-here r.frees a g)) (λ v ne. for-worker r.frees w g v ne) refl refl
    m.seat (λ v ne. refl)
    (record { slot = m.hand.slot; to_give = m.hand.to_give; stance = m.hand.stance; reads = m.hand.reads; falls = m.hand.falls })
    (λ v ne old. old) in record { kept = step.kept; state = step.state }
member_law shape s r id (Mover q) b k at is =
    let m = mover_knows shape s r id q at in
    let a : Agent = machine.Mover in
    let i : ℕ = 135320 + (8 * b + k) in
    let found = get_or s.words i 0 in
    let g : Freeing = member_found q.freeing found in
    let step = mover_step_as shape s r id (record q { freeing = g }) m.mine (set s.words i found) r.words r.state r.places r.ledger r.lines r.gives (changed_for r.frees a g)
    (ap (λ (p : Plan). p.slots) m.is) (ap (λ (p : Plan). p.dealt) m.is) (ap (λ (p : Plan). p.back) m.is)
    (rereads s.words r.words i r.reads) r.reached
    (told-none machine.Mover r.reached.past (unmaps_in_deeds r.plan.deeds) (unmaps_in_deeds q.deeds) (deeds-stay q r.plan m.is))
    (mappings-stay shape s r q m.mappings m.mappings.rooms) r.owing
    (batching-plan r.state.owed r.state.batch r.words.member q (record q { freeing = g }) refl refl refl m.batching)
    (member-loaded shape s r a q.freeing b k m.freeing is)
    (λ v. refl) refl m.gives m.ledger_is m.lines_are (λ v. refl)
    (same_currents shape s r q m.is) in
    record { kept = step.kept; state = step.state }

-- ---- unmap

-- what the agent that unmaps a member's mapping knows: it is at this place, in this region
pub record UnmapKnown (shape : Shape) (s : St) (r : Kept shape s) (b k m v : ℕ) (q : Place) : Type 0 where
  pub region : v ≡ q.region
  pub low : v < 65536
  pub is : IsAs r.state.world.mappings r.places (made m q) Retired
  pub stands : MappingStands shape r.ledger r.words.directory r.words.owner r.words.cell q q.mapping (mapping_of m Retired)
  pub listed : r.state.batch q.mapping ≡ Some b
  pub member : IsMember r.words.member r.lines r.places b k q.mapping
  pub word : get_or s.words (24 + v) 0 ≡ packed q

pub unmap_known : (shape : Shape) (s : St) (r : Kept shape s) (a : Agent) (b k word : ℕ) → FreeingStands r.state r.words.member r.lines r.places a (freeing.Found b k word)
    → (m : ℕ) × UnmapKnown shape s r b k m (word % 2 ^ 16) (place_at (get_or s.words (24 + word % 2 ^ 16) 0))
unmap_known shape s r a b k word stands =
    let h = holds_of shape r.form r.state r.reached in
    let t = r.owing.each_member b k (λ z. stands.2 (sym stands.1 ∙ z)) in
    let n = t.0 in
    let p : Place = r.places n in
    let not_gone = stands.0.ahead n k t.1 (omega arith) t.2 in
    let retired : status_of r.state.world n ≡ Some Retired = ⊎_elim (λ e. e) (λ e. absurd (not_gone e)) (h.told n b t.1) in
    let was = from_status (map.get r.state.world.mappings n) Retired retired in
    let m = was.0 in
    let old = r.mappings.each n (mapping_of m Retired) was.1 in
    let low = region-few shape m p old.form in
    let region : word % 2 ^ 16 ≡ p.region = part word (r.lines n) p.region low (sym stands.1 ∙ t.2) in
    let at : get_or s.words (24 + word % 2 ^ 16) 0 ≡ packed p = ap (λ (v : ℕ). get_or s.words (24 + v) 0) region ∙ (r.reads.1 (Directory p.region) low ∙ old.words.word) in
    let place : place_at (get_or s.words (24 + word % 2 ^ 16) 0) ≡ p = ap place_at at ∙ place_at-packed p old.form.place.place in (
      m,
      subst (UnmapKnown shape s r b k m (word % 2 ^ 16)) (sym place) (record {
        region = region;
        low = omega arith;
        is = record { there = ap (map.get r.state.world.mappings) old.number ∙ was.1; placed = ap r.places old.number };
        stands = subst (λ (i : ℕ). MappingStands shape r.ledger r.words.directory r.words.owner r.words.cell p i (mapping_of m Retired)) (sym old.number) old;
        listed = ap r.state.batch old.number ∙ t.1;
        member = subst (IsMember r.words.member r.lines r.places b k) (sym old.number) t.2;
        word = at;
      }),
    )
  where
    part : (word line region : ℕ) → region < 65536 → word ≡ line * 2 ^ 16 + region → word % 2 ^ 16 ≡ region
    part word line region l e = omega arith

module _ (shape : Shape) (s : St) (r : Kept shape s) (a : Agent) (b k m v : ℕ) (q : Place) (f : FreesFrom r.state r.words.member r.lines r.places a b k) (u : UnmapKnown shape s r b k m v q) (free : r.gives a ≡ []) where
  abbrev n : ℕ
  n = q.mapping

  abbrev ms : AllMappings
  ms = r.state.world.mappings

  abbrev ms' : AllMappings
  ms' = (machine.after r.state (machine.Unmap n a)).world.mappings

  abbrev gives' : Agent → List Place
  gives' = changed_for r.gives a (q ∷ [])

  abbrev word' : ℕ
  word' = (get_or s.words (24 + v) 0 + 2 ^ 56) % 2 ^ 64

  abbrev directory' : ℕ → ℕ
  directory' = changed r.words.directory v word'

  retired : status_of r.state.world n ≡ Some Retired
  retired = ap (option_map (λ (y : Mapping). y.status)) u.is.there

  not_gone : status_of r.state.world n ≢ Some Gone
  not_gone gone = let t : Some Retired ≡ Some Gone = sym retired ∙ gone in let same : Retired ≡ Gone = cc in let z : ⊥ = cc in z

  pub may : machine.MayStep r.state (machine.Unmap n a)
  may = record { batch = b; listed = u.listed; brought = f.brought; there = not_gone }

  lawful : (status_of r.state.world n ≡ Some Retired) × ((worker : ℕ) → map.get r.state.world.inside worker ≢ Some n)
  lawful = lawful_of shape r.form r.state r.reached (machine.Unmap n a) may

  here : map.get ms' n ≡ Some (mapping_of m Gone)
  here = unmap-mapping r.state.world m n u.is.there n refl

  else : (i : ℕ) → i ≢ n → map.get ms' i ≡ map.get ms i
  else i ne = unmap-other r.state.world n lawful i ne

  apart : (i j : ℕ) (t : Status) → map.get ms i ≡ Some (mapping_of j t) → t ≢ Retired → i ≢ n
  apart i j t there ne e = ne (ap (λ (y : Mapping). y.status) (same_mapping (mapping_of j t) (mapping_of m Retired) (sym there ∙ (ap (map.get ms) e ∙ u.is.there))))

  is_gone : (i : ℕ) (y : Mapping) → i ≡ n → map.get ms' i ≡ Some y → y ≡ mapping_of m Gone
  is_gone i y e there = same_mapping y (mapping_of m Gone) (sym there ∙ (ap (map.get ms') e ∙ here))

  pub goes_on : (y : Made) (t : Status) → IsAs ms r.places y t → (o : Status) × IsAs ms' r.places y o
  goes_on y t is =
      elim (cases_eq y.place.mapping n) [
        | inl e ↦
            let of : mapping_of y.of_module t ≡ mapping_of m Retired = same_mapping (mapping_of y.of_module t) (mapping_of m Retired) (sym is.there ∙ (ap (map.get ms) e ∙ u.is.there)) in
            (Gone, record { there = ap (map.get ms') e ∙ (here ∙ ap (λ (z : Mapping). Some (mapping_of z.module Gone)) (sym of)); placed = is.placed })
        | inr ne ↦ (t, record { there = else y.place.mapping ne ∙ is.there; placed = is.placed })
      ]

  stays : (y : Made) (t : Status) → t ≢ Retired → IsAs ms r.places y t → IsAs ms' r.places y t
  stays y t ne is = record { there = else y.place.mapping (apart y.place.mapping y.of_module t is.there ne) ∙ is.there; placed = is.placed }

  new-word : word' ≡ directory_word q 1
  new-word = let small = packed-small q u.stands.form.place.place in let word = u.word in omega arith

  -- the region of another mapping is another
  other-region : (i : ℕ) (y : Mapping) → map.get ms i ≡ Some y → i ≢ n → (r.places i).region ≢ v
  other-region i y there ne e = ne (one-region shape ms r.places r.ledger r.plan r.gives r.words.current r.words.directory r.words.owner r.words.cell r.mappings i n y (mapping_of m Retired) there u.is.there
      (e ∙ (u.region ∙ ap (λ (p : Place). p.region) (sym u.is.placed))))

  more : (p : Place) → IsToGive r.gives p → IsToGive gives' p
  more p c = ⊎_elim
      (λ e. absurd (none-in p (subst (λ (ps : List Place). Contains ps p) (ap r.gives e ∙ free) c.1)))
      (λ t. (c.0, subst (λ (ps : List Place). Contains ps p) (sym t.1) c.1))
      (for-cases r.gives a (q ∷ []) c.0)

  -- whose place was given before, or is the new one
  from-gives : (c : Agent) (p : Place) → Contains (gives' c) p → ((c ≡ a) × (q ≡ p)) ⊎ Contains (r.gives c) p
  from-gives c p d = ⊎_elim
      (λ e. ⊎_elim (λ one. inl (e, one)) (λ none. absurd (none-in p none)) (cons-cases q [] p (subst (λ (ps : List Place). Contains ps p) (ap gives' e ∙ for-here r.gives a (q ∷ [])) d)))
      (λ t. inr (subst (λ (ps : List Place). Contains ps p) t.1 d))
      (for-cases r.gives a (q ∷ []) c)

  each' : (i : ℕ) (y : Mapping) → map.get ms' i ≡ Some y → MappingStands shape r.ledger directory' r.words.owner r.words.cell (r.places i) i y
  each' i y there =
      elim (cases_eq i n) [
        | inl e ↦
            let place : r.places i ≡ q = ap r.places e ∙ u.is.placed in
            subst (MappingStands shape r.ledger directory' r.words.owner r.words.cell (r.places i) i) (sym (is_gone i y e there))
            (subst (λ (p : Place). MappingStands shape r.ledger directory' r.words.owner r.words.cell p i (mapping_of m Gone)) (sym place)
            (record { number = sym e; form = u.stands.form; listed = u.stands.listed; words = changed-here r.words.directory v word' q.region (sym u.region) ∙ new-word }))
        | inr ne ↦
            let was = sym (else i ne) ∙ there in
            let old = r.mappings.each i y was in record {
              number = old.number;
              form = old.form;
              listed = old.listed;
              words = words-stay shape r.words.directory r.words.owner directory' r.words.owner r.words.cell r.words.cell y.module (r.places i) (changed-else r.words.directory v word' (r.places i).region (other-region i y was ne)) (λ owns. refl) (λ owns e. refl) y.status old.words;
            }
      ]

  each_owner' : (d : Stage) (g : ℕ) → OwnerStands ms r.places (IsToGive r.gives) d g (r.words.owner g) → OwnerStands ms' r.places (IsToGive gives') d g (r.words.owner g)
  each_owner' d g = ⊎_elim inl
      (λ c. ⊎_elim
      (λ t.
      elim (cases_eq (r.words.owner g) n) [
        | inl e ↦ inr (inr (inl (q, (a, subst (λ (ps : List Place). Contains ps q) (sym (for-here r.gives a (q ∷ []))) (cons-here q [] q refl)), ap (λ (p : Place). p.frame) (sym u.is.placed ∙ ap r.places (sym e)) ∙ t.3, sym e)))
        | inr ne ↦ inr (inl (t.0, else (r.words.owner g) ne ∙ t.1, t.2, t.3))
      ])
      (λ c. ⊎_elim (λ t. inr (inr (inl (t.0, more t.0 t.1, t.2, t.3)))) (λ t. inr (inr (inr t))) c) c)

  each_give' : (p : Place) → IsToGive gives' p → GiveStands ms' r.places r.words.owner p
  each_give' p c = ⊎_elim
      (λ t. subst (GiveStands ms' r.places r.words.owner) t.1 (record { «module» = m; gone = record { there = here; placed = u.is.placed }; owns = u.stands.words.owns }))
      (λ old. let was = r.mappings.each_give p (c.0, old) in record { «module» = was.module; gone = stays (made was.module p) Gone (λ z. let no : ⊥ = cc in no) was.gone; owns = was.owns })
      (from-gives c.0 p c.1)

  all-stay : (gs : List Made) (t : Status) → t ≢ Retired → t ≢ Gone → AreAll ms r.places gs t → AreAll ms' r.places gs t
  all-stay gs t ne other old = record {
    each = λ y c. stays y t ne (old.each y c);
    only = λ i j there.
        elim (cases_eq i n) [
          | inl e ↦ absurd (other (ap (λ (z : Mapping). z.status) (is_gone i (mapping_of j t) e there)))
          | inr ne ↦ old.only i j (sym (else i ne) ∙ there)
        ];
  }

  pub mappings' : (plan : Plan) → Mappings shape ms r.places r.ledger plan r.gives r.words.current r.words.directory r.words.owner r.words.cell
      → (frees : Freeing) (gives : List Place) (deeds : List Deed) → Mappings shape ms' r.places r.ledger (record plan { freeing = frees; gives = gives; deeds = deeds }) gives' r.words.current directory' r.words.owner r.words.cell
  mappings' plan old frees gives deeds = record {
    each = each';
    each_made = λ y c. (let was = old.each_made y c in goes_on y was.0 was.1);
    wide = old.wide;
    each_current = λ i l. (let was = old.each_current i l in record {
      there = else (get_or plan.current i 0) (apart (get_or plan.current i 0) i Current was.there (λ z. let no : ⊥ = cc in no)) ∙ was.there;
      word = was.word;
    });
    each_region = λ o has.
        elim (cases_eq o v) [
          | inl e ↦ (n, mapping_of m Gone, here, ap (λ (p : Place). p.region) u.is.placed ∙ (sym u.region ∙ sym e))
          | inr ne ↦
              let was = old.each_region o (λ z. has (changed-else r.words.directory v word' o ne ∙ z)) in
              let other : was.0 ≢ n = λ e. ne (sym was.3 ∙ (ap (λ (i : ℕ). (r.places i).region) e ∙ (ap (λ (p : Place). p.region) u.is.placed ∙ sym u.region))) in
              (was.0, was.1, else was.0 other ∙ was.2, was.3)
        ];
    each_owner = λ g. each_owner' plan.stage g (old.each_owner g);
    newest = old.newest;
    each_give = each_give';
    past_cells = old.past_cells;
    fresh = all-stay plan.fresh Fresh (λ z. let no : ⊥ = cc in no) (λ z. let no : ⊥ = cc in no) old.fresh;
    outs = all-stay plan.outs Out (λ z. let no : ⊥ = cc in no) (λ z. let no : ⊥ = cc in no) old.outs;
    rooms = old.rooms;
    stage = old.stage;
  }

  next-stands : FreeingStands (machine.after r.state (machine.Unmap n a)) r.words.member r.lines r.places a (next_member b k)
  next-stands = past-member (machine.after r.state (machine.Unmap n a)) (holds_of shape r.form (machine.after r.state (machine.Unmap n a)) (reached_after shape r.state (machine.Unmap n a) r.reached may)) r.words.member r.lines r.places a b k
      f.brought ((left_by_own_steps r.state (holds_of shape r.form r.state r.reached)).but a (machine.Unmap n a) may (λ c brings. absurd (unmap-brings r.state n a c brings)) b f.other) f.low
      (λ i listed there.
      let ne : i ≢ n = λ e. there (ap (option_map (λ (z : Mapping). z.status)) (ap (map.get ms') e ∙ here)) in
      let t = f.rest i listed (λ gone. there (ap (option_map (λ (z : Mapping). z.status)) (else i ne) ∙ gone)) in
      let from = t.1 in (
        t.0,
        elim (cases_eq t.0 k) [
          | inl e ↦ absurd (ne (
              let there_i = listed-there shape s r i b listed in
              one-member shape ms r.places r.ledger r.plan r.gives r.words.current r.words.directory r.words.owner r.words.cell r.mappings i n (r.lines i) (r.lines n) there_i.0 (mapping_of m Retired) there_i.1 u.is.there
              (sym t.3 ∙ (ap (r.words.member b) e ∙ u.member))))
          | inr other ↦ omega arith
        ],
        t.2,
        t.3,
      ))
      (λ i o listed l word.
      elim (cases_eq i n) [
        | inl e ↦ λ gone. absurd (let same : r.words.member b o ≡ r.words.member b k = subst (IsMember r.words.member r.lines r.places b o) e word ∙ sym u.member in
            let some_line = r.owing.some_line i b listed in
            let has : r.words.member b o ≢ 0 = λ z. (let sum : 0 ≡ r.lines i * 2 ^ 16 + (r.places i).region = sym z ∙ word in let no : ⊥ = omega arith in no) in
            let at = r.owing.once b o k has same in let no : ⊥ = omega arith in no)
        | inr ne ↦ λ gone. f.ahead i o listed (omega arith) word (sym (ap (option_map (λ (z : Mapping). z.status)) (else i ne)) ∙ gone)
      ])

  pub freed' : Freed (machine.after r.state (machine.Unmap n a)) r.words.member r.lines r.places gives' (changed_for r.frees a (next_member b k))
  freed' =
      let holds = holds_of shape r.form r.state r.reached in
      let x : machine.Step = machine.Unmap n a in
      let words : (c i : ℕ) → IsOpened r.state.owed c → r.words.member c i ≡ r.words.member c i = λ c i there. refl in
      let rows : (i c : ℕ) → r.state.batch i ≡ Some c → member_word (r.lines i) (r.places i).region ≡ member_word (r.lines i) (r.places i).region = λ i c there. refl in
      let frees' : Agent → Freeing = changed_for r.frees a (next_member b k) in
      let after : ReclaimState = machine.after r.state x in record {
        each = λ c. ⊎_elim
            (λ e. subst (λ (d : Agent). FreeingStands after r.words.member r.lines r.places d (frees' d)) (sym e) (subst (FreeingStands after r.words.member r.lines r.places a) (sym (for-here r.frees a (next_member b k))) next-stands))
            (λ t. subst (FreeingStands after r.words.member r.lines r.places c) (sym t.1)
            (stands-after r.state holds x may r.words.member r.words.member r.lines r.lines r.places r.places words rows c (λ d brings. absurd (unmap-brings r.state n a d brings)) (λ p e. t.0 (let same : a ≡ c = cc in sym same)) (r.frees c) (r.freed.each c)))
            (for-cases r.frees a (next_member b k) c);
        each_give = λ c p d. ⊎_elim
            (λ t. (b, ap r.state.batch (ap (λ (o : Place). o.mapping) (sym t.1)) ∙ u.listed, f.brought ∙ ap (λ (o : Agent). Some o) (sym t.0)))
            (λ old. zeroed-after r.state holds x may r.words.member r.words.member r.lines r.lines r.places r.places words rows p.mapping c (r.freed.each_give c p old))
            (from-gives c p d);
      }

-- a worker that unmaps a mapping
unmap-worker : (shape : Shape) (s : St) (r : Kept shape s) (id w : ℕ) (h : Hand) (b k m v : ℕ) (q : Place) → get_elem? s.views id ≡ some (Worker w h) → FreesFrom r.state r.words.member r.lines r.places (machine.Worker w) b k → UnmapKnown shape s r b k m v q → h.gives ≡ []
    → Adds shape s r (record {
      words = set s.words (24 + v) ((get_or s.words (24 + v) 0 + 2 ^ 56) % 2 ^ 64);
      homes = s.homes;
      views = set s.views id (Worker w (record { slot = h.slot; stance = h.stance; freeing = next_member b k; gives = q ∷ h.gives; acts = h.acts ++ act.Unmap q.mapping ∷ [] }));
    }) (machine.Unmap q.mapping (machine.Worker w))
unmap-worker shape s r id w h b k m v q at f u none =
    let o = worker_knows shape s r id w h at in
    let a : Agent = machine.Worker w in
    let free : r.gives a ≡ [] = sym o.hand.to_give ∙ none in
    let x : machine.Step = machine.Unmap q.mapping a in
    let may = may shape s r a b k m v q f u free in
    let j = machine.after r.state x in
    let word : ℕ = (get_or s.words (24 + v) 0 + 2 ^ 56) % 2 ^ 64 in
    let gives' : Agent → List Place = changed_for r.gives a (q ∷ []) in
    let frees' : Agent → Freeing = changed_for r.frees a (next_member b k) in
    let h' : Hand = record { slot = h.slot; stance = h.stance; freeing = next_member b k; gives = q ∷ h.gives; acts = h.acts ++ act.Unmap q.mapping ∷ [] } in
    let own : HandStands shape r.state.world r.places r.ledger r.plan.current r.gives w h = o.hand in
    let step = worker_step_as shape s r id w h h' at (set s.words (24 + v) word) (wrote r.words (Directory v) word) j gives' frees'
    (writes s.words r.words (Directory v) word u.low r.reads)
    (reached_after shape r.state x r.reached may)
    (told-unmap shape r.state r.reached a q.mapping may (unmaps_in_acts h.acts) (unmaps_in_acts h'.acts) (λ n. sum_by_push (λ y. cond (act_unmaps n y) 1 0) h.acts (act.Unmap q.mapping)))
    (mappings' shape s r a b k m v q f u free r.plan r.mappings r.plan.freeing r.plan.gives r.plan.deeds)
    r.owing
    r.batching
    (freed' shape s r a b k m v q f u free)
    (sym (for-here r.frees a (next_member b k)))
    (λ i ne. for-worker r.frees w (next_member b k) i ne)
    refl refl
    o.seat
    (λ i ne. refl)
    (record {
      slot = own.slot;
      to_give = ap (λ (ps : List Place). q ∷ ps) none ∙ sym (for-here r.gives a (q ∷ []));
      stance = stance_stays shape r.state.world j.world r.places r.places r.ledger r.ledger r.plan.current r.plan.current r.gives w refl refl (goes_on shape s r a b k m v q f u free) h.stance own.stance;
      reads = λ i p c. ⊎_elim (λ before. own.reads i p before) (λ now. let no : ⊥ = cc in absurd no) (Contains-push_cases h.acts (act.Unmap q.mapping) (act.Read i p) c);
      falls = λ i. subst NeverFall (sym (reads-push i h.acts (act.Unmap q.mapping) ∙ append-nil (reads_of i h.acts))) (own.falls i);
    })
    (λ i ne old. hand_regives shape j.world r.places r.ledger r.plan.current r.gives gives' i (r.hands i) (for-worker r.gives w (q ∷ []) i ne)
    (hand_stays shape r.state.world j.world r.places r.places r.ledger r.ledger r.plan.current r.plan.current r.gives i refl refl (goes_on shape s r a b k m v q f u free) (λ g c. c) (λ c. omega arith) (r.hands i) old)) in
    record { may = may; lawful = lawful_of shape r.form r.state r.reached x may; kept = step.kept; state = step.state }

-- the mover, that unmaps one
unmap-mover : (shape : Shape) (s : St) (r : Kept shape s) (id : ℕ) (o : Plan) (b k m v : ℕ) (q : Place) → get_elem? s.views id ≡ some (Mover o) → FreesFrom r.state r.words.member r.lines r.places machine.Mover b k → UnmapKnown shape s r b k m v q → o.gives ≡ []
    → Adds shape s r (record {
      words = set s.words (24 + v) ((get_or s.words (24 + v) 0 + 2 ^ 56) % 2 ^ 64);
      homes = s.homes;
      views = set s.views id (Mover (record o { freeing = next_member b k; gives = q ∷ o.gives; deeds = o.deeds ++ deed.Unmap q.mapping ∷ [] }));
    }) (machine.Unmap q.mapping machine.Mover)
unmap-mover shape s r id o b k m v q at f u none =
    let kn = mover_knows shape s r id o at in
    let a : Agent = machine.Mover in
    let free : r.gives a ≡ [] = sym kn.gives ∙ none in
    let x : machine.Step = machine.Unmap q.mapping a in
    let may = may shape s r a b k m v q f u free in
    let j = machine.after r.state x in
    let word : ℕ = (get_or s.words (24 + v) 0 + 2 ^ 56) % 2 ^ 64 in
    let gives' : Agent → List Place = changed_for r.gives a (q ∷ []) in
    let frees' : Agent → Freeing = changed_for r.frees a (next_member b k) in
    let o' : Plan = record o { freeing = next_member b k; gives = q ∷ o.gives; deeds = o.deeds ++ deed.Unmap q.mapping ∷ [] } in
    let step = mover_step_as shape s r id o' kn.mine (set s.words (24 + v) word) (wrote r.words (Directory v) word) j r.places r.ledger r.lines gives' frees'
    (ap (λ (p : Plan). p.slots) kn.is) (ap (λ (p : Plan). p.dealt) kn.is) (ap (λ (p : Plan). p.back) kn.is)
    (writes s.words r.words (Directory v) word u.low r.reads)
    (reached_after shape r.state x r.reached may)
    (told-unmap shape r.state r.reached a q.mapping may (unmaps_in_deeds r.plan.deeds) (unmaps_in_deeds o'.deeds)
    (λ n. sum_by_push (λ y. cond (deed_unmaps n y) 1 0) o.deeds (deed.Unmap q.mapping) ∙ ap (λ (c : ℕ). c + cond (eqb q.mapping n) 1 0) (deeds-stay o r.plan kn.is n)))
    (mappings' shape s r a b k m v q f u free o kn.mappings (next_member b k) (q ∷ o.gives) (o.deeds ++ deed.Unmap q.mapping ∷ []))
    r.owing
    (batching-plan r.state.owed r.state.batch r.words.member o o' refl refl (retires-same o.deeds (deed.Unmap q.mapping) refl) kn.batching)
    (freed' shape s r a b k m v q f u free)
    (λ i. refl)
    refl
    (ap (λ (ps : List Place). q ∷ ps) none)
    (kn.ledger_is ∙ sym (ledger-same shape o.deeds (deed.Unmap q.mapping) refl))
    (λ i. kn.lines_are i ∙ sym (lines-push o.deeds (deed.Unmap q.mapping) (λ i. refl) i))
    (λ i. refl)
    (λ i old. hand_regives shape j.world r.places r.ledger o.current r.gives gives' i (r.hands i) refl
    (hand_stays shape r.state.world j.world r.places r.places r.ledger r.ledger r.plan.current o.current r.gives i refl refl (goes_on shape s r a b k m v q f u free) (λ g c. c) (λ c. let same = ap (λ (p : Plan). get_or p.current c 0) kn.is in omega arith) (r.hands i) old)) in
    record { may = may; lawful = lawful_of shape r.form r.state r.reached x may; kept = step.kept; state = step.state }

pub unmap_law : UnmapLaw
unmap_law shape s r id Spent b k word at is none = absurd (let z : ⊥ = cc in z)
unmap_law shape s r id (Worker w h) b k word at is none =
    let a : Agent = machine.Worker w in
    let stands = frees-told shape s r a h.freeing (freeing.Found b k word) (worker_knows shape s r id w h at).freeing is in
    let known = unmap_known shape s r a b k word stands in
    let v : ℕ = word % 2 ^ 16 in
    let q : Place = place_at (get_or s.words (24 + v) 0) in
    subst (λ (g : Freeing). Adds shape s r (record {
      words = set s.words (24 + v) ((get_or s.words (24 + v) 0 + 2 ^ 56) % 2 ^ 64);
      homes = s.homes;
      views = set s.views id (Worker w (record { slot = h.slot; stance = h.stance; freeing = member_unmapped g; gives = q ∷ h.gives; acts = h.acts ++ act.Unmap q.mapping ∷ [] }));
    }) (machine.Unmap q.mapping a)) (sym is) (unmap-worker shape s r id w h b k known.0 v q at stands.0 known.1 none)
unmap_law shape s r id (Mover o) b k word at is none =
    let a : Agent = machine.Mover in
    let stands = frees-told shape s r a o.freeing (freeing.Found b k word) (mover_knows shape s r id o at).freeing is in
    let known = unmap_known shape s r a b k word stands in
    let v : ℕ = word % 2 ^ 16 in
    let q : Place = place_at (get_or s.words (24 + v) 0) in
    subst (λ (g : Freeing). Adds shape s r (record {
      words = set s.words (24 + v) ((get_or s.words (24 + v) 0 + 2 ^ 56) % 2 ^ 64);
      homes = s.homes;
      views = set s.views id (Mover (record o { freeing = member_unmapped g; gives = q ∷ o.gives; deeds = o.deeds ++ deed.Unmap q.mapping ∷ [] }));
    }) (machine.Unmap q.mapping a)) (sym is) (unmap-mover shape s r id o b k known.0 v q at stands.0 known.1 none)

-- where the mapping lies that a seat is to unmap
pub unmap_found : (shape : Shape) (s : St) (r : Kept shape s) (id : ℕ) (view : Doing) (b k word : ℕ) → get_elem? s.views id ≡ some view → freeing_of view ≡ freeing.Found b k word
    → (m : ℕ) × UnmapKnown shape s r b k m (word % 2 ^ 16) (place_at (get_or s.words (24 + word % 2 ^ 16) 0))
unmap_found shape s r id Spent b k word at is = absurd (let z : ⊥ = cc in z)
unmap_found shape s r id (Worker w h) b k word at is = unmap_known shape s r (machine.Worker w) b k word (frees-told shape s r (machine.Worker w) h.freeing (freeing.Found b k word) (worker_knows shape s r id w h at).freeing is)
unmap_found shape s r id (Mover q) b k word at is = unmap_known shape s r machine.Mover b k word (frees-told shape s r machine.Mover q.freeing (freeing.Found b k word) (mover_knows shape s r id q at).freeing is)

-- ---- give

module _ (shape : Shape) (s : St) (r : Kept shape s) (a : Agent) (p : Place) (has : r.gives a ≡ p ∷ []) where
  abbrev given-after : Agent → List Place
  given-after = changed_for r.gives a []

  abbrev owner' : ℕ → ℕ
  owner' = changed r.words.owner p.frame 0

  mine : Contains (r.gives a) p
  mine = subst (λ (ps : List Place). Contains ps p) (sym has) (cons-here p [] p refl)

  known : GiveStands r.state.world.mappings r.places r.words.owner p
  known = r.mappings.each_give p (a, mine)

  pub frame-low : p.frame < 128
  frame-low =
      let old = r.mappings.each p.mapping (mapping_of known.module Gone) known.gone.there in
      let few = frame-few shape known.module (r.places p.mapping) r.form old.form in
      let same = ap (λ (q : Place). q.frame) known.gone.placed in omega arith

  -- a frame that another number owns is another
  frame-else : (f i : ℕ) → r.words.owner f ≡ i → i ≢ p.mapping → f ≢ p.frame
  frame-else f i owns ne e = ne (sym owns ∙ (ap r.words.owner e ∙ known.owns))

  owner-else : (f : ℕ) → f ≢ p.frame → owner' f ≡ r.words.owner f
  owner-else f ne = changed-else r.words.owner p.frame 0 f ne

  -- what is to give still was before, by another agent, and is another mapping
  from-given : (q : Place) → IsToGive given-after q → IsToGive r.gives q × (q.mapping ≢ p.mapping)
  from-given q c = ⊎_elim
      (λ e. absurd (none-in q (subst (λ (ps : List Place). Contains ps q) (ap given-after e ∙ for-here r.gives a []) c.1)))
      (λ t.
      let old : Contains (r.gives c.0) q = subst (λ (ps : List Place). Contains ps q) t.1 c.1 in (
        (c.0, old),
        λ same.
            let mine_by = r.freed.each_give a p mine in
            let theirs = r.freed.each_give c.0 q old in
            let batch : theirs.0 ≡ mine_by.0 = ap (λ o. unwrap_or o theirs.0) (sym theirs.1 ∙ (ap r.state.batch same ∙ mine_by.1)) in
            t.0 (ap (λ o. unwrap_or o c.0) (sym theirs.2 ∙ (ap r.state.zeroed batch ∙ mine_by.2))),
      ))
      (for-cases r.gives a [] c.0)

  to-given : (q : Place) → IsToGive r.gives q → q.frame ≢ p.frame → IsToGive given-after q
  to-given q c ne = ⊎_elim
      (λ e. absurd (⊎_elim (λ one. ne (ap (λ (o : Place). o.frame) (sym one))) (none-in q) (cons-cases p [] q (subst (λ (ps : List Place). Contains ps q) (ap r.gives e ∙ has) c.1))))
      (λ t. (c.0, subst (λ (ps : List Place). Contains ps q) (sym t.1) c.1))
      (for-cases r.gives a [] c.0)

  each-given : (i : ℕ) (y : Mapping) → map.get r.state.world.mappings i ≡ Some y → MappingStands shape r.ledger r.words.directory owner' r.words.cell (r.places i) i y
  each-given i y there =
      let old = r.mappings.each i y there in record {
        number = old.number;
        form = old.form;
        listed = old.listed;
        words = ⊎_elim
            (λ gone. subst (WordsSay shape r.words.directory owner' r.words.cell y.module (r.places i)) (sym gone.0) gone.1)
            (λ here.
            let ne : i ≢ p.mapping = λ e. here.0 (ap (λ (z : Mapping). z.status) (same_mapping y (mapping_of known.module Gone) (sym there ∙ (ap (map.get r.state.world.mappings) e ∙ known.gone.there)))) in
            mapped-says shape r.words.directory owner' r.words.cell y.module (r.places i) y.status here.0 (record {
              word = here.1.word;
              owns = owner-else (r.places i).frame (frame-else (r.places i).frame i (here.1.owns ∙ old.number) ne) ∙ here.1.owns;
              cells = here.1.cells;
            }))
            (gone-or shape r.words.directory r.words.owner r.words.cell y.module (r.places i) y.status old.words);
      }

  owner-given : (d : Stage) (f : ℕ) → OwnerStands r.state.world.mappings r.places (IsToGive r.gives) d f (r.words.owner f) → OwnerStands r.state.world.mappings r.places (IsToGive given-after) d f (owner' f)
  owner-given d f old =
      elim (cases_eq f p.frame) [
        | inl e ↦ inl (changed-here r.words.owner p.frame 0 f e)
        | inr ne ↦
            subst (OwnerStands r.state.world.mappings r.places (IsToGive given-after) d f) (sym (owner-else f ne))
            (⊎_elim inl (λ c. ⊎_elim (λ t. inr (inl t)) (λ c. ⊎_elim (λ t. inr (inr (inl (t.0, to-given t.0 t.1 (λ same. ne (sym t.2 ∙ same)), t.2, t.3)))) (λ t. inr (inr (inr t))) c) c) old)
      ]

  stage-given : (d : Stage) → StageStands shape r.ledger r.words.owner r.words.cell d → StageStands shape r.ledger owner' r.words.cell d
  stage-given stage.Idle old = tt
  stage-given (stage.Taken g filled) old = record {
    form = old.form;
    above = old.above;
    region = old.region;
    owns = owner-else g.place.frame (frame-else g.place.frame g.place.mapping old.owns (λ e.
        let there = r.mappings.each p.mapping (mapping_of known.module Gone) known.gone.there in
        let below = old.above (made known.module (r.places p.mapping)) there.listed in let number = there.number in let no : ⊥ = omega arith in no)) ∙ old.owns;
    within = old.within;
    cells = old.cells;
  }

  pub mappings-given : (plan : Plan) → Mappings shape r.state.world.mappings r.places r.ledger plan r.gives r.words.current r.words.directory r.words.owner r.words.cell
      → (gives : List Place) → Mappings shape r.state.world.mappings r.places r.ledger (record plan { gives = gives }) given-after r.words.current r.words.directory owner' r.words.cell
  mappings-given plan old gives = record {
    each = each-given;
    each_made = old.each_made;
    wide = old.wide;
    each_current = old.each_current;
    each_region = old.each_region;
    each_owner = λ f. owner-given plan.stage f (old.each_owner f);
    newest = newest-give r.ledger r.words.owner p.frame old.newest;
    each_give = λ q c. (let t = from-given q c in let was = r.mappings.each_give q t.0 in record { «module» = was.module; gone = was.gone; owns = owner-else q.frame (frame-else q.frame q.mapping was.owns t.1) ∙ was.owns });
    past_cells = old.past_cells;
    fresh = old.fresh;
    outs = old.outs;
    rooms = λ f c.
        elim (cases_eq f p.frame) [
          | inl e ↦ changed-here r.words.owner p.frame 0 f e
          | inr ne ↦ owner-else f ne ∙ old.rooms f c
        ];
    stage = stage-given plan.stage old.stage;
  }

  pub freed-given : Freed r.state r.words.member r.lines r.places given-after r.frees
  freed-given = record {
    each = r.freed.each;
    each_give = λ c q d. ⊎_elim
        (λ e. absurd (none-in q (subst (λ (ps : List Place). Contains ps q) (ap given-after e ∙ for-here r.gives a []) d)))
        (λ t. r.freed.each_give c q (subst (λ (ps : List Place). Contains ps q) t.1 d))
        (for-cases r.gives a [] c);
  }

pub give_law : GiveLaw
give_law shape s r id Spent p at is = absurd (let z : ⊥ = cc in z)
give_law shape s r id (Worker w h) p at is =
    let o = worker_knows shape s r id w h at in
    let a : Agent = machine.Worker w in
    let has : r.gives a ≡ p ∷ [] = sym o.hand.to_give ∙ is in
    let given' : Agent → List Place = changed_for r.gives a [] in
    let h' : Hand = record { slot = h.slot; stance = h.stance; freeing = h.freeing; gives = given h.gives; acts = h.acts } in
    let step = worker_step_as shape s r id w h h' at (set s.words (65560 + p.frame) 0) (wrote r.words (Owner p.frame) 0) r.state given' r.frees
    (writes s.words r.words (Owner p.frame) 0 (frame-low shape s r a p has) r.reads)
    r.reached
    (told-none (machine.Worker w) r.reached.past (unmaps_in_acts h.acts) (unmaps_in_acts h.acts) (λ n. refl))
    (mappings-given shape s r a p has r.plan r.mappings r.plan.gives)
    r.owing r.batching
    (freed-given shape s r a p has)
    o.freeing (λ v ne. refl) refl refl
    o.seat (λ v ne. refl)
    (record { slot = o.hand.slot; to_give = ap given is ∙ sym (for-here r.gives a []); stance = o.hand.stance; reads = o.hand.reads; falls = o.hand.falls })
    (λ v ne old. hand_regives shape r.state.world r.places r.ledger r.plan.current r.gives given' v (r.hands v) (for-worker r.gives w [] v ne) old) in
    record { kept = step.kept; state = step.state }
give_law shape s r id (Mover q) p at is =
    let m = mover_knows shape s r id q at in
    let a : Agent = machine.Mover in
    let has : r.gives a ≡ p ∷ [] = sym m.gives ∙ is in
    let given' : Agent → List Place = changed_for r.gives a [] in
    let step = mover_step_as shape s r id (record q { gives = given q.gives }) m.mine (set s.words (65560 + p.frame) 0) (wrote r.words (Owner p.frame) 0) r.state r.places r.ledger r.lines given' r.frees
    (ap (λ (p : Plan). p.slots) m.is) (ap (λ (p : Plan). p.dealt) m.is) (ap (λ (p : Plan). p.back) m.is)
    (writes s.words r.words (Owner p.frame) 0 (frame-low shape s r a p has) r.reads)
    r.reached
    (told-none machine.Mover r.reached.past (unmaps_in_deeds r.plan.deeds) (unmaps_in_deeds q.deeds) (deeds-stay q r.plan m.is))
    (mappings-given shape s r a p has q m.mappings (given q.gives))
    r.owing
    (batching-plan r.state.owed r.state.batch r.words.member q (record q { gives = given q.gives }) refl refl refl m.batching)
    (freed-given shape s r a p has)
    (λ v. refl) m.freeing (ap given is)
    m.ledger_is m.lines_are (λ v. refl)
    (λ v old. hand_regives shape r.state.world r.places r.ledger q.current r.gives given' v (r.hands v) refl (subst (λ (ns : List ℕ). HandStands shape r.state.world r.places r.ledger ns r.gives v (r.hands v)) (ap (λ (p : Plan). p.current) (sym m.is)) old)) in
    record { kept = step.kept; state = step.state }
