-- The mover's list keeps the rule.
use Rattle.std.proofs.Common.{◌≡◌, ◌≢◌, ◌⊎◌, ⊎_elim, ℕ, ◌+◌, ◌*◌, ◌<◌, ◌≤◌, List, [], ◌∷◌, ◌++◌, length, length-append, get_or, set, Option, Some, refl, sym, ap, ◌∙◌, subst, inl, inr, arith}
use Rattle.std.specs.List.{Contains}
use Rattle.std.specs.Option.{option_map}
use Rattle.std.specs.Prelude.{AllPairs}
use Rattle.std.specs.FinMap as map
use Rattle.std.proofs.lemmas.Bool.{cases_eq}
use Rattle.std.proofs.lemmas.List.{get_or_default}
use Rattle.std.proofs.lemmas.List.Elements.{Contains-push_cases}
use Rattle.std.proofs.lemmas.List.Quantifiers.{all_pairs_push}
use Rattle.ad_base.specs.declared.place.Place.{Place}
use Rattle.ad_events.specs.Functions.{changed}
use Rattle.ad_events.proofs.Functions.{changed-here, changed-else, some≢none}
use Rattle.ad_events.specs.declared.mapping.Status.{Status}
use Rattle.ad_events.specs.declared.mapping.Status.TheVariants.{Fresh, Current, Out, Retired, Gone}
use Rattle.ad_events.specs.declared.mapping.Mapping.{Mapping}
use Rattle.ad_events.specs.World.{mapping_of}
use Rattle.ad_events.specs.Owed as owing
use Rattle.ad_events.specs.Owed.{last_batch, IsOpened}
use Rattle.ad_events.specs.Reclaim as machine
use Rattle.ad_events.specs.Reclaim.{Agent}
use Rattle.ad_events.proofs.ReclaimSteps.{not-listed}
use Rattle.ad_events.proofs.WorldLemmas.{same_mapping}
use Rattle.ad_events.proofs.WorldReads.{retire-mapping, retire-other}
use Rattle.ad_maps.specs.declared.shape.Shape.{Shape}
use Rattle.ad_maps.specs.declared.view.Deed.TheVariants as deed
use Rattle.ad_maps.specs.declared.view.Made.{Made}
use Rattle.ad_maps.specs.declared.view.Passing.{Passing}
use Rattle.ad_maps.specs.declared.view.Passing.TheVariants as passing
use Rattle.ad_maps.specs.declared.view.Plan.{Plan}
use Rattle.ad_maps.specs.Laws.{MayList, ListLaw}
use Rattle.ad_maps.specs.Ledger.{line_in, retires_in, unmaps_in_deeds}
use Rattle.ad_maps.specs.MapPlace.{member_word}
use Rattle.ad_maps.specs.Names.{Member, wrote}
use Rattle.ad_maps.specs.Rule.{St, Kept, AllMappings, Batching, IsAs, IsMember, IsToGive, Mappings, MappingStands, Owing, OwnerStands, PassingStands, listed_in}
use Rattle.ad_maps.specs.Steps.{made, listed_more, listing}
use Rattle.ad_maps.proofs.Batches.{few-more, listed-there}
use Rattle.ad_maps.proofs.Elements.{but-from, but-to, lines-else, lines-retire, retires-push}
use Rattle.ad_maps.proofs.Frames.{mover_step_as}
use Rattle.ad_maps.proofs.Freeings.{freed-after, retire-brings}
use Rattle.ad_maps.proofs.Hands.{hand_stays}
use Rattle.ad_maps.proofs.Machine.{holds_of, reached_after, lawful_of}
use Rattle.ad_maps.proofs.MappingFrames.{MoverKnows, mover_knows, ledger-same}
use Rattle.ad_maps.proofs.Regions.{one-member}
use Rattle.ad_maps.proofs.Writes.{writes, row-here, row-column, row-else}
use Rattle.ad_maps.proofs.Telling.{deeds-more, told-quiet}

-- how many mappings the mover's next batch has
listed-is : (d : Passing) (k : ℕ) → MayList d k → listed_in d ≡ k
listed-is passing.Rest k may = sym may
listed-is (passing.Listing n) k may = may
listed-is (passing.Settled s) k may = absurd may
listed-is (passing.Pushed s found) k may = absurd may

-- and it has one more then
listed-more : (d : Passing) (k : ℕ) → MayList d k → listed_in (listed_more d) ≡ k + 1
listed-more passing.Rest k may = omega arith
listed-more (passing.Listing n) k may = ap (λ (i : ℕ). i + 1) may
listed-more (passing.Settled s) k may = absurd may
listed-more (passing.Pushed s found) k may = absurd may

more-stands : (owed : owing.State) (retired : ℕ) (d : Passing) (k : ℕ) → MayList d k → last_batch owed ≤ retired → PassingStands owed retired d → PassingStands owed (retired + 1) (listed_more d)
more-stands owed retired passing.Rest k may enough old = (old, omega arith)
more-stands owed retired (passing.Listing n) k may enough old = (old.0, omega arith)
more-stands owed retired (passing.Settled s) k may enough old = absurd may
more-stands owed retired (passing.Pushed s found) k may enough old = absurd may

module _ (shape : Shape) (s : St) (r : Kept shape s) (id : ℕ) (q : Plan) (g : Made) (line k : ℕ) (m : MoverKnows shape s r id q) (may_list : MayList q.passing k) (few_k : k < 8) (is_out : IsAs r.state.world.mappings r.places g Out) (some_line : 0 < line) where
  abbrev n : ℕ
  n = g.place.mapping

  abbrev b : ℕ
  b = q.batches + 1

  abbrev ms : AllMappings
  ms = r.state.world.mappings

  abbrev ms' : AllMappings
  ms' = (machine.after r.state (machine.Retire n)).world.mappings

  abbrev word : ℕ
  word = member_word line g.place.region

  abbrev member' : ℕ → ℕ → ℕ
  member' = changed r.words.member b (changed (r.words.member b) k word)

  abbrev lines' : ℕ → ℕ
  lines' = changed r.lines n line

  pub may : machine.MayStep r.state (machine.Retire n)
  may = ap (option_map (λ (x : Mapping). x.status)) is_out.there

  same : b ≡ last_batch r.state.owed + 1
  same = let number = m.batching.number in omega arith

  -- it is in no batch yet
  pub new : (c : ℕ) → r.state.batch n ≡ Some c → ⊥
  new c is = not-listed r.state.world n Out may (omega arith) ((holds_of shape r.form r.state r.reached).told n c is)

  pub not_retired : Contains (retires_in q.deeds) n → ⊥
  not_retired c = let t = m.batching.retired n c in new t.0 t.1

  pub few : b < 4096
  few =
      let enough = m.batching.enough in
      let number = m.batching.number in
      let more = few-more shape s r n (mapping_of g.of_module Out) is_out.there (λ c. not_retired (subst (λ (p : Plan). Contains (retires_in p.deeds) n) (sym m.is) c)) in
      let deeds = ap (λ (p : Plan). length (retires_in p.deeds)) m.is in omega arith

  here : map.get ms' n ≡ Some (mapping_of g.of_module Retired)
  here = retire-mapping r.state.world g.of_module n is_out.there n refl

  else : (i : ℕ) → i ≢ n → map.get ms' i ≡ map.get ms i
  else i ne = retire-other r.state.world n may i ne

  -- a mapping with another status is another
  apart : (i j : ℕ) (t : Status) → map.get ms i ≡ Some (mapping_of j t) → t ≢ Out → i ≢ n
  apart i j t there ne e = ne (ap (λ (y : Mapping). y.status) (same_mapping (mapping_of j t) (mapping_of g.of_module Out) (sym there ∙ (ap (map.get ms) e ∙ is_out.there))))

  -- what was retired has that status and no other
  is_retired : (i : ℕ) (x : Mapping) → i ≡ n → map.get ms' i ≡ Some x → x ≡ mapping_of g.of_module Retired
  is_retired i x e there = same_mapping x (mapping_of g.of_module Retired) (sym there ∙ (ap (map.get ms') e ∙ here))

  pub goes_on : (y : Made) (t : Status) → IsAs ms r.places y t → (u : Status) × IsAs ms' r.places y u
  goes_on y t is =
      elim (cases_eq y.place.mapping n) [
        | inl e ↦
            let of : mapping_of y.of_module t ≡ mapping_of g.of_module Out = same_mapping (mapping_of y.of_module t) (mapping_of g.of_module Out) (sym is.there ∙ (ap (map.get ms) e ∙ is_out.there)) in
            (Retired, record { there = ap (map.get ms') e ∙ (here ∙ ap (λ (x : Mapping). Some (mapping_of x.module Retired)) (sym of)); placed = is.placed })
        | inr ne ↦ (t, record { there = else y.place.mapping ne ∙ is.there; placed = is.placed })
      ]

  stays : (y : Made) (t : Status) → t ≢ Out → IsAs ms r.places y t → IsAs ms' r.places y t
  stays y t ne is = record { there = else y.place.mapping (apart y.place.mapping y.of_module t is.there ne) ∙ is.there; placed = is.placed }

  each' : (i : ℕ) (x : Mapping) → map.get ms' i ≡ Some x → MappingStands shape r.ledger r.words.directory r.words.owner r.words.cell (r.places i) i x
  each' i x there =
      elim (cases_eq i n) [
        | inl e ↦
            let was = m.mappings.each i (mapping_of g.of_module Out) (ap (map.get ms) e ∙ is_out.there) in
            subst (MappingStands shape r.ledger r.words.directory r.words.owner r.words.cell (r.places i) i) (sym (is_retired i x e there)) (record { number = was.number; form = was.form; listed = was.listed; words = was.words })
        | inr ne ↦ m.mappings.each i x (sym (else i ne) ∙ there)
      ]

  each_owner' : (f : ℕ) → OwnerStands ms' r.places (IsToGive r.gives) q.stage f (r.words.owner f)
  each_owner' f = ⊎_elim inl
      (λ d. ⊎_elim
      (λ t.
      elim (cases_eq (r.words.owner f) n) [
        | inl e ↦ inr (inl (mapping_of g.of_module Retired, ap (map.get ms') e ∙ here, (λ z. let no : ⊥ = cc in no), t.3))
        | inr ne ↦ inr (inl (t.0, else (r.words.owner f) ne ∙ t.1, t.2, t.3))
      ])
      (λ d. inr (inr d)) d)
      (m.mappings.each_owner f)

  pub mappings' : Mappings shape ms' r.places r.ledger (listing g line q) r.gives r.words.current r.words.directory r.words.owner r.words.cell
  mappings' = record {
    each = each';
    each_made = λ y c. (let was = m.mappings.each_made y c in goes_on y was.0 was.1);
    wide = m.mappings.wide;
    each_current = λ i l. (let was = m.mappings.each_current i l in record {
      there = else (get_or q.current i 0) (apart (get_or q.current i 0) i Current was.there (λ z. let no : ⊥ = cc in no)) ∙ was.there;
      word = was.word;
    });
    each_region = λ v has. (let was = m.mappings.each_region v has in
        elim (cases_eq was.0 n) [
          | inl e ↦ (was.0, mapping_of g.of_module Retired, ap (map.get ms') e ∙ here, was.3)
          | inr ne ↦ (was.0, was.1, else was.0 ne ∙ was.2, was.3)
        ]);
    each_owner = each_owner';
    newest = m.mappings.newest;
    each_give = λ p c. (let was = m.mappings.each_give p c in record { «module» = was.module; gone = stays (made was.module p) Gone (λ z. let no : ⊥ = cc in no) was.gone; owns = was.owns });
    past_cells = m.mappings.past_cells;
    fresh = record {
      each = λ y c. stays y Fresh (λ z. let no : ⊥ = cc in no) (m.mappings.fresh.each y c);
      only = λ i j there. by_status i j Fresh there (λ z. let no : ⊥ = cc in no) (λ ne was. m.mappings.fresh.only i j was);
    };
    outs = record {
      each = λ y c. (let t = but-from n q.outs y c in let is = m.mappings.outs.each y t.0 in record { there = else y.place.mapping t.1 ∙ is.there; placed = is.placed });
      only = λ i j there. by_status i j Out there (λ z. let no : ⊥ = cc in no) (λ ne was. but-to n q.outs (made j (r.places i)) (m.mappings.outs.only i j was) (λ e. ne (sym (m.mappings.each i (mapping_of j Out) was).number ∙ e)));
    };
    rooms = m.mappings.rooms;
    stage = m.mappings.stage;
  }
    where
      by_status : {P : Type 0} (i j : ℕ) (t : Status) → map.get ms' i ≡ Some (mapping_of j t) → t ≢ Retired → (i ≢ n → map.get ms i ≡ Some (mapping_of j t) → P) → P
      by_status i j t there ne go =
          elim (cases_eq i n) [
            | inl e ↦ absurd (ne (ap (λ (y : Mapping). y.status) (is_retired i (mapping_of j t) e there)))
            | inr other ↦ go other (sym (else i other) ∙ there)
          ]

  -- the words of the mappings that were listed before
  pub row : (i c : ℕ) → r.state.batch i ≡ Some c → member_word (lines' i) (r.places i).region ≡ member_word (r.lines i) (r.places i).region
  row i c is = ap (λ (l : ℕ). member_word l (r.places i).region) (changed-else r.lines n line i (λ e. new c (ap r.state.batch (sym e) ∙ is)))

  none-there : r.words.member b k ≡ 0
  none-there = ap (λ (c : ℕ). r.words.member c k) same ∙ m.batching.next k (let l = listed-is q.passing k may_list in omega arith)

  is_here : IsMember member' lines' r.places b k n
  is_here = row-here r.words.member b k word b k refl refl ∙ (λ i. member_word (sym (changed-here r.lines n line n refl) i) (sym is_out.placed i).region)

  -- a word that isn't the new one stays
  word_else : (c i : ℕ) → r.words.member c i ≢ 0 → member' c i ≡ r.words.member c i
  word_else c i some_word =
      elim (cases_eq c b) [
        | inl e ↦ row-column r.words.member b k word c i (λ f. some_word (ap (λ (d : ℕ). r.words.member d i) e ∙ (ap (r.words.member b) f ∙ none-there)))
        | inr ne ↦ row-else r.words.member b k word c i ne
      ]

  some-word : (line region : ℕ) → 0 < line → member_word line region ≢ 0
  some-word line region l e = let z : ⊥ = omega arith in z

  -- whether a member is the new one
  is-new : (c i : ℕ) → ((c ≡ b) × (i ≡ k)) ⊎ (member' c i ≡ r.words.member c i)
  is-new c i =
      elim (cases_eq c b) [
        | inl e ↦ elim (cases_eq i k) [ inl f ↦ inl (e, f) | inr ne ↦ inr (row-column r.words.member b k word c i ne) ]
        | inr ne ↦ inr (row-else r.words.member b k word c i ne)
      ]

  abbrev batch' : ℕ → Option ℕ
  batch' = changed r.state.batch n (Some (last_batch r.state.owed + 1))

  batch-else : (i c : ℕ) → r.state.batch i ≡ Some c → batch' i ≡ Some c
  batch-else i c is = changed-else r.state.batch n (Some (last_batch r.state.owed + 1)) i (λ e. new c (ap r.state.batch (sym e) ∙ is)) ∙ is

  batch-here : batch' n ≡ Some b
  batch-here = changed-here r.state.batch n (Some (last_batch r.state.owed + 1)) n refl ∙ ap (λ (c : ℕ). Some c) (sym same)

  each_listed' : (i c : ℕ) → batch' i ≡ Some c → (j : ℕ) × (j < 8) × IsMember member' lines' r.places c j i
  each_listed' i c is =
      elim (cases_eq i n) [
        | inl e ↦
            let at : b ≡ c = (let t : Some b ≡ Some c = sym batch-here ∙ (ap batch' (sym e) ∙ is) in cc) in
            (k, few_k, subst (λ (d : ℕ). IsMember member' lines' r.places d k i) at (subst (IsMember member' lines' r.places b k) (sym e) is_here))
        | inr ne ↦
            let was = sym (changed-else r.state.batch n (Some (last_batch r.state.owed + 1)) i ne) ∙ is in
            let t = r.owing.each_listed i c was in
            (t.0, t.1, word_else c t.0 (λ z. some-word (r.lines i) (r.places i).region (r.owing.some_line i c was) (sym t.2 ∙ z)) ∙ (t.2 ∙ sym (row i c was)))
      ]

  each_member' : (c i : ℕ) → member' c i ≢ 0 → (j : ℕ) × (batch' j ≡ Some c) × IsMember member' lines' r.places c i j
  each_member' c i has = ⊎_elim
      (λ t. (n, batch-here ∙ ap (λ (d : ℕ). Some d) (sym t.0), subst (λ (d : ℕ). IsMember member' lines' r.places d i n) (sym t.0) (subst (λ (d : ℕ). IsMember member' lines' r.places b d n) (sym t.1) is_here)))
      (λ old. let t = r.owing.each_member c i (λ z. has (old ∙ z)) in (t.0, batch-else t.0 c t.1, old ∙ (t.2 ∙ sym (row t.0 c t.1))))
      (is-new c i)

  -- no member has the new word
  no-other : (c i : ℕ) → r.words.member c i ≢ 0 → r.words.member c i ≡ word → ⊥
  no-other c i has e =
      let t = r.owing.each_member c i has in
      let there = listed-there shape s r t.0 c t.1 in
      let one = one-member shape ms r.places r.ledger q r.gives r.words.current r.words.directory r.words.owner r.words.cell m.mappings t.0 n (r.lines t.0) line there.0 (mapping_of g.of_module Out) there.1 is_out.there
      (sym t.2 ∙ (e ∙ ap (λ (p : Place). member_word line p.region) (sym is_out.placed))) in
      new c (ap r.state.batch (sym one) ∙ t.1)

  once' : (c i j : ℕ) → member' c i ≢ 0 → member' c i ≡ member' c j → i ≡ j
  once' c i j has e = ⊎_elim
      (λ t. ⊎_elim
      (λ u. t.1 ∙ sym u.1)
      (λ old. absurd (no-other c j (λ z. has (e ∙ (old ∙ z))) (sym old ∙ (sym e ∙ row-here r.words.member b k word c i t.0 t.1))))
      (is-new c j))
      (λ old. ⊎_elim
      (λ u. absurd (no-other c i (λ z. has (old ∙ z)) (sym old ∙ (e ∙ row-here r.words.member b k word c j u.0 u.1))))
      (λ there. r.owing.once c i j (λ z. has (old ∙ z)) (sym old ∙ (e ∙ there)))
      (is-new c j))
      (is-new c i)

  pub owing' : Owing shape r.state.owed batch' r.places lines' r.words.slot r.words.count member'
  owing' = record {
    slots = r.owing.slots;
    seats = r.owing.seats;
    each_slot = r.owing.each_slot;
    each_count = r.owing.each_count;
    no_count = r.owing.no_count;
    each_listed = each_listed';
    each_member = each_member';
    once = once';
    each_line = λ i none.
        elim (cases_eq i n) [
          | inl e ↦ absurd (some≢none b (sym batch-here ∙ (ap batch' (sym e) ∙ none)))
          | inr ne ↦ changed-else r.lines n line i ne ∙ r.owing.each_line i (sym (changed-else r.state.batch n (Some (last_batch r.state.owed + 1)) i ne) ∙ none)
        ];
    some_line = λ i c is.
        elim (cases_eq i n) [
          | inl e ↦ subst (λ (l : ℕ). 0 < l) (sym (changed-here r.lines n line i e)) some_line
          | inr ne ↦ subst (λ (l : ℕ). 0 < l) (sym (changed-else r.lines n line i ne)) (r.owing.some_line i c (sym (changed-else r.state.batch n (Some (last_batch r.state.owed + 1)) i ne) ∙ is))
        ];
  }

  retires : retires_in (q.deeds ++ deed.Retire n line ∷ []) ≡ retires_in q.deeds ++ n ∷ []
  retires = retires-push q.deeds (deed.Retire n line)

  pub batching' : Batching r.state.owed batch' member' (listing g line q)
  batching' = record {
    number = m.batching.number;
    stands = subst (λ (i : ℕ). PassingStands r.state.owed i (listed_more q.passing)) (sym long) (more-stands r.state.owed (length (retires_in q.deeds)) q.passing k may_list m.batching.enough m.batching.stands);
    enough = (let l = long in let e = m.batching.enough in omega arith);
    retired = λ i c. ⊎_elim
        (λ before. let t = m.batching.retired i before in (t.0, batch-else i t.0 t.1))
        (λ e. (b, ap batch' (sym e) ∙ batch-here))
        (Contains-push_cases (retires_in q.deeds) n i (subst (λ (ns : List ℕ). Contains ns i) retires c));
    differ = subst (λ (ns : List ℕ). AllPairs (λ (i j : ℕ). i ≢ j) ns) (sym retires)
        (all_pairs_push (λ (i j : ℕ). i ≢ j) (retires_in q.deeds) n m.batching.differ (λ i d within e. not_retired (i, within, changed_default i within d e)));
    next = λ i l. (let more = listed-more q.passing k may_list in row-column r.words.member b k word (last_batch r.state.owed + 1) i (λ e. omega arith) ∙ m.batching.next i (let at = listed-is q.passing k may_list in omega arith));
    later = λ c i l. row-else r.words.member b k word c i (λ e. let at = same in omega arith) ∙ m.batching.later c i l;
  }
    where
      long : length (retires_in (q.deeds ++ deed.Retire n line ∷ [])) ≡ length (retires_in q.deeds) + 1
      long = ap length retires ∙ length-append (retires_in q.deeds) (n ∷ [])

      changed_default : (i : ℕ) → i < length (retires_in q.deeds) → (d : ℕ) → get_or (retires_in q.deeds) i d ≡ n → get_or (retires_in q.deeds) i n ≡ n
      changed_default i within d e = get_or_default (retires_in q.deeds) i n d within ∙ e

pub list_law : ListLaw
list_law shape s r id q g line k at may_list few_k out some_line =
    let m = mover_knows shape s r id q at in
    let is_out = m.mappings.outs.each g out in
    let n = g.place.mapping in
    let b : ℕ = q.batches + 1 in
    let x : machine.Step = machine.Retire n in
    let may : machine.MayStep r.state x = may shape s r id q g line k m may_list few_k is_out some_line in
    let few : b < 4096 = few shape s r id q g line k m may_list few_k is_out some_line in
    let j = machine.after r.state x in
    let word : ℕ = member_word line g.place.region in
    let lines' : ℕ → ℕ = changed r.lines n line in
    let member' : ℕ → ℕ → ℕ = changed r.words.member b (changed (r.words.member b) k word) in
    let number = m.batching.number in
    let none = not_retired shape s r id q g line k m may_list few_k is_out some_line in
    let step = mover_step_as shape s r id (listing g line q) m.mine (set s.words (135320 + (8 * b + k)) word) (wrote r.words (Member b k) word) j r.places r.ledger lines' r.gives r.frees
    (ap (λ (p : Plan). p.slots) m.is) (ap (λ (p : Plan). p.dealt) m.is) (ap (λ (p : Plan). p.back) m.is)
    (writes s.words r.words (Member b k) word (few, few_k) r.reads)
    (reached_after shape r.state x r.reached may)
    (told-quiet shape r.state r.reached machine.Mover x may (unmaps_in_deeds r.plan.deeds) (unmaps_in_deeds (q.deeds ++ deed.Retire n line ∷ [])) (λ c n. refl) (deeds-more q r.plan (deed.Retire n line) m.is (λ i. refl)))
    (mappings' shape s r id q g line k m may_list few_k is_out some_line)
    (owing' shape s r id q g line k m may_list few_k is_out some_line)
    (batching' shape s r id q g line k m may_list few_k is_out some_line)
    (freed-after r.state (holds_of shape r.form r.state r.reached) x may r.words.member member' r.lines lines' r.places r.places
    (λ c i opened. row-else r.words.member b k word c i (λ e. let within = opened.within in omega arith))
    (row shape s r id q g line k m may_list few_k is_out some_line)
    (retire-brings r.state n) r.gives r.frees r.freed)
    (λ v. refl) m.freeing m.gives
    (m.ledger_is ∙ sym (ledger-same shape q.deeds (deed.Retire n line) refl))
    (λ i.
    elim (cases_eq i n) [
      | inl e ↦ changed-here r.lines n line i e ∙ (sym (lines-retire q.deeds n line none) ∙ ap (line_in (q.deeds ++ deed.Retire n line ∷ [])) (sym e))
      | inr ne ↦ changed-else r.lines n line i ne ∙ (m.lines_are i ∙ sym (lines-else q.deeds n line i ne))
    ])
    (λ v. refl)
    (λ v. hand_stays shape r.state.world j.world r.places r.places r.ledger r.ledger r.plan.current q.current r.gives v refl refl
    (goes_on shape s r id q g line k m may_list few_k is_out some_line) (λ y c. c) (λ i. let same = ap (λ (p : Plan). get_or p.current i 0) m.is in omega arith) (r.hands v)) in
    record { may = may; lawful = lawful_of shape r.form r.state r.reached x may; kept = step.kept; state = step.state }
