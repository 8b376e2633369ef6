-- A table that is closed with all its seats: its directory says the rows.
use Rattle.std.proofs.Common.{◌≡◌, ◌≢◌, ⊎_elim, inl, ℕ, ◌+◌, ◌*◌, ◌/◌, ◌%◌, ◌^◌, ◌<◌, ◌≤◌, Bool, cond, eqb, eq-eqb, ne_eqb, unwrap_or, List, length, get_or, map, slice_get, IfSome, Option, Some, None, inr, refl, sym, ap, ◌∙◌, subst, arith}
use Rattle.std.specs.List.{count_by, sum_by, Contains}
use Rattle.std.specs.Option.{option_map}
use Rattle.std.specs.FinMap as map
use mathlib.Core.Option.{some, some-injective}
use lib.ListN.{get_elem?}
use Rattle.atomic_table.specs.Table.{Final, Seen}
use Rattle.atomic_table.proofs.Lists.{at_map}
use Rattle.ad_base.specs.declared.ledger.Kind.TheVariants.{Code}
use Rattle.ad_base.specs.declared.ledger.Row.{Row}
use Rattle.ad_base.specs.declared.place.Place.{Place}
use Rattle.ad_base.specs.Place.{packed, IsPlace, place_at}
use Rattle.ad_events.specs.declared.mapping.Status.{Status}
use Rattle.ad_events.specs.declared.mapping.Status.TheVariants.{Gone}
use Rattle.ad_events.specs.declared.mapping.Mapping.{Mapping}
use Rattle.ad_events.specs.World.{status_of}
use Rattle.ad_events.specs.Owed.{last_batch}
use Rattle.ad_events.specs.Reclaim as machine
use Rattle.ad_events.specs.Reclaim.{Agent, ReclaimState}
use Rattle.ad_events.specs.ReclaimLaws.{IsQuiet, NothingLeft, events_of}
use Rattle.ad_events.specs.Sums.{sum_below}
use Rattle.ad_events.specs.WorldLaws.{unmaps}
use Rattle.ad_events.proofs.Functions.{some≢none, option-cases}
use Rattle.ad_events.proofs.ReclaimLaws.{quiet-gone}
use Rattle.ad_events.proofs.ReclaimRuns.{each-runs_both}
use Rattle.ad_events.proofs.SumLemmas.{count_by-at, sum_below-at}
use Rattle.ad_events.proofs.WorldLaws.{gone_once, not_gone_never}
use Rattle.std.proofs.lemmas.Bool.{cases_eq, cases_lt}
use Rattle.ad_maps.specs.declared.view.Freeing.TheVariants as freeing
use Rattle.ad_maps.specs.declared.view.Passing.{Passing}
use Rattle.ad_maps.specs.declared.view.Passing.TheVariants as passing
use Rattle.ad_maps.specs.declared.view.Stance.TheVariants as stance
use Rattle.ad_maps.specs.declared.shape.Shape.{Shape}
use Rattle.ad_maps.specs.declared.view.Act.{Act}
use Rattle.ad_maps.specs.declared.view.Act.TheVariants as act
use Rattle.ad_maps.specs.declared.view.Deed.{Deed}
use Rattle.ad_maps.specs.declared.view.Deed.TheVariants as deed
use Rattle.ad_maps.specs.declared.view.Hand.{Hand}
use Rattle.ad_maps.specs.declared.view.Made.{Made}
use Rattle.ad_maps.specs.declared.view.Plan.{Plan}
use Rattle.ad_maps.specs.declared.view.Doing.TheVariants.{Mover}
use Rattle.ad_maps.specs.Ledger.{act_unmaps, deed_unmaps, line_in, retires_in, unmaps_in_acts, unmaps_in_deeds}
use Rattle.ad_maps.specs.MapPlace.{directory_word, member_word, numbers, IsPlaceOf}
use Rattle.ad_maps.specs.Names.{Directory, Member}
use Rattle.ad_maps.specs.Rows.{row_of, unmaps_told, HaveUnmappedRows, HaveUnmapsTold, IsUnmappedIn}
use Rattle.ad_maps.specs.Rule.{St, Kept, FreeingStands, IsAtRest, PassingStands, listed_in, seat_of, unmaps_made}
use Rattle.ad_maps.specs.Seen.{SeatSeen}
use Rattle.ad_maps.specs.Steps.{Sat, made}
use Rattle.ad_maps.specs.Private.Handles.{plan_of}
use Rattle.ad_maps.specs.Private.Numbered.{place_in, directory_at, line_of, member_at, region_in, row_at, AreClosedRows, AreLined, AreMembers, HasBack, HasPlace, IsDirectory, SayLinedRows, SayRows}
use Rattle.ad_maps.proofs.Batches.{few-opened, listed-there}
use Rattle.ad_maps.proofs.Joined.{back_count}
use Rattle.ad_maps.proofs.Machine.{differ, holds_of, sized}
use Rattle.ad_maps.proofs.NewSeats.{at_seat}
use Rattle.ad_base.proofs.Packing.{place_at-packed, packed-some}
use Rattle.ad_maps.proofs.Numbers.{packed-small, region-few}
use Rattle.ad_maps.proofs.Pinned.{gone-or}
use Rattle.ad_maps.proofs.Regions.{one-region}
use Rattle.ad_maps.proofs.Unmaps.{all-events, sum_by-below}

-- ---- the word of a place, with its unmap steps
low-word : (p : Place) (u : ℕ) → IsPlace p → directory_word p u % 2 ^ 56 ≡ packed p
low-word p u is = let small = packed-small p is in omega arith

high-word : (p : Place) (u : ℕ) → IsPlace p → directory_word p u / 2 ^ 56 ≡ u
high-word p u is = let small = packed-small p is in omega arith

place_in-word : (p : Place) (u : ℕ) → IsPlace p → place_in (directory_word p u) ≡ p
place_in-word p u is = ap place_at (low-word p u is) ∙ place_at-packed p is

word-place : (p : Place) (u : ℕ) → IsPlace p → HasPlace (directory_word p u)
word-place p u is = let place = place_in-word p u is in record { place = subst IsPlace (sym place) is; packs = low-word p u is ∙ ap packed (sym place) }

-- a table at rest: the mover is in no batch, nobody has anything to free, and each worker is away
pub record IsStill (shape : Shape) (s : St) (r : Kept shape s) : Type 0 where
  pub passing : r.plan.passing ≡ passing.Rest
  pub freed : r.plan.freeing ≡ freeing.Nothing
  pub away : (w : ℕ) → (r.hands w).stance ≡ stance.Away
  pub free : (w : ℕ) → (r.hands w).freeing ≡ freeing.Nothing

-- a mover that is in no batch has opened each that lists a mapping
module _ (shape : Shape) (s : St) (r : Kept shape s) (rest : r.plan.passing ≡ passing.Rest) where
  pub none-above : (n b : ℕ) → r.state.batch n ≡ Some b → b ≤ last_batch r.state.owed
  none-above n b is =
      let range = (holds_of shape r.form r.state r.reached).numbered n b is in
      let most = range.1 in
      elim (cases_eq b (last_batch r.state.owed + 1)) [
        | inl e ↦
            let t = r.owing.each_listed n b is in
            let zero = ap (λ (c : ℕ). r.words.member c t.0) e ∙ r.batching.next t.0 (subst (λ (d : Passing). listed_in d ≤ t.0) (sym rest) (omega arith)) in
            let some_line = r.owing.some_line n b is in
            let word = t.2 in absurd (omega arith)
        | inr ne ↦ omega arith
      ]

module _ (shape : Shape) (s : St) (r : Kept shape s) (still : IsStill shape s r) where
  pub quiet : IsQuiet r.state
  quiet = record {
    away = λ w. r.each_stance w ∙ ap (seat_of (w % shape.slots)) (still.away w);
    nothing_left = nothing;
    idle = subst (PassingStands r.state.owed (length (retires_in r.plan.deeds))) still.passing r.batching.stands;
    none_above = none-above shape s r still.passing;
  }
    where
      nothing : (a : Agent) → NothingLeft r.state a
      nothing (machine.Worker w) = subst (FreeingStands r.state r.words.member r.lines r.places (machine.Worker w)) (sym (r.tells.hand w) ∙ still.free w) (r.freed.each (machine.Worker w))
      nothing machine.Mover = subst (FreeingStands r.state r.words.member r.lines r.places machine.Mover) (sym r.tells.own ∙ still.freed) (r.freed.each machine.Mover)

  -- each mapping that is listed is Gone
  pub listed-gone : (n b : ℕ) → r.state.batch n ≡ Some b → status_of r.state.world n ≡ Some Gone
  listed-gone n b is = quiet-gone r.state (holds_of shape r.form r.state r.reached) quiet n b is

  -- how often a mapping was unmapped, and under which line it was retired
  record IsUnmapped (n : ℕ) (x : Mapping) (u : ℕ) : Type 0 where
    word : directory_at s.words (r.places n).region ≡ directory_word (r.places n) u
    line : cond (eqb (r.lines n) 0) 0 1 ≡ u

  unmapped : (n : ℕ) (x : Mapping) → map.get r.state.world.mappings n ≡ Some x → (u : ℕ) × IsUnmapped n x u
  unmapped n x there =
      let stands = r.mappings.each n x there in
      let p = r.places n in
      let few = region-few shape x.module p stands.form in
      let at = r.reads.1 (Directory p.region) few in
      let holds = holds_of shape r.form r.state r.reached in
      ⊎_elim
      (λ gone.
      let listed = holds.listed n (inr (ap (option_map (λ (y : Mapping). y.status)) there ∙ ap (λ (t : Status). Some t) gone.0)) in
      let some_line = r.owing.some_line n listed.0 listed.1 in
      (1, record { word = at ∙ gone.1; line = ap (λ (b : Bool). cond b 0 1) (ne_eqb (r.lines n) 0 (λ z. omega arith)) }))
      (λ here. (
        0,
        record {
          word = at ∙ (here.1.word ∙ (let none : packed p ≡ packed p + 0 * 2 ^ 56 = omega arith in none));
          line = ap (λ (b : Bool). cond b 0 1) (eq-eqb (r.lines n) 0 (⊎_elim
              (λ none. r.owing.each_line n none)
              (λ some_batch. absurd (here.0 (ap (λ (o : Option Status). unwrap_or o x.status) (sym (ap (option_map (λ (y : Mapping). y.status)) there) ∙ listed-gone n some_batch.0 some_batch.1))))
              (option-cases (r.state.batch n))));
        },
      ))
      (gone-or shape r.words.directory r.words.owner r.words.cell x.module p x.status stands.words)

  -- a mapping of the world: its place, and its word in the directory
  record IsThere (n : ℕ) (x : Mapping) : Type 0 where
    form : IsPlaceOf shape x.module (r.places n)
    number : (r.places n).mapping ≡ n
    listed : Contains r.ledger (made x.module (r.places n))
    unmaps : ℕ
    word : directory_at s.words (r.places n).region ≡ directory_word (r.places n) unmaps
    line : cond (eqb (r.lines n) 0) 0 1 ≡ unmaps

  is_there : (n : ℕ) (x : Mapping) → map.get r.state.world.mappings n ≡ Some x → IsThere n x
  is_there n x there =
      let stands = r.mappings.each n x there in
      let t = unmapped n x there in record { form = stands.form; number = stands.number; listed = stands.listed; unmaps = t.0; word = t.1.word; line = t.1.line }

  -- where the directory's word for a region isn't 0, there is a mapping
  record IsInRegion (v n : ℕ) (x : Mapping) : Type 0 where
    world : map.get r.state.world.mappings n ≡ Some x
    there : IsThere n x
    region : (r.places n).region ≡ v
    word : directory_at s.words v ≡ directory_word (r.places n) there.unmaps

  in_region : (v : ℕ) → v < 65536 → directory_at s.words v ≢ 0 → (n : ℕ) × (x : Mapping) × IsInRegion v n x
  in_region v low some_word =
      let t = r.mappings.each_region v (λ z. some_word (r.reads.1 (Directory v) low ∙ z)) in
      let there = is_there t.0 t.1 t.2 in
      (t.0, t.1, record { world = t.2; there = there; region = t.3; word = ap (directory_at s.words) (sym t.3) ∙ there.word })

  pub directory_of : IsDirectory s.words
  directory_of = record {
    form = λ v low some_word. (let t = in_region v low some_word in subst HasPlace (sym t.2.word) (word-place (r.places t.0) t.2.there.unmaps t.2.there.form.place.place));
    once = λ v u low_v low_u some_v some_u same. (
        let t = in_region v low_v some_v in
        let k = in_region u low_u some_u in
        let number_v = ap (λ (w : ℕ). (place_in w).mapping) t.2.word ∙ (ap (λ (p : Place). p.mapping) (place_in-word (r.places t.0) t.2.there.unmaps t.2.there.form.place.place) ∙ t.2.there.number) in
        let number_u = ap (λ (w : ℕ). (place_in w).mapping) k.2.word ∙ (ap (λ (p : Place). p.mapping) (place_in-word (r.places k.0) k.2.there.unmaps k.2.there.form.place.place) ∙ k.2.there.number) in
        let one : t.0 ≡ k.0 = sym number_v ∙ (same ∙ number_u) in
        sym t.2.region ∙ (ap (λ (n : ℕ). (r.places n).region) one ∙ k.2.region));
  }

  -- ---- the members

  -- the word of a member is that of a mapping, which is listed in the member's batch
  record IsOfMember (i n : ℕ) (x : Mapping) : Type 0 where
    there : map.get r.state.world.mappings n ≡ Some x
    listed : r.state.batch n ≡ Some (i / 8)
    word : member_at s.words i ≡ member_word (r.lines n) (r.places n).region
    at : member_at s.words i ≡ r.words.member (i / 8) (i % 8)

  of_member : (i : ℕ) → i < 32768 → member_at s.words i ≢ 0 → (n : ℕ) × (x : Mapping) × IsOfMember i n x
  of_member i low some_word =
      let b : ℕ = i / 8 in
      let k : ℕ = i % 8 in
      let where_is : 135320 + i ≡ 135320 + (8 * b + k) = omega arith in
      let at : member_at s.words i ≡ r.words.member b k = ap (λ (j : ℕ). get_or s.words j 0) where_is ∙ r.reads.1 (Member b k) (omega arith, omega arith) in
      let t = r.owing.each_member b k (λ z. some_word (at ∙ z)) in
      let there = listed-there shape s r t.0 b t.1 in
      (t.0, there.0, record { there = there.1; listed = t.1; word = at ∙ t.2; at = at })

  member-region : (i n : ℕ) (x : Mapping) → IsOfMember i n x → region_in (member_at s.words i) ≡ (r.places n).region
  member-region i n x of = low (member_at s.words i) (r.lines n) (r.places n).region (r.mappings.each n x of.there).form.place.place.region_to of.word
    where
      low : (word line region : ℕ) → region < 65536 → word ≡ line * 2 ^ 16 + region → word % 2 ^ 16 ≡ region
      low word line region l e = omega arith

  member-line : (i n : ℕ) (x : Mapping) → IsOfMember i n x → line_of (member_at s.words i) ≡ r.lines n
  member-line i n x of = high (member_at s.words i) (r.lines n) (r.places n).region (r.mappings.each n x of.there).form.place.place.region_to of.word
    where
      high : (word line region : ℕ) → region < 65536 → word ≡ line * 2 ^ 16 + region → word / 2 ^ 16 ≡ line
      high word line region l e = omega arith

  same-region : (n k : ℕ) (x y : Mapping) → map.get r.state.world.mappings n ≡ Some x → map.get r.state.world.mappings k ≡ Some y → (r.places n).region ≡ (r.places k).region → n ≡ k
  same-region n k x y there here e = one-region shape r.state.world.mappings r.places r.ledger r.plan r.gives r.words.current r.words.directory r.words.owner r.words.cell r.mappings n k x y there here e

  pub members_of : AreMembers s.words
  members_of i j low_i low_j some_i some_j same =
      let t = of_member i low_i some_i in
      let u = of_member j low_j some_j in
      let n : t.0 ≡ u.0 = same-region t.0 u.0 t.1 u.1 t.2.there u.2.there (sym (member-region i t.0 t.1 t.2) ∙ (same ∙ member-region j u.0 u.1 u.2)) in
      let batch : i / 8 ≡ j / 8 = ap (λ o. unwrap_or o 0) (sym t.2.listed ∙ (ap r.state.batch n ∙ u.2.listed)) in
      let words : member_at s.words i ≡ member_at s.words j = t.2.word ∙ (ap (λ (k : ℕ). member_word (r.lines k) (r.places k).region) n ∙ sym u.2.word) in
      let member : i % 8 ≡ j % 8 = r.owing.once (i / 8) (i % 8) (j % 8) (λ z. some_i (t.2.at ∙ z)) (sym t.2.at ∙ (words ∙ (u.2.at ∙ ap (λ (b : ℕ). r.words.member b (j % 8)) (sym batch)))) in
      omega arith

  -- ---- the rows
  module _ (lines : List ℕ) (are : AreLined s.words 32768 lines) where
    -- the line of a mapping stands at its region
    line-there : (n : ℕ) (x : Mapping) → map.get r.state.world.mappings n ≡ Some x → get_or lines (r.places n).region 0 ≡ r.lines n
    line-there n x there =
        let few = region-few shape x.module (r.places n) (r.mappings.each n x there).form in
        ⊎_elim
        (λ none.
        elim (cases_eq (get_or lines (r.places n).region 0) 0) [
          | inl zero ↦ zero ∙ sym (r.owing.each_line n none)
          | inr has ↦
              let t = are.found (r.places n).region few has in
              let of = of_member t.0 t.1 t.2 in
              let one = same-region of.0 n of.1 x of.2.there there (sym (member-region t.0 of.0 of.1 of.2) ∙ t.3) in
              absurd (some≢none (t.0 / 8) (sym of.2.listed ∙ (ap r.state.batch one ∙ none)))
        ])
        (λ some_batch.
        let b = some_batch.0 in
        let m = r.owing.each_listed n b some_batch.1 in
        let i : ℕ = 8 * b + m.0 in
        let few_b = few-opened shape s r n b some_batch.1 in
        let low_k = m.1 in
        let low : i < 32768 = omega arith in
        let at : member_at s.words i ≡ r.words.member b m.0 = r.reads.1 (Member b m.0) (few_b, low_k) in
        let some_line = r.owing.some_line n b some_batch.1 in
        let word : member_at s.words i ≡ member_word (r.lines n) (r.places n).region = at ∙ m.2 in
        let has : member_at s.words i ≢ 0 = λ z. (let w = word in omega arith) in
        let of : IsOfMember i n x = record { there = there; listed = some_batch.1 ∙ ap (λ (c : ℕ). Some c) (let e : b ≡ i / 8 = omega arith in e); word = word; at = at ∙ (let e : b ≡ i / 8 = omega arith in let f : m.0 ≡ i % 8 = omega arith in λ t. r.words.member (e t) (f t)) } in
        ap (λ (v : ℕ). get_or lines v 0) (sym (member-region i n x of)) ∙ (are.each i low has ∙ member-line i n x of))
        (option-cases (r.state.batch n))

    row-is : (n : ℕ) (x : Mapping) (world : map.get r.state.world.mappings n ≡ Some x) (t : IsThere n x) → row_at shape.frames lines (directory_word (r.places n) t.unmaps) ≡ row_of r.plan.deeds (made x.module (r.places n))
    row-is n x world t =
        let p = r.places n in
        let is = t.form.place.place in
        let place = place_in-word p t.unmaps is in
        let who : (place_in (directory_word p t.unmaps)).frame / shape.frames ≡ x.module = ap (λ (q : Place). q.frame / shape.frames) place ∙ t.form.frame in
        let line : get_or lines (place_in (directory_word p t.unmaps)).region 0 ≡ line_in r.plan.deeds p.mapping = ap (λ (q : Place). get_or lines q.region 0) place ∙ (line-there n x world ∙ (r.lines_are n ∙ ap (line_in r.plan.deeds) (sym t.number))) in
        let unmaps : directory_word p t.unmaps / 2 ^ 56 ≡ cond (eqb (line_in r.plan.deeds p.mapping) 0) 0 1 = high-word p t.unmaps is ∙ (sym t.line ∙ ap (λ (l : ℕ). cond (eqb l 0) 0 1) (r.lines_are n ∙ ap (line_in r.plan.deeds) (sym t.number))) in
        λ i. record { mapping = (place i).mapping; kind = Code; who = who i; place = place i; line = line i; unmaps = unmaps i }

    module _ (rows : List Row) (say : SayRows shape.frames lines s.words rows) where
      pub row_of_each : (g : Made) → Contains r.ledger g → Contains rows (row_of r.plan.deeds g)
      row_of_each g listed =
          let t = r.mappings.each_made g listed in
          let there = is_there g.place.mapping _ t.1.there in
          let same : made g.of_module (r.places g.place.mapping) ≡ g = ap (made g.of_module) t.1.placed in
          let few = region-few shape g.of_module (r.places g.place.mapping) there.form in
          let p = r.places g.place.mapping in
          let some_word : directory_at s.words p.region ≢ 0 = λ z. (let has : packed p ≢ 0 = packed-some p there.form.place.place in let sum : packed p + there.unmaps * 2 ^ 56 ≡ 0 = sym there.word ∙ z in has (omega arith)) in
          subst (Contains rows) (ap (row_at shape.frames lines) there.word ∙ (row-is g.place.mapping _ t.1.there there ∙ ap (row_of r.plan.deeds) same)) (say.each_word p.region few some_word)

      pub each_is_of : (x : Row) → Contains rows x → (g : Made) × Contains r.ledger g × (x ≡ row_of r.plan.deeds g)
      each_is_of x c =
          let t = say.each_row x c in
          let k = in_region t.0 t.1 t.2 in
          (made k.1.module (r.places k.0), k.2.there.listed, t.3 ∙ (ap (row_at shape.frames lines) k.2.word ∙ row-is k.0 k.1 k.2.world k.2.there))

-- ---- what the seats did that came back
if_seat : (P : SeatSeen → Type 0) (o : Option SeatSeen) → ((x : SeatSeen) → o ≡ Some x → P x) → IfSome o P
if_seat P None h = tt
if_seat P (Some x) h = h x refl

-- what is known of the words of a closed table
pub record IsEnded (shape : Shape) (deeds : List Deed) (seats : List SeatSeen) (words : List ℕ) : Type 0 where
  pub directory : IsDirectory words
  pub members : AreMembers words
  pub rows : (rows : List Row) → SayLinedRows shape.frames words rows → AreClosedRows shape deeds seats rows

module _ (shape : Shape) (s : St) (r : Kept shape s) (before : Plan) (seats : List SeatSeen) (me : Sat) (id : ℕ) (at : get_elem? s.views id ≡ some me.0) (has : HasBack before seats me)
    (workers : length seats ≡ shape.workers) (rest : before.passing ≡ passing.Rest) (freed : before.freeing ≡ freeing.Nothing) where
  plan_is : record before { back = (plan_of me.0).back } ≡ r.plan
  plan_is = (r.each_seat id (Mover (record before { back = (plan_of me.0).back })) (at ∙ ap (λ (m : Sat). some m.0) has.view)).0

  deeds_are : r.plan.deeds ≡ before.deeds
  deeds_are = ap (λ (q : Plan). q.deeds) (sym plan_is)

  -- what a worker's view tells is what its seat told
  seat-acts : (w : ℕ) (y : SeatSeen) → w < length seats → get_elem? seats w ≡ some y → (r.hands w).acts ≡ y.acts
  seat-acts w y low e =
      let count = back_count before seats me has in
      let hands : r.plan.back ≡ (plan_of me.0).back = ap (λ (q : Plan). q.back) (sym plan_is) in
      let long = ap (λ (hs : List Hand). length hs) hands in
      let b = r.dealt.back w (omega arith) in
      let here = at_map (λ (h : Hand). h.acts) r.plan.back w (r.hands w) b.1 in
      let there = at_map (λ (x : SeatSeen). x.acts) seats w y e in
      let lists = ap (map (λ (h : Hand). h.acts)) hands ∙ has.acts in
      some-injective (r.hands w).acts y.acts (sym here ∙ (ap (λ (xs : List (List Act)). get_elem? xs w) lists ∙ there))

  -- a place that a seat read is that of a mapping that was made
  read_listed : (w : ℕ) (y : SeatSeen) → slice_get seats w ≡ Some y → (m : ℕ) (p : Place) → Contains y.acts (act.Read m p) → Contains r.ledger (made m p)
  read_listed w y e m p c =
      let t = at_seat seats w y e in
      ((r.each_hand w).reads m p (subst (λ (acts : List Act). Contains acts (act.Read m p)) (sym (seat-acts w y t.0 t.1)) c)).listed

  hands-back : r.plan.back ≡ (plan_of me.0).back
  hands-back = ap (λ (q : Plan). q.back) (sym plan_is)

  at-rest : (w : ℕ) → IsAtRest (r.hands w)
  at-rest w =
      let count = back_count before seats me has in
      let long = ap (λ (hs : List Hand). length hs) hands-back in
      elim (cases_lt w (length r.plan.back)) [
        | inl low ↦ (r.dealt.back w low).0
        | inr far ↦ subst IsAtRest (sym (r.dealt.undealt w (let few = r.dealt.few in omega arith))) (record { away = refl; freed = refl; given = refl })
      ]

  still : IsStill shape s r
  still = record {
    passing = ap (λ (q : Plan). q.passing) (sym plan_is) ∙ rest;
    freed = ap (λ (q : Plan). q.freeing) (sym plan_is) ∙ freed;
    away = λ w. (at-rest w).away;
    free = λ w. (at-rest w).freed;
  }

  -- ---- what the lists tell of unmaps
  abbrev past : List machine.Step
  past = r.reached.past

  -- a mapping that was retired was unmapped by one event, any other by none
  counted : (n : ℕ) → count_by (unmaps n) (events_of past) ≡ cond (eqb (r.lines n) 0) 0 1
  counted n =
      let runs = each-runs_both shape.slots shape.workers (numbers shape) past (sized shape r.form) (differ shape r.form) r.reached.may in
      let status = ap (λ (j : ReclaimState). status_of j.world n) r.reached.is ∙ ap (λ w. status_of w n) runs.world in
      ⊎_elim
      (λ none.
      let not_gone : status_of r.state.world n ≢ Some Gone = λ gone. (let t = (holds_of shape r.form r.state r.reached).listed n (inr gone) in some≢none t.0 (sym t.1 ∙ none)) in
      not_gone_never shape.workers (numbers shape) (events_of past) (differ shape r.form) runs.lawful n (λ gone. not_gone (status ∙ gone))
      ∙ ap (λ (b : Bool). cond b 0 1) (sym (eq-eqb (r.lines n) 0 (r.owing.each_line n none))))
      (λ some_batch.
      let some_line = r.owing.some_line n some_batch.0 some_batch.1 in
      gone_once shape.workers (numbers shape) (events_of past) (differ shape r.form) runs.lawful n (sym status ∙ listed-gone shape s r still n some_batch.0 some_batch.1)
      ∙ ap (λ (b : Bool). cond b 0 1) (sym (ne_eqb (r.lines n) 0 (λ z. omega arith))))
      (option-cases (r.state.batch n))

  -- the seats' lists tell what the workers made
  seats-told : (n : ℕ) → sum_by (λ (y : SeatSeen). unmaps_in_acts y.acts n) seats ≡ sum_below (length seats) (λ w. unmaps_made (machine.Worker w) past n)
  seats-told n = sum_by-below (λ (y : SeatSeen). unmaps_in_acts y.acts n) (λ w. unmaps_made (machine.Worker w) past n) seats
      (λ w y low e. ap (λ (acts : List Act). unmaps_in_acts acts n) (sym (seat-acts w y low e)) ∙ r.unmaps.worker w n)

  -- so the lists tell one unmap of each mapping that was retired, and none of any other
  told : (n : ℕ) → unmaps_told r.plan.deeds seats n ≡ cond (eqb (line_in r.plan.deeds n) 0) 0 1
  told n =
      let none : (w : ℕ) → shape.workers ≤ w → unmaps_made (machine.Worker w) past n ≡ 0 = λ w l. sym (r.unmaps.worker w n) ∙ ap (λ (h : Hand). unmaps_in_acts h.acts n) (r.dealt.undealt w (let few = r.dealt.few in omega arith)) in
      let lists : unmaps_told r.plan.deeds seats n ≡ unmaps_made machine.Mover past n + sum_below shape.workers (λ w. unmaps_made (machine.Worker w) past n) =
      (λ i. r.unmaps.mover n i + (seats-told n ∙ ap (λ (k : ℕ). sum_below k (λ w. unmaps_made (machine.Worker w) past n)) workers) i) in
      lists ∙ (all-events n shape.workers past none ∙ (counted n ∙ ap (λ (l : ℕ). cond (eqb l 0) 0 1) (r.lines_are n)))

  module _ (rows : List Row) (say : SayLinedRows shape.frames s.words rows) where
    unmapped-row : (n : ℕ) → 0 < unmaps_told r.plan.deeds seats n → IsUnmappedIn rows n
    unmapped-row n some_unmap = ⊎_elim
        (λ none.
        absurd (let zero : unmaps_told r.plan.deeds seats n ≡ 0 = told n ∙ ap (λ (b : Bool). cond b 0 1) (eq-eqb (line_in r.plan.deeds n) 0 (sym (r.lines_are n) ∙ r.owing.each_line n none)) in
        let z : ⊥ = omega arith in z))
        (λ some_batch.
        let there = listed-there shape s r n some_batch.0 some_batch.1 in
        let stands = r.mappings.each n there.0 there.1 in
        let g : Made = made there.0.module (r.places n) in
        let some_line = r.owing.some_line n some_batch.0 some_batch.1 in
        let line : line_in r.plan.deeds (r.places n).mapping ≡ r.lines n = ap (line_in r.plan.deeds) stands.number ∙ sym (r.lines_are n) in (
          row_of r.plan.deeds g,
          row_of_each shape s r still say.lines say.are rows say.say g stands.listed,
          stands.number,
          ap (λ (b : Bool). cond b 0 1) (ne_eqb (line_in r.plan.deeds (r.places n).mapping) 0 (λ z. omega arith)),
        ))
        (option-cases (r.state.batch n))

    unmapped-rows : HaveUnmappedRows rows r.plan.deeds seats
    unmapped-rows = record {
      by_mover = λ n c.
          (let some_unmap : 0 < unmaps_in_deeds r.plan.deeds n = count_by-at (deed_unmaps n) r.plan.deeds c.0 (deed.Unmap n) c.1 (ap (deed_unmaps n) c.2 ∙ eq-eqb n n refl) in
          unmapped-row n (more-left (unmaps_in_deeds r.plan.deeds n) _ some_unmap));
      by_seats = λ w. if_seat (λ y. (n : ℕ) → Contains y.acts (act.Unmap n) → IsUnmappedIn rows n) (slice_get seats w)
          (λ y e n c.
          let t = at_seat seats w y e in
          let some_unmap : 0 < unmaps_in_acts y.acts n = count_by-at (act_unmaps n) y.acts c.0 (act.Unmap n) c.1 (ap (act_unmaps n) c.2 ∙ eq-eqb n n refl) in
          let own : unmaps_in_acts y.acts n ≡ unmaps_made (machine.Worker w) past n = ap (λ (acts : List Act). unmaps_in_acts acts n) (sym (seat-acts w y t.0 t.1)) ∙ r.unmaps.worker w n in
          let most = sum_below-at (length seats) (λ v. unmaps_made (machine.Worker v) past n) w t.0 in
          unmapped-row n (more-right (unmaps_in_deeds r.plan.deeds n) _ (subst (λ (k : ℕ). 0 < k) (sym (seats-told n)) (first _ _ _ some_unmap own most))));
    }
      where
        more-left : (a b : ℕ) → 0 < a → 0 < a + b
        more-left a b l = omega arith

        more-right : (a b : ℕ) → 0 < b → 0 < a + b
        more-right a b l = omega arith

        first : (a b c : ℕ) → 0 < a → a ≡ b → b ≤ c → 0 < c
        first a b c l e m = omega arith

    unmaps-told : HaveUnmapsTold rows r.plan.deeds seats
    unmaps-told x c =
        let t = each_is_of shape s r still say.lines say.are rows say.say x c in
        subst (λ (y : Row). unmaps_told r.plan.deeds seats y.mapping ≡ y.unmaps) (sym t.2) (told t.0.place.mapping)

  closed_rows : (rows : List Row) → SayLinedRows shape.frames s.words rows → AreClosedRows shape r.plan.deeds seats rows
  closed_rows rows say = record {
    each_made = λ g c. row_of_each shape s r still say.lines say.are rows say.say g (subst (λ (gs : List Made). Contains gs g) (sym r.ledger_is) c);
    each_row = λ x c. (let t = each_is_of shape s r still say.lines say.are rows say.say x c in (t.0, subst (λ (gs : List Made). Contains gs t.0) r.ledger_is t.1, t.2));
    in_order = say.say.in_order;
    reads = λ w. if_seat (λ y. (m : ℕ) (p : Place) → Contains y.acts (act.Read m p) → (x : Row) × Contains rows x × (x.who ≡ m) × (x.place ≡ p)) (slice_get seats w)
        (λ y e m p c. (row_of r.plan.deeds (made m p), row_of_each shape s r still say.lines say.are rows say.say (made m p) (read_listed w y e m p c), refl, refl));
    unmaps = unmaps-told rows say;
    unmapped = unmapped-rows rows say;
  }

pub ended_of : (shape : Shape) (before : Plan) (seats : List SeatSeen) (id : ℕ) (me : Sat) (words : List ℕ) (homes : List (Unit {0})) → Final (Seen (Kept shape) id me.0) words homes → HasBack before seats me → length seats ≡ shape.workers → before.passing ≡ passing.Rest → before.freeing ≡ freeing.Nothing → IsEnded shape before.deeds seats words
ended_of shape before seats id me words homes final has workers rest freed =
    let s = final.0 in
    let r = final.1.0 in
    let at = final.1.1 in
    let done : IsEnded shape r.plan.deeds seats s.words = record {
      directory = directory_of shape s r (still shape s r before seats me id at has workers rest freed);
      members = members_of shape s r (still shape s r before seats me id at has workers rest freed);
      rows = closed_rows shape s r before seats me id at has workers rest freed;
    } in
    subst (IsEnded shape before.deeds seats) final.2 (subst (λ (ds : List Deed). IsEnded shape ds seats s.words) (deeds_are shape s r before seats me id at has workers rest freed) done)

-- the rows as contracts see them
pub closed_as : (key shape : Shape) (known deeds : List Deed) (seats : List SeatSeen) (rows : List Row) → key ≡ shape → known ≡ deeds → AreClosedRows key known seats rows → AreClosedRows shape deeds seats rows
closed_as key shape known deeds seats rows same same_deeds are = subst (λ (k : Shape). AreClosedRows k deeds seats rows) same (subst (λ (ds : List Deed). AreClosedRows key ds seats rows) same_deeds are)
