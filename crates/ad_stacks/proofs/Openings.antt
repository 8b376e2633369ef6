-- The table that is opened meets the rule.
use Rattle.std.proofs.Common.{◌≡◌, ◌≢◌, ℕ, zero, suc, ◌+◌, ◌*◌, ◌^◌, ◌<◌, ◌≤◌, List, [], ◌∷◌, ◌++◌, map, length, length-append, set, add-one, get_or, take, Option, None, Some, IfSome, sym, refl, ap, ◌∙◌, subst, arith}
use Rattle.std.specs.List.{All, AllPairs}
use Rattle.std.proofs.Math.Seq.{take-length, take-suc}
use Rattle.std.proofs.lemmas.List.{length-map, get_or-map, length-take-le}
use mathlib.Core.Option.{some, some-injective, some-ne-none}
use lib.ListN.{get_elem?}
use Rattle.atomic_table.specs.Table.{opening}
use Rattle.ad_base.specs.declared.place.Place.{Place}
use Rattle.ad_base.specs.Place.{packed}
use Rattle.ad_stacks.specs.declared.view.Stance.TheVariants as stance
use Rattle.ad_stacks.specs.declared.view.Stage.TheVariants as stage
use Rattle.ad_stacks.specs.declared.view.Plan.{Plan}
use Rattle.ad_stacks.specs.declared.view.Doing.{Doing}
use Rattle.ad_stacks.specs.declared.view.Doing.TheVariants.{Mover}
use Rattle.ad_stacks.specs.Names.{Name, Lane, Record, Mark, index, read, IsName, Words, AreWords, wrote, changed}
use Rattle.ad_stacks.specs.StackPlace.{lane_word, record_word, IsStackPlace}
use Rattle.ad_stacks.specs.History.{Event, unmade, in_lane, status, lane_of, held_of, takes_of, line_of, newest, openings_of, refreshes_of, AreLawful}
use Rattle.ad_stacks.specs.Rule.{Kept, Records, Knows, starting}
use Rattle.ad_stacks.specs.Private.Opening.{nowhere, place_of_lane, opening_events, laid}
use Rattle.ad_stacks.proofs.Changed.{changed_here, changed_else, at_changed, either_way}
use Rattle.ad_stacks.specs.Ledger.{AreAll}
use Rattle.ad_stacks.specs.Seen.{SeatSeen, new_seat, AreNew}
use Rattle.ad_stacks.proofs.Frames.{other_record}
use Rattle.ad_stacks.proofs.Writes.{writes}
use Rattle.std.specs.List.{slice_get}
use Rattle.std.proofs.lemmas.Option.{slice_get-get_or, slice_get_within}
use Rattle.std.proofs.lemmas.List.{get_or_append_left}
use Rattle.std.proofs.Math.Seq.{get_or-append_seam}
use Rattle.atomic_table.specs.Seated.{TableId}

-- what holds of the history and of the words once k lanes are opened
record Opens (openings : List Place) (k : ℕ) : Type 0 where
  lawful : AreLawful (opening_events openings k)
  opened : openings_of (opening_events openings k) ≡ take k openings
  refreshes : refreshes_of (opening_events openings k) ≡ []
  takes : (w : ℕ) → takes_of (opening_events openings k) w ≡ []
  holds : (w : ℕ) → held_of (opening_events openings k) w ≡ None
  line : (m : ℕ) → line_of (opening_events openings k) m ≡ 0
  lane : (w : ℕ) → (laid openings k).lane w ≡ lane_word (lane_of (opening_events openings k) w)
  mark : (m : ℕ) → (laid openings k).mark m ≡ 0
  word : (m : ℕ) → Records (laid openings k).recorded (λ _. stance.Rest) stage.Idle m (status (opening_events openings k) m)
  last : (w : ℕ) → w < k → newest (opening_events openings k) w ≡ (place_of_lane openings w).mapping
  free : (m : ℕ) → ((w : ℕ) → w < k → (place_of_lane openings w).mapping ≢ m) → status (opening_events openings k) m ≡ unmade

module _ (openings : List Place) (places : All IsStackPlace openings) (differ : AllPairs (λ (p q : Place). p.mapping ≢ q.mapping) openings) where
  opens : (k : ℕ) → k ≤ length openings → Opens openings k
  opens zero few = record {
    lawful = tt;
    opened = refl;
    refreshes = refl;
    takes = λ w. refl;
    holds = λ w. refl;
    line = λ m. refl;
    lane = λ w. refl;
    mark = λ m. refl;
    word = λ m _. refl;
    last = λ w l. absurd (omega arith);
    free = λ m _. refl;
  }
  opens (suc k) few =
      let old = opens k (omega arith) in
      let p : Place = place_of_lane openings k in
      let past = opening_events openings k in
      let ws = laid openings k in
      let fresh = old.free p.mapping (λ w l. differ w k nowhere l (omega arith)) in record {
        lawful = (
          record {
            next = sym (ap length old.opened ∙ length-take-le k openings (omega arith));
            place = places k nowhere (omega arith);
            fresh = fresh;
            first = old.refreshes;
          },
          old.lawful,
        );
        opened = ap (λ (ps : List Place). ps ++ p ∷ []) old.opened ∙ sym (take-suc openings k nowhere (omega arith));
        refreshes = old.refreshes;
        takes = old.takes;
        holds = old.holds;
        line = old.line;
        lane = λ w. either_way w k
            (λ e. changed_here ws.lane k (packed p) w e ∙ ap lane_word (sym (changed_here (lane_of past) k (Some p) w e)))
            (λ ne. changed_else ws.lane k (packed p) w ne ∙ (old.lane w ∙ ap lane_word (sym (changed_else (lane_of past) k (Some p) w ne))));
        mark = old.mark;
        word = λ m. at_changed (status past) p.mapping (in_lane k p) m (Records (changed ws.recorded p.mapping (record_word p k 0)) (λ _. stance.Rest) stage.Idle m)
            (λ e. changed_here ws.recorded p.mapping (record_word p k 0) m e)
            (λ ne. other_record ws.recorded (changed ws.recorded p.mapping (record_word p k 0)) (λ _. stance.Rest) stage.Idle m (status past m) (changed_else ws.recorded p.mapping (record_word p k 0) m ne) (old.word m));
        last = λ w l. either_way w k
            (λ e. changed_here (newest past) k p.mapping w e ∙ ap (λ (j : ℕ). (place_of_lane openings j).mapping) (sym e))
            (λ ne. changed_else (newest past) k p.mapping w ne ∙ old.last w (omega arith));
        free = λ m none. changed_else (status past) p.mapping (in_lane k p) m (λ e. none k (omega arith) (sym e)) ∙ old.free m (λ w l. none w (omega arith));
      }

  -- the rule holds of the table as it is opened
  pub opening_kept : (words : List ℕ) → length openings ≤ 64 → AreWords words (laid openings (length openings)) → Kept openings (opening words [] (starting openings))
  opening_kept words few are =
      let n = length openings in
      let o = opens n (omega arith) in
      let past = opening_events openings n in
      let plan : Plan = record { stage = stage.Idle; dealt = 0; newest = map (λ (p : Place). p.mapping) openings; made = []; back = [] } in record {
        words = laid openings n;
        past = past;
        stances = λ _. stance.Rest;
        owner = λ _. 0;
        plan = plan;
        mover = 0;
        few = few;
        reads = are;
        lawful = o.lawful;
        opened = o.opened ∙ take-length openings;
        each_lane = λ w. record { word = o.lane w; holds = o.holds w; owes = tt };
        each_record = o.word;
        each_mark = λ m _. o.mark m ∙ sym (o.line m);
        each_seat = λ j view e. one_seat past plan j view e;
        seated = record { worker = λ w low high. absurd (omega arith); own = refl };
        dealt = record { few = omega arith; undealt = λ w l. (refl, o.takes w); back = λ w l. absurd (omega arith) };
        planned = record {
          made = sym o.refreshes;
          wide = length-map openings (λ (p : Place). p.mapping);
          newest = λ w l. get_or-map (λ (p : Place). p.mapping) openings w nowhere 0 l ∙ sym (o.last w l);
          stage = tt;
        };
      }
    where
      one_seat : (past : List Event) (plan : Plan) (j : ℕ) (view : Doing) → get_elem? (Mover plan ∷ []) j ≡ some view → Knows past (λ _. stance.Rest) (λ _. 0) plan 0 j view
      one_seat past plan zero view e = subst (Knows past (λ _. stance.Rest) (λ _. 0) plan 0 0) (some-injective (Mover plan) view e) (refl, refl)
      one_seat past plan (suc j) view e = absurd (some-ne-none view (sym e))

-- the words before the first lane is laid
pub none_laid : (words : List ℕ) (openings : List Place) → length words ≡ 8256 → All (λ (x : ℕ). x ≡ 0) words → AreWords words (laid openings 0)
none_laid words openings len zeros = (len, by_name)
  where
    by_name : (n : Name) → IsName n → get_or words (index n) 0 ≡ read (laid openings 0) n
    by_name (Lane w) h = let l : w < 64 = h in zeros w 0 (omega arith)
    by_name (Record m) h = let l : m < 4096 = h in zeros (64 + m) 0 (omega arith)
    by_name (Mark m) h = let l : m < 4096 = h in zeros (4160 + m) 0 (omega arith)

-- and once one lane more is
pub one_laid : (words : List ℕ) (openings : List Place) (k : ℕ) (x : ℕ) (m : ℕ) → k < 64 → m < 4096 → AreWords words (laid openings k) → x ≡ packed (place_of_lane openings k) → m ≡ (place_of_lane openings k).mapping
    → AreWords (set (set words k x) (64 + m) (x + k * 2 ^ 48)) (laid openings (k + 1))
one_laid words openings k x m few fits are word number = rw add-one (
    let p : Place = place_of_lane openings k in
    let first = writes words (laid openings k) (Lane k) x few are in
    let second = writes (set words k x) (wrote (laid openings k) (Lane k) x) (Record m) (x + k * 2 ^ 48) fits first in
    let same : x + k * 2 ^ 48 ≡ record_word p k 0 = ap (λ (n : ℕ). n + k * 2 ^ 48) word ∙ omega arith in
    subst (λ (ws : Words). AreWords (set (set words k x) (64 + m) (x + k * 2 ^ 48)) ws) (λ i. wrote (wrote (laid openings k) (Lane k) (word i)) (Record (number i)) (same i)) second)

-- one seat more
pub one_new : (table : TableId) (k : ℕ) (seats : List SeatSeen) → AreNew table k seats → AreNew table (k + 1) (seats ++ new_seat table k ∷ [])
one_new table k seats are = record {
  count = length-append seats (new_seat table k ∷ []) ∙ ap (λ (n : ℕ). n + 1) are.count;
  each = λ w l. either_way w k
      (λ e. here w (e ∙ sym are.count) ∙ ap (λ (j : ℕ). Some (new_seat table j)) (sym e))
      (λ ne. slice_get-get_or (seats ++ new_seat table k ∷ []) w (new_seat table w) (let n = are.count in omega (arith, length-append seats (new_seat table k ∷ [])))
      ∙ (ap Some (get_or_append_left seats (new_seat table k ∷ []) (new_seat table w) w (let n = are.count in omega arith)) ∙ (sym (slice_get-get_or seats w (new_seat table w) (let n = are.count in omega arith)) ∙ are.each w (omega arith))));
}
  where
    here : (w : ℕ) → w ≡ length seats → slice_get (seats ++ new_seat table k ∷ []) w ≡ Some (new_seat table k)
    here w e = slice_get-get_or (seats ++ new_seat table k ∷ []) w (new_seat table k) (omega (arith, length-append seats (new_seat table k ∷ [])))
        ∙ ap Some (ap (λ (j : ℕ). get_or (seats ++ new_seat table k ∷ []) j (new_seat table k)) e ∙ get_or-append_seam seats (new_seat table k) [] (new_seat table k))

pub none_new : (table : TableId) → AreNew table 0 []
none_new table = record { count = refl; each = λ w l. absurd (omega arith) }

-- new seats are all seats of their table
pub all_of_new : (table : TableId) (n : ℕ) (seats : List SeatSeen) → AreNew table n seats → AreAll table n seats
all_of_new table n seats new = record { count = new.count; each = λ w. by_seat w (slice_get seats w) refl }
  where
    some_is : {a b : SeatSeen} → Some a ≡ Some b → a ≡ b
    some_is e = cc

    by_seat : (w : ℕ) (o : Option SeatSeen) → slice_get seats w ≡ o → IfSome o (λ s. (s.table ≡ table) × (s.worker ≡ w))
    by_seat w None e = tt
    by_seat w (Some x) e =
        let low : w < n = let l = slice_get_within seats w x e in let c = new.count in omega arith in
        let same : x ≡ new_seat table w = some_is (sym e ∙ new.each w low) in
        (ap (λ (s : SeatSeen). s.table) same, ap (λ (s : SeatSeen). s.worker) same)
