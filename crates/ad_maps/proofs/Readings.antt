-- The world is read off the words and the views.
use Rattle.std.proofs.Common.{◌≡◌, ◌≢◌, ⊎_elim, inl, inr, ℕ, ◌+◌, ◌*◌, ◌%◌, ◌^◌, ◌<◌, true, length, get_or, Some, IsSome, refl, sym, ap, ◌∙◌, subst, arith, List}
use Rattle.std.specs.Prelude.{count_by}
use Rattle.std.specs.FinMap as map
use Rattle.std.specs.FinSet as set
use mathlib.Core.Option.{some}
use lib.ListN.{get_elem?}
use Rattle.ad_base.specs.declared.place.Place.{Place}
use Rattle.ad_base.specs.Place.{packed, place_at}
use Rattle.ad_events.specs.declared.mapping.Mapping.{Mapping}
use Rattle.ad_events.specs.declared.mapping.Status.TheVariants.{Current}
use Rattle.ad_events.specs.declared.event.Event.{Event}
use Rattle.ad_events.specs.World.{mapping_of, world_opening, IsWorld}
use Rattle.ad_events.specs.WorldLaws.{world_run, AllLawful}
use Rattle.ad_events.specs.Reclaim.{ReclaimState}
use Rattle.ad_events.specs.ReclaimLaws.{events_of}
use Rattle.ad_events.specs.Owed as owing
use Rattle.ad_events.specs.Owed.{seat_at, pushed_on, inside_of}
use Rattle.ad_events.proofs.Functions.{some≢none}
use Rattle.ad_events.proofs.OwedWrites.{inside-away, inside-paying}
use Rattle.ad_events.proofs.ReclaimRuns.{each-runs_both}
use Rattle.ad_events.proofs.WorldLaws.{none_gone_inside}
use Rattle.ad_maps.specs.declared.shape.Shape.{Shape}
use Rattle.ad_maps.specs.declared.view.Stance.{Stance}
use Rattle.ad_maps.specs.declared.view.Stance.TheVariants as stance
use Rattle.ad_maps.specs.declared.view.Doing.TheVariants.{Worker}
use Rattle.ad_maps.specs.MapPlace.{member_word, numbers, IsPlaceOf}
use Rattle.ad_maps.specs.declared.words.TheConstants.{MEMBERS}
use Rattle.ad_events.specs.ReclaimInvariant.{IsListed}
use Rattle.ad_maps.specs.Names.{Slot, Directory, Member, index, IsName}
use Rattle.ad_maps.specs.Reading.{IsAtStance, DirectorySays, ReadingLaw}
use Rattle.ad_maps.specs.Rule.{St, Kept, StanceStands, seat_of}
use Rattle.ad_maps.proofs.Batches.{few-opened}
use Rattle.ad_maps.proofs.Frames.{seat-there, worker_knows}
use Rattle.ad_maps.proofs.Machine.{differ, holds_of, sized}
use Rattle.ad_maps.proofs.MappingFrames.{mover_knows}
use Rattle.ad_maps.proofs.Numbers.{region-few}
use Rattle.ad_maps.proofs.Pinned.{gone-or}
use Rattle.ad_maps.proofs.ReadLaw.{current_known}

module _ (shape : Shape) (s : St) (r : Kept shape s) where
  placed_at : (n : ℕ) (x : Mapping) → map.get r.state.world.mappings n ≡ Some x → ((r.places n).mapping ≡ n) × IsPlaceOf shape x.module (r.places n)
  placed_at n x there = let old = r.mappings.each n x there in (old.number, old.form)

  directory_says : (n : ℕ) (x : Mapping) → map.get r.state.world.mappings n ≡ Some x → DirectorySays s (r.places n) x.status
  directory_says n x there =
      let old = r.mappings.each n x there in
      let p : Place = r.places n in
      let word = r.reads.1 (Directory p.region) (region-few shape x.module p old.form) in
      ⊎_elim (λ gone. inl (gone.0, word ∙ gone.1)) (λ here. inr (here.0, word ∙ here.1.word)) (gone-or shape r.words.directory r.words.owner r.words.cell x.module p x.status old.words)

  directory_from : (g : ℕ) → IsName (Directory g) → get_or s.words (index (Directory g)) 0 ≢ 0 → (n : ℕ) × (x : Mapping) × (map.get r.state.world.mappings n ≡ Some x) × ((r.places n).region ≡ g)
  directory_from g name some_word = r.mappings.each_region g (λ z. some_word (r.reads.1 (Directory g) name ∙ z))

  is_inside_at : (w entry m : ℕ) (p : Place) → IsAtStance s.views w (stance.Inside entry m p) → map.get r.state.world.inside w ≡ Some p.mapping
  is_inside_at w entry m p at = (subst (StanceStands r.state.world r.places w) at.2 (worker_knows shape s r at.0 w at.1 at.3).hand.stance).0

  -- a worker whose seat is inside in the machine has a seat here, with its stance
  has_seat : (w : ℕ) → owing.IsInside (seat_at r.state.owed w) → get_elem? s.views (r.seater w) ≡ some (Worker w (r.hands w))
  has_seat w is = seat-there shape s r w (λ rest. inside-away (seat_at r.state.owed w) is.0 is.1 is.2 (r.each_stance w ∙ ap (seat_of (w % shape.slots)) rest.away))

  at_stance : (w : ℕ) (d : Stance) → owing.IsInside (seat_at r.state.owed w) → (r.hands w).stance ≡ d → IsAtStance s.views w d
  at_stance w d is e = (r.seater w, r.hands w, e, has_seat w is)

  world_of : IsWorld r.state.world
  world_of = (holds_of shape r.form r.state r.reached).world

  inside_by : (w n : ℕ) → map.get r.state.world.inside w ≡ Some n → (entry : ℕ) × (m : ℕ) × (p : Place) × (p.mapping ≡ n) × IsAtStance s.views w (stance.Inside entry m p)
  inside_by w n there = by_stance (r.hands w).stance refl (r.each_hand w).stance
    where
      is : owing.IsInside (seat_at r.state.owed w)
      is = (holds_of shape r.form r.state r.reached).in_inside w (inr (subst IsSome (sym there) refl))

      by_stance : (d : Stance) → (r.hands w).stance ≡ d → StanceStands r.state.world r.places w d → (entry : ℕ) × (m : ℕ) × (p : Place) × (p.mapping ≡ n) × IsAtStance s.views w (stance.Inside entry m p)
      by_stance stance.Away e h = absurd (inside-away (seat_at r.state.owed w) is.0 is.1 is.2 (r.each_stance w ∙ ap (seat_of (w % shape.slots)) e))
      by_stance (stance.Entered entry) e h = absurd (some≢none n (sym there ∙ world_of.fits.apart w h))
      by_stance (stance.Inside entry m p) e h = (entry, m, p, (let same : Some p.mapping ≡ Some n = sym h.0 ∙ there in let number : p.mapping ≡ n = cc in number), at_stance w (stance.Inside entry m p) is e)
      by_stance (stance.Paying paid last) e h = absurd (inside-paying (seat_at r.state.owed w) is.0 is.1 (w % shape.slots) paid last is.2 (r.each_stance w ∙ ap (seat_of (w % shape.slots)) e))

  entered_by : (w : ℕ) → set.contains r.state.world.entered w ≡ true → (entry : ℕ) × IsAtStance s.views w (stance.Entered entry)
  entered_by w there = by_stance (r.hands w).stance refl (r.each_hand w).stance
    where
      is : owing.IsInside (seat_at r.state.owed w)
      is = (holds_of shape r.form r.state r.reached).in_inside w (inl there)

      by_stance : (d : Stance) → (r.hands w).stance ≡ d → StanceStands r.state.world r.places w d → (entry : ℕ) × IsAtStance s.views w (stance.Entered entry)
      by_stance stance.Away e h = absurd (inside-away (seat_at r.state.owed w) is.0 is.1 is.2 (r.each_stance w ∙ ap (seat_of (w % shape.slots)) e))
      by_stance (stance.Entered entry) e h = (entry, at_stance w (stance.Entered entry) is e)
      by_stance (stance.Inside entry m p) e h = absurd (some≢none p.mapping (sym h.0 ∙ world_of.fits.apart w there))
      by_stance (stance.Paying paid last) e h = absurd (inside-paying (seat_at r.state.owed w) is.0 is.1 (w % shape.slots) paid last is.2 (r.each_stance w ∙ ap (seat_of (w % shape.slots)) e))

  slot_counts : (t : ℕ) → t < shape.slots → get_or s.words t 0 ≡ 2 ^ 32 * pushed_on r.state.owed t + count_by (owing.is_inside t) r.state.owed.seats
  slot_counts t low =
      let few = r.form.few_slots in
      let holds = (holds_of shape r.form r.state r.reached).owed in
      let slots = r.owing.slots in
      let there : t < length r.state.owed.slots = omega arith in
      r.reads.1 (Slot t) (let b : t < 16 = omega arith in b) ∙ (r.owing.each_slot t low ∙ ap (λ (n : ℕ). 2 ^ 32 * pushed_on r.state.owed t + n) (holds.inside t there))

  listed_word : (n b : ℕ) → r.state.batch n ≡ Some b → (k : ℕ) × (k < MEMBERS) × (get_or s.words (index (Member b k)) 0 ≡ member_word (r.lines n) (r.places n).region)
  listed_word n b is =
      let t = r.owing.each_listed n b is in
      let holds = holds_of shape r.form r.state r.reached in
      let most = few-opened shape s r n b is in
      (t.0, t.1, r.reads.1 (Member b t.0) (most, t.1) ∙ t.2)

  word_listed : (b k : ℕ) → IsName (Member b k) → get_or s.words (index (Member b k)) 0 ≢ 0 → (n : ℕ) × (r.state.batch n ≡ Some b) × IsListed r.state.world n × (get_or s.words (index (Member b k)) 0 ≡ member_word (r.lines n) (r.places n).region)
  word_listed b k name some_word =
      let word = r.reads.1 (Member b k) name in
      let t = r.owing.each_member b k (λ z. some_word (word ∙ z)) in
      (t.0, t.1, (holds_of shape r.form r.state r.reached).told t.0 b t.1, word ∙ t.2)

  has_word : (n : ℕ) → IsListed r.state.world n → (b : ℕ) × (k : ℕ) × (r.state.batch n ≡ Some b) × IsName (Member b k) × (get_or s.words (index (Member b k)) 0 ≢ 0) × (get_or s.words (index (Member b k)) 0 ≡ member_word (r.lines n) (r.places n).region)
  has_word n listed =
      let t = (holds_of shape r.form r.state r.reached).listed n listed in
      let m = listed_word n t.0 t.1 in
      let some_line = r.owing.some_line n t.0 t.1 in
      let word = m.2 in
      (t.0, m.0, t.1, (few-opened shape s r n t.0 t.1, m.1), (λ z. omega arith), m.2)

  from_opening : (events : List Event) × AllLawful (world_opening shape.workers (numbers shape)) events × (r.state.world ≡ world_run (world_opening shape.workers (numbers shape)) events)
  from_opening =
      let both = each-runs_both shape.slots shape.workers (numbers shape) r.reached.past (sized shape r.form) (differ shape r.form) r.reached.may in
      (events_of r.reached.past, both.lawful, ap (λ (j : ReclaimState). j.world) r.reached.is ∙ both.world)

pub reading_law : ReadingLaw
reading_law shape s r = record {
  reached = from_opening shape s r;
  placed = placed_at shape s r;
  current = λ m low. (let k = current_known shape s r m low in ((place_at (get_or s.words (16 + m) 0)).mapping, k.is.there, k.word ∙ ap packed (sym k.is.placed)));
  current_by = λ n m there.
      (let low = (r.mappings.each n (mapping_of m Current) there).form.for_module in
      let k = current_known shape s r m low in
      let only = (world_of shape s r).fits.only in
      let p : Place = place_at (get_or s.words (16 + m) 0) in
      let same : p.mapping ≡ n = sym (only p.mapping m k.is.there).1 ∙ (only n m there).1 in
      (low, k.word ∙ (ap packed (sym k.is.placed) ∙ ap (λ (i : ℕ). packed (r.places i)) same)));
  fresh = λ id q at. (mover_knows shape s r id q at).mappings.fresh;
  outs = λ id q at. (mover_knows shape s r id q at).mappings.outs;
  directory = directory_says shape s r;
  directory_by = directory_from shape s r;
  inside = is_inside_at shape s r;
  inside_by = inside_by shape s r;
  entered = λ w entry at. (subst (StanceStands r.state.world r.places w) at.2 (worker_knows shape s r at.0 w at.1 at.3).hand.stance);
  entered_by = entered_by shape s r;
  pinned = λ w entry m p at. (let there = is_inside_at shape s r w entry m p at in ((world_of shape s r).fits.held w p.mapping there, none_gone_inside r.state.world (world_of shape s r) w p.mapping there));
  slots = slot_counts shape s r;
  retired = listed_word shape s r;
  listed = has_word shape s r;
  retired_by = word_listed shape s r;
}
