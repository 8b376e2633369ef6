-- What a move makes of the places: a row more, and the row of the old place retired.
use Rattle.std.proofs.Common.{◌≡◌, ◌≢◌, ℕ, ◌+◌, ◌<◌, ◌≤◌, Bool, true, false, ◌==◌, List, [], ◌∷◌, ◌++◌, length, map, slice_get, Some, inl, inr, refl, sym, ap, subst, ◌∙◌, append-nil, arith}
use Rattle.std.specs.Prelude.{nat_lt, if◌then◌else◌}
use Rattle.std.specs.List.{AllPairs}
use Rattle.std.specs.Option.{option_map_or}
use Rattle.std.proofs.lemmas.Bool.{cond_both, ltb-true}
use Rattle.std.proofs.lemmas.Bool.Decides.{eqb_tells}
use Rattle.std.proofs.lemmas.List.{flat_map_more, length-map, length_push, map_push}
use Rattle.std.proofs.lemmas.List.Quantifiers.{all_pairs_push}
use Rattle.ad_base.specs.declared.layout.TheConstants.{MAPPINGS}
use Rattle.ad_base.specs.declared.ledger.Kind.{Kind}
use Rattle.ad_base.specs.declared.ledger.MoveEnd.{MoveEnd}
use Rattle.ad_base.specs.declared.ledger.MoveEnd.TheVariants.{Made, Spent}
use Rattle.ad_base.specs.declared.ledger.Moved.{Moved}
use Rattle.ad_base.specs.declared.ledger.Row.{Row}
use Rattle.ad_base.specs.declared.place.Place.{Place}
use Rattle.ad_base.specs.Ledger.{IsLedger, IsUnmappedOnce, Mapping, made_mapping, made_mappings, made_place}
use Rattle.ad_base.specs.Count.{risen}
use Rattle.ad_base.specs.Place.{IsPlace}
use Rattle.ad_place.specs.Choice.{next_place}
use Rattle.ad_place.specs.ChoiceLaws.{IsPlaceFor}
use Rattle.ad_place.proofs.Places.{next_place_fresh, next_place_is}
use Rattle.ad_lines.specs.LineRun.{Placement, after_move, drawn_after, move_end, new_row, place_after, replaced, retired}
use Rattle.ad_lines.proofs.LedgerRuns.{IsMadeLater, later-push, ledger-push, number-at}
use Rattle.ad_lines.proofs.ListReads.{Each, each-push, map-read, read-front, read-last, read-map}
use Rattle.ad_lines.proofs.Rows.{NumberedFrom, numbered-map, numbered-push, retired-else, retired-here, retired-number, retired_row}

-- what holds of the places of a run after each move
pub record IsSoundPlacement (opening : List Mapping) (p : Placement) : Type 0 where
  pub ledger : IsLedger (opening ++ made_mappings p.moves) p.rows
  pub later : IsMadeLater (opening ++ made_mappings p.moves)
  pub numbers : NumberedFrom 1 p.rows
  pub once : Each IsUnmappedOnce p.rows
  pub places : map (λ (r : Row). r.place) p.rows ≡ p.drawn.places
  pub few : length p.drawn.places ≤ MAPPINGS
  pub apart : AllPairs (λ (a b : Place). a.region ≢ b.region) p.drawn.places
  pub are : Each IsPlace p.drawn.places

-- the row of the place where a thing lies now
pub record IsCurrent (rows : List Row) (kind : Kind) (who : ℕ) (p : Place) : Type 0 where
  pub at : ℕ
  pub row : Row
  pub found : slice_get rows at ≡ Some row
  pub of_kind : row.kind ≡ kind
  pub of_who : row.who ≡ who
  pub of_place : row.place ≡ p
  pub no_line : row.line ≡ 0

-- rows stay where they are, with their places, and what was unmapped stays so
pub record Grows (rows more : List Row) : Type 0 where
  pub each : (k : ℕ) (r : Row) → slice_get rows k ≡ Some r → (x : Row) × (slice_get more k ≡ Some x) × (x.place ≡ r.place) × (0 < r.unmaps → 0 < x.unmaps)

pub grows-refl : (rows : List Row) → Grows rows rows
grows-refl rows = record { each = λ k r e. (r, e, refl, λ h. h) }

pub grows-trans : (a b c : List Row) → Grows a b → Grows b c → Grows a c
grows-trans a b c g h = record {
  each = λ k r e.
      let x = g.each k r e in
      let y = h.each k x.0 x.1 in
      (y.0, y.1, y.2 ∙ x.2, λ u. y.3 (x.3 u));
}

-- a retired row keeps its place
retired-place : (number line : ℕ) (r : Row) → (retired number line r).place ≡ r.place
retired-place number line r = cond_both (r.mapping == number) (retired_row line r) r (λ (x : Row). x.place ≡ r.place) (λ e. refl) (λ e. refl)

retired-places : (number line : ℕ) (rows : List Row) → map (λ (r : Row). r.place) (map (retired number line) rows) ≡ map (λ (r : Row). r.place) rows
retired-places number line [] = refl
retired-places number line (r ∷ rows) = λ j. retired-place number line r j ∷ retired-places number line rows j

retired-unmaps : (number line : ℕ) (r : Row) → 0 < r.unmaps → 0 < (retired number line r).unmaps
retired-unmaps number line r h = cond_both (r.mapping == number) (retired_row line r) r (λ (x : Row). 0 < x.unmaps) (λ e. omega arith) (λ e. h)

-- one that is unmapped by a line is unmapped once
retired-once : (line : ℕ) (r : Row) → 1 ≤ line → r.unmaps ≡ 0 → IsUnmappedOnce (retired_row line r)
retired-once line r some none = record { once = λ e. ap risen none; never = λ e. absurd (omega (arith, e)) }

-- the place of a row
pub place-at : (opening : List Mapping) (p : Placement) → IsSoundPlacement opening p → (k : ℕ) (r : Row) → slice_get p.rows k ≡ Some r → slice_get p.drawn.places k ≡ Some r.place
place-at opening p s k r e = subst (λ ps. slice_get ps k ≡ Some r.place) s.places (read-map (λ (x : Row). x.place) p.rows k r e)

-- what a move that came to this end makes of the places
abbrev placed : Placement → ℕ → Kind → ℕ → Place → MoveEnd → Placement
placed p line kind who old end = record {
  drawn = drawn_after p.drawn kind old.pages end;
  moves = p.moves ++ record { line = line; kind = kind; who = who; end = end } ∷ [];
  rows = option_map_or (λ new. replaced p.rows line kind who old new) (made_place end) p.rows;
}

-- what a move of a thing from a place to another keeps
pub record IsMoved (opening : List Mapping) (p : Placement) (kind : Kind) (who : ℕ) (old : Place) (q : Placement) (new : Place) : Type 0 where
  pub sound : IsSoundPlacement opening q
  pub here : IsCurrent q.rows kind who new
  pub others : (k : Kind) (w : ℕ) (x : Place) → (k ≡ kind → w ≡ who → ⊥) → IsCurrent p.rows k w x → IsCurrent q.rows k w x
  pub grows : Grows p.rows q.rows
  pub pages : new.pages ≡ old.pages

module _ (opening : List Mapping) (p : Placement) (line : ℕ) (kind : Kind) (who : ℕ) (old : Place) (s : IsSoundPlacement opening p) (c : IsCurrent p.rows kind who old) (some : 1 ≤ line) where
  old-is : IsPlace old
  old-is = subst IsPlace c.of_place (s.are c.at c.row.place (place-at opening p s c.at c.row c.found))

  old-number : old.mapping ≡ c.at + 1
  old-number = sym (ap (λ (x : Place). x.mapping) c.of_place) ∙ sym (number-at (opening ++ made_mappings p.moves) p.rows s.ledger c.at c.row c.found) ∙ s.numbers c.at c.row c.found

  -- a row of the old place's number is the current one
  only : (k : ℕ) (r : Row) → slice_get p.rows k ≡ Some r → r.mapping ≡ old.mapping → r ≡ c.row
  only k r e is =
      let at : k ≡ c.at = omega (arith, is, old-number, s.numbers k r e) in
      let same : Some r ≡ Some c.row = sym e ∙ ap (slice_get p.rows) at ∙ c.found in
      cc

  length-rows : length p.rows ≡ length p.drawn.places
  length-rows = sym (length-map p.rows (λ (r : Row). r.place)) ∙ ap length s.places

  module _ (few : length p.drawn.places < MAPPINGS) where
    new-is : IsPlaceFor kind old.pages (length p.drawn.places + 1) (next_place p.drawn kind old.pages)
    new-is = let o = old-is in next_place_is p.drawn kind old.pages few o.some_page (omega (arith, o.page_before, o.page_behind))

    made-once : Each IsUnmappedOnce (map (retired old.mapping line) p.rows)
    made-once k y e =
        let x = map-read (retired old.mapping line) p.rows k y e in
        subst IsUnmappedOnce x.2 (elim (eqb_tells x.0.mapping old.mapping) [
          | inl is ↦
              let row = only k x.0 x.1 is.1 in
              let unmaps = (s.once k x.0 x.1).never (ap (λ (r : Row). r.line) row ∙ c.no_line) in
              subst IsUnmappedOnce (sym (retired-here old.mapping line x.0 is.1)) (retired-once line x.0 some unmaps)
          | inr other ↦ subst IsUnmappedOnce (sym (retired-else old.mapping line x.0 other.1)) (s.once k x.0 x.1)
        ])

    made-sound : IsSoundPlacement opening (placed p line kind who old (Made (next_place p.drawn kind old.pages)))
    made-sound =
        let new = next_place p.drawn kind old.pages in
        let rows = map (retired old.mapping line) p.rows in
        let m : Moved = record { line = line; kind = kind; who = who; end = Made new } in
        let n : Mapping = record { kind = kind; who = who; place = new; line = line } in
        let all = opening ++ made_mappings p.moves in
        let more : all ++ n ∷ [] ≡ opening ++ made_mappings (p.moves ++ m ∷ []) = flat_map_more made_mapping opening p.moves m in
        record {
          ledger = subst (λ ms. IsLedger ms (rows ++ new_row kind who new ∷ [])) more (ledger-push all p.rows n old.mapping 1 s.numbers s.ledger s.later c.at c.row c.found c.of_kind c.of_who c.no_line old-number);
          later = subst IsMadeLater more (later-push all n s.later some);
          numbers = numbered-push 1 rows (new_row kind who new) (numbered-map (retired old.mapping line) (retired-number old.mapping line) 1 p.rows s.numbers) (omega (arith, new-is.mapping, length-rows, length-map p.rows (retired old.mapping line)));
          once = each-push IsUnmappedOnce rows (new_row kind who new) made-once (record { once = λ e. absurd (e refl); never = λ e. refl });
          places = map_push (λ (r : Row). r.place) rows (new_row kind who new) ∙ ap (λ ps. ps ++ new ∷ []) (retired-places old.mapping line p.rows ∙ s.places);
          few = omega (arith, length_push p.drawn.places new);
          apart = all_pairs_push (λ (a b : Place). a.region ≢ b.region) p.drawn.places new s.apart (next_place_fresh p.drawn kind old.pages few);
          are = each-push IsPlace p.drawn.places new s.are new-is.place;
        }

    made-others : (k : Kind) (w : ℕ) (x : Place) → (k ≡ kind → w ≡ who → ⊥) → IsCurrent p.rows k w x → IsCurrent (replaced p.rows line kind who old (next_place p.drawn kind old.pages)) k w x
    made-others k w x apart h =
        let different : h.row.mapping ≡ old.mapping → ⊥ = λ e.
        let row = only h.at h.row h.found e in
        apart (sym h.of_kind ∙ ap (λ (r : Row). r.kind) row ∙ c.of_kind) (sym h.of_who ∙ ap (λ (r : Row). r.who) row ∙ c.of_who) in
        let stays = retired-else old.mapping line h.row different in
        record {
          at = h.at;
          row = h.row;
          found = read-front (map (retired old.mapping line) p.rows) _ h.at h.row (read-map (retired old.mapping line) p.rows h.at h.row h.found ∙ ap Some stays);
          of_kind = h.of_kind;
          of_who = h.of_who;
          of_place = h.of_place;
          no_line = h.no_line;
        }

    made-moved : IsMoved opening p kind who old (placed p line kind who old (Made (next_place p.drawn kind old.pages))) (next_place p.drawn kind old.pages)
    made-moved =
        let new = next_place p.drawn kind old.pages in
        let rows = map (retired old.mapping line) p.rows in
        record {
          sound = made-sound;
          here = record { at = length rows; row = new_row kind who new; found = read-last rows (new_row kind who new); of_kind = refl; of_who = refl; of_place = refl; no_line = refl };
          others = made-others;
          grows = record { each = λ k r e. (retired old.mapping line r, read-front rows (new_row kind who new ∷ []) k (retired old.mapping line r) (read-map (retired old.mapping line) p.rows k r e), retired-place old.mapping line r, retired-unmaps old.mapping line r) };
          pages = new-is.pages;
        }

  spent-moved : IsMoved opening p kind who old (placed p line kind who old Spent) old
  spent-moved =
      let m : Moved = record { line = line; kind = kind; who = who; end = Spent } in
      let all = opening ++ made_mappings p.moves in
      let more : all ≡ opening ++ made_mappings (p.moves ++ m ∷ []) = sym (append-nil all) ∙ flat_map_more made_mapping opening p.moves m in
      record {
        sound = record {
          ledger = subst (λ ms. IsLedger ms p.rows) more s.ledger;
          later = subst IsMadeLater more s.later;
          numbers = s.numbers;
          once = s.once;
          places = s.places;
          few = s.few;
          apart = s.apart;
          are = s.are;
        };
        here = c;
        others = λ k w x apart h. h;
        grows = grows-refl p.rows;
        pages = refl;
      }

  by-room : (b : Bool) → nat_lt (length p.drawn.places) MAPPINGS ≡ b → (let end = if b then Made (next_place p.drawn kind old.pages) else Spent in IsMoved opening p kind who old (placed p line kind who old end) (place_after old end))
  by-room true is = made-moved (ltb-true (length p.drawn.places) MAPPINGS is)
  by-room false is = spent-moved

  -- a move leaves all sound
  pub moved : IsMoved opening p kind who old (after_move p line kind who old) (place_after old (move_end p.drawn kind old.pages))
  unfolding after_move
  moved = by-room (nat_lt (length p.drawn.places) MAPPINGS) refl
