-- What holds of each lawful history.
use Rattle.std.proofs.Common.{◌≡◌, ◌≢◌, ℕ, zero, suc, Bool, true, false, cond, eqb, eq-eqb, ne_eqb, eqb-true, ◌+◌, ◌<◌, ◌≤◌, List, [], ◌∷◌, ◌++◌, length, get_or, length-append, Option, None, Some, is_some, unwrap_or, sym, refl, ap, ◌∙◌, subst, arith}
use Rattle.std.specs.List.{All}
use Rattle.std.proofs.lemmas.List.Quantifiers.{all_pairs_push}
use Rattle.std.proofs.lemmas.List.{get_or_append_left}
use Rattle.std.proofs.lemmas.List.Elements.{All-append}
use Rattle.std.proofs.Math.Seq.{get_or-append_seam}
use Rattle.ad_base.specs.declared.place.Place.{Place}
use Rattle.ad_stacks.specs.declared.view.Given.{Given}
use Rattle.ad_stacks.specs.StackPlace.{IsStackPlace}
use Rattle.ad_stacks.specs.History.{Event, opened, took, put, refreshed, Status, unmade, in_lane, held, gone, replaced, status, lane_of, held_of, openings_of, refreshes_of, takes_of, newest, line_of, AreBelow, MayOpen, MayTake, MayPut, MayRefresh, IsAbove, Lawful, AreLawful, NeverFall}
use Rattle.ad_stacks.proofs.Changed.{changed_here, changed_else, at_changed, either_way}

-- so many lanes were opened
abbrev pub lanes : List Event → ℕ
lanes past = length (openings_of past)

-- the mapping m is a stack of the lane w, at the place p
pub record IsMade (past : List Event) (m w : ℕ) (p : Place) : Type 0 where
  pub place : IsStackPlace p
  pub number : p.mapping ≡ m
  pub lane : w < lanes past

-- a Held stack was replaced where another is In its lane, and only there
pub record IsHeld (past : List Event) (m w : ℕ) (p : Place) : Type 0 where
  pub made : IsMade past m w p
  pub holds : held_of past w ≡ Some p
  pub kept : lane_of past w ≡ None → line_of past m ≡ 0
  pub replaced : is_some (lane_of past w) ≡ true → 0 < line_of past m

-- what holds of the mapping m, by its status: one that is In was never replaced, and one that is Gone was
abbrev pub StatusSound : List Event → ℕ → Status → Type 0
StatusSound past m unmade = line_of past m ≡ 0
StatusSound past m (in_lane w p) = IsMade past m w p × (lane_of past w ≡ Some p) × (line_of past m ≡ 0)
StatusSound past m (held w p) = IsHeld past m w p
StatusSound past m (gone w p) = IsMade past m w p × (0 < line_of past m)

-- a stack of the lane w
abbrev pub IsOf : ℕ → Status → Type 0
IsOf w unmade = ⊥
IsOf w (in_lane v p) = v ≡ w
IsOf w (held v p) = v ≡ w
IsOf w (gone v p) = v ≡ w

-- what holds of the lane w
pub record LaneSound (past : List Event) (w : ℕ) : Type 0 where
  pub inside : (p : Place) → lane_of past w ≡ Some p → (status past p.mapping ≡ in_lane w p) × (newest past w ≡ p.mapping)
  pub holds : (p : Place) → held_of past w ≡ Some p → status past p.mapping ≡ held w p
  pub last : (p : Place) → held_of past w ≡ Some p → lane_of past w ≡ None → newest past w ≡ p.mapping
  pub some_one : w < lanes past → held_of past w ≡ None → is_some (lane_of past w) ≡ true
  pub given : w < lanes past → IsOf w (status past (newest past w))
  pub bare : lanes past ≤ w → takes_of past w ≡ []
  pub rises : NeverFall (takes_of past w)
  pub below : All (λ (p : Place). p.mapping ≤ newest past w) (takes_of past w)

pub record Sound (past : List Event) : Type 0 where
  pub each : (m : ℕ) → StatusSound past m (status past m)
  pub lane : (w : ℕ) → LaneSound past w

-- the mapping of a status that is known
pub at_status : {past : List Event} → Sound past → (m : ℕ) (st : Status) → status past m ≡ st → StatusSound past m st
at_status {past} sound m st e = subst (StatusSound past m) e (sound.each m)

longer : (ps : List Place) (p : Place) → length (ps ++ p ∷ []) ≡ length ps + 1
longer ps p = length-append ps (p ∷ [])

none_some : {p : Place} → None ≡ Some p → ⊥
none_some e = cc

some_same : {p q : Place} → Some p ≡ Some q → p ≡ q
some_same e = cc

true_false : true ≡ false → ⊥
true_false e = cc

one_below : (p : Place) (n : ℕ) → p.mapping ≤ n → All (λ (x : Place). x.mapping ≤ n) (p ∷ [])
one_below p n h = λ k d l. elim k as (λ (j : ℕ). j < 1 → (get_or (p ∷ []) j d).mapping ≤ n) [ zero ↦ λ _. h | suc j ↦ λ far. absurd (omega arith) ] l

-- two mappings with different statuses are two
apart : (past : List Event) (m n : ℕ) (a b : Status) → status past m ≡ a → status past n ≡ b → (a ≡ b → ⊥) → m ≢ n
apart past m n a b e f differ same = differ (sym e ∙ (ap (status past) same ∙ f))

-- what stays of a mapping whose line, lane and worker stay
stays : (past past' : List Event) (m : ℕ) (st : Status) → lanes past ≤ lanes past' → line_of past' m ≡ line_of past m
    → ((w : ℕ) (p : Place) → st ≡ in_lane w p → lane_of past' w ≡ lane_of past w)
    → ((w : ℕ) (p : Place) → st ≡ held w p → (held_of past' w ≡ held_of past w) × (lane_of past' w ≡ lane_of past w))
    → StatusSound past m st → StatusSound past' m st
stays past past' m unmade more line ins helds h = line ∙ h
stays past past' m (in_lane w p) more line ins helds h = (record { place = h.0.place; number = h.0.number; lane = let l = h.0.lane in omega arith }, ins w p refl ∙ h.1, line ∙ h.2)
stays past past' m (held w p) more line ins helds h =
    let same = helds w p refl in record {
      made = record { place = h.made.place; number = h.made.number; lane = let l = h.made.lane in omega arith };
      holds = same.0 ∙ h.holds;
      kept = λ e. line ∙ h.kept (sym same.1 ∙ e);
      replaced = λ e. let r = h.replaced (ap is_some (sym same.1) ∙ e) in omega arith;
    }
stays past past' m (gone w p) more line ins helds h = (record { place = h.0.place; number = h.0.number; lane = let l = h.0.lane in omega arith }, let r = h.1 in omega arith)

-- ---- a lane is opened
module _ (past : List Event) (v : ℕ) (p : Place) (law : MayOpen past v p) (sound : Sound past) where
  opened_more : lanes past ≤ lanes (opened v p ∷ past)
  opened_more = omega (arith, longer (openings_of past) p)

  opened_mapping : (m : ℕ) → StatusSound (opened v p ∷ past) m (status (opened v p ∷ past) m)
  opened_mapping m = at_changed (status past) p.mapping (in_lane v p) m (StatusSound (opened v p ∷ past) m)
      (λ e. (record { place = law.place; number = sym e; lane = let n = law.next in omega (arith, longer (openings_of past) p) }, changed_here (lane_of past) v (Some p) v refl, ap (line_of past) e ∙ at_status sound p.mapping unmade law.fresh))
      (λ ne. let h = sound.each m in stays past (opened v p ∷ past) m (status past m) opened_more refl
      (λ w q e. changed_else (lane_of past) v (Some p) w (λ same. let l = (at_status sound m (in_lane w q) e).0.lane in let n = law.next in omega arith))
      (λ w q e. (refl, changed_else (lane_of past) v (Some p) w (λ same. let l = (at_status sound m (held w q) e).made.lane in let n = law.next in omega arith)))
      h)

  opened_status : (m : ℕ) (st : Status) → status past m ≡ st → (st ≡ unmade → ⊥) → status (opened v p ∷ past) m ≡ st
  opened_status m st e made = changed_else (status past) p.mapping (in_lane v p) m (apart past m p.mapping st unmade e law.fresh made) ∙ e

  opened_lane : (w : ℕ) → LaneSound (opened v p ∷ past) w
  opened_lane w = let old = sound.lane w in either_way w v
      (λ e. let n = law.next in record {
        inside = λ q h. let same : p ≡ q = some_same (sym (changed_here (lane_of past) v (Some p) w e) ∙ h) in
            (changed_here (status past) p.mapping (in_lane v p) q.mapping (ap (λ (x : Place). x.mapping) (sym same)) ∙ (λ i. in_lane (sym e i) (same i)), changed_here (newest past) v p.mapping w e ∙ ap (λ (x : Place). x.mapping) same);
        holds = λ q h. absurd (let l = (at_status sound q.mapping (held w q) (old.holds q h)).made.lane in omega arith);
        last = λ q h none. absurd (none_some (sym none ∙ changed_here (lane_of past) v (Some p) w e));
        some_one = λ l h. ap is_some (changed_here (lane_of past) v (Some p) w e);
        given = λ l. subst (λ (k : ℕ). IsOf w (status (opened v p ∷ past) k)) (sym (changed_here (newest past) v p.mapping w e)) (subst (IsOf w) (sym (changed_here (status past) p.mapping (in_lane v p) p.mapping refl)) (sym e));
        bare = λ l. old.bare (omega (arith, longer (openings_of past) p));
        rises = old.rises;
        below = subst (All (λ (x : Place). x.mapping ≤ newest (opened v p ∷ past) w)) (sym (old.bare (omega arith))) (λ k d l. absurd (omega arith));
      })
      (λ ne. record {
        inside = λ q h. let was = old.inside q (sym (changed_else (lane_of past) v (Some p) w ne) ∙ h) in
            (opened_status q.mapping (in_lane w q) was.0 (λ d. cc), changed_else (newest past) v p.mapping w ne ∙ was.1);
        holds = λ q h. opened_status q.mapping (held w q) (old.holds q h) (λ d. cc);
        last = λ q h none. changed_else (newest past) v p.mapping w ne ∙ old.last q h (sym (changed_else (lane_of past) v (Some p) w ne) ∙ none);
        some_one = λ l h. ap is_some (changed_else (lane_of past) v (Some p) w ne) ∙ old.some_one (let n = law.next in omega (arith, longer (openings_of past) p)) h;
        given = λ l. let was = old.given (let n = law.next in omega (arith, longer (openings_of past) p)) in
            subst (λ (k : ℕ). IsOf w (status (opened v p ∷ past) k)) (sym (changed_else (newest past) v p.mapping w ne))
            (at_changed (status past) p.mapping (in_lane v p) (newest past w) (IsOf w) (λ same. absurd (subst (IsOf w) (ap (status past) same ∙ law.fresh) was)) (λ other. was));
        bare = λ l. old.bare (omega (arith, longer (openings_of past) p));
        rises = old.rises;
        below = subst (λ (n : ℕ). All (λ (x : Place). x.mapping ≤ n) (takes_of past w)) (sym (changed_else (newest past) v p.mapping w ne)) old.below;
      })

-- ---- a worker takes the stack of its lane
module _ (past : List Event) (v : ℕ) (p : Place) (law : MayTake past v p) (sound : Sound past) where
  taken_of : IsMade past p.mapping v p × (lane_of past v ≡ Some p) × (line_of past p.mapping ≡ 0)
  taken_of = at_status sound p.mapping (in_lane v p) law.is_in

  took_status : (m : ℕ) (st : Status) → status past m ≡ st → (st ≡ in_lane v p → ⊥) → status (took v p ∷ past) m ≡ st
  took_status m st e other = changed_else (status past) p.mapping (held v p) m (apart past m p.mapping st (in_lane v p) e law.is_in other) ∙ e

  took_mapping : (m : ℕ) → StatusSound (took v p ∷ past) m (status (took v p ∷ past) m)
  took_mapping m = at_changed (status past) p.mapping (held v p) m (StatusSound (took v p ∷ past) m)
      (λ e. let was = taken_of in record {
        made = record { place = was.0.place; number = sym e; lane = was.0.lane };
        holds = changed_here (held_of past) v (Some p) v refl;
        kept = λ none. ap (line_of past) e ∙ was.2;
        replaced = λ some. absurd (let none = ap is_some (changed_here (lane_of past) v None v refl) in true_false (sym some ∙ none));
      })
      (λ ne. stays past (took v p ∷ past) m (status past m) (omega arith) refl
      (λ w q e. changed_else (lane_of past) v None w (λ same. ne (
      let was = at_status sound m (in_lane w q) e in
      let one : q ≡ p = some_same (sym was.1 ∙ (ap (lane_of past) same ∙ taken_of.1)) in
      sym was.0.number ∙ ap (λ (x : Place). x.mapping) one)))
      (λ w q e. let other : w ≢ v = λ same. none_some (sym law.free ∙ (ap (held_of past) (sym same) ∙ (at_status sound m (held w q) e).holds)) in
      (changed_else (held_of past) v (Some p) w other, changed_else (lane_of past) v None w other))
      (sound.each m))

  took_of : (w n : ℕ) → IsOf w (status past n) → IsOf w (status (took v p ∷ past) n)
  took_of w n h = at_changed (status past) p.mapping (held v p) n (IsOf w) (λ same. subst (IsOf w) (ap (status past) same ∙ law.is_in) h) (λ other. h)

  took_lane : (w : ℕ) → LaneSound (took v p ∷ past) w
  took_lane w = let old = sound.lane w in let was = taken_of in either_way w v
      (λ e. let here = (sound.lane v).inside p was.1 in record {
        inside = λ q h. absurd (none_some (sym (changed_here (lane_of past) v None w e) ∙ h));
        holds = λ q h. let same : p ≡ q = some_same (sym (changed_here (held_of past) v (Some p) w e) ∙ h) in
            changed_here (status past) p.mapping (held v p) q.mapping (ap (λ (x : Place). x.mapping) (sym same)) ∙ (λ i. held (sym e i) (same i));
        last = λ q h none. let same : p ≡ q = some_same (sym (changed_here (held_of past) v (Some p) w e) ∙ h) in ap (newest past) e ∙ (here.1 ∙ ap (λ (x : Place). x.mapping) same);
        some_one = λ l h. absurd (none_some (sym h ∙ changed_here (held_of past) v (Some p) w e));
        given = λ l. took_of w (newest past w) (old.given l);
        bare = λ l. absurd (let k = was.0.lane in omega arith);
        rises = subst NeverFall (sym (changed_here (takes_of past) v (takes_of past v ++ p ∷ []) w e)) (took_rises here.1);
        below = subst (All (λ (x : Place). x.mapping ≤ newest past w)) (sym (changed_here (takes_of past) v (takes_of past v ++ p ∷ []) w e))
            (subst (λ (n : ℕ). All (λ (x : Place). x.mapping ≤ n) (takes_of past v ++ p ∷ [])) (ap (newest past) (sym e)) (took_below here.1));
      })
      (λ ne. record {
        inside = λ q h. let had = old.inside q (sym (changed_else (lane_of past) v None w ne) ∙ h) in
            (took_status q.mapping (in_lane w q) had.0 (λ d. ne (let e : w ≡ v = cc in e)), had.1);
        holds = λ q h. took_status q.mapping (held w q) (old.holds q (sym (changed_else (held_of past) v (Some p) w ne) ∙ h)) (λ d. cc);
        last = λ q h none. old.last q (sym (changed_else (held_of past) v (Some p) w ne) ∙ h) (sym (changed_else (lane_of past) v None w ne) ∙ none);
        some_one = λ l h. ap is_some (changed_else (lane_of past) v None w ne) ∙ old.some_one l (sym (changed_else (held_of past) v (Some p) w ne) ∙ h);
        given = λ l. took_of w (newest past w) (old.given l);
        bare = λ l. changed_else (takes_of past) v (takes_of past v ++ p ∷ []) w ne ∙ old.bare l;
        rises = subst NeverFall (sym (changed_else (takes_of past) v (takes_of past v ++ p ∷ []) w ne)) old.rises;
        below = subst (All (λ (x : Place). x.mapping ≤ newest past w)) (sym (changed_else (takes_of past) v (takes_of past v ++ p ∷ []) w ne)) old.below;
      })
    where
      took_rises : newest past v ≡ p.mapping → NeverFall (takes_of past v ++ p ∷ [])
      took_rises last = all_pairs_push (λ (x y : Place). x.mapping ≤ y.mapping) (takes_of past v) p (sound.lane v).rises (λ k d l. let b = (sound.lane v).below k d l in subst (λ (n : ℕ). (get_or (takes_of past v) k d).mapping ≤ n) last b)

      took_below : newest past v ≡ p.mapping → All (λ (x : Place). x.mapping ≤ newest past v) (takes_of past v ++ p ∷ [])
      took_below last = All-append (λ (x : Place). x.mapping ≤ newest past v) (takes_of past v) (p ∷ []) (sound.lane v).below (one_below p (newest past v) (omega arith))

-- ---- a worker puts its stack back
-- where a put leaves the stack
abbrev pub settled : Option Place → ℕ → Place → Status
settled o v p = cond (is_some o) (gone v p) (in_lane v p)

module _ (past : List Event) (v : ℕ) (p : Place) (law : MayPut past v p) (sound : Sound past) where
  held_by : IsHeld past p.mapping v p
  held_by = at_status sound p.mapping (held v p) law

  put_status : (m : ℕ) (st : Status) → status past m ≡ st → (st ≡ held v p → ⊥) → status (put v p ∷ past) m ≡ st
  put_status m st e other = changed_else (status past) p.mapping (settled (lane_of past v) v p) m (apart past m p.mapping st (held v p) e law other) ∙ e

  put_lane_is : (o : Option Place) → lane_of past v ≡ o → (w : ℕ) → w ≡ v → lane_of (put v p ∷ past) w ≡ Some (unwrap_or o p)
  put_lane_is o e w same = changed_here (lane_of past) v (Some (unwrap_or (lane_of past v) p)) w same ∙ ap (λ (x : Option Place). Some (unwrap_or x p)) e

  put_here : (m : ℕ) → m ≡ p.mapping → (o : Option Place) → lane_of past v ≡ o → StatusSound (put v p ∷ past) m (settled o v p)
  put_here m e None lane =
      let was = held_by in (
        record { place = was.made.place; number = sym e; lane = was.made.lane },
        put_lane_is None lane v refl,
        ap (line_of past) e ∙ was.kept lane,
      )
  put_here m e (Some q) lane =
      let was = held_by in (
        record { place = was.made.place; number = sym e; lane = was.made.lane },
        subst (λ (k : ℕ). 0 < line_of past k) (sym e) (was.replaced (ap is_some lane)),
      )

  put_mapping : (m : ℕ) → StatusSound (put v p ∷ past) m (status (put v p ∷ past) m)
  put_mapping m = at_changed (status past) p.mapping (settled (lane_of past v) v p) m (StatusSound (put v p ∷ past) m)
      (λ e. put_here m e (lane_of past v) refl)
      (λ ne. stays past (put v p ∷ past) m (status past m) (omega arith) refl
      (λ w q e. either_way w v
      (λ same. let had = ap (lane_of past) (sym same) ∙ (at_status sound m (in_lane w q) e).1 in put_lane_is (Some q) had w same ∙ sym (at_status sound m (in_lane w q) e).1)
      (λ other. changed_else (lane_of past) v (Some (unwrap_or (lane_of past v) p)) w other))
      (λ w q e.
      let was = at_status sound m (held w q) e in
      let other : w ≢ v = λ same. ne (let one : q ≡ p = some_same (sym was.holds ∙ (ap (held_of past) same ∙ held_by.holds)) in sym was.made.number ∙ ap (λ (x : Place). x.mapping) one) in
      (changed_else (held_of past) v None w other, changed_else (lane_of past) v (Some (unwrap_or (lane_of past v) p)) w other))
      (sound.each m))

  settled_of : (w : ℕ) (o : Option Place) → v ≡ w → IsOf w (settled o v p)
  settled_of w None e = e
  settled_of w (Some q) e = e

  put_of : (w n : ℕ) → IsOf w (status past n) → IsOf w (status (put v p ∷ past) n)
  put_of w n h = at_changed (status past) p.mapping (settled (lane_of past v) v p) n (IsOf w) (λ same. settled_of w (lane_of past v) (subst (IsOf w) (ap (status past) same ∙ law) h)) (λ other. h)

  put_inside : (o : Option Place) → lane_of past v ≡ o → (q : Place) → Some (unwrap_or o p) ≡ Some q → (status (put v p ∷ past) q.mapping ≡ in_lane v q) × (newest past v ≡ q.mapping)
  put_inside None lane q h =
      let same : p ≡ q = some_same h in (
        changed_here (status past) p.mapping (settled (lane_of past v) v p) q.mapping (ap (λ (x : Place). x.mapping) (sym same)) ∙ (ap (λ (o : Option Place). settled o v p) lane ∙ ap (in_lane v) same),
        (sound.lane v).last p held_by.holds lane ∙ ap (λ (x : Place). x.mapping) same,
      )
  put_inside (Some x) lane q h = let was = (sound.lane v).inside q (lane ∙ h) in (put_status q.mapping (in_lane v q) was.0 (λ d. cc), was.1)

  put_lane : (w : ℕ) → LaneSound (put v p ∷ past) w
  put_lane w = let old = sound.lane w in either_way w v
      (λ e. record {
        inside = λ q h. let had = put_inside (lane_of past v) refl q (sym (put_lane_is (lane_of past v) refl w e) ∙ h) in (had.0 ∙ ap (λ (k : ℕ). in_lane k q) (sym e), ap (newest past) e ∙ had.1);
        holds = λ q h. absurd (none_some (sym (changed_here (held_of past) v None w e) ∙ h));
        last = λ q h none. absurd (none_some (sym (changed_here (held_of past) v None w e) ∙ h));
        some_one = λ l h. ap is_some (put_lane_is (lane_of past v) refl w e);
        given = λ l. put_of w (newest past w) (old.given l);
        bare = λ l. absurd (let k = held_by.made.lane in omega arith);
        rises = old.rises;
        below = old.below;
      })
      (λ ne. record {
        inside = λ q h. let had = old.inside q (sym (changed_else (lane_of past) v (Some (unwrap_or (lane_of past v) p)) w ne) ∙ h) in (put_status q.mapping (in_lane w q) had.0 (λ d. cc), had.1);
        holds = λ q h. put_status q.mapping (held w q) (old.holds q (sym (changed_else (held_of past) v None w ne) ∙ h)) (λ d. ne (let e : w ≡ v = cc in e));
        last = λ q h none. old.last q (sym (changed_else (held_of past) v None w ne) ∙ h) (sym (changed_else (lane_of past) v (Some (unwrap_or (lane_of past v) p)) w ne) ∙ none);
        some_one = λ l h. ap is_some (changed_else (lane_of past) v (Some (unwrap_or (lane_of past v) p)) w ne) ∙ old.some_one l (sym (changed_else (held_of past) v None w ne) ∙ h);
        given = λ l. put_of w (newest past w) (old.given l);
        bare = old.bare;
        rises = old.rises;
        below = old.below;
      })

-- ---- numbers above all given so far
-- the mapping of such a number isn't made yet
pub below_unmade : (past : List Event) (m : ℕ) → AreLawful past → AreBelow past m → status past m ≡ unmade
below_unmade [] m law below = refl
below_unmade (opened w p ∷ past) m law below = changed_else (status past) p.mapping (in_lane w p) m (λ e. let l = below.0 in omega arith) ∙ below_unmade past m law.1 below.1
below_unmade (took w p ∷ past) m law below = let old = below_unmade past m law.1 below in changed_else (status past) p.mapping (held w p) m (apart past m p.mapping unmade (in_lane w p) old law.0.is_in (λ d. cc)) ∙ old
below_unmade (put w p ∷ past) m law below = let old = below_unmade past m law.1 below in changed_else (status past) p.mapping (settled (lane_of past w) w p) m (apart past m p.mapping unmade (held w p) old law.0 (λ d. cc)) ∙ old
below_unmade (refreshed w p line ∷ past) m law below = changed_else (λ k. replaced w (status past k)) p.mapping (in_lane w p) m (λ e. let l = below.0 in omega arith) ∙ ap (replaced w) (below_unmade past m law.1 below.1)

-- and no lane was given it last
pub newest_below : (past : List Event) (m w : ℕ) → AreBelow past m → 0 < m → newest past w < m
newest_below [] m w below some = some
newest_below (opened v p ∷ past) m w below some = at_changed (newest past) v p.mapping w (λ n. n < m) (λ e. below.0) (λ ne. newest_below past m w below.1 some)
newest_below (took v p ∷ past) m w below some = newest_below past m w below some
newest_below (put v p ∷ past) m w below some = newest_below past m w below some
newest_below (refreshed v p line ∷ past) m w below some = at_changed (newest past) v p.mapping w (λ n. n < m) (λ e. below.0) (λ ne. newest_below past m w below.1 some)

-- ---- a lane is refreshed
module _ (past : List Event) (v : ℕ) (p : Place) (line : ℕ) (lawful : AreLawful past) (law : MayRefresh past v p line) (sound : Sound past) where
  abbrev later : List Event
  later = refreshed v p line ∷ past

  fresh : status past p.mapping ≡ unmade
  fresh = below_unmade past p.mapping lawful law.above

  lower : (w : ℕ) → newest past w < p.mapping
  lower w = newest_below past p.mapping w law.above law.place.place.mapping_from

  -- the line of a mapping that isn't the one that the lane was given last
  line_else : (m : ℕ) (st : Status) → status past m ≡ st → (IsOf v st → ⊥) → line_of later m ≡ line_of past m
  line_else m st e other = changed_else (line_of past) (newest past v) line m (λ same. other (subst (IsOf v) (ap (status past) (sym same) ∙ e) ((sound.lane v).given law.lane)))

  line_here : (m : ℕ) → newest past v ≡ m → 0 < line_of later m
  line_here m e = subst (λ (n : ℕ). 0 < n) (sym (changed_here (line_of past) (newest past v) line m (sym e))) law.from_line

  line_raised : (m : ℕ) → 0 < line_of past m → 0 < line_of later m
  line_raised m h = at_changed (line_of past) (newest past v) line m (λ n. 0 < n) (λ e. law.from_line) (λ ne. h)

  lane_here : (w : ℕ) → w ≡ v → lane_of later w ≡ Some p
  lane_here w e = changed_here (lane_of past) v (Some p) w e

  lane_else : (w : ℕ) → w ≢ v → lane_of later w ≡ lane_of past w
  lane_else w ne = changed_else (lane_of past) v (Some p) w ne

  out_of_lane : (m w : ℕ) (q : Place) → status past m ≡ in_lane w q → (b : Bool) → eqb w v ≡ b → StatusSound later m (cond b (gone w q) (in_lane w q))
  out_of_lane m w q e true test =
      let was = at_status sound m (in_lane w q) e in
      let same : w ≡ v = eqb-true w v test in
      let here = (sound.lane w).inside q was.1 in
      (record { place = was.0.place; number = was.0.number; lane = was.0.lane }, line_here m (ap (newest past) (sym same) ∙ (here.1 ∙ was.0.number)))
  out_of_lane m w q e false test =
      let was = at_status sound m (in_lane w q) e in
      let other : w ≢ v = λ same. true_false (sym (eq-eqb w v same) ∙ test) in
      (record { place = was.0.place; number = was.0.number; lane = was.0.lane }, lane_else w other ∙ was.1, line_else m (in_lane w q) e other ∙ was.2)

  still_held : (m w : ℕ) (q : Place) → status past m ≡ held w q → IsHeld later m w q
  still_held m w q e =
      let was = at_status sound m (held w q) e in
      let made : IsMade later m w q = record { place = was.made.place; number = was.made.number; lane = was.made.lane } in
      either_way w v
      (λ same. record { made = made; holds = was.holds; kept = λ none. absurd (none_some (sym none ∙ lane_here w same)); replaced = λ some. replaced_now m w q was same (lane_of past w) refl })
      (λ other. record { made = made; holds = was.holds; kept = λ none. line_else m (held w q) e other ∙ was.kept (sym (lane_else w other) ∙ none); replaced = λ some. line_raised m (was.replaced (ap is_some (sym (lane_else w other)) ∙ some)) })
    where
      replaced_now : (m w : ℕ) (q : Place) → IsHeld past m w q → w ≡ v → (o : Option Place) → lane_of past w ≡ o → 0 < line_of later m
      replaced_now m w q was same None lane = line_here m (ap (newest past) (sym same) ∙ ((sound.lane w).last q was.holds lane ∙ was.made.number))
      replaced_now m w q was same (Some x) lane = line_raised m (was.replaced (ap is_some lane))

  refreshed_else : (m : ℕ) (st : Status) → status past m ≡ st → StatusSound later m (replaced v st)
  refreshed_else m unmade e = line_else m unmade e (λ h. h) ∙ at_status sound m unmade e
  refreshed_else m (in_lane w q) e = out_of_lane m w q e (eqb w v) refl
  refreshed_else m (held w q) e = still_held m w q e
  refreshed_else m (gone w q) e = let was = at_status sound m (gone w q) e in (record { place = was.0.place; number = was.0.number; lane = was.0.lane }, line_raised m was.1)

  refreshed_mapping : (m : ℕ) → StatusSound later m (status later m)
  refreshed_mapping m = at_changed (λ k. replaced v (status past k)) p.mapping (in_lane v p) m (StatusSound later m)
      (λ e. (
        record { place = law.place; number = sym e; lane = law.lane },
        lane_here v refl,
        changed_else (line_of past) (newest past v) line m (λ same. let l = lower v in omega arith) ∙ (ap (line_of past) e ∙ at_status sound p.mapping unmade fresh),
      ))
      (λ ne. refreshed_else m (status past m) refl)

  pub refreshed_status : (m : ℕ) (st : Status) → status past m ≡ st → (st ≡ unmade → ⊥) → status later m ≡ replaced v st
  refreshed_status m st e made = changed_else (λ k. replaced v (status past k)) p.mapping (in_lane v p) m (apart past m p.mapping st unmade e fresh made) ∙ ap (replaced v) e

  replaced_of : (w : ℕ) (st : Status) → IsOf w st → IsOf w (replaced v st)
  replaced_of w unmade h = h
  replaced_of w (in_lane u q) h = elim (eqb u v) as (λ (b : Bool). IsOf w (cond b (gone u q) (in_lane u q))) [ true ↦ h | false ↦ h ]
  replaced_of w (held u q) h = h
  replaced_of w (gone u q) h = h

  refreshed_of : (w n : ℕ) → IsOf w (status past n) → IsOf w (status later n)
  refreshed_of w n h = at_changed (λ k. replaced v (status past k)) p.mapping (in_lane v p) n (IsOf w) (λ same. absurd (subst (IsOf w) (ap (status past) same ∙ fresh) h)) (λ other. replaced_of w (status past n) h)

  refreshed_lane : (w : ℕ) → LaneSound later w
  refreshed_lane w = let old = sound.lane w in either_way w v
      (λ e. record {
        inside = λ q h. let same : p ≡ q = some_same (sym (lane_here w e) ∙ h) in (
          changed_here (λ k. replaced v (status past k)) p.mapping (in_lane v p) q.mapping (ap (λ (x : Place). x.mapping) (sym same)) ∙ (λ i. in_lane (sym e i) (same i)),
          changed_here (newest past) v p.mapping w e ∙ ap (λ (x : Place). x.mapping) same,
        );
        holds = λ q h. refreshed_status q.mapping (held w q) (old.holds q h) (λ d. cc);
        last = λ q h none. absurd (none_some (sym none ∙ lane_here w e));
        some_one = λ l h. ap is_some (lane_here w e);
        given = λ l. subst (λ (k : ℕ). IsOf w (status later k)) (sym (changed_here (newest past) v p.mapping w e)) (subst (IsOf w) (sym (changed_here (λ k. replaced v (status past k)) p.mapping (in_lane v p) p.mapping refl)) (sym e));
        bare = λ l. absurd (let k = law.lane in omega arith);
        rises = old.rises;
        below = subst (λ (n : ℕ). All (λ (x : Place). x.mapping ≤ n) (takes_of past w)) (sym (changed_here (newest past) v p.mapping w e)) (λ k d l. let b = old.below k d l in let up = lower w in omega arith);
      })
      (λ ne. record {
        inside = λ q h. let had = old.inside q (sym (lane_else w ne) ∙ h) in (
          refreshed_status q.mapping (in_lane w q) had.0 (λ d. cc) ∙ ap (λ (b : Bool). cond b (gone w q) (in_lane w q)) (ne_eqb w v ne),
          changed_else (newest past) v p.mapping w ne ∙ had.1,
        );
        holds = λ q h. refreshed_status q.mapping (held w q) (old.holds q h) (λ d. cc);
        last = λ q h none. changed_else (newest past) v p.mapping w ne ∙ old.last q h (sym (lane_else w ne) ∙ none);
        some_one = λ l h. ap is_some (lane_else w ne) ∙ old.some_one l h;
        given = λ l. subst (λ (k : ℕ). IsOf w (status later k)) (sym (changed_else (newest past) v p.mapping w ne)) (refreshed_of w (newest past w) (old.given l));
        bare = old.bare;
        rises = old.rises;
        below = subst (λ (n : ℕ). All (λ (x : Place). x.mapping ≤ n) (takes_of past w)) (sym (changed_else (newest past) v p.mapping w ne)) old.below;
      })

-- ---- all lawful histories
pub sound_of : (past : List Event) → AreLawful past → Sound past
sound_of [] law = record {
  each = λ m. refl;
  lane = λ w. record {
    inside = λ p h. absurd (none_some h);
    holds = λ p h. absurd (none_some h);
    last = λ p h none. absurd (none_some h);
    some_one = λ l h. absurd (omega arith);
    given = λ l. absurd (omega arith);
    bare = λ l. refl;
    rises = λ i j d low l. absurd (omega arith);
    below = λ k d l. absurd (omega arith);
  };
}
sound_of (opened v p ∷ past) law = let old = sound_of past law.1 in record { each = opened_mapping past v p law.0 old; lane = opened_lane past v p law.0 old }
sound_of (took v p ∷ past) law = let old = sound_of past law.1 in record { each = took_mapping past v p law.0 old; lane = took_lane past v p law.0 old }
sound_of (put v p ∷ past) law = let old = sound_of past law.1 in record { each = put_mapping past v p law.0 old; lane = put_lane past v p law.0 old }
sound_of (refreshed v p line ∷ past) law = let old = sound_of past law.1 in record { each = refreshed_mapping past v p line law.1 law.0 old; lane = refreshed_lane past v p line law.1 law.0 old }

-- a stack that is Gone stays Gone
pub gone_stays : (e : Event) (past : List Event) → AreLawful past → Lawful e past → (m w : ℕ) (p : Place) → status past m ≡ gone w p → status (e ∷ past) m ≡ gone w p
gone_stays (opened v q) past lawful law m w p h = changed_else (status past) q.mapping (in_lane v q) m (apart past m q.mapping (gone w p) unmade h law.fresh (λ d. cc)) ∙ h
gone_stays (took v q) past lawful law m w p h = changed_else (status past) q.mapping (held v q) m (apart past m q.mapping (gone w p) (in_lane v q) h law.is_in (λ d. cc)) ∙ h
gone_stays (put v q) past lawful law m w p h = changed_else (status past) q.mapping (settled (lane_of past v) v q) m (apart past m q.mapping (gone w p) (held v q) h law (λ d. cc)) ∙ h
gone_stays (refreshed v q line) past lawful law m w p h = changed_else (λ k. replaced v (status past k)) q.mapping (in_lane v q) m (apart past m q.mapping (gone w p) unmade h (below_unmade past q.mapping lawful law.above) (λ d. cc)) ∙ ap (replaced v) h

-- a number above those of the opening and of the refreshes is above all given
snoc_init : {A : Type 0} (P : A → Type 0) (xs : List A) (x : A) → All P (xs ++ x ∷ []) → All P xs
snoc_init P xs x h = λ k d l. subst P (get_or_append_left xs (x ∷ []) d k l) (h k d (omega (arith, length-append xs (x ∷ []))))

snoc_last : {A : Type 0} (P : A → Type 0) (xs : List A) (x : A) → All P (xs ++ x ∷ []) → P x
snoc_last P xs x h = subst P (get_or-append_seam xs x [] x) (h (length xs) x (omega (arith, length-append xs (x ∷ []))))

pub are_below : (past : List Event) (m : ℕ) → IsAbove (openings_of past) (refreshes_of past) m → AreBelow past m
are_below [] m h = tt
are_below (opened v p ∷ past) m h = (snoc_last (λ (x : Place). x.mapping < m) (openings_of past) p h.opened, are_below past m (record { opened = snoc_init (λ (x : Place). x.mapping < m) (openings_of past) p h.opened; refreshed = h.refreshed }))
are_below (took v p ∷ past) m h = are_below past m h
are_below (put v p ∷ past) m h = are_below past m h
are_below (refreshed v p line ∷ past) m h =
    let g : Given = record { lane = v; place = p; line = line } in
    (snoc_last (λ (x : Given). x.place.mapping < m) (refreshes_of past) g h.refreshed, are_below past m (record { opened = h.opened; refreshed = snoc_init (λ (x : Given). x.place.mapping < m) (refreshes_of past) g h.refreshed }))
