-- The words that the table is opened with.
use Rattle.std.proofs.Common.{◌≡◌, ◌≢◌, ◌⊎◌, inl, inr, ℕ, zero, suc, eq-eqb, ne_eqb, ◌+◌, ◌-◌, ◌<◌, ◌≤◌, List, ◌++◌, append_assoc, map, length, length-append, get_or, Option, Some, sym, refl, ap, ◌∙◌, subst, arith}
use Rattle.std.specs.List.{AllPairs, enumerate_from, position_or_len, range_with_len, slice_get}
use Rattle.std.specs.Option.{option_map_or}
use Rattle.std.proofs.Math.Seq.{get_or-append_right}
use Rattle.std.proofs.lemmas.Bool.{cases_lt}
use Rattle.std.proofs.lemmas.List.{ext_get_or, get_or_append_left}
use Rattle.std.proofs.lemmas.List.Folds.{find_at}
use Rattle.std.proofs.lemmas.List.FromFn.{get_or-enumerate_from, get_or-map-range_with_len, length-enumerate_from, length-map-range_with_len}
use Rattle.std.proofs.lemmas.List.Sums.{position_or_len_is}
use Rattle.std.proofs.lemmas.Option.{get_or_from_slice_get, slice_get-get_or, slice_get_past, slice_get_within}
use Rattle.ad_base.specs.declared.place.Place.{Place}
use Rattle.ad_base.specs.Place.{packed}
use Rattle.ad_stacks.specs.Names.{Name, Lane, Record, Mark, index, read, IsName, Words, AreWords, in_order}
use Rattle.ad_stacks.specs.Opening.{has_number, new_record, opening_record, opening_words, AreOpeningWords, MayOpenWith}
use Rattle.ad_stacks.specs.StackPlace.{lane_word, record_word}
use Rattle.ad_stacks.specs.Private.Opening.{nowhere, place_of_lane, laid}
use Rattle.ad_stacks.proofs.Numbers.{number_fits}
use Rattle.ad_stacks.proofs.Changed.{changed_here, changed_else, either_way}

-- ---- the words in order
-- an area, and what stands past it
area : (f : ℕ → ℕ) (n i : ℕ) (rest : List ℕ) → i < n → get_or (map f (range_with_len 0 n) ++ rest) i 0 ≡ f i
area f n i rest l = get_or_append_left (map f (range_with_len 0 n)) rest 0 i (let e = length-map-range_with_len f 0 n in omega arith) ∙ get_or-map-range_with_len f 0 n i i 0 l (omega arith)

past_area : (f : ℕ → ℕ) (n i j : ℕ) (rest : List ℕ) → j ≡ n + i → get_or (map f (range_with_len 0 n) ++ rest) j 0 ≡ get_or rest i 0
past_area f n i j rest e =
    let long = length-map-range_with_len f 0 n in
    get_or-append_right (map f (range_with_len 0 n)) rest j 0 (omega arith) ∙ ap (λ (k : ℕ). get_or rest k 0) (omega arith)

pub in_order_are : (ws : Words) → AreWords (in_order ws) ws
unfolding in_order
in_order_are ws = subst (λ (xs : List ℕ). AreWords xs ws) (sym (append_assoc lanes records marks)) (long, by_name)
  where
    lanes : List ℕ
    lanes = map ws.lane (range_with_len 0 64)

    records : List ℕ
    records = map ws.recorded (range_with_len 0 4096)

    marks : List ℕ
    marks = map ws.mark (range_with_len 0 4096)

    long : length (lanes ++ (records ++ marks)) ≡ 8256
    long =
        let a = length-map-range_with_len ws.lane 0 64 in
        let b = length-map-range_with_len ws.recorded 0 4096 in
        let c = length-map-range_with_len ws.mark 0 4096 in
        omega (arith, length-append lanes (records ++ marks), length-append records marks)

    by_name : (n : Name) → IsName n → get_or (lanes ++ (records ++ marks)) (index n) 0 ≡ read ws n
    by_name (Lane w) l = area ws.lane 64 w (records ++ marks) l
    by_name (Record m) l = past_area ws.lane 64 m (64 + m) (records ++ marks) refl ∙ area ws.recorded 4096 m marks l
    by_name (Mark m) l = past_area ws.lane 64 (4096 + m) (4160 + m) (records ++ marks) (omega arith) ∙ (past_area ws.recorded 4096 m (4096 + m) marks refl ∙ get_or-map-range_with_len ws.mark 0 4096 m m 0 l (omega arith))

-- two lists of the same words are one
same_words : (xs ys : List ℕ) (ws : Words) → AreWords xs ws → AreWords ys ws → xs ≡ ys
same_words xs ys ws are are' = ext_get_or 0 xs ys (are.0 ∙ sym are'.0) (λ i l. at i (let n = are.0 in omega arith))
  where
    named : (n : Name) → IsName n → get_or xs (index n) 0 ≡ get_or ys (index n) 0
    named n h = are.1 n h ∙ sym (are'.1 n h)

    at : (i : ℕ) → i < 8256 → get_or xs i 0 ≡ get_or ys i 0
    at i l =
        elim (cases_lt i 64) [
          | inl low ↦ named (Lane i) low
          | inr past ↦
              elim (cases_lt i 4160) [
                | inl low ↦ let k : 64 + (i - 64) ≡ i = omega arith in subst (λ (j : ℕ). get_or xs j 0 ≡ get_or ys j 0) k (named (Record (i - 64)) (omega arith))
                | inr far ↦ let k : 4160 + (i - 4160) ≡ i = omega arith in subst (λ (j : ℕ). get_or xs j 0 ≡ get_or ys j 0) k (named (Mark (i - 4160)) (omega arith))
              ]
        ]

pub are_in_order : (xs : List ℕ) (ws : Words) → AreWords xs ws → xs ≡ in_order ws
are_in_order xs ws are = same_words xs (in_order ws) ws are (in_order_are ws)

-- ---- the opening's words
abbrev none : ℕ × Place
none = (0, nowhere)

-- no lane's stack has the number
unmade_record : (openings : List Place) (m : ℕ) → ((w : ℕ) → w < length openings → (place_of_lane openings w).mapping ≢ m) → opening_record openings m ≡ 0
unmade_record openings m fails =
    let lanes = enumerate_from 0 openings in
    let long = length-enumerate_from 0 openings in
    let past : position_or_len (has_number m) lanes ≡ length lanes = position_or_len_is (has_number m) lanes (length lanes) none (omega arith)
    (λ k l. let low : k < length openings = omega arith in ap (has_number m) (get_or-enumerate_from 0 openings k none low) ∙ ne_eqb (place_of_lane openings k).mapping m (fails k low))
    (λ l. absurd (omega arith)) in
    ap (λ (o : Option (ℕ × Place)). option_map_or new_record o 0) (find_at (has_number m) lanes ∙ slice_get_past lanes (position_or_len (has_number m) lanes) (omega arith))

module _ (openings : List Place) (differ : AllPairs (λ (p q : Place). p.mapping ≢ q.mapping) openings) where
  -- two lanes' stacks have two numbers
  apart : (w v : ℕ) → w < length openings → v < length openings → w ≢ v → (place_of_lane openings w).mapping ≢ (place_of_lane openings v).mapping
  apart w v a b ne =
      elim (cases_lt w v) [
        | inl before ↦ differ w v nowhere before b
        | inr after ↦ λ e. differ v w nowhere (omega arith) a (sym e)
      ]

  -- the record word of a lane's stack
  made_record : (w : ℕ) → w < length openings → opening_record openings (place_of_lane openings w).mapping ≡ record_word (place_of_lane openings w) w 0
  made_record w low =
      let p : Place = place_of_lane openings w in
      let lanes = enumerate_from 0 openings in
      let long = length-enumerate_from 0 openings in
      let here : position_or_len (has_number p.mapping) lanes ≡ w = position_or_len_is (has_number p.mapping) lanes w none (omega arith)
      (λ k l. let within : k < length openings = omega arith in ap (has_number p.mapping) (get_or-enumerate_from 0 openings k none within) ∙ ne_eqb (place_of_lane openings k).mapping p.mapping (apart k w within low (omega arith)))
      (λ l. ap (has_number p.mapping) (get_or-enumerate_from 0 openings w none low) ∙ eq-eqb p.mapping p.mapping refl) in
      let at : get_or lanes w none ≡ (w, p) = get_or-enumerate_from 0 openings w none low ∙ (let z : 0 + w ≡ w = omega arith in ap (λ (k : ℕ). (k, p)) z) in
      ap (λ (o : Option (ℕ × Place)). option_map_or new_record o 0)
      (find_at (has_number p.mapping) lanes ∙ (ap (slice_get lanes) here ∙ (slice_get-get_or lanes w none (omega arith) ∙ ap Some at)))

  -- a lane's stack has the number, or none has it
  some_or_none : (m k : ℕ) → ((w : ℕ) × (w < k) × ((place_of_lane openings w).mapping ≡ m)) ⊎ ((w : ℕ) → w < k → (place_of_lane openings w).mapping ≢ m)
  some_or_none m zero = inr (λ w l. absurd (omega arith))
  some_or_none m (suc k) = either_way (place_of_lane openings k).mapping m
      (λ e. inl (k, omega arith, e))
      (λ ne.
      elim (some_or_none m k) [
        | inl t ↦ inl (t.0, let l = t.1 in omega arith, t.2)
        | inr fails ↦ inr (λ w l. either_way w k (λ e f. ne (ap (λ (j : ℕ). (place_of_lane openings j).mapping) (sym e) ∙ f)) (λ far. fails w (omega arith)))
      ])

  -- ---- laid lane by lane
  laid_lane : (k w : ℕ) → w < k → (laid openings k).lane w ≡ packed (place_of_lane openings w)
  laid_lane zero w l = absurd (omega arith)
  laid_lane (suc k) w l = either_way w k
      (λ e. changed_here (laid openings k).lane k (packed (place_of_lane openings k)) w e ∙ ap (λ (j : ℕ). packed (place_of_lane openings j)) (sym e))
      (λ ne. changed_else (laid openings k).lane k (packed (place_of_lane openings k)) w ne ∙ laid_lane k w (omega arith))

  bare_lane : (k w : ℕ) → k ≤ w → (laid openings k).lane w ≡ 0
  bare_lane zero w l = refl
  bare_lane (suc k) w l = changed_else (laid openings k).lane k (packed (place_of_lane openings k)) w (λ e. omega arith) ∙ bare_lane k w (omega arith)

  laid_record : (k w : ℕ) → k ≤ length openings → w < k → (laid openings k).recorded (place_of_lane openings w).mapping ≡ record_word (place_of_lane openings w) w 0
  laid_record zero w few l = absurd (omega arith)
  laid_record (suc k) w few l =
      let p : Place = place_of_lane openings k in
      either_way w k
      (λ e. changed_here (laid openings k).recorded p.mapping (record_word p k 0) (place_of_lane openings w).mapping (ap (λ (j : ℕ). (place_of_lane openings j).mapping) e) ∙ ap (λ (j : ℕ). record_word (place_of_lane openings j) j 0) (sym e))
      (λ ne. changed_else (laid openings k).recorded p.mapping (record_word p k 0) (place_of_lane openings w).mapping (apart w k (omega arith) (omega arith) ne) ∙ laid_record k w (omega arith) (omega arith))

  bare_record : (k m : ℕ) → ((w : ℕ) → w < k → (place_of_lane openings w).mapping ≢ m) → (laid openings k).recorded m ≡ 0
  bare_record zero m fails = refl
  bare_record (suc k) m fails =
      let p : Place = place_of_lane openings k in
      changed_else (laid openings k).recorded p.mapping (record_word p k 0) m (λ e. fails k (omega arith) (sym e)) ∙ bare_record k m (λ w l. fails w (omega arith))

  no_mark : (k m : ℕ) → (laid openings k).mark m ≡ 0
  no_mark zero m = refl
  no_mark (suc k) m = no_mark k m

  -- once each lane is laid, the words are those of the opening
  pub all_laid : laid openings (length openings) ≡ opening_words openings
  all_laid = λ i. record { lane = λ w. lane w i; recorded = λ m. recorded m i; mark = λ m. no_mark (length openings) m i }
    where
      lane : (w : ℕ) → (laid openings (length openings)).lane w ≡ lane_word (slice_get openings w)
      lane w =
          elim (cases_lt w (length openings)) [
            | inl low ↦ laid_lane (length openings) w low ∙ sym (ap lane_word (slice_get-get_or openings w nowhere low))
            | inr far ↦ bare_lane (length openings) w far ∙ sym (ap lane_word (slice_get_past openings w far))
          ]

      recorded : (m : ℕ) → (laid openings (length openings)).recorded m ≡ opening_record openings m
      recorded m =
          elim (some_or_none m (length openings)) [
            | inl t ↦ subst (λ (n : ℕ). (laid openings (length openings)).recorded n ≡ opening_record openings n) t.2 (laid_record (length openings) t.0 (omega arith) t.1 ∙ sym (made_record t.0 t.1))
            | inr fails ↦ bare_record (length openings) m fails ∙ sym (unmade_record openings m fails)
          ]

-- so the list that is laid is that of the opening's words, in order
pub words_are : (xs : List ℕ) (openings : List Place) (k : ℕ) → AllPairs (λ (p q : Place). p.mapping ≢ q.mapping) openings → k ≡ length openings → AreWords xs (laid openings k) → xs ≡ in_order (opening_words openings)
words_are xs openings k differ all are = are_in_order xs (opening_words openings) (subst (AreWords xs) (ap (laid openings) all ∙ all_laid openings differ) are)

-- the words as they are read by name
pub opening_read : (openings : List Place) → MayOpenWith openings → AreOpeningWords openings (in_order (opening_words openings))
opening_read openings may =
    let are = in_order_are (opening_words openings) in record {
      count = are.0;
      lanes = λ w l. are.1 (Lane w) l;
      records = λ w p at.
          (let low : w < length openings = slice_get_within openings w p at in
          let is : place_of_lane openings w ≡ p = get_or_from_slice_get openings w p nowhere at in
          are.1 (Record p.mapping) (subst (λ (q : Place). q.mapping < 4096) is (number_fits (place_of_lane openings w) (may.places w nowhere low))) ∙ subst (λ (q : Place). opening_record openings q.mapping ≡ record_word q w 0) is (made_record openings may.differ w low));
      unmade = λ m l none_has. are.1 (Record m) l ∙ unmade_record openings m (λ w low. none_has w nowhere low);
      marks = λ m l. are.1 (Mark m) l;
    }
