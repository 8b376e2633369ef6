-- The rows of all stacks given are their ledger, and those that the history says, number by number.
use Rattle.std.proofs.Common.{◌≡◌, ◌≢◌, ℕ, zero, suc, if◌then◌else◌, map, Bool, true, false, cond, eqb, eq-eqb, ne_eqb, ◌==◌, ◌+◌, ◌<◌, List, [], ◌∷◌, ◌++◌, append_assoc, append-nil, length, Option, None, Some, is_some, sym, refl, ap, ◌∙◌, subst, arith}
use Rattle.std.specs.List.{filter, find, All}
use Rattle.std.specs.Option.{option_map_or}
use Rattle.std.proofs.lemmas.List.Elements.{filter-append, All-nil, All-cons, All-append, All-filter, All-push}
use Rattle.ad_base.specs.declared.ledger.Kind.TheVariants.{Stack}
use Rattle.ad_base.specs.declared.ledger.Row.{Row}
use Rattle.ad_base.specs.declared.place.Place.{Place}
use Rattle.ad_base.specs.Ledger.{IsLedger, IsUnmappedOnce, Mapping, is_same_thing, retired_line}
use Rattle.ad_stacks.specs.declared.view.Given.{Given}
use Rattle.ad_stacks.specs.Names.{changed}
use Rattle.ad_stacks.specs.History.{Event, opened, took, put, refreshed, Status, unmade, in_lane, held, gone, replaced, status, lane_of, held_of, openings_of, refreshes_of, takes_of, newest, line_of, AreLawful}
use Rattle.ad_stacks.specs.Ledger.{given_from, all_given, by_number, stack_mapping, AreRows}
use Rattle.ad_stacks.proofs.Changed.{changed_here, changed_else, at_changed, either_way}
use Rattle.ad_stacks.proofs.Sound.{Sound, sound_of, at_status, lanes, IsOf, settled, below_unmade}

abbrev pub given : ℕ → Place → ℕ → Given
given w p line = record { lane = w; place = p; line = line }

-- ---- the ledger of some stacks that were given
-- the line in which each lane is given the first of these stacks, or 0 where it is given none
abbrev next_lines : List Given → ℕ → ℕ
next_lines [] w = 0
next_lines (g ∷ later) w = changed (next_lines later) g.lane g.line w

-- the row of a stack that was replaced in this line, or never, which is 0
abbrev pub row_of : Given → ℕ → Row
row_of g line = record { mapping = g.place.mapping; kind = Stack; who = g.lane; place = g.place; line = line; unmaps = if line == 0 then 0 else 1 }

abbrev pub rows_given : List Given → List Row
rows_given [] = []
rows_given (g ∷ later) = row_of g (next_lines later g.lane) ∷ rows_given later

next_retires : (g : Given) (later : List Given) → next_lines later g.lane ≡ retired_line (stack_mapping g) (map stack_mapping later)
next_retires g [] = refl
next_retires g (h ∷ later) = either_way g.lane h.lane
    (λ e. changed_here (next_lines later) h.lane h.line g.lane e ∙ sym (ap (λ (b : Bool). option_map_or (λ (n : Mapping). n.line) (cond b (Some (stack_mapping h)) (find (is_same_thing (stack_mapping g)) (map stack_mapping later))) 0) (eq-eqb g.lane h.lane e)))
    (λ ne. changed_else (next_lines later) h.lane h.line g.lane ne ∙ (next_retires g later ∙ sym (ap (λ (b : Bool). option_map_or (λ (n : Mapping). n.line) (cond b (Some (stack_mapping h)) (find (is_same_thing (stack_mapping g)) (map stack_mapping later))) 0) (ne_eqb g.lane h.lane ne))))

ledger_given : (gs : List Given) → IsLedger (map stack_mapping gs) (rows_given gs)
ledger_given [] = refl
ledger_given (g ∷ later) = (record { number = refl; kind = refl; who = refl; place = refl; line = next_retires g later }, ledger_given later)

-- what was replaced was unmapped once, and nothing else was
once_of : (g : Given) (line : ℕ) → IsUnmappedOnce (row_of g line)
once_of g line = record {
  once = λ some_line. ap (λ (b : Bool). cond b 0 1) (ne_eqb line 0 some_line);
  never = λ e. ap (λ (b : Bool). cond b 0 1) (eq-eqb line 0 e);
}

all_once : (gs : List Given) → All IsUnmappedOnce (rows_given gs)
all_once [] = All-nil IsUnmappedOnce
all_once (g ∷ later) = All-cons IsUnmappedOnce (row_of g (next_lines later g.lane)) (rows_given later) (once_of g (next_lines later g.lane)) (all_once later)

ordered_once : (rows : List Row) → All IsUnmappedOnce rows → (n : ℕ) → All IsUnmappedOnce (by_number rows n)
unfolding by_number
ordered_once rows h zero = All-nil IsUnmappedOnce
ordered_once rows h (suc n) = All-append IsUnmappedOnce (by_number rows n) (filter (λ (r : Row). r.mapping == n) rows) (ordered_once rows h n) (All-filter (λ (r : Row). r.mapping == n) IsUnmappedOnce rows h)

pub rows_once : (gs : List Given) (rows : List Row) (n : ℕ) → rows ≡ by_number (rows_given gs) n → All IsUnmappedOnce rows
rows_once gs rows n e = subst (All IsUnmappedOnce) (sym e) (ordered_once (rows_given gs) (all_once gs) n)

pub are_rows : (openings : List Place) (refreshes : List Given) (rows : List Row) → rows ≡ by_number (rows_given (all_given openings refreshes)) 4096 → AreRows openings refreshes rows
are_rows openings refreshes rows e = record { listed = rows_given (all_given openings refreshes); ledger = ledger_given (all_given openings refreshes); in_order = e }

-- ---- they are what the history says

-- the stacks given so far, in order
abbrev gifts : List Event → List Given
gifts [] = []
gifts (opened w p ∷ past) = gifts past ++ given w p 0 ∷ []
gifts (took w p ∷ past) = gifts past
gifts (put w p ∷ past) = gifts past
gifts (refreshed w p line ∷ past) = gifts past ++ given w p line ∷ []

given_from-push : (w : ℕ) (ps : List Place) (p : Place) → given_from w (ps ++ p ∷ []) ≡ given_from w ps ++ given (w + length ps) p 0 ∷ []
given_from-push w [] p = ap (λ (k : ℕ). given k p 0 ∷ []) (omega arith)
given_from-push w (q ∷ qs) p = ap (λ (gs : List Given). given w q 0 ∷ gs) (given_from-push (w + 1) qs p ∙ ap (λ (k : ℕ). given_from (w + 1) qs ++ given k p 0 ∷ []) (omega arith))

gifts_are : (past : List Event) → AreLawful past → gifts past ≡ all_given (openings_of past) (refreshes_of past)
gifts_are [] law = refl
gifts_are (opened w p ∷ past) law =
    ap (λ (gs : List Given). gs ++ given w p 0 ∷ []) (gifts_are past law.1 ∙ (ap (λ (rs : List Given). given_from 0 (openings_of past) ++ rs) law.0.first ∙ append-nil (given_from 0 (openings_of past))))
    ∙ (ap (λ (k : ℕ). given_from 0 (openings_of past) ++ given k p 0 ∷ []) (let n = law.0.next in let e : w ≡ 0 + length (openings_of past) = omega arith in e)
    ∙ (sym (given_from-push 0 (openings_of past) p) ∙ (sym (append-nil (given_from 0 (openings_of past ++ p ∷ []))) ∙ ap (λ (rs : List Given). given_from 0 (openings_of past ++ p ∷ []) ++ rs) (sym law.0.first))))
gifts_are (took w p ∷ past) law = gifts_are past law.1
gifts_are (put w p ∷ past) law = gifts_are past law.1
gifts_are (refreshed w p line ∷ past) law = ap (λ (gs : List Given). gs ++ given w p line ∷ []) (gifts_are past law.1) ∙ append_assoc (given_from 0 (openings_of past)) (refreshes_of past) (given w p line ∷ [])

-- the rows of some stacks, after which others are given
rows_then : List Given → List Given → List Row
rows_then [] later = []
rows_then (g ∷ gs) later = row_of g (next_lines (gs ++ later) g.lane) ∷ rows_then gs later

rows_then-nil : (gs : List Given) → rows_then gs [] ≡ rows_given gs
unfolding rows_then
rows_then-nil [] = refl
rows_then-nil (g ∷ gs) = λ i. row_of g (next_lines (append-nil gs i) g.lane) ∷ rows_then-nil gs i

rows_then-push : (gs : List Given) (g : Given) (later : List Given) → rows_then (gs ++ g ∷ []) later ≡ rows_then gs (g ∷ later) ++ row_of g (next_lines later g.lane) ∷ []
unfolding rows_then
rows_then-push [] g later = refl
rows_then-push (h ∷ gs) g later = λ i. row_of h (next_lines (append_assoc gs (g ∷ []) later i) h.lane) ∷ rows_then-push gs g later i

-- the line of the mapping m, a stack of the lane w, once the later ones are given
abbrev line_in : List Event → List Given → ℕ → ℕ → ℕ
line_in past later m w = cond (eqb (newest past w) m) (next_lines later w) (line_of past m)

-- the row of the mapping m, by its status
abbrev pub row_by : (ℕ → ℕ) → Status → List Row
row_by line unmade = []
row_by line (in_lane w p) = row_of (given w p 0) (line w) ∷ []
row_by line (held w p) = row_of (given w p 0) (line w) ∷ []
row_by line (gone w p) = row_of (given w p 0) (line w) ∷ []

abbrev has : ℕ → Row → Bool
has m r = eqb r.mapping m

-- the row of a stack that is given, where it has the number, and where it doesn't
its_row : (g : Given) (line m : ℕ) → m ≡ g.place.mapping → filter (has m) (row_of g line ∷ []) ≡ row_of g line ∷ []
its_row g line m e = ap (λ (b : Bool). cond {A = List Row} b (row_of g line ∷ []) []) (eq-eqb g.place.mapping m (sym e))

no_row : (g : Given) (line m : ℕ) → m ≢ g.place.mapping → filter (has m) (row_of g line ∷ []) ≡ []
no_row g line m ne = ap (λ (b : Bool). cond {A = List Row} b (row_of g line ∷ []) []) (ne_eqb g.place.mapping m (λ e. ne (sym e)))

-- a row depends on the line of its lane alone
same_row : (a b : ℕ → ℕ) (st : Status) → ((w : ℕ) → IsOf w st → a w ≡ b w) → row_by a st ≡ row_by b st
same_row a b unmade same = refl
same_row a b (in_lane w p) same = ap (λ (l : ℕ). row_of (given w p 0) l ∷ []) (same w refl)
same_row a b (held w p) same = ap (λ (l : ℕ). row_of (given w p 0) l ∷ []) (same w refl)
same_row a b (gone w p) same = ap (λ (l : ℕ). row_of (given w p 0) l ∷ []) (same w refl)

replaced_row : (a : ℕ → ℕ) (v : ℕ) (st : Status) → row_by a (replaced v st) ≡ row_by a st
replaced_row a v unmade = refl
replaced_row a v (in_lane w p) = elim (eqb w v) as (λ (b : Bool). row_by a (cond b (gone w p) (in_lane w p)) ≡ row_by a (in_lane w p)) [ true ↦ refl | false ↦ refl ]
replaced_row a v (held w p) = refl
replaced_row a v (gone w p) = refl

settled_row : (a : ℕ → ℕ) (v : ℕ) (p : Place) (o : Option Place) → row_by a (settled o v p) ≡ row_by a (held v p)
settled_row a v p None = refl
settled_row a v p (Some q) = refl

made_lane : {past : List Event} → Sound past → (m w : ℕ) → IsOf w (status past m) → w < lanes past
made_lane {past} sound m w h = by_status (status past m) refl h
  where
    by_status : (st : Status) → status past m ≡ st → IsOf w st → w < lanes past
    by_status unmade e h = absurd h
    by_status (in_lane v p) e h = let l = (at_status sound m (in_lane v p) e).0.lane in omega arith
    by_status (held v p) e h = let l = (at_status sound m (held v p) e).made.lane in omega arith
    by_status (gone v p) e h = let l = (at_status sound m (gone v p) e).0.lane in omega arith

of_one : (v w : ℕ) (st : Status) → IsOf v st → IsOf w st → v ≡ w
of_one v w unmade a b = absurd a
of_one v w (in_lane u p) a b = sym a ∙ b
of_one v w (held u p) a b = sym a ∙ b
of_one v w (gone u p) a b = sym a ∙ b

-- the rows of a number are those of its status
rows_are : (past : List Event) → AreLawful past → (later : List Given) (m : ℕ) → filter (has m) (rows_then (gifts past) later) ≡ row_by (line_in past later m) (status past m)
rows_are [] law later m = unfold rows_then in refl
rows_are (took v p ∷ past) law later m =
    let old = rows_are past law.1 later m in
    at_changed (status past) p.mapping (held v p) m (λ st. filter (has m) (rows_then (gifts past) later) ≡ row_by (line_in past later m) st)
    (λ e. old ∙ ap (row_by (line_in past later m)) (ap (status past) e ∙ law.0.is_in))
    (λ ne. old)
rows_are (put v p ∷ past) law later m =
    let old = rows_are past law.1 later m in
    at_changed (status past) p.mapping (settled (lane_of past v) v p) m (λ st. filter (has m) (rows_then (gifts past) later) ≡ row_by (line_in past later m) st)
    (λ e. old ∙ (ap (row_by (line_in past later m)) (ap (status past) e ∙ law.0) ∙ sym (settled_row (line_in past later m) v p (lane_of past v))))
    (λ ne. old)
rows_are (opened v p ∷ past) law later m =
    let g = given v p 0 in
    let line = next_lines later v in
    let old = rows_are past law.1 (g ∷ later) m in
    let split = ap (filter (has m)) (rows_then-push (gifts past) g later) ∙ filter-append (has m) (rows_then (gifts past) (g ∷ later)) (row_of g line ∷ []) in
    split ∙ at_changed (status past) p.mapping (in_lane v p) m (λ st. filter (has m) (rows_then (gifts past) (g ∷ later)) ++ filter (has m) (row_of g line ∷ []) ≡ row_by (line_in (opened v p ∷ past) later m) st)
    (λ e. (λ i. (old ∙ ap (row_by (line_in past (g ∷ later) m)) (ap (status past) e ∙ law.0.fresh)) i ++ its_row g line m e i)
    ∙ ap (λ (l : ℕ). row_of g l ∷ []) (sym (newest_line (opened v p ∷ past) later m v (changed_here (newest past) v p.mapping v refl ∙ sym e))))
    (λ ne. (λ i. old i ++ no_row g line m ne i) ∙ (append-nil (row_by (line_in past (g ∷ later) m) (status past m)) ∙ same_row (line_in past (g ∷ later) m) (line_in (opened v p ∷ past) later m) (status past m)
    (λ w h. let low = made_lane (sound_of past law.1) m w h in let n = law.0.next in let other : w ≢ v = λ e. omega arith in
    λ i. cond (eqb (sym (changed_else (newest past) v p.mapping w other) i) m) (changed_else (next_lines later) v 0 w other i) (line_of past m))))
  where
    newest_line : (es : List Event) (later : List Given) (m w : ℕ) → newest es w ≡ m → line_in es later m w ≡ next_lines later w
    newest_line es later m w e = ap (λ (b : Bool). cond b (next_lines later w) (line_of es m)) (eq-eqb (newest es w) m e)
rows_are (refreshed v p line ∷ past) law later m =
    let g = given v p line in
    let last = next_lines later v in
    let es : List Event = refreshed v p line ∷ past in
    let old = rows_are past law.1 (g ∷ later) m in
    let sound = sound_of past law.1 in
    let split = ap (filter (has m)) (rows_then-push (gifts past) g later) ∙ filter-append (has m) (rows_then (gifts past) (g ∷ later)) (row_of g last ∷ []) in
    split ∙ at_changed (λ k. replaced v (status past k)) p.mapping (in_lane v p) m (λ st. filter (has m) (rows_then (gifts past) (g ∷ later)) ++ filter (has m) (row_of g last ∷ []) ≡ row_by (line_in es later m) st)
    (λ e. (λ i. (old ∙ ap (row_by (line_in past (g ∷ later) m)) (ap (status past) e ∙ below_unmade past p.mapping law.1 law.0.above)) i ++ its_row g last m e i)
    ∙ ap (λ (l : ℕ). row_of g l ∷ []) (sym (ap (λ (b : Bool). cond b last (line_of es m)) (eq-eqb (newest es v) m (changed_here (newest past) v p.mapping v refl ∙ sym e)))))
    (λ ne. (λ i. old i ++ no_row g last m ne i) ∙ (append-nil (row_by (line_in past (g ∷ later) m) (status past m)) ∙ (same_row (line_in past (g ∷ later) m) (line_in es later m) (status past m)
    (λ w h. either_way w v (λ e. here w e ne) (λ other. there w other h)) ∙ sym (replaced_row (line_in es later m) v (status past m)))))
  where
    here : (w : ℕ) → w ≡ v → m ≢ p.mapping → line_in past (given v p line ∷ later) m w ≡ line_in (refreshed v p line ∷ past) later m w
    here w e ne =
        let now : eqb (newest (refreshed v p line ∷ past) w) m ≡ false = ne_eqb (newest (refreshed v p line ∷ past) w) m (λ same. ne (sym same ∙ changed_here (newest past) v p.mapping w e)) in
        let after : line_in (refreshed v p line ∷ past) later m w ≡ changed (line_of past) (newest past v) line m = ap (λ (b : Bool). cond b (next_lines later w) (line_of (refreshed v p line ∷ past) m)) now in
        let next = changed_here (next_lines later) v line w e in
        either_way m (newest past v)
        (λ same. ap (λ (b : Bool). cond b (next_lines (given v p line ∷ later) w) (line_of past m)) (eq-eqb (newest past w) m (ap (newest past) e ∙ sym same)) ∙ (next ∙ (sym (changed_here (line_of past) (newest past v) line m same) ∙ sym after)))
        (λ other. ap (λ (b : Bool). cond b (next_lines (given v p line ∷ later) w) (line_of past m)) (ne_eqb (newest past w) m (λ same. other (sym same ∙ ap (newest past) e))) ∙ (sym (changed_else (line_of past) (newest past v) line m other) ∙ sym after))

    there : (w : ℕ) → w ≢ v → IsOf w (status past m) → line_in past (given v p line ∷ later) m w ≡ line_in (refreshed v p line ∷ past) later m w
    there w other h =
        let apart : m ≢ newest past v = λ e. other (of_one w v (status past m) h (subst (λ (k : ℕ). IsOf v (status past k)) (sym e) (((sound_of past law.1).lane v).given law.0.lane))) in
        λ i. cond (eqb (sym (changed_else (newest past) v p.mapping w other) i) m) (changed_else (next_lines later) v line w other i) (sym (changed_else (line_of past) (newest past v) line m apart) i)

-- the one that a lane was given last wasn't replaced
newest_free : (past : List Event) → Sound past → (w : ℕ) → w < lanes past → line_of past (newest past w) ≡ 0
newest_free past sound w low = by_hand (held_of past w) refl
  where
    in_it : (p : Place) → lane_of past w ≡ Some p → line_of past (newest past w) ≡ 0
    in_it p e = let i = (sound.lane w).inside p e in ap (line_of past) i.1 ∙ (at_status sound p.mapping (in_lane w p) i.0).2

    by_lane : (o : Option Place) → lane_of past w ≡ o → is_some o ≡ true → line_of past (newest past w) ≡ 0
    by_lane None e some_one = absurd (let f : ⊥ = cc in f)
    by_lane (Some p) e some_one = in_it p e

    by_both : (p : Place) → held_of past w ≡ Some p → (o : Option Place) → lane_of past w ≡ o → line_of past (newest past w) ≡ 0
    by_both p holds None e = let l = (sound.lane w).last p holds e in let h = at_status sound p.mapping (held w p) ((sound.lane w).holds p holds) in ap (line_of past) l ∙ h.kept e
    by_both p holds (Some q) e = in_it q e

    by_hand : (o : Option Place) → held_of past w ≡ o → line_of past (newest past w) ≡ 0
    by_hand None holds = by_lane (lane_of past w) refl ((sound.lane w).some_one low holds)
    by_hand (Some p) holds = by_both p holds (lane_of past w) refl

-- of all rows, those that have a number are what the history says of it
pub history_rows : (past : List Event) → AreLawful past → (m : ℕ) → filter (λ (r : Row). r.mapping == m) (rows_given (all_given (openings_of past) (refreshes_of past))) ≡ row_by (λ _. line_of past m) (status past m)
history_rows past law m =
    ap (filter (has m)) (ap rows_given (sym (gifts_are past law)) ∙ sym (rows_then-nil (gifts past)))
    ∙ (rows_are past law [] m ∙ same_row (line_in past [] m) (λ _. line_of past m) (status past m) (λ w h. last w (made_lane (sound_of past law) m w h)))
  where
    last : (w : ℕ) → w < lanes past → line_in past [] m w ≡ line_of past m
    last w low = either_way (newest past w) m
        (λ e. ap (λ (b : Bool). cond b 0 (line_of past m)) (eq-eqb (newest past w) m e) ∙ (sym (newest_free past (sound_of past law) w low) ∙ ap (line_of past) e))
        (λ ne. ap (λ (b : Bool). cond b 0 (line_of past m)) (ne_eqb (newest past w) m ne))

-- ---- each place that a worker took is that of a stack of its lane
abbrev pub IsAtPlace : ℕ → Place → Status → Type 0
IsAtPlace w p unmade = ⊥
IsAtPlace w p (in_lane v q) = (v ≡ w) × (q ≡ p)
IsAtPlace w p (held v q) = (v ≡ w) × (q ≡ p)
IsAtPlace w p (gone v q) = (v ≡ w) × (q ≡ p)

settled_at : (w : ℕ) (p : Place) (v : ℕ) (q : Place) (o : Option Place) → IsAtPlace w p (held v q) → IsAtPlace w p (settled o v q)
settled_at w p v q None h = h
settled_at w p v q (Some x) h = h

replaced_at : (w : ℕ) (p : Place) (u : ℕ) (st : Status) → IsAtPlace w p st → IsAtPlace w p (replaced u st)
replaced_at w p u unmade h = h
replaced_at w p u (in_lane v q) h = elim (eqb v u) as (λ (b : Bool). IsAtPlace w p (cond b (gone v q) (in_lane v q))) [ true ↦ h | false ↦ h ]
replaced_at w p u (held v q) h = h
replaced_at w p u (gone v q) h = h

-- a stack stays at its place
stays_at : (e : Event) (past : List Event) → AreLawful (e ∷ past) → (w m : ℕ) (p : Place) → IsAtPlace w p (status past m) → IsAtPlace w p (status (e ∷ past) m)
stays_at (opened v q) past law w m p h = at_changed (status past) q.mapping (in_lane v q) m (IsAtPlace w p) (λ e. absurd (subst (IsAtPlace w p) (ap (status past) e ∙ law.0.fresh) h)) (λ ne. h)
stays_at (took v q) past law w m p h = at_changed (status past) q.mapping (held v q) m (IsAtPlace w p) (λ e. subst (IsAtPlace w p) (ap (status past) e ∙ law.0.is_in) h) (λ ne. h)
stays_at (put v q) past law w m p h = at_changed (status past) q.mapping (settled (lane_of past v) v q) m (IsAtPlace w p) (λ e. settled_at w p v q (lane_of past v) (subst (IsAtPlace w p) (ap (status past) e ∙ law.0) h)) (λ ne. h)
stays_at (refreshed v q line) past law w m p h = at_changed (λ k. replaced v (status past k)) q.mapping (in_lane v q) m (IsAtPlace w p) (λ e. absurd (subst (IsAtPlace w p) (ap (status past) e ∙ below_unmade past q.mapping law.1 law.0.above) h)) (λ ne. replaced_at w p v (status past m) h)

-- the places that a worker took are those of stacks of its lane
pub takes_are : (past : List Event) → AreLawful past → (w : ℕ) → All (λ (p : Place). IsAtPlace w p (status past p.mapping)) (takes_of past w)
takes_are [] law w = λ k d l. absurd (omega arith)
takes_are (opened v q ∷ past) law w = λ k d l. stays_at (opened v q) past law w _ _ (takes_are past law.1 w k d l)
takes_are (put v q ∷ past) law w = λ k d l. stays_at (put v q) past law w _ _ (takes_are past law.1 w k d l)
takes_are (refreshed v q line ∷ past) law w = λ k d l. stays_at (refreshed v q line) past law w _ _ (takes_are past law.1 w k d l)
takes_are (took v q ∷ past) law w = at_changed (takes_of past) v (takes_of past v ++ q ∷ []) w (All (λ (p : Place). IsAtPlace w p (status (took v q ∷ past) p.mapping)))
    (λ e. subst (λ (u : ℕ). All (λ (p : Place). IsAtPlace u p (status (took v q ∷ past) p.mapping)) (takes_of past v ++ q ∷ [])) (sym e)
    (All-push (λ (p : Place). IsAtPlace v p (status (took v q ∷ past) p.mapping)) (takes_of past v) q
    (λ k d l. stays_at (took v q) past law v _ _ (takes_are past law.1 v k d l))
    (subst (IsAtPlace v q) (sym (changed_here (status past) q.mapping (held v q) q.mapping refl)) (refl, refl))))
    (λ ne. λ k d l. stays_at (took v q) past law w _ _ (takes_are past law.1 w k d l))
