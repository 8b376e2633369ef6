-- The moves of a line and the steps of a script, one more at a time, and what a module's move makes of the mover.
use Rattle.std.proofs.Common.{◌≡◌, ◌≢◌, ℕ, ◌+◌, ◌*◌, Bool, cond, not, zero, suc, List, [], ◌∷◌, ◌++◌, length, get_or, append-nil, append_assoc, refl, sym, ap, ◌∙◌, subst, arith, eq-eqb, ne_eqb}
use Rattle.std.specs.List.{All, AllPairs, Contains}
use Rattle.std.proofs.lemmas.List.{map_push}
use Rattle.std.proofs.lemmas.List.Elements.{All-head, All-tail, Contains-get_or}
use Rattle.std.proofs.lemmas.List.Quantifiers.{all_pairs_push}
use Rattle.ad_base.specs.declared.ledger.Kind.{Kind}
use Rattle.ad_base.specs.declared.ledger.Kind.TheVariants as kinds
use Rattle.ad_base.specs.declared.ledger.MoveEnd.{MoveEnd}
use Rattle.ad_base.specs.declared.ledger.Moved.{Moved}
use Rattle.ad_base.specs.declared.place.Place.{Place}
use Rattle.ad_maps.specs.declared.shape.Shape.{Shape}
use Rattle.ad_maps.specs.declared.view.Deed.{Deed}
use Rattle.ad_maps.specs.declared.view.Deed.TheVariants as deed
use Rattle.ad_maps.specs.declared.view.Made.{Made}
use Rattle.ad_maps.specs.Ledger.{all_made}
use Rattle.ad_maps.specs.MapPlace.{opening_of}
use Rattle.ad_maps.specs.Steps.{but, but_all}
use Rattle.ad_maps.specs.Seen.{retires_of}
use Rattle.ad_mover.specs.declared.mover.Mover.{Mover}
use Rattle.ad_mover.specs.Moves.{end_of, with_outcome, AllOwned, MakesStep, MakesSteps, MayCome, MovesModule, MovesModules, Moving, NoNumber, Outcome, Placed}
use Rattle.ad_mover.specs.Seen.{moving, HasDrawn}
use Rattle.ad_mover.specs.Private.Lines.{ComesTo, KeepsOthers, KeepsRoom}
use Rattle.ad_mover.proofs.Drawing.{drawn-looked, drawn-mapped, drawn-still, ledger-placed}
use Rattle.ad_place.specs.Choice.{next_place, Drawn}
use Rattle.ad_script.specs.declared.script.Step.{Step}

pub moves-more : (shape : Shape) (line : ℕ) (ms : List ℕ) (m : ℕ) (one two three : Moving) (rs first : List Deed) → MovesModules shape line ms one rs two → MovesModule shape line m two first three → MovesModules shape line (ms ++ m ∷ []) one (rs ++ first) three
moves-more shape line [] m one two three rs first moved more =
    (three, first, [], subst (λ (s : Moving). MovesModule shape line m s first three) moved.1 more, (refl, refl), ap (λ (ds : List Deed). ds ++ first) moved.0 ∙ sym (append-nil first))
moves-more shape line (n ∷ ms) m one two three rs first moved more =
    (moved.0, moved.1, moved.2 ++ first, moved.3, moves-more shape line ms m moved.0 two three moved.2 first moved.4 more, ap (λ (ds : List Deed). ds ++ first) moved.5 ∙ append_assoc moved.1 moved.2 first)

pub makes-more : (shape : Shape) (list : List Step) (step : Step) (one two three : Moving) → MakesSteps shape list one two → MakesStep shape step two three → MakesSteps shape (list ++ step ∷ []) one three
makes-more shape [] step one two three made more = (three, subst (λ (s : Moving). MakesStep shape step s three) made more, refl)
makes-more shape (s ∷ list) step one two three made more = (made.0, made.1, makes-more shape list step made.0 two three made.2 more)

next-number : (d : Drawn) (kind : Kind) (pages : ℕ) → (next_place d kind pages).mapping ≡ length d.places + 1
unfolding next_place
next-number d kind pages = refl

-- what a module's move makes was drawn
pub drawn-outcome : (shape : Shape) (openings : List Place) (line m : ℕ) (s : Moving) (o : Outcome) → HasDrawn shape openings s → MayCome shape m s.drawn (all_made shape s.deeds) o → HasDrawn shape openings (with_outcome shape line m o s)
drawn-outcome shape openings line m s NoNumber h may = drawn-still shape openings s (with_outcome shape line m NoNumber s) h refl (ap (all_made shape) (append-nil s.deeds)) refl refl
drawn-outcome shape openings line m s (AllOwned owners last) h may = drawn-looked shape openings s (with_outcome shape line m (AllOwned owners last) s) (m * shape.frames) (owners ++ last ∷ []) h refl refl refl refl
drawn-outcome shape openings line m s (Placed owners p) h may =
    drawn-mapped shape openings s (with_outcome shape line m (Placed owners p) s) (next_place s.drawn kinds.Code (opening_of shape m).place.pages) h may.0 refl (next-number s.drawn kinds.Code (opening_of shape m).place.pages)
    m p (sym (ap (λ (q : Place). q.region) may.3)) (sym (ap (λ (q : Place). q.mapping) may.3)) (ledger-placed shape s.deeds (m * shape.frames) (owners ++ 0 ∷ []) m p) refl refl

-- what is seen of the mover once a module's move came to its end and the end was noted
pub came-to : (shape : Shape) (line m : ℕ) (before mid : Mover) (end : MoveEnd) (moves : List Moved) (comes : ComesTo shape m before mid end) → KeepsOthers before mid
    → moves ≡ mid.done.items ++ record { line = line; kind = kinds.Code; who = m; end = end } ∷ []
    → record { drawn = mid.placer; deeds = mid.seat.deeds; current = mid.seat.current; refreshes = mid.stack_mover.refreshes; moves = moves } ≡ with_outcome shape line m comes.outcome (moving before)
came-to shape line m before mid end moves comes others noted =
    let done : mid.done.items ≡ before.done.items = λ i. (others.done i).items in
    let more : moves ≡ before.done.items ++ record { line = line; kind = kinds.Code; who = m; end = end_of comes.outcome } ∷ [] =
    noted ∙ (λ i. done i ++ record { line = line; kind = kinds.Code; who = m; end = comes.is i } ∷ []) in
    λ i. record { drawn = comes.drawn i; deeds = comes.deeds i; current = comes.current i; refreshes = (others.stack_mover i).refreshes; moves = more i }

-- ---- what is out

-- a mapping alone, but for itself
pub but-itself : (g : Made) (n : ℕ) → g.place.mapping ≡ n → but n (g ∷ []) ≡ []
but-itself g n e = ap (λ (b : Bool). cond (not b) (g ∷ []) []) (eq-eqb g.place.mapping n e)

but-apart : (n : ℕ) (gs : List Made) → All (λ (g : Made). g.place.mapping ≢ n) gs → but n gs ≡ gs
but-apart n [] apart = refl
but-apart n (g ∷ gs) apart =
    ap (λ (b : Bool). cond (not b) (g ∷ but n gs) (but n gs)) (ne_eqb g.place.mapping n (All-head (λ (h : Made). h.place.mapping ≢ n) g gs apart))
    ∙ ap (λ (hs : List Made). g ∷ hs) (but-apart n gs (All-tail (λ (h : Made). h.place.mapping ≢ n) g gs apart))

abbrev pub Differ : List Made → Type 0
Differ gs = AllPairs (λ (g h : Made). g.place.mapping ≢ h.place.mapping) gs

-- nothing is left of mappings but for all of them
pub but-all-itself : (gs : List Made) → Differ gs → but_all gs gs ≡ []
but-all-itself [] differ = refl
but-all-itself (g ∷ gs) differ =
    ap (but_all gs) (ap (λ (b : Bool). cond (not b) (g ∷ but g.place.mapping gs) (but g.place.mapping gs)) (eq-eqb g.place.mapping g.place.mapping refl)
    ∙ but-apart g.place.mapping gs (λ k d low same. differ zero (suc k) d (omega arith) (omega arith) (sym same)))
    ∙ but-all-itself gs (λ i j d before within. differ (suc i) (suc j) d (omega arith) (omega arith))

-- one mapping more is out
pub differ-more : (all outs : List Made) (out : Made) → all ≡ outs → Differ outs → ((g : Made) → Contains all g → g.place.mapping ≢ out.place.mapping) → Differ (outs ++ out ∷ [])
differ-more all outs out same differ new =
    all_pairs_push (λ (g h : Made). g.place.mapping ≢ h.place.mapping) outs out differ
    (λ k d inside. new (get_or outs k d) (subst (λ (gs : List Made). Contains gs (get_or outs k d)) (sym same) (Contains-get_or outs k d inside)))

pub retires-more : (line : ℕ) (outs outs' : List Made) (out : Made) (n : ℕ) → outs' ≡ outs ++ out ∷ [] → out.place.mapping ≡ n → retires_of line outs' ≡ retires_of line outs ++ deed.Retire n line ∷ []
retires-more line outs outs' out n is number =
    ap (retires_of line) is ∙ (map_push (λ (g : Made). deed.Retire g.place.mapping line) outs out ∙ ap (λ (k : ℕ). retires_of line outs ++ deed.Retire k line ∷ []) number)

-- ---- the room of the vectors

pub keeps-more : (one two three : Mover) → KeepsRoom one two → KeepsRoom two three → KeepsRoom one three
keeps-more one two three first next =
    let outs = first.outs_room in
    let more = next.outs_room in record {
      who = next.who ∙ first.who;
      lanes = next.lanes ∙ first.lanes;
      outs_room = omega arith;
      done_room = next.done_room ∙ first.done_room;
    }
