-- What is in the two tables was drawn: through what comes of a module, of a stack line and of a retire.
use Rattle.std.proofs.Common.{◌≡◌, ◌≢◌, ⊎_elim, ℕ, ◌+◌, ◌<◌, ◌≤◌, List, [], ◌∷◌, ◌++◌, length, get_or, set, append-nil, append_assoc, refl, sym, ap, ◌∙◌, subst, arith}
use Rattle.std.specs.List.{All, Any, Contains}
use Rattle.std.proofs.lemmas.List.{get_or_append_left, get_or_default, length_push}
use Rattle.std.proofs.lemmas.List.Elements.{All-nil, All-cons, All-contains, All-head, All-map, All-tail, All-push, All-set, All-weaker, Contains-append_left, Contains-append_right, Contains-get_or, Contains-push_cases}
use Rattle.std.proofs.lemmas.List.Quantifiers.{Any-push}
use Rattle.ad_base.specs.declared.layout.TheConstants.{MAPPINGS}
use Rattle.ad_base.specs.declared.place.Place.{Place}
use Rattle.ad_maps.specs.declared.shape.Opening.{Opening}
use Rattle.ad_maps.specs.declared.shape.Shape.{Shape}
use Rattle.ad_maps.specs.declared.view.Deed.{Deed}
use Rattle.ad_maps.specs.declared.view.Deed.TheVariants as deed
use Rattle.ad_maps.specs.declared.view.Made.{Made}
use Rattle.ad_maps.specs.Ledger.{all_made}
use Rattle.ad_maps.specs.MapPlace.{no_opening, numbers, opening_of}
use Rattle.ad_maps.specs.Seen.{looks_from, AddsRetires}
use Rattle.ad_maps.specs.Steps.{made}
use Rattle.ad_maps.proofs.Ledgers.{all-after_retires, ledger-looks, ledger-map, ledger-switch}
use Rattle.ad_maps.proofs.Opened.{opened-all}
use Rattle.ad_mover.specs.Moves.{Moving}
use Rattle.ad_mover.specs.Seen.{HasDrawn, IsGiven}
use Rattle.ad_place.specs.Choice.{Drawn}
use Rattle.ad_stacks.specs.declared.view.Given.{Given}
use Rattle.ad_stacks.specs.History.{IsAbove}
use Rattle.ad_stacks.specs.Ledger.{all_given, given_from}

any-earlier : {X : Type 0} (P : X → Type 0) (xs : List X) (y : X) → Any P xs → Any P (xs ++ y ∷ [])
any-earlier P xs y a = (a.0, a.1, let l = length_push xs y in let low = a.2 in omega arith, get_or_append_left xs (y ∷ []) a.1 a.0 a.2 ∙ a.3, a.4)

-- no place that was drawn has a number above these, or the region of a place that is apart from them
pub given-low : (places : List Place) (n : ℕ) → All (λ (q : Place). q.mapping ≤ n) places → (p : Place) → IsGiven places p → p.mapping ≤ n
given-low places n all p g =
    let low : (get_or places g.0 g.1).mapping ≤ n = all g.0 g.1 g.2 in
    let is : (get_or places g.0 g.1).mapping ≡ g.1.mapping = ap (λ (q : Place). q.mapping) g.3 in
    let same : g.1.mapping ≡ p.mapping = g.4.1 in
    omega arith

pub given-apart : (places : List Place) (r : ℕ) → All (λ (q : Place). q.region ≢ r) places → (p : Place) → IsGiven places p → p.region ≢ r
given-apart places r all p g same = all g.0 g.1 g.2 (ap (λ (q : Place). q.region) g.3 ∙ (g.4.0 ∙ same))

-- a look, a map and a switch make one mapping
pub ledger-placed : (shape : Shape) (deeds : List Deed) (f : ℕ) (os : List ℕ) (m : ℕ) (p : Place) → all_made shape (deeds ++ (looks_from f os ++ deed.Map m p ∷ deed.Switch m p ∷ [])) ≡ all_made shape deeds ++ made m p ∷ []
ledger-placed shape deeds f os m p =
    ap (all_made shape) (sym (append_assoc deeds (looks_from f os) (deed.Map m p ∷ deed.Switch m p ∷ [])) ∙ sym (append_assoc (deeds ++ looks_from f os) (deed.Map m p ∷ []) (deed.Switch m p ∷ [])))
    ∙ (ledger-switch shape ((deeds ++ looks_from f os) ++ deed.Map m p ∷ []) m p
    ∙ (ledger-map shape (deeds ++ looks_from f os) m p ∙ ap (λ (gs : List Made). gs ++ made m p ∷ []) (ledger-looks shape deeds f os)))

module _ (shape : Shape) (openings : List Place) where
  -- nothing is drawn
  pub drawn-still : (s t : Moving) → HasDrawn shape openings s → t.drawn ≡ s.drawn → all_made shape t.deeds ≡ all_made shape s.deeds → t.refreshes ≡ s.refreshes → t.current ≡ s.current → HasDrawn shape openings t
  drawn-still s t h drawn deeds refreshes current =
      let places : t.drawn.places ≡ s.drawn.places = ap (λ (d : Drawn). d.places) drawn in record {
        mapped = λ x there. subst (λ (ps : List Place). IsGiven ps x.place) (sym places) (h.mapped x (subst (λ (gs : List Made). Contains gs x) deeds there));
        given = λ g there. subst (λ (ps : List Place). IsGiven ps g.place) (sym places) (h.given g (subst (λ (gs : List Given). Contains (all_given openings gs) g) refreshes there));
        numbered = subst (λ (ps : List Place). All (λ (p : Place). p.mapping ≤ length ps) ps) (sym places) h.numbered;
        current = subst (λ (ns : List ℕ). All (λ (n : ℕ). n ≤ length t.drawn.places) ns) (sym current) (subst (λ (ps : List Place). All (λ (n : ℕ). n ≤ length ps) s.current) (sym places) h.current);
        few = subst (λ (ps : List Place). length ps ≤ MAPPINGS) (sym places) h.few;
      }

  -- one place is drawn more
  module _ (s t : Moving) (p : Place) (h : HasDrawn shape openings s) (left : length s.drawn.places < MAPPINGS) (drawn : t.drawn.places ≡ s.drawn.places ++ p ∷ []) (number : p.mapping ≡ length s.drawn.places + 1) where
    one-more : length t.drawn.places ≡ length s.drawn.places + 1
    one-more = ap length drawn ∙ length_push s.drawn.places p

    old-given : (q : Place) → IsGiven s.drawn.places q → IsGiven t.drawn.places q
    old-given q g = subst (λ (ps : List Place). IsGiven ps q) (sym drawn) (any-earlier (λ (r : Place). (r.region ≡ q.region) × (r.mapping ≡ q.mapping)) s.drawn.places p g)

    new-given : (q : Place) → p.region ≡ q.region → p.mapping ≡ q.mapping → IsGiven t.drawn.places q
    new-given q region mapping = subst (λ (ps : List Place). IsGiven ps q) (sym drawn) (Any-push (λ (r : Place). (r.region ≡ q.region) × (r.mapping ≡ q.mapping)) s.drawn.places p (region, mapping))

    all-numbered : All (λ (q : Place). q.mapping ≤ length t.drawn.places) t.drawn.places
    all-numbered =
        let more = one-more in
        subst (λ (ps : List Place). All (λ (q : Place). q.mapping ≤ length t.drawn.places) ps) (sym drawn) (All-push (λ (q : Place). q.mapping ≤ length t.drawn.places) s.drawn.places p
        (All-weaker (λ (q : Place). q.mapping ≤ length s.drawn.places) (λ (q : Place). q.mapping ≤ length t.drawn.places) (λ q low. omega arith) s.drawn.places h.numbered) (omega arith))

    all-current : All (λ (n : ℕ). n ≤ length t.drawn.places) s.current
    all-current = let more = one-more in All-weaker (λ (n : ℕ). n ≤ length s.drawn.places) (λ (n : ℕ). n ≤ length t.drawn.places) (λ n low. omega arith) s.current h.current

    -- for a mapping of a module, which is current then
    pub drawn-mapped : (m : ℕ) (q : Place) → p.region ≡ q.region → p.mapping ≡ q.mapping → all_made shape t.deeds ≡ all_made shape s.deeds ++ made m q ∷ [] → t.refreshes ≡ s.refreshes → t.current ≡ set s.current m q.mapping → HasDrawn shape openings t
    drawn-mapped m q region mapping deeds refreshes current = record {
      mapped = λ x there. ⊎_elim (λ old. old-given x.place (h.mapped x old)) (λ e. subst (λ (g : Made). IsGiven t.drawn.places g.place) e (new-given q region mapping))
          (Contains-push_cases (all_made shape s.deeds) (made m q) x (subst (λ (gs : List Made). Contains gs x) deeds there));
      given = λ g there. old-given g.place (h.given g (subst (λ (gs : List Given). Contains (all_given openings gs) g) refreshes there));
      numbered = all-numbered;
      current = subst (λ (ns : List ℕ). All (λ (n : ℕ). n ≤ length t.drawn.places) ns) (sym current) (All-set (λ (n : ℕ). n ≤ length t.drawn.places) s.current m q.mapping (let more = one-more in omega arith) all-current);
      few = (let more = one-more in omega arith);
    }

    -- for a stack
    pub drawn-stack : (lane line : ℕ) → all_made shape t.deeds ≡ all_made shape s.deeds → t.refreshes ≡ s.refreshes ++ record { lane = lane; place = p; line = line } ∷ [] → t.current ≡ s.current → HasDrawn shape openings t
    drawn-stack lane line deeds refreshes current = record {
      mapped = λ x there. old-given x.place (h.mapped x (subst (λ (gs : List Made). Contains gs x) deeds there));
      given = λ g there. ⊎_elim (λ old. old-given g.place (h.given g old)) (λ e. subst (λ (k : Given). IsGiven t.drawn.places k.place) e (new-given p refl refl))
          (Contains-push_cases (all_given openings s.refreshes) (record { lane = lane; place = p; line = line }) g
          (subst (λ (gs : List Given). Contains gs g) (ap (all_given openings) refreshes ∙ sym (append_assoc (given_from 0 openings) s.refreshes (record { lane = lane; place = p; line = line } ∷ []))) there));
      numbered = all-numbered;
      current = subst (λ (ns : List ℕ). All (λ (n : ℕ). n ≤ length t.drawn.places) ns) (sym current) all-current;
      few = (let more = one-more in omega arith);
    }

  -- looks at frames draw nothing and make nothing
  pub drawn-looked : (s t : Moving) (f : ℕ) (os : List ℕ) → HasDrawn shape openings s → t.drawn ≡ s.drawn → t.deeds ≡ s.deeds ++ looks_from f os → t.refreshes ≡ s.refreshes → t.current ≡ s.current → HasDrawn shape openings t
  drawn-looked s t f os h drawn deeds refreshes current = drawn-still s t h drawn (ap (all_made shape) deeds ∙ ledger-looks shape s.deeds f os) refreshes current

  -- nor do retires
  pub drawn-retired : (s t : Moving) (outs : List Made) (line : ℕ) → HasDrawn shape openings s → t.drawn ≡ s.drawn → AddsRetires outs line s.deeds t.deeds → t.refreshes ≡ s.refreshes → t.current ≡ s.current → HasDrawn shape openings t
  drawn-retired s t outs line h drawn adds refreshes current =
      let still = drawn-still s (record t { deeds = s.deeds }) h drawn refl refreshes current in record {
        mapped = all-after_retires (λ x. IsGiven t.drawn.places x.place) shape outs line s.deeds t.deeds adds still.mapped;
        given = still.given;
        numbered = still.numbered;
        current = still.current;
        few = still.few;
      }

  -- a number above those that were drawn is above those of all stacks
  pub drawn-above : (s : Moving) (n : ℕ) → HasDrawn shape openings s → length s.drawn.places < n → IsAbove openings s.refreshes n
  drawn-above s n h above = record {
    opened = opened-from 0 openings (λ g there. below g (Contains-append_left (given_from 0 openings) s.refreshes g there));
    refreshed = λ k d low. below (get_or s.refreshes k d) (Contains-append_right (given_from 0 openings) s.refreshes (get_or s.refreshes k d) (Contains-get_or s.refreshes k d low));
  }
    where
      below : (g : Given) → Contains (all_given openings s.refreshes) g → g.place.mapping < n
      below g there = let low = given-low s.drawn.places (length s.drawn.places) h.numbered g.place (h.given g there) in omega arith

      all-opened : (w : ℕ) (ps : List Place) → All (λ (g : Given). g.place.mapping < n) (given_from w ps) → All (λ (p : Place). p.mapping < n) ps
      all-opened w [] all = All-nil (λ (p : Place). p.mapping < n)
      all-opened w (p ∷ ps) all = All-cons (λ (q : Place). q.mapping < n) p ps
          (All-head (λ (g : Given). g.place.mapping < n) (record { lane = w; place = p; line = 0 }) (given_from (w + 1) ps) all)
          (all-opened (w + 1) ps (All-tail (λ (g : Given). g.place.mapping < n) (record { lane = w; place = p; line = 0 }) (given_from (w + 1) ps) all))

      opened-from : (w : ℕ) (ps : List Place) → ((g : Given) → Contains (given_from w ps) g → g.place.mapping < n) → All (λ (p : Place). p.mapping < n) ps
      opened-from w ps each = all-opened w ps (λ k d low. each (get_or (given_from w ps) k d) (Contains-get_or (given_from w ps) k d low))

  given-each : (P : Place → Type 0) (w : ℕ) (ps : List Place) → All P ps → All (λ (g : Given). P g.place) (given_from w ps)
  given-each P w [] all = All-nil (λ (g : Given). P g.place)
  given-each P w (p ∷ ps) all = All-cons (λ (g : Given). P g.place) (record { lane = w; place = p; line = 0 }) (given_from (w + 1) ps) (All-head P p ps all) (given-each P (w + 1) ps (All-tail P p ps all))

  -- before the first line, where the places of both tables' openings were drawn
  pub drawn-opened : (d : Drawn) → All (λ (p : Place). p.mapping ≤ length d.places) d.places → length d.places ≤ MAPPINGS → ((m : ℕ) → m < length shape.modules → IsGiven d.places (opening_of shape m).place) → All (IsGiven d.places) openings
      → HasDrawn shape openings (record { drawn = d; deeds = []; current = numbers shape; refreshes = []; moves = [] })
  drawn-opened d numbered few modules stacks = record {
    mapped = opened-all (λ x. IsGiven d.places x.place) shape modules;
    given = λ g there. All-contains (λ (k : Given). IsGiven d.places k.place) (given_from 0 openings) g (given-each (IsGiven d.places) 0 openings stacks) (subst (λ (gs : List Given). Contains gs g) (append-nil (given_from 0 openings)) there);
    numbered = numbered;
    current = All-map (λ (n : ℕ). n ≤ length d.places) (λ (o : Opening). o.place.mapping) shape.modules (λ k o low.
        let n = given-low d.places (length d.places) numbered (opening_of shape k).place (modules k low) in
        let same : (get_or shape.modules k o).place.mapping ≡ (opening_of shape k).place.mapping = ap (λ (x : Opening). x.place.mapping) (get_or_default shape.modules k o no_opening low) in
        omega arith);
    few = few;
  }
