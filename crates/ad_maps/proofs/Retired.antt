-- What the mover's view is while it retires mappings.
use Rattle.std.proofs.Common.{◌≡◌, ◌≢◌, ℕ, zero, suc, ◌+◌, ◌<◌, ◌≤◌, Bool, true, cond, ◌&&◌, eq-eqb, ne_eqb, List, [], ◌∷◌, ◌++◌, length, length-append, take, map, get_or, append_assoc, append-nil, refl, sym, ap, ◌∙◌, subst, arith}
use Rattle.std.specs.List.{All, Contains}
use Rattle.std.proofs.lemmas.List.{get_or-take}
use Rattle.std.proofs.lemmas.List.Elements.{All-append, All-nil, All-weaker}
use Rattle.std.proofs.lemmas.List.{get_or_default}
use Rattle.ad_maps.specs.declared.view.Deed.{Deed}
use Rattle.ad_maps.specs.declared.view.Deed.TheVariants as deed
use Rattle.ad_maps.specs.declared.view.Made.{Made}
use Rattle.ad_maps.specs.declared.view.Passing.{Passing}
use Rattle.ad_maps.specs.declared.view.Passing.TheVariants as passing
use Rattle.ad_maps.specs.declared.view.Plan.{Plan}
use Rattle.ad_maps.specs.declared.view.Doing.TheVariants.{Mover}
use Rattle.ad_maps.specs.Ledger.{line_in}
use Rattle.ad_maps.specs.Seen.{retires_of, AddsRetires, AreOuts}
use Rattle.ad_maps.specs.Steps.{Sat, but, but_all, has_freed, has_given, is_at_rest, is_idle, listed_more, listing, opened, settled_on}
use Rattle.ad_maps.specs.Private.Handles.{listed_all, listed_to, passed_on, plan_of, HasRoom, IsIdle, Passes}
use Rattle.ad_maps.proofs.Elements.{but-to, cons-here, cons-later, lines-unmaps}
use Rattle.ad_maps.proofs.Freed.{added-twice}
use Rattle.ad_maps.proofs.Idle.{goes-idle}

-- ---- listing

take-more : {A : Type 0} (k : ℕ) (xs : List A) (x : A) → k < length xs → x ≡ get_or xs k x → take (k + 1) xs ≡ take k xs ++ x ∷ []
take-more zero [] x low e = absurd (omega arith)
take-more zero (y ∷ ys) x low e = ap (λ z. z ∷ []) (sym e)
take-more (suc k) [] x low e = absurd (omega arith)
take-more (suc k) (y ∷ ys) x low e = (let same : suc k + 1 ≡ suc (k + 1) = omega arith in ap (λ (n : ℕ). take n (y ∷ ys)) same) ∙ ap (λ zs. y ∷ zs) (take-more k ys x (omega arith) e)

but_all-more : (gs : List Made) (g : Made) (outs : List Made) → but g.place.mapping (but_all gs outs) ≡ but_all (gs ++ g ∷ []) outs
but_all-more [] g outs = refl
but_all-more (h ∷ gs) g outs = but_all-more gs g (but h.place.mapping outs)

map-more : {A B : Type 0} (f : A → B) (xs : List A) (x : A) → map f (xs ++ x ∷ []) ≡ map f xs ++ f x ∷ []
map-more f [] x = refl
map-more f (y ∷ ys) x = ap (λ zs. f y ∷ zs) (map-more f ys x)

listed-next : (k : ℕ) → listed_more (listed_to k) ≡ listed_to (k + 1)
listed-next zero = refl
listed-next (suc k) = ap (λ (t : Bool). listed_more (cond t passing.Rest (passing.Listing (suc k)))) (ne_eqb (suc k) 0 (λ e. omega arith))
    ∙ sym (ap (λ (t : Bool). cond t passing.Rest (passing.Listing (suc k + 1))) (ne_eqb (suc k + 1) 0 (λ e. omega arith)))

listed-more : (line : ℕ) (gs : List Made) (g : Made) (q : Plan) → listing g line (listed_all line gs q) ≡ listed_all line (gs ++ g ∷ []) q
listed-more line gs g q = λ i. record q {
  passing = (listed-next (length gs) ∙ ap listed_to (sym (length-append gs (g ∷ [])))) i;
  outs = but_all-more gs g q.outs i;
  deeds = (append_assoc q.deeds (map (λ (h : Made). deed.Retire h.place.mapping line) gs) (deed.Retire g.place.mapping line ∷ []) ∙ ap (λ (ds : List Deed). q.deeds ++ ds) (sym (map-more (λ (h : Made). deed.Retire h.place.mapping line) gs g))) i;
}

pub list-more : (q : Plan) (me me' : Sat) (line k : ℕ) (gs : List Made) (g : Made) → me ≡ (Mover (listed_all line (take k gs) q), []) → k < length gs → g ≡ get_or gs k g → me' ≡ (Mover (listing g line (plan_of me.0)), [])
    → me' ≡ (Mover (listed_all line (take (k + 1) gs) q), [])
list-more q me me' line k gs g is low at view =
    view
    ∙ (ap (λ (m : Sat). (Mover (listing g line (plan_of m.0)), [])) is
    ∙ ap (λ (p : Plan). (Mover p, [])) (listed-more line (take k gs) g q ∙ ap (λ (hs : List Made). listed_all line hs q) (sym (take-more k gs g low at))))

-- a mapping stays that has the number of none that went
but_all-to : (gs outs : List Made) (g : Made) → Contains outs g → ((h : Made) → Contains gs h → g.place.mapping ≢ h.place.mapping) → Contains (but_all gs outs) g
but_all-to [] outs g c apart = c
but_all-to (h ∷ gs) outs g c apart = but_all-to gs (but h.place.mapping outs) g (but-to h.place.mapping outs g c (apart h (cons-here h gs h refl))) (λ o there. apart o (cons-later h gs o there))

pub list-out : (q : Plan) (me : Sat) (line k : ℕ) (gs : List Made) (g : Made) → me ≡ (Mover (listed_all line (take k gs) q), []) → AreOuts q.outs gs → k < length gs → g ≡ get_or gs k g → Contains (plan_of me.0).outs g
list-out q me line k gs g is are low at = subst (λ (m : Sat). Contains (plan_of m.0).outs g) (sym is)
    (but_all-to (take k gs) q.outs g (are.each g (k, low, sym at)) (λ h c e.
    let few : length (take k gs) ≤ k = length-take_le k gs in
    let within = c.1 in
    let j : c.0 < k = omega arith in
    let there : get_or gs c.0 h ≡ h = sym (get_or-take k gs c.0 h j) ∙ c.2 in
    are.differ c.0 k g j low (ap (λ (o : Made). o.place.mapping) (get_or_default gs c.0 g h (omega arith) ∙ there) ∙ (sym e ∙ ap (λ (o : Made). o.place.mapping) at))))
  where
    length-take_le : {A : Type 0} (k : ℕ) (xs : List A) → length (take k xs) ≤ k
    length-take_le zero xs = omega arith
    length-take_le (suc k) [] = omega arith
    length-take_le (suc k) (x ∷ xs) = let rest = length-take_le k xs in let long : length (take (suc k) (x ∷ xs)) ≡ suc (length (take k xs)) = refl in omega arith

-- ---- passing

pub settled-first : (slots : ℕ) → 1 ≤ slots → settled_on slots 0 ≡ passing.Settled 0
settled-first slots some = ap (λ (t : Bool). cond t passing.Rest (passing.Settled 0)) (ne_eqb 0 slots (λ e. omega arith))

pub settled-low : (slots s : ℕ) → s < slots → settled_on slots s ≡ passing.Settled s
settled-low slots s low = ap (λ (t : Bool). cond t passing.Rest (passing.Settled s)) (ne_eqb s slots (λ e. omega arith))

pub settled-all : (slots s : ℕ) → s ≡ slots → settled_on slots s ≡ passing.Rest
settled-all slots s all = ap (λ (t : Bool). cond t passing.Rest (passing.Settled s)) (eq-eqb s slots all)

pub passes-none : (me : Sat) → me ≡ (Mover (plan_of me.0), []) → 1 ≤ (plan_of me.0).slots → (plan_of me.0).passing ≡ passing.Settled 0 → Passes (plan_of me.0) 0 me
passes-none me is some settled = record {
  numbers = [];
  retired = All-nil (λ (n : ℕ). 0 < line_in (plan_of me.0).deeds n);
  view = is ∙ (λ i. (Mover (record (plan_of me.0) { passing = (settled ∙ sym (settled-first (plan_of me.0).slots some)) i; deeds = sym (append-nil (plan_of me.0).deeds) i }), []));
}

-- settled on one slot, and then on one more
pub passes-more : (q : Plan) (s t : ℕ) (me me' : Sat) → Passes q s me → Passes (plan_of me.0) t me' → Passes q t me'
passes-more q s t me me' first then = record {
  numbers = first.numbers ++ then.numbers;
  retired = All-append (λ (n : ℕ). 0 < line_in q.deeds n) first.numbers then.numbers first.retired (All-weaker (λ (n : ℕ). 0 < line_in (plan_of me.0).deeds n) (λ (n : ℕ). 0 < line_in q.deeds n) (λ n h. subst (λ (line : ℕ). 0 < line) (ap (λ (m : Sat). line_in (plan_of m.0).deeds n) first.view ∙ lines-unmaps q.deeds first.numbers n) h) then.numbers then.retired);
  view = then.view
      ∙ (ap (λ (m : Sat). (Mover (passed_on t then.numbers (plan_of m.0)), [])) first.view
      ∙ ap (λ (ds : List Deed). (Mover (record q { passing = settled_on q.slots t; deeds = ds }), [])) (added-twice (λ (n : ℕ). deed.Unmap n) q.deeds first.numbers then.numbers));
}

-- ---- retiring

pub room-more : (me : Sat) (slots batches : ℕ) (outs gs : List Made) → IsIdle me slots batches → (plan_of me.0).outs ≡ outs → AreOuts outs gs → 1 ≤ length gs → batches + 1 < 4096
room-more me slots batches outs [] idle same are some = absurd (omega arith)
room-more me slots batches outs (g ∷ gs) idle same are some = let number = idle.batches_are in let room = idle.room g (subst (λ (os : List Made). Contains os g) (sym same) (are.each g (cons-here g gs g refl))) in omega arith

module _ (me0 me1 me2 me3 : Sat) (slots batches : ℕ) (line : ℕ) (gs : List Made) (idle : IsIdle me0 slots batches) (listed : me1 ≡ (Mover (listed_all line gs (plan_of me0.0)), [])) (opens : me2 ≡ (Mover (opened (plan_of me1.0)), [])) (room : HasRoom (plan_of me2.0)) (passes : Passes (plan_of me2.0) slots me3) where
  abbrev q : Plan
  q = plan_of me0.0

  abbrev deeds' : List Deed
  deeds' = (q.deeds ++ retires_of line gs) ++ map (λ (n : ℕ). deed.Unmap n) passes.numbers

  abbrev end : Plan
  end = record q { batches = q.batches + 1; passing = passing.Rest; outs = but_all gs q.outs; deeds = deeds' }

  two : me2 ≡ (Mover (opened (listed_all line gs q)), [])
  two = opens ∙ ap (λ (m : Sat). (Mover (opened (plan_of m.0)), [])) listed

  now : me3 ≡ (Mover end, [])
  now = passes.view
      ∙ (ap (λ (m : Sat). (Mover (passed_on slots passes.numbers (plan_of m.0)), [])) two
      ∙ ap (λ (d : Passing). (Mover (record q { batches = q.batches + 1; passing = d; outs = but_all gs q.outs; deeds = deeds' }), [])) (settled-all q.slots slots idle.slots_are))

  room-there : HasRoom end
  room-there g c = subst (λ (m : Sat). HasRoom (plan_of m.0)) two room g c

  pub retired-idle : IsIdle me3 slots (batches + 1)
  retired-idle = goes-idle me0 slots batches idle me3 (batches + 1) now idle.stage refl (ap (λ (n : ℕ). n + 1) idle.batches_are) room-there

  pub retired-rest : is_at_rest me3.0 ≡ true
  retired-rest = ap (λ (m : Sat). is_at_rest m.0) now ∙ (λ i. is_idle (idle.stage i) && (has_freed (idle.freed i) && has_given (idle.given i)))

  pub retired-deeds : (before : List Deed) → q.deeds ≡ before → AddsRetires gs line before (plan_of me3.0).deeds
  retired-deeds before same = record {
    numbers = passes.numbers;
    retired = subst (λ (ds : List Deed). All (λ (n : ℕ). 0 < line_in ds n) passes.numbers) (ap (λ (m : Sat). (plan_of m.0).deeds) two ∙ ap (λ (ds : List Deed). ds ++ retires_of line gs) same) passes.retired;
    grew = ap (λ (m : Sat). (plan_of m.0).deeds) now
        ∙ ap (λ (ds : List Deed). ds ++ retires_of line gs ++ map (λ (n : ℕ). deed.Unmap n) passes.numbers) same;
  }

  pub retired-outs : (before : List Made) → q.outs ≡ before → (plan_of me3.0).outs ≡ but_all gs before
  retired-outs before same = ap (λ (m : Sat). (plan_of m.0).outs) now ∙ ap (but_all gs) same

  pub retired-same : {A : Type 0} (f : Plan → A) → f end ≡ f q → f (plan_of me3.0) ≡ f q
  retired-same f same = ap (λ (m : Sat). f (plan_of m.0)) now ∙ same
