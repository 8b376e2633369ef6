-- The mappings that were made, once the mover has looked at frames, made a mapping, or switched.
use Rattle.std.proofs.Common.{◌≡◌, ⊎_elim, ℕ, ◌+◌, List, [], ◌∷◌, ◌++◌, map, append-nil, append_assoc, refl, sym, ap, ◌∙◌, subst}
use Rattle.std.specs.List.{Contains}
use Rattle.std.proofs.lemmas.List.Elements.{Contains-push_cases}
use Rattle.ad_base.specs.declared.place.Place.{Place}
use Rattle.ad_maps.specs.declared.shape.Shape.{Shape}
use Rattle.ad_maps.specs.declared.view.Deed.{Deed}
use Rattle.ad_maps.specs.declared.view.Deed.TheVariants as deed
use Rattle.ad_maps.specs.declared.view.Made.{Made}
use Rattle.ad_maps.specs.Ledger.{opened_from, maps_in, all_made}
use Rattle.ad_maps.specs.Seen.{looks_from, AddsRetires}
use Rattle.ad_maps.specs.Steps.{made}
use Rattle.ad_maps.proofs.Elements.{maps-append}
use Rattle.ad_maps.proofs.MappingFrames.{ledger-same}

no-maps : (f : ℕ) (os : List ℕ) → maps_in (looks_from f os) ≡ []
no-maps f [] = refl
no-maps f (o ∷ os) = no-maps (f + 1) os

-- looks make nothing
pub ledger-looks : (shape : Shape) (deeds : List Deed) (f : ℕ) (os : List ℕ) → all_made shape (deeds ++ looks_from f os) ≡ all_made shape deeds
ledger-looks shape deeds f os = ap (λ (gs : List Made). opened_from 0 shape.modules ++ gs) (maps-append deeds (looks_from f os) ∙ (ap (λ (gs : List Made). maps_in deeds ++ gs) (no-maps f os) ∙ append-nil (maps_in deeds)))

-- a map makes its mapping
pub ledger-map : (shape : Shape) (deeds : List Deed) (m : ℕ) (p : Place) → all_made shape (deeds ++ deed.Map m p ∷ []) ≡ all_made shape deeds ++ made m p ∷ []
ledger-map shape deeds m p = ap (λ (gs : List Made). opened_from 0 shape.modules ++ gs) (maps-append deeds (deed.Map m p ∷ [])) ∙ sym (append_assoc (opened_from 0 shape.modules) (maps_in deeds) (made m p ∷ []))

-- a switch makes nothing
pub ledger-switch : (shape : Shape) (deeds : List Deed) (m : ℕ) (p : Place) → all_made shape (deeds ++ deed.Switch m p ∷ []) ≡ all_made shape deeds
ledger-switch shape deeds m p = ledger-same shape deeds (deed.Switch m p) refl

-- what holds of all that was made and of the new mapping holds of all that is made then
pub all-after_map : (P : Made → Type 0) (shape : Shape) (deeds : List Deed) (m : ℕ) (p : Place) → ((x : Made) → Contains (all_made shape deeds) x → P x) → P (made m p) → (x : Made) → Contains (all_made shape (deeds ++ deed.Map m p ∷ [])) x → P x
all-after_map P shape deeds m p old new x c = ⊎_elim (old x) (λ e. subst P e new) (Contains-push_cases (all_made shape deeds) (made m p) x (subst (λ (gs : List Made). Contains gs x) (ledger-map shape deeds m p) c))

-- what holds of all that was made holds of it after looks, and after a switch
pub all-after_looks : (P : Made → Type 0) (shape : Shape) (deeds deeds' : List Deed) (f : ℕ) (os : List ℕ) → deeds' ≡ deeds ++ looks_from f os → ((x : Made) → Contains (all_made shape deeds) x → P x) → (x : Made) → Contains (all_made shape deeds') x → P x
all-after_looks P shape deeds deeds' f os e old x c = old x (subst (λ (gs : List Made). Contains gs x) (ap (all_made shape) e ∙ ledger-looks shape deeds f os) c)

pub all-after_switch : (P : Made → Type 0) (shape : Shape) (deeds deeds' : List Deed) (m : ℕ) (p : Place) → deeds' ≡ deeds ++ deed.Switch m p ∷ [] → ((x : Made) → Contains (all_made shape deeds) x → P x) → (x : Made) → Contains (all_made shape deeds') x → P x
all-after_switch P shape deeds deeds' m p e old x c = old x (subst (λ (gs : List Made). Contains gs x) (ap (all_made shape) e ∙ ledger-switch shape deeds m p) c)

no-retires : (outs : List Made) (line : ℕ) → maps_in (map (λ (g : Made). deed.Retire g.place.mapping line) outs) ≡ []
no-retires [] line = refl
no-retires (g ∷ outs) line = no-retires outs line

no-unmaps : (numbers : List ℕ) → maps_in (map (λ (n : ℕ). deed.Unmap n) numbers) ≡ []
no-unmaps [] = refl
no-unmaps (n ∷ numbers) = no-unmaps numbers

-- what was made is all that is made after mappings were retired
pub all-after_retires : (P : Made → Type 0) (shape : Shape) (outs : List Made) (line : ℕ) (deeds deeds' : List Deed) → AddsRetires outs line deeds deeds' → ((x : Made) → Contains (all_made shape deeds) x → P x) → (x : Made) → Contains (all_made shape deeds') x → P x
all-after_retires P shape outs line deeds deeds' adds old x c =
    let retires = map (λ (g : Made). deed.Retire g.place.mapping line) outs in
    let unmaps = map (λ (n : ℕ). deed.Unmap n) adds.numbers in
    let same : maps_in deeds' ≡ maps_in deeds =
    ap maps_in adds.grew
    ∙ (maps-append (deeds ++ retires) unmaps
    ∙ (ap (λ (gs : List Made). maps_in (deeds ++ retires) ++ gs) (no-unmaps adds.numbers)
    ∙ (append-nil (maps_in (deeds ++ retires))
    ∙ (maps-append deeds retires ∙ (ap (λ (gs : List Made). maps_in deeds ++ gs) (no-retires outs line) ∙ append-nil (maps_in deeds)))))) in
    old x (subst (λ (gs : List Made). Contains gs x) (ap (λ (gs : List Made). opened_from 0 shape.modules ++ gs) same) c)
