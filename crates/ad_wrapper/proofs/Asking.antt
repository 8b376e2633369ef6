-- What a list of acts tells that was asked of the pages.
use Rattle.std.proofs.Common.{◌≡◌, ℕ, ◌/◌, ◌<◌, ◌≤◌, Bool, true, false, List, [], ◌∷◌, ◌++◌, ◌∙◌, map, sym, ap, refl, append_assoc, append-nil, arith}
use Rattle.std.specs.Prelude.{nat_lt, if◌then◌else◌}
use Rattle.std.specs.List.{fold}
use Rattle.std.proofs.lemmas.Bool.Decides.{nat_tests}
use Rattle.std.proofs.lemmas.List.{map-append}
use Rattle.std.proofs.lemmas.List.Sums.{fold-append}
use Rattle.ad_base.specs.declared.layout.TheConstants.{REGION_BYTES, REGIONS}
use Rattle.ad_call.specs.declared.asked.Asked.{Asked}
use Rattle.ad_call.specs.declared.asked.Asked.TheVariants as asked
use Rattle.ad_call.specs.Asked.{page_asked}
use Rattle.ad_maps.specs.declared.view.Act.{Act}
use Rattle.ad_maps.specs.declared.view.Act.TheVariants as act
use Rattle.ad_wrapper.specs.Asking.{Asking, act_of, acts_in, asking, with_act}

-- one act more
pub asking-more : (acts : List Act) (a : Act) → asking (acts ++ a ∷ []) ≡ with_act (asking acts) a
unfolding asking
asking-more acts a = fold-append with_act (record { begun = []; asked = [] }) acts (a ∷ [])

-- the pages asked for that of an address, unless it lies above all places
page-told : (before after : List Act) (va : ℕ) (below : Bool) → (below ≡ true → after ≡ before ++ act.Page va ∷ []) → (below ≡ false → after ≡ before)
    → asking after ≡ record (asking before) { asked = (asking before).asked ++ (if below then asked.Page va ∷ [] else []) }
page-told before after va true told untold = ap asking (told refl) ∙ asking-more before (act.Page va)
page-told before after va false told untold = ap asking (untold refl) ∙ ap (λ list. record (asking before) { asked = list }) (sym (append-nil (asking before).asked))

pub asking-page : (before after : List Act) (va : ℕ) → (va / REGION_BYTES < REGIONS → after ≡ before ++ act.Page va ∷ []) → (REGIONS ≤ va / REGION_BYTES → after ≡ before)
    → asking after ≡ record (asking before) { asked = (asking before).asked ++ page_asked va }
asking-page before after va told untold =
    page-told before after va (nat_lt (va / REGION_BYTES) REGIONS) (λ e. told (grind (arith, nat_tests))) (λ e. untold (grind (arith, nat_tests)))

-- all acts are there
with-act : (a : Asking) (x : Act) → acts_in (with_act a x) ≡ acts_in a ++ x ∷ []
with-act a (act.Page at) = ap (λ list. a.begun ++ list) (map-append act_of a.asked (asked.Page at ∷ [])) ∙ sym (append_assoc a.begun (map act_of a.asked) (act.Page at ∷ []))
with-act a (act.Cell entry) = ap (λ list. a.begun ++ list) (map-append act_of a.asked (asked.Cell entry ∷ [])) ∙ sym (append_assoc a.begun (map act_of a.asked) (act.Cell entry ∷ []))
with-act a act.Enter = append-nil _
with-act a (act.Read m p) = append-nil _
with-act a act.Leave = append-nil _
with-act a (act.Unmap n) = append-nil _

acts-in-fold : (a : Asking) (acts : List Act) → acts_in (fold with_act a acts) ≡ acts_in a ++ acts
acts-in-fold a [] = sym (append-nil (acts_in a))
acts-in-fold a (x ∷ acts) = acts-in-fold (with_act a x) acts ∙ ap (λ list. list ++ acts) (with-act a x) ∙ append_assoc (acts_in a) (x ∷ []) acts

acts-in-asking : (acts : List Act) → acts_in (asking acts) ≡ acts
unfolding asking
acts-in-asking acts = acts-in-fold (record { begun = []; asked = [] }) acts

-- where nothing else was begun, the acts after are those before and what was asked since
pub acts-grew : (before after : List Act) (list : List Asked) → (asking after).begun ≡ (asking before).begun → (asking after).asked ≡ (asking before).asked ++ list
    → after ≡ before ++ map act_of list
acts-grew before after list begun grew =
    let b = asking before in
    sym (acts-in-asking after)
    ∙ (λ j. begun j ++ map act_of (grew j))
    ∙ ap (λ acts. b.begun ++ acts) (map-append act_of b.asked list)
    ∙ sym (append_assoc b.begun (map act_of b.asked) (map act_of list))
    ∙ ap (λ acts. acts ++ map act_of list) (acts-in-asking before)
