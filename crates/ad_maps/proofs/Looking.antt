-- Looks at frames in order.
use Rattle.std.proofs.Common.{◌≡◌, ◌≢◌, ℕ, suc, ◌+◌, ◌<◌, Bool, cond, eq-eqb, ne_eqb, List, [], ◌∷◌, ◌++◌, length, length-append, append_assoc, refl, sym, ap, ◌∙◌, subst, arith}
use Rattle.std.proofs.lemmas.List.{append-nil}
use Rattle.std.proofs.lemmas.List.Elements.{All-nil, All-push}
use Rattle.ad_maps.specs.declared.view.Deed.{Deed}
use Rattle.ad_maps.specs.declared.view.Deed.TheVariants as deed
use Rattle.ad_maps.specs.declared.view.Plan.{Plan}
use Rattle.ad_maps.specs.declared.view.Doing.TheVariants.{Mover}
use Rattle.ad_maps.specs.declared.shape.Shape.{Shape}
use Rattle.ad_maps.specs.declared.view.Made.{Made}
use Rattle.ad_maps.specs.Ledger.{all_made, IsLastIn}
use Rattle.ad_maps.specs.Seen.{looks_from}
use Rattle.ad_maps.specs.Steps.{Sat, looking}
use Rattle.ad_maps.specs.Private.Handles.{plan_of, looked, HaveOwners, FindsFrame}
use Rattle.ad_maps.proofs.Ledgers.{ledger-looks}
use Rattle.ad_maps.proofs.Owners.{last-push}

looks-push : (f : ℕ) (os : List ℕ) (o : ℕ) → looks_from f (os ++ o ∷ []) ≡ looks_from f os ++ deed.Look (f + length os) o ∷ []
looks-push f [] o = let same : f + 0 ≡ f = omega arith in ap (λ (g : ℕ). deed.Look g o ∷ []) (sym same)
looks-push f (x ∷ xs) o = ap (λ (ds : List Deed). deed.Look f x ∷ ds) (looks-push (f + 1) xs o ∙ (let same : f + 1 + length xs ≡ f + suc (length xs) = omega arith in ap (λ (g : ℕ). looks_from (f + 1) xs ++ deed.Look g o ∷ []) same))

-- the deeds once one frame more was looked at
deeds-push : (deeds : List Deed) (first frame : ℕ) (os : List ℕ) (o : ℕ) → frame ≡ first + length os → (deeds ++ looks_from first os) ++ deed.Look frame o ∷ [] ≡ deeds ++ looks_from first (os ++ o ∷ [])
deeds-push deeds first frame os o is =
    append_assoc deeds (looks_from first os) (deed.Look frame o ∷ [])
    ∙ ap (λ (ds : List Deed). deeds ++ ds) (ap (λ (g : ℕ). looks_from first os ++ deed.Look g o ∷ []) is ∙ sym (looks-push first os o))

looked-owned : (first frame : ℕ) (os : List ℕ) (q : Plan) (o : ℕ) → frame ≡ first + length os → o ≢ 0 → looking frame (looked first os q) o ≡ looked first (os ++ o ∷ []) q
looked-owned first frame os q o is some = λ i. record q {
  rooms = ap (λ (b : Bool). cond b (frame ∷ q.rooms) q.rooms) (ne_eqb o 0 some) i;
  deeds = deeds-push q.deeds first frame os o is i;
}

looked-free : (first frame : ℕ) (os : List ℕ) (q : Plan) (o : ℕ) → frame ≡ first + length os → o ≡ 0 → looking frame (looked first os q) o ≡ record q { rooms = frame ∷ q.rooms; deeds = q.deeds ++ looks_from first (os ++ 0 ∷ []) }
looked-free first frame os q o is none = λ i. record q {
  rooms = ap (λ (b : Bool). cond b (frame ∷ q.rooms) q.rooms) (eq-eqb o 0 none) i;
  deeds = (deeds-push q.deeds first frame os o is ∙ ap (λ (n : ℕ). q.deeds ++ looks_from first (os ++ n ∷ [])) none) i;
}

-- no frame was looked at yet
pub none-looked : (shape : Shape) (first last : ℕ) (q : Plan) (me : Sat) → me ≡ (Mover q, []) → HaveOwners shape first 0 last q me
none-looked shape first last q me is = record {
  owners = [];
  length_is = refl;
  owned = All-nil (λ (o : ℕ). o ≢ 0);
  newest = tt;
  view = is ∙ (λ i. (Mover (record q { deeds = sym (nil q.deeds) i }), []));
  end = λ l. absurd (omega arith);
}
  where
    nil : (ds : List Deed) → ds ++ [] ≡ ds
    nil ds = append-nil ds

-- one frame more, which has an owner
pub one-looked : (shape : Shape) (first k last : ℕ) (q : Plan) (me me' : Sat) (owner : ℕ) → HaveOwners shape first k last q me → owner ≢ 0 → IsLastIn (all_made shape (plan_of me.0).deeds) (first + k) owner
    → me' ≡ (Mover (looking (first + k) (plan_of me.0) owner), []) → (last' : ℕ) → last' ≡ owner → HaveOwners shape first (k + 1) last' q me'
one-looked shape first k last q me me' owner have some newest is last' last_is = record {
  owners = have.owners ++ owner ∷ [];
  length_is = length-append have.owners (owner ∷ []) ∙ ap (λ (n : ℕ). n + 1) have.length_is;
  owned = All-push (λ (o : ℕ). o ≢ 0) have.owners owner have.owned some;
  newest = last-push (all_made shape q.deeds) first have.owners owner have.newest
      (subst (λ (n : ℕ). IsLastIn (all_made shape q.deeds) (first + n) owner) (sym have.length_is)
      (subst (λ (gs : List Made). IsLastIn gs (first + k) owner) (ap (λ (p : Sat). all_made shape (plan_of p.0).deeds) have.view ∙ ledger-looks shape q.deeds first have.owners) newest));
  view = is ∙ (ap (λ (p : Sat). (Mover (looking (first + k) (plan_of p.0) owner), [])) have.view ∙ ap (λ (p : Plan). (Mover p, [])) (looked-owned first (first + k) have.owners q owner (ap (λ (n : ℕ). first + n) (sym have.length_is)) some));
  end = λ _. (have.owners, ap (λ (o : ℕ). have.owners ++ o ∷ []) (sym last_is));
}

-- one frame more, which has none
pub free-found : (shape : Shape) (first frames k last : ℕ) (q : Plan) (me me' : Sat) (owner frame : ℕ) → HaveOwners shape first k last q me → owner ≡ 0 → k < frames → frame ≡ first + k → me' ≡ (Mover (looking (first + k) (plan_of me.0) owner), []) → FindsFrame shape first frames frame q me'
free-found shape first frames k last q me me' owner frame have none low frame_is is = record {
  owners = have.owners;
  owned = have.owned;
  newest = have.newest;
  frame_is = frame_is ∙ ap (λ (n : ℕ). first + n) (sym have.length_is);
  within = let l = have.length_is in omega arith;
  view = is ∙ (ap (λ (p : Sat). (Mover (looking (first + k) (plan_of p.0) owner), [])) have.view
      ∙ (ap (λ (p : Plan). (Mover p, [])) (looked-free first (first + k) have.owners q owner (ap (λ (n : ℕ). first + n) (sym have.length_is)) none)
      ∙ ap (λ (f : ℕ). (Mover (record q { rooms = f ∷ q.rooms; deeds = q.deeds ++ looks_from first (have.owners ++ 0 ∷ []) }), [])) (sym frame_is)));
}
