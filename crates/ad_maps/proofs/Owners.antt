-- The owners of frames: each is the mapping that was made last in its frame.
use Rattle.std.proofs.Common.{◌≡◌, ◌≢◌, ⊎_elim, inl, inr, ℕ, zero, suc, ◌+◌, ◌*◌, ◌<◌, List, [], ◌∷◌, ◌++◌, length, get_or, sym, ap, ◌∙◌, subst, arith}
use Rattle.std.specs.List.{Contains}
use Rattle.std.proofs.lemmas.Bool.{cases_eq}
use Rattle.std.proofs.lemmas.List.Elements.{Contains-push_cases}
use Rattle.std.proofs.lemmas.Nat.{div-mul-add}
use Rattle.ad_base.specs.declared.place.Place.{Place}
use Rattle.ad_events.specs.Functions.{changed}
use Rattle.ad_events.proofs.Functions.{changed-here, changed-else}
use Rattle.ad_maps.specs.declared.shape.Shape.{Shape}
use Rattle.ad_maps.specs.declared.view.Made.{Made}
use Rattle.ad_maps.specs.declared.view.Stage.{Stage}
use Rattle.ad_maps.specs.declared.view.Stage.TheVariants as stage
use Rattle.ad_maps.specs.Laws.{OwnerLaw}
use Rattle.ad_maps.specs.Ledger.{all_made, AreLastIn, IsLastIn}
use Rattle.ad_maps.specs.MapPlace.{module_of_frame, IsPlaceOf}
use Rattle.ad_maps.specs.Names.{Owner}
use Rattle.ad_maps.specs.Rule.{St, Kept, IsToGive, OwnersAreNewest, OwnerStands}
use Rattle.ad_maps.specs.Steps.{made}
use Rattle.ad_maps.proofs.MappingFrames.{mover_knows}

-- ---- what stays of the rule

-- a frame is taken for a mapping whose number is above all
pub newest-take : (ledger : List Made) (owner : ℕ → ℕ) (f n : ℕ) → OwnersAreNewest ledger owner → ((x : Made) → Contains ledger x → x.place.mapping < n) → OwnersAreNewest ledger (changed owner f n)
newest-take ledger owner f n old above h some x c in_frame =
    elim (cases_eq h f) [
      | inl e ↦ let now = changed-here owner f n h e in let below = above x c in omega arith
      | inr ne ↦ let same = changed-else owner f n h ne in let was = old h (λ z. some (same ∙ z)) x c in_frame in omega arith
    ]

-- the mapping whose frame was taken is made
pub newest-map : (ledger : List Made) (owner : ℕ → ℕ) (g : Made) → OwnersAreNewest ledger owner → owner g.place.frame ≡ g.place.mapping → OwnersAreNewest (ledger ++ g ∷ []) owner
newest-map ledger owner g old owns f some x c in_frame = ⊎_elim (λ before. old f some x before in_frame)
    (λ e.
    let mine : owner f ≡ g.place.mapping = ap owner (sym in_frame ∙ ap (λ (y : Made). y.place.frame) (sym e)) ∙ owns in
    let number = ap (λ (y : Made). y.place.mapping) e in omega arith)
    (Contains-push_cases ledger g x c)

-- a frame is given back
pub newest-give : (ledger : List Made) (owner : ℕ → ℕ) (f : ℕ) → OwnersAreNewest ledger owner → OwnersAreNewest ledger (changed owner f 0)
newest-give ledger owner f old h some x c in_frame =
    elim (cases_eq h f) [
      | inl e ↦ absurd (some (changed-here owner f 0 h e))
      | inr ne ↦ let same = changed-else owner f 0 h ne in let was = old h (λ z. some (same ∙ z)) x c in_frame in omega arith
    ]

-- ---- what the mover finds

-- where no new mapping is under way, the owner of a frame is the mapping that was made last in it
owner-last : (shape : Shape) (s : St) (r : Kept shape s) (f : ℕ) → r.words.owner f ≢ 0 → OwnerStands r.state.world.mappings r.places (IsToGive r.gives) stage.Idle f (r.words.owner f) → IsLastIn r.ledger f (r.words.owner f)
owner-last shape s r f some stands = ⊎_elim (λ none. absurd (some none))
    (λ d. ⊎_elim
    (λ t. let old = r.mappings.each (r.words.owner f) t.0 t.1 in record {
      mapping = made t.0.module (r.places (r.words.owner f));
      listed = old.listed;
      number = old.number;
      in_frame = t.3;
      newest = r.mappings.newest f some;
    })
    (λ d. ⊎_elim
    (λ t. let give = r.mappings.each_give t.0 t.1 in let old = r.mappings.each t.0.mapping _ give.gone.there in record {
      mapping = made give.module (r.places t.0.mapping);
      listed = old.listed;
      number = old.number ∙ t.3;
      in_frame = ap (λ (p : Place). p.frame) give.gone.placed ∙ t.2;
      newest = r.mappings.newest f some;
    })
    (λ t. absurd t)
    d) d)
    stands

pub owner_law : OwnerLaw
owner_law shape s r id q f at idle few some =
    let k = mover_knows shape s r id q at in
    let word : get_or s.words (65560 + f) 0 ≡ r.words.owner f = r.reads.1 (Owner f) few in
    subst (IsLastIn (all_made shape q.deeds) f) (sym word)
    (subst (λ (gs : List Made). IsLastIn gs f (r.words.owner f)) k.ledger_is
    (owner-last shape s r f (λ z. some (word ∙ z))
    (subst (λ (d : Stage). OwnerStands r.state.world.mappings r.places (IsToGive r.gives) d f (r.words.owner f)) idle (k.mappings.each_owner f))))

-- ---- the owners of frames in order

-- one frame more
pub last-push : (gs : List Made) (f : ℕ) (os : List ℕ) (o : ℕ) → AreLastIn gs f os → IsLastIn gs (f + length os) o → AreLastIn gs f (os ++ o ∷ [])
last-push gs f [] o are is = (subst (λ (h : ℕ). IsLastIn gs h o) (let same : f + 0 ≡ f = omega arith in same) is, tt)
last-push gs f (x ∷ xs) o are is = (are.0, last-push gs (f + 1) xs o are.1 (subst (λ (h : ℕ). IsLastIn gs h o) (let same : f + suc (length xs) ≡ f + 1 + length xs = omega arith in same) is))

-- each of the frames has its mapping
pub each-last : (gs : List Made) (f : ℕ) (os : List ℕ) → AreLastIn gs f os → (k : ℕ) → k < length os → IsLastIn gs (f + k) (get_or os k 0)
each-last gs f [] are k low = absurd (omega arith)
each-last gs f (o ∷ os) are zero low = subst (λ (h : ℕ). IsLastIn gs h o) (let same : f ≡ f + 0 = omega arith in same) are.0
each-last gs f (o ∷ os) are (suc k) low = subst (λ (h : ℕ). IsLastIn gs h (get_or os k 0)) (let same : f + 1 + k ≡ f + suc k = omega arith in same) (each-last gs (f + 1) os are.1 k (omega arith))

-- where each frame of module m has an owner, a mapping of the module was made in each
pub made-in_each : (shape : Shape) (gs : List Made) (m : ℕ) (os : List ℕ) → ((x : Made) → Contains gs x → IsPlaceOf shape x.of_module x.place) → AreLastIn gs (m * shape.frames) os → length os ≡ shape.frames
    → (k : ℕ) → k < shape.frames → (g : Made) × Contains gs g × (g.of_module ≡ m) × (g.place.frame ≡ m * shape.frames + k)
made-in_each shape gs m os places are long k low =
    let last = each-last gs (m * shape.frames) os are k (omega arith) in (
      last.mapping,
      last.listed,
      sym (places last.mapping last.listed).frame ∙ (ap (module_of_frame shape) last.in_frame ∙ div-mul-add m shape.frames k low),
      last.in_frame,
    )
