-- What a worker's seat knows, once a seat has made a step.
use Rattle.std.proofs.Common.{◌≡◌, ⊎_elim, ℕ, ◌≤◌, List, [], ◌∷◌, ◌++◌, get_or, sym, ap, ◌∙◌, subst, arith}
use Rattle.std.specs.List.{Contains}
use Rattle.std.specs.FinMap as map
use Rattle.std.specs.FinSet as set
use Rattle.std.proofs.lemmas.List.{append-nil}
use Rattle.std.proofs.lemmas.List.Elements.{Contains-push_cases}
use Rattle.ad_base.specs.declared.place.Place.{Place}
use Rattle.ad_events.specs.declared.mapping.Status.{Status}
use Rattle.ad_events.specs.World.{EventWorld}
use Rattle.ad_events.specs.Reclaim as machine
use Rattle.ad_events.specs.Reclaim.{Agent}
use Rattle.ad_maps.specs.declared.shape.Shape.{Shape}
use Rattle.ad_maps.specs.declared.view.Act.{Act}
use Rattle.ad_maps.specs.declared.view.Act.TheVariants as act
use Rattle.ad_maps.specs.declared.view.Stance.{Stance}
use Rattle.ad_maps.specs.declared.view.Stance.TheVariants as stance
use Rattle.ad_maps.specs.declared.view.Hand.{Hand}
use Rattle.ad_maps.specs.declared.view.Made.{Made}
use Rattle.ad_maps.specs.Ledger.{reads_of, NeverFall}
use Rattle.ad_maps.specs.Rule.{IsAs, StanceStands, HandStands}
use Rattle.ad_maps.specs.Steps.{hand, made}
use Rattle.ad_maps.proofs.Elements.{reads-push}

-- another seat makes a step: the world goes on, and what was made and is current does too
module _ (shape : Shape) (world world' : EventWorld) (places places' : ℕ → Place) (ledger ledger' : List Made) (currents currents' : List ℕ) (gives : Agent → List Place) (v : ℕ)
    (entered : set.contains world'.entered v ≡ set.contains world.entered v) (inside : map.get world'.inside v ≡ map.get world.inside v)
    (goes_on : (g : Made) (s : Status) → IsAs world.mappings places g s → (t : Status) × IsAs world'.mappings places' g t) where
  pub stance_stays : (d : Stance) → StanceStands world places v d → StanceStands world' places' v d
  stance_stays stance.Away h = tt
  stance_stays (stance.Entered entry) h = entered ∙ h
  stance_stays (stance.Inside entry m p) h = (inside ∙ h.0, goes_on (made m p) h.1.0 h.1.1)
  stance_stays (stance.Paying paid last) h = tt

  pub hand_stays : ((g : Made) → Contains ledger g → Contains ledger' g) → ((m : ℕ) → get_or currents m 0 ≤ get_or currents' m 0) → (h : Hand)
      → HandStands shape world places ledger currents gives v h → HandStands shape world' places' ledger' currents' gives v h
  hand_stays more rises h old = record {
    slot = old.slot;
    to_give = old.to_give;
    stance = stance_stays h.stance old.stance;
    reads = λ m p c. (let was = old.reads m p c in record { listed = more (made m p) was.listed; past = let a = was.past in let b = rises m in omega arith });
    falls = old.falls;
  }

-- a worker makes a step, which is no read
pub own_act : (shape : Shape) (world world' : EventWorld) (places : ℕ → Place) (ledger : List Made) (currents : List ℕ) (gives : Agent → List Place) (w slot : ℕ) (d d' : Stance) (mine : List Place) (acts : List Act) (a : Act)
    → ((m : ℕ) → reads_of m (a ∷ []) ≡ []) → ((m : ℕ) (p : Place) → a ≡ act.Read m p → ⊥) → StanceStands world' places w d'
    → HandStands shape world places ledger currents gives w (hand slot d mine acts) → HandStands shape world' places ledger currents gives w (hand slot d' mine (acts ++ a ∷ []))
own_act shape world world' places ledger currents gives w slot d d' mine acts a none other stands old = record {
  slot = old.slot;
  to_give = old.to_give;
  stance = stands;
  reads = λ m p c. ⊎_elim (λ before. old.reads m p before) (λ now. absurd (other m p now)) (Contains-push_cases acts a (act.Read m p) c);
  falls = λ m. subst NeverFall (sym (reads-push m acts a ∙ (ap (λ (ns : List ℕ). reads_of m acts ++ ns) (none m) ∙ append-nil (reads_of m acts)))) (old.falls m);
}

-- the frames that other agents have to give back changed
pub hand_regives : (shape : Shape) (world : EventWorld) (places : ℕ → Place) (ledger : List Made) (currents : List ℕ) (gives gives' : Agent → List Place) (v : ℕ) (h : Hand) → gives' (machine.Worker v) ≡ gives (machine.Worker v)
    → HandStands shape world places ledger currents gives v h → HandStands shape world places ledger currents gives' v h
hand_regives shape world places ledger currents gives gives' v h same old = record { slot = old.slot; to_give = old.to_give ∙ sym same; stance = old.stance; reads = old.reads; falls = old.falls }
