-- A picture of a world: what it has at each number, as functions that compute. For the worked examples.
use Rattle.std.proofs.Common.{◌≡◌, ◌≢◌, ℕ, ◌+◌, Bool, true, false, cond, ◌&&◌, not, eqb, ltb, List, [], ◌∷◌, Option, Some, None, refl, sym, ap, ap₂, ◌∙◌, subst, nat_cmp, eq-eqb, eqb-true, true≢false, unwrap_or}
use Rattle.std.specs.Option.{option_map, is_some}
use Rattle.std.specs.FinMap as map
use Rattle.std.specs.FinSet as set
use Rattle.std.proofs.lemmas.Bool.{and_parts}
use Rattle.ad_events.specs.declared.mapping.Status.{Status}
use Rattle.ad_events.specs.declared.mapping.Status.TheVariants.{Fresh, Current, Out, Retired, Gone}
use Rattle.ad_events.specs.declared.mapping.Mapping.{Mapping}
use Rattle.ad_events.specs.declared.event.Event.{Event}
use Rattle.ad_events.specs.declared.event.Event.TheVariants as event
use Rattle.ad_events.specs.Functions.{changed}
use Rattle.ad_events.specs.Mapping.{rank_of, status_at, status_at-rank_of}
use Rattle.ad_events.specs.World.{EventWorld, mapping_of, ended, put_status, effect, opening_entries, world_opening}
use Rattle.ad_events.specs.WorldLaws as worlds
use Rattle.ad_events.specs.Owed as owing
use Rattle.ad_events.specs.Reclaim.{Agent, Worker, Mover, ReclaimState, Step, Enter, Read, Leave, Pay, Map, Switch, Retire, Open, Push, Settle, Unmap, event_of, world_after, MayStep, after, reclaim_run, MayRun}
use Rattle.ad_events.specs.ReclaimLaws.{events_of}
use Rattle.ad_events.proofs.FiniteMaps.{get-insert_same, get-insert_other}
use Rattle.ad_events.proofs.WorldReads.{map-here, map-other, switch-here, switch-elsewhere, read-here, read-other, leave-here, leave-other, enter-here, enter-other, entered-here, entered-other}
use Rattle.ad_events.proofs.OwedTests as tests
use Rattle.ad_events.proofs.Functions.{changed-is}
use Rattle.ad_events.proofs.ReclaimRuns.{world-run}

pub record Picture : Type 0 where
  pub mapping : ℕ → Option Mapping
  pub inside : ℕ → Option ℕ
  pub entered : ℕ → Bool

-- the world has what the picture shows
pub record Shows (w : EventWorld) (v : Picture) : Type 0 where
  pub mapping : (q : ℕ) → map.get w.mappings q ≡ v.mapping q
  pub inside : (k : ℕ) → map.get w.inside k ≡ v.inside k
  pub entered : (k : ℕ) → set.contains w.entered k ≡ v.entered k

-- a mapping with another status
abbrev pub turned : Status → Mapping → Mapping
turned s x = mapping_of x.module s

abbrev pub mapping_after : (ℕ → Option Mapping) → Event → ℕ → Option Mapping
mapping_after f (event.Enter i) = f
mapping_after f (event.Read i m p) = f
mapping_after f (event.Leave i) = f
mapping_after f (event.Map m p) = changed f p (Some (mapping_of m Fresh))
mapping_after f (event.Switch m p) = changed (λ q. option_map (ended m) (f q)) p (Some (mapping_of m Current))
mapping_after f (event.Retire p) = changed f p (option_map (turned Retired) (f p))
mapping_after f (event.Unmap p) = changed f p (option_map (turned Gone) (f p))

abbrev pub inside_after : (ℕ → Option ℕ) → Event → ℕ → Option ℕ
inside_after f (event.Enter i) = f
inside_after f (event.Read i m p) = changed f i (Some p)
inside_after f (event.Leave i) = changed f i None
inside_after f (event.Map m p) = f
inside_after f (event.Switch m p) = f
inside_after f (event.Retire p) = f
inside_after f (event.Unmap p) = f

abbrev pub entered_after : (ℕ → Bool) → Event → ℕ → Bool
entered_after f (event.Enter i) = changed f i true
entered_after f (event.Read i m p) = changed f i false
entered_after f (event.Leave i) = f
entered_after f (event.Map m p) = f
entered_after f (event.Switch m p) = f
entered_after f (event.Retire p) = f
entered_after f (event.Unmap p) = f

abbrev pub picture_after : Picture → Event → Picture
picture_after v e = record { mapping = mapping_after v.mapping e; inside = inside_after v.inside e; entered = entered_after v.entered e }

put-reads : (ms : map.FinMap nat_cmp Mapping) (p : ℕ) (s : Status) (o : Option Mapping) → map.get ms p ≡ o → (q : ℕ) → map.get (put_status ms p s o) q ≡ changed (map.get ms) p (option_map (turned s) o) q
put-reads ms p s None is q = changed-is (map.get ms) (map.get ms) p None (λ q e. ap (map.get ms) e ∙ is) (λ q apart. refl) q
put-reads ms p s (Some x) is q = changed-is (map.get ms) (map.get (map.insert ms p (mapping_of x.module s))) p (Some (mapping_of x.module s)) (λ q e. get-insert_same ms p _ q e) (λ q apart. get-insert_other ms p _ q apart) q

-- what is changed in a picture is changed where it shows
changed-same : {A : Type 0} (f g : ℕ → A) (k : ℕ) (x y : A) → x ≡ y → ((q : ℕ) → f q ≡ g q) → (q : ℕ) → changed f k x q ≡ changed g k y q
changed-same f g k x y e same q = ap₂ (λ a b. cond (eqb q k) a b) e (same q)

mapping-shows : (w : EventWorld) (v : Picture) → Shows w v → (e : Event) → (q : ℕ) → map.get (effect w e).mappings q ≡ mapping_after v.mapping e q
mapping-shows w v s (event.Enter i) q = s.mapping q
mapping-shows w v s (event.Read i m p) q = s.mapping q
mapping-shows w v s (event.Leave i) q = s.mapping q
mapping-shows w v s (event.Map m p) q =
    changed-is (map.get w.mappings) (map.get (effect w (event.Map m p)).mappings) p (Some (mapping_of m Fresh)) (λ q e. map-here w m p q e) (λ q apart. map-other w m p q apart) q
    ∙ changed-same (map.get w.mappings) v.mapping p _ _ refl s.mapping q
mapping-shows w v s (event.Switch m p) q =
    changed-is (λ k. option_map (ended m) (map.get w.mappings k)) (map.get (effect w (event.Switch m p)).mappings) p (Some (mapping_of m Current)) (λ q e. switch-here w m p q e) (λ q apart. switch-elsewhere w m p q apart) q
    ∙ changed-same (λ k. option_map (ended m) (map.get w.mappings k)) (λ k. option_map (ended m) (v.mapping k)) p _ _ refl (λ k. ap (option_map (ended m)) (s.mapping k)) q
mapping-shows w v s (event.Retire p) q =
    put-reads w.mappings p Retired (map.get w.mappings p) refl q ∙ changed-same (map.get w.mappings) v.mapping p _ _ (ap (option_map (turned Retired)) (s.mapping p)) s.mapping q
mapping-shows w v s (event.Unmap p) q =
    put-reads w.mappings p Gone (map.get w.mappings p) refl q ∙ changed-same (map.get w.mappings) v.mapping p _ _ (ap (option_map (turned Gone)) (s.mapping p)) s.mapping q

inside-shows : (w : EventWorld) (v : Picture) → Shows w v → (e : Event) → (k : ℕ) → map.get (effect w e).inside k ≡ inside_after v.inside e k
inside-shows w v s (event.Enter i) k = s.inside k
inside-shows w v s (event.Read i m p) k =
    changed-is (map.get w.inside) (map.get (effect w (event.Read i m p)).inside) i (Some p) (λ k e. read-here w i m p k e) (λ k apart. read-other w i m p k apart) k
    ∙ changed-same (map.get w.inside) v.inside i _ _ refl s.inside k
inside-shows w v s (event.Leave i) k =
    changed-is (map.get w.inside) (map.get (effect w (event.Leave i)).inside) i None (λ k e. leave-here w i k e) (λ k apart. leave-other w i k apart) k
    ∙ changed-same (map.get w.inside) v.inside i _ _ refl s.inside k
inside-shows w v s (event.Map m p) k = s.inside k
inside-shows w v s (event.Switch m p) k = s.inside k
inside-shows w v s (event.Retire p) k = s.inside k
inside-shows w v s (event.Unmap p) k = s.inside k

entered-shows : (w : EventWorld) (v : Picture) → Shows w v → (e : Event) → (k : ℕ) → set.contains (effect w e).entered k ≡ entered_after v.entered e k
entered-shows w v s (event.Enter i) k =
    changed-is (set.contains w.entered) (set.contains (effect w (event.Enter i)).entered) i true (λ k e. enter-here w i k e) (λ k apart. enter-other w i k apart) k
    ∙ changed-same (set.contains w.entered) v.entered i _ _ refl s.entered k
entered-shows w v s (event.Read i m p) k =
    changed-is (set.contains w.entered) (set.contains (effect w (event.Read i m p)).entered) i false (λ k e. entered-here w i m p k e) (λ k apart. entered-other w i m p k apart) k
    ∙ changed-same (set.contains w.entered) v.entered i _ _ refl s.entered k
entered-shows w v s (event.Leave i) k = s.entered k
entered-shows w v s (event.Map m p) k = s.entered k
entered-shows w v s (event.Switch m p) k = s.entered k
entered-shows w v s (event.Retire p) k = s.entered k
entered-shows w v s (event.Unmap p) k = s.entered k

pub shows-effect : (w : EventWorld) (v : Picture) → Shows w v → (e : Event) → Shows (effect w e) (picture_after v e)
shows-effect w v s e = record { mapping = mapping-shows w v s e; inside = inside-shows w v s e; entered = entered-shows w v s e }

-- the picture after a list of events
abbrev pub picture_run : Picture → List Event → Picture
picture_run v [] = v
picture_run v (e ∷ es) = picture_run (picture_after v e) es

shows-events : (w : EventWorld) (v : Picture) → Shows w v → (es : List Event) → Shows (worlds.world_run w es) (picture_run v es)
shows-events w v s [] = s
shows-events w v s (e ∷ es) = shows-events (effect w e) (picture_after v e) (shows-effect w v s e) es

-- what a run of the joined machine shows
pub shows-run : (j : ReclaimState) (v : Picture) → Shows j.world v → (xs : List Step) → Shows (reclaim_run j xs).world (picture_run v (events_of xs))
shows-run j v s xs = subst (λ w. Shows w (picture_run v (events_of xs))) (sym (world-run j xs)) (shows-events j.world v s (events_of xs))

-- ---- the opening

abbrev pub given : ℕ → List ℕ → ℕ → Option Mapping
given n [] q = None
given n (p ∷ ps) q = changed (given (n + 1) ps) p (Some (mapping_of n Current)) q

given-shows : (n : ℕ) (ps : List ℕ) (q : ℕ) → map.get (map.from_entries {R = nat_cmp} (opening_entries n ps)) q ≡ given n ps q
given-shows n [] q = map.get-empty nat_cmp q
given-shows n (p ∷ ps) q =
    let rest = map.from_entries {R = nat_cmp} (opening_entries (n + 1) ps) in
    changed-is (map.get rest) (map.get (map.insert rest p (mapping_of n Current))) p (Some (mapping_of n Current)) (λ q e. get-insert_same rest p (mapping_of n Current) q e) (λ q apart. get-insert_other rest p (mapping_of n Current) q apart) q
    ∙ changed-same (map.get rest) (given (n + 1) ps) p _ _ refl (given-shows (n + 1) ps) q

abbrev pub opening_picture : List ℕ → Picture
opening_picture current = record { mapping = given 0 current; inside = λ _. None; entered = λ _. false }

pub shows-opening : (workers : ℕ) (current : List ℕ) → Shows (world_opening workers current) (opening_picture current)
shows-opening workers current = record { mapping = given-shows 0 current; inside = map.get-empty nat_cmp; entered = set.contains-empty nat_cmp }

-- ---- whether a step of the joined machine may be made, as a test that computes

-- the mapping is one of the module, with the status
abbrev is_of : ℕ → Status → Option Mapping → Bool
is_of m s None = false
is_of m s (Some x) = eqb x.module m && eqb (rank_of x.status) (rank_of s)

same-status : (s t : Status) → rank_of s ≡ rank_of t → s ≡ t
same-status s t e = sym (status_at-rank_of s) ∙ ap status_at e ∙ status_at-rank_of t

is_of-tested : (m : ℕ) (s : Status) (o : Option Mapping) → is_of m s o ≡ true → o ≡ Some (mapping_of m s)
is_of-tested m s None e = absurd (true≢false (sym e))
is_of-tested m s (Some x) e =
    let parts = and_parts (eqb x.module m) (eqb (rank_of x.status) (rank_of s)) e in
    ap₂ (λ n t. Some (mapping_of n t)) (eqb-true x.module m parts.0) (same-status x.status s (eqb-true (rank_of x.status) (rank_of s) parts.1))

abbrev has_status : Status → Option Mapping → Bool
has_status s None = false
has_status s (Some x) = eqb (rank_of x.status) (rank_of s)

has_status-tested : (s : Status) (o : Option Mapping) → has_status s o ≡ true → option_map (λ x. x.status) o ≡ Some s
has_status-tested s None e = absurd (true≢false (sym e))
has_status-tested s (Some x) e = ap (λ t. Some t) (same-status x.status s (eqb-true (rank_of x.status) (rank_of s) e))

not_gone : (o : Option Mapping) → has_status Gone o ≡ false → option_map (λ x. x.status) o ≢ Some Gone
not_gone None e gone = true≢false (sym (ap is_some gone))
not_gone (Some x) e gone = true≢false (sym (eq-eqb (rank_of x.status) 4 (ap (λ o. rank_of (unwrap_or o Fresh)) gone)) ∙ e)

abbrev is_absent : Option Mapping → Bool
is_absent None = true
is_absent (Some x) = false

absent-tested : (o : Option Mapping) → is_absent o ≡ true → o ≡ None
absent-tested None e = refl
absent-tested (Some x) e = absurd (true≢false (sym e))

abbrev same_agent : Agent → Agent → Bool
same_agent (Worker i) (Worker k) = eqb i k
same_agent (Worker i) Mover = false
same_agent Mover (Worker k) = false
same_agent Mover Mover = true

same-agent : (a b : Agent) → same_agent a b ≡ true → a ≡ b
same-agent (Worker i) (Worker k) e = ap (λ n. Worker n) (eqb-true i k e)
same-agent (Worker i) Mover e = absurd (true≢false (sym e))
same-agent Mover (Worker k) e = absurd (true≢false (sym e))
same-agent Mover Mover e = refl

abbrev is_agent : Agent → Option Agent → Bool
is_agent a None = false
is_agent a (Some c) = same_agent c a

agent-tested : (a : Agent) (o : Option Agent) → is_agent a o ≡ true → o ≡ Some a
agent-tested a None e = absurd (true≢false (sym e))
agent-tested a (Some c) e = ap (λ x. Some x) (same-agent c a e)

abbrev freed_by : ReclaimState → Agent → Option ℕ → Bool
freed_by j a None = false
freed_by j a (Some b) = is_agent a (j.zeroed b)

freed-tested : (j : ReclaimState) (a : Agent) (o : Option ℕ) → freed_by j a o ≡ true → (b : ℕ) × (o ≡ Some b) × (j.zeroed b ≡ Some a)
freed-tested j a None e = absurd (true≢false (sym e))
freed-tested j a (Some b) e = (b, refl, agent-tested a (j.zeroed b) e)

not-tested : (b : Bool) → not b ≡ true → b ≡ false
not-tested true e = absurd (true≢false (sym e))
not-tested false e = refl

abbrev pub may_step : ReclaimState → Picture → Step → Bool
may_step j v (Enter i s) = tests.may_step j.owed (owing.Enter i s)
may_step j v (Read i m p) = v.entered i && is_of m Current (v.mapping p)
may_step j v (Leave i) = is_some (v.inside i)
may_step j v (Pay i) = tests.may_step j.owed (owing.Pay i)
may_step j v (Map m p) = ltb m j.world.modules && is_absent (v.mapping p)
may_step j v (Switch m p) = is_of m Fresh (v.mapping p)
may_step j v (Retire p) = has_status Out (v.mapping p)
may_step j v Open = tests.may_step j.owed owing.Open
may_step j v (Push s) = tests.may_step j.owed (owing.Push s)
may_step j v (Settle s) = tests.may_step j.owed (owing.Settle s)
may_step j v (Unmap p a) = freed_by j a (j.batch p) && not (has_status Gone (v.mapping p))

pub MayStep-tested : (j : ReclaimState) (v : Picture) → Shows j.world v → (x : Step) → may_step j v x ≡ true → MayStep j x
MayStep-tested j v s (Enter i t) e = tests.MayStep-tested j.owed (owing.Enter i t) e
MayStep-tested j v s (Read i m p) e = let parts = and_parts (v.entered i) _ e in (s.entered i ∙ parts.0, s.mapping p ∙ is_of-tested m Current (v.mapping p) parts.1)
MayStep-tested j v s (Leave i) e = ap is_some (s.inside i) ∙ e
MayStep-tested j v s (Pay i) e = tests.MayStep-tested j.owed (owing.Pay i) e
MayStep-tested j v s (Map m p) e = let parts = and_parts (ltb m j.world.modules) _ e in (tests.less _ _ parts.0, s.mapping p ∙ absent-tested (v.mapping p) parts.1)
MayStep-tested j v s (Switch m p) e = s.mapping p ∙ is_of-tested m Fresh (v.mapping p) e
MayStep-tested j v s (Retire p) e = ap (option_map (λ x. x.status)) (s.mapping p) ∙ has_status-tested Out (v.mapping p) e
MayStep-tested j v s Open e = tests.MayStep-tested j.owed owing.Open e
MayStep-tested j v s (Push t) e = tests.MayStep-tested j.owed (owing.Push t) e
MayStep-tested j v s (Settle t) e = tests.MayStep-tested j.owed (owing.Settle t) e
MayStep-tested j v s (Unmap p a) e =
    let parts = and_parts (freed_by j a (j.batch p)) _ e in
    let freed = freed-tested j a (j.batch p) parts.0 in
    record {
      batch = freed.0;
      listed = freed.1;
      brought = freed.2;
      there = λ gone. not_gone (v.mapping p) (not-tested _ parts.1) (ap (option_map (λ x. x.status)) (sym (s.mapping p)) ∙ gone);
    }

-- the picture after a step
abbrev pub picture_step : Picture → Option Event → Picture
picture_step v None = v
picture_step v (Some e) = picture_after v e

shows-step : (w : EventWorld) (v : Picture) → Shows w v → (j : ReclaimState) → j.world ≡ w → (x : Step) → Shows (after j x).world (picture_step v (event_of x))
shows-step w v s j e x = go (event_of x)
  where
    t : Shows j.world v
    t = subst (λ u. Shows u v) (sym e) s

    go : (o : Option Event) → Shows (world_after j.world o) (picture_step v o)
    go None = t
    go (Some y) = shows-effect j.world v t y

abbrev pub may_run : ReclaimState → Picture → List Step → Bool
may_run j v [] = true
may_run j v (x ∷ xs) = may_step j v x && may_run (after j x) (picture_step v (event_of x)) xs

pub MayRun-tested : (j : ReclaimState) (v : Picture) → Shows j.world v → (xs : List Step) → may_run j v xs ≡ true → MayRun j xs
MayRun-tested j v s [] e = tt
MayRun-tested j v s (x ∷ xs) e =
    let parts = and_parts (may_step j v x) _ e in
    (MayStep-tested j v s x parts.0, MayRun-tested (after j x) (picture_step v (event_of x)) (shows-step j.world v s j refl x) xs parts.1)
