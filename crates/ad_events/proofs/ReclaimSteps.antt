-- Each step of the joined machine keeps its invariant, and is one that both machines may make.
use Rattle.std.proofs.Common.{◌≡◌, ◌≢◌, ◌⊎◌, ℕ, ◌+◌, ◌<◌, cond, Option, Some, None, refl, sym, ap, ◌∙◌, subst, inl, inr, arith, eq-eqb, ne_eqb, true≢false, unwrap_or}
use Rattle.std.specs.Option.{is_some, option_map}
use Rattle.std.specs.FinMap as map
use Rattle.std.specs.FinSet as set
use Rattle.std.proofs.lemmas.Bool.{cases_eq, cases_Bool}
use Rattle.ad_events.specs.declared.mapping.Status.{Status}
use Rattle.ad_events.specs.declared.mapping.Status.TheVariants.{Fresh, Current, Out, Retired, Gone}
use Rattle.ad_events.specs.declared.event.Event.{Event}
use Rattle.ad_events.specs.declared.event.Event.TheVariants as event
use Rattle.ad_events.specs.Mapping.{rank_of}
use Rattle.ad_events.specs.World.{EventWorld, status_of, IsLawful, effect}
use Rattle.ad_events.specs.Owed as owing
use Rattle.ad_events.specs.Owed.{seat_at, count_of, last_batch, IsOpened, IsInside, WaitsFor, takes_from, answer}
use Rattle.ad_events.specs.OwedInvariant as owed
use Rattle.ad_events.specs.OwedLaws.{Takes}
use Rattle.ad_events.specs.Reclaim.{Agent, Worker, Mover, ReclaimState, Step, Enter, Read, Leave, Pay, Map, Switch, Retire, Open, Push, Settle, Unmap, MayUnmap, MayStep, noted, after}
use Rattle.ad_events.specs.Functions.{changed}
use Rattle.ad_events.specs.ReclaimInvariant.{IsIn, IsListed, IsZeroed, Holds}
use Rattle.ad_events.proofs.Functions.{changed-here, changed-else, some≢none, option-cases}
use Rattle.ad_events.proofs.WorldLemmas.{status≢}
use Rattle.ad_events.proofs.OwedWrites.{inside-away}
use Rattle.ad_events.proofs.OwedReads.{seats-after, last-after, enter-seat, enter-seat_other}
use Rattle.ad_events.proofs.OwedRuns.{Holds-step}
use Rattle.ad_events.proofs.OwingFacts.{Leaves, Enters, inside-same, stays-inside, came-inside, leave-out, waits-after, waits-unopened, waits-some, opened-after, zero-after, taken, became-zero}
use Rattle.ad_events.proofs.WorldLaws.{IsWorld-event}
use Rattle.ad_events.proofs.WorldReads.{map-here, map-other, switch-here, switch-status, retire-here, retire-other, unmap-here, unmap-other, same-status, read-here, read-other, leave-here, leave-other, enter-here, enter-other, entered-other}

-- ---- who brought a batch to zero

-- a step that leaves nothing in the count of a batch is noted there
pub noted-here : (f : ℕ → Option Agent) (b : ℕ) (a : Agent) (rest n : ℕ) → rest ≡ 0 → n ≡ b → noted f b a rest n ≡ Some a
noted-here f b a rest n none e = ap (λ t. cond t (changed f b (Some a)) f n) (eq-eqb rest 0 none) ∙ changed-here f b (Some a) n e

-- and else nothing is
pub noted-cases : (f : ℕ → Option Agent) (b : ℕ) (a : Agent) (rest n : ℕ) → ((rest ≡ 0) × (n ≡ b) × (noted f b a rest n ≡ Some a)) ⊎ (noted f b a rest n ≡ f n)
noted-cases f b a rest n =
    elim (cases_eq rest 0) [
      | inl none ↦
          elim (cases_eq n b) [
            | inl e ↦ inl (none, e, noted-here f b a rest n none e)
            | inr apart ↦ inr (ap (λ t. cond t (changed f b (Some a)) f n) (eq-eqb rest 0 none) ∙ changed-else f b (Some a) n apart)
          ]
      | inr pair ↦ inr (ap (λ t. cond t (changed f b (Some a)) f n) (ne_eqb rest 0 pair))
    ]

-- ---- statuses

-- a mapping with an earlier status isn't listed
pub not-listed : (w : EventWorld) (p : ℕ) (s : Status) → status_of w p ≡ Some s → rank_of s < 3 → IsListed w p → ⊥
not-listed w p s is low listed =
    elim listed [
      | inl retired ↦ status≢ s Retired rank_of (λ e. absurd (omega arith)) (sym is ∙ retired)
      | inr gone ↦ status≢ s Gone rank_of (λ e. absurd (omega arith)) (sym is ∙ gone)
    ]

pub absent-listed : (w : EventWorld) (p : ℕ) → map.get w.mappings p ≡ None → IsListed w p → ⊥
absent-listed w p is listed =
    let none = ap (option_map (λ x. x.status)) is in
    elim listed [ inl retired ↦ some≢none Retired (sym retired ∙ none) | inr gone ↦ some≢none Gone (sym gone ∙ none) ]

-- the same status, the same list
pub listed-same : (v w : EventWorld) (p : ℕ) → status_of v p ≡ status_of w p → IsListed v p → IsListed w p
listed-same v w p e listed = elim listed [ inl retired ↦ inl (sym e ∙ retired) | inr gone ↦ inr (sym e ∙ gone) ]

-- ---- what a state that meets the invariant says

module _ (j : ReclaimState) (h : Holds j) where
  -- a worker whose seat is away is in nothing
  pub away-out : (i : ℕ) → seat_at j.owed i ≡ owing.Away → IsIn j.world i → ⊥
  away-out i away within = let is = h.in_inside i within in inside-away (seat_at j.owed i) is.0 is.1 is.2 away

  pub enter-lawful : (i s : ℕ) → MayStep j (Enter i s) → IsLawful j.world (event.Enter i)
  enter-lawful i s may = (
    (let seats = h.workers in let seat = may.seat in omega arith),
    elim (cases_Bool (set.contains j.world.entered i)) [ inl in_set ↦ absurd (away-out i may.away (inl in_set)) | inr absent ↦ absent ],
    elim (option-cases (map.get j.world.inside i)) [ inl none ↦ none | inr pair ↦ absurd (away-out i may.away (inr (ap is_some pair.1))) ],
  )

  -- the seat of a worker inside a mapping is inside
  pub leave-inside : (i : ℕ) → MayStep j (Leave i) → IsInside (seat_at j.owed i)
  leave-inside i may = h.in_inside i (inr may)

  -- nobody is inside a mapping whose batch was brought to zero
  pub zeroed-free : (p b : ℕ) → j.batch p ≡ Some b → IsZeroed j b → (i : ℕ) → map.get j.world.inside i ≢ Some p
  zeroed-free p b listed is i found =
      let zero = h.zeroed b is in
      waits-some j.owed h.owed i b (h.in_inside i (inr (ap is_some found))) zero.0 (h.pinned i p b found listed) zero.1

  pub unmap-lawful : (p : ℕ) (a : Agent) → MayUnmap j p a → IsLawful j.world (event.Unmap p)
  unmap-lawful p a may = (
    elim (h.told p may.batch may.listed) [ inl retired ↦ retired | inr gone ↦ absurd (may.there gone) ],
    zeroed-free p may.batch may.listed (a, may.brought),
  )

-- ---- steps of what is owed alone

-- what the notes say of the counts
abbrev NotesZeros : owing.State → (ℕ → Option Agent) → Type 0
NotesZeros w zeroed = ((b : ℕ) → IsOpened w b → count_of w b ≡ 0 → (a : Agent) × (zeroed b ≡ Some a)) × ((b : ℕ) → (a : Agent) × (zeroed b ≡ Some a) → IsOpened w b × (count_of w b ≡ 0))

module _ (w : owing.State) (h : owed.Holds w) (f : ℕ → Option Agent) (notes : NotesZeros w f) (x : owing.Step) (may : owing.MayStep w x) where
  -- a step that takes from no count
  pub notes-kept : (Takes x → ⊥) → NotesZeros (owing.after w x) f
  notes-kept none = (
    λ b opened zero.
        (let was = became-zero w h x may b opened zero in
        elim was.1 [ inl before ↦ notes.0 b was.0 before | inr takes ↦ absurd (none takes.0) ]),
    λ b is. (let was = notes.1 b is in (opened-after w h x may b was.0, zero-after w h x may b was.0 was.1)),
  )

  module _ (takes : Takes x) (a : Agent) where
    -- what was noted stays noted, of the same agent
    pub note-stays : (b : ℕ) (c : Agent) → f b ≡ Some c → noted f (takes_from w x) a (answer w x) b ≡ Some c
    note-stays b c is =
        let t = taken w h x may takes in
        elim (noted-cases f (takes_from w x) a (answer w x) b) [
          | inl new ↦ let zero = (notes.1 b (c, is)).1 in let at = ap (count_of w) new.1 in let some = t.some in absurd (omega arith)
          | inr same ↦ same ∙ is
        ]

    pub notes-taken : NotesZeros (owing.after w x) (noted f (takes_from w x) a (answer w x))
    notes-taken = (
      λ b opened zero.
          (let was = became-zero w h x may b opened zero in
          elim was.1 [
            | inl before ↦ let is = notes.0 b was.0 before in (is.0, note-stays b is.0 is.1)
            | inr now ↦ (a, noted-here f (takes_from w x) a (answer w x) b now.2 (sym now.1))
          ]),
      λ b is.
          (elim (noted-cases f (takes_from w x) a (answer w x) b) [
            | inl new ↦
                let t = taken w h x may takes in
                (subst (IsOpened (owing.after w x)) (sym new.1) (opened-after w h x may (takes_from w x) t.opened), ap (count_of (owing.after w x)) new.1 ∙ sym t.answers ∙ new.0)
            | inr same ↦ let was = notes.1 b (is.0, sym same ∙ is.1) in (opened-after w h x may b was.0, zero-after w h x may b was.0 was.1)
          ]),
    )

-- a step of what is owed that is neither an enter nor a leave
module _ (j : ReclaimState) (h : Holds j) (x : owing.Step) (may : owing.MayStep j.owed x) (leaves : (i : ℕ) → Leaves i x → ⊥) (enters : (i : ℕ) → Enters i x → ⊥)
    (f : ℕ → Option Agent) (notes : NotesZeros (owing.after j.owed x) f) (stays : (b : ℕ) → IsZeroed j b → (a : Agent) × (f b ≡ Some a)) where
  pub Holds-owing : Holds (record { world = j.world; owed = owing.after j.owed x; batch = j.batch; zeroed = f })
  Holds-owing =
      record {
        world = h.world;
        owed = Holds-step j.owed h.owed x may;
        workers = h.workers ∙ sym (seats-after j.owed x may);
        in_inside = λ i within. (let is = h.in_inside i within in inside-same _ _ (stays-inside j.owed x may i is (leaves i)) is);
        inside_in = λ i is. h.inside_in i (came-inside j.owed h.owed x may i is (enters i));
        listed = h.listed;
        told = h.told;
        numbered = λ p b listed. (let range = h.numbered p b listed in let last = last-after j.owed h.owed x may in (range.0, let most = range.1 in omega arith));
        pinned = λ i p b found listed. waits-after j.owed h.owed x may i b (h.in_inside i (inr (ap is_some found))) (leaves i) (h.numbered p b listed).0 (h.pinned i p b found listed);
        gone = λ p b gone listed. stays b (h.gone p b gone listed);
        zero = notes.0;
        zeroed = notes.1;
      }

-- ---- each step

module _ (j : ReclaimState) (h : Holds j) where
  notes : NotesZeros j.owed j.zeroed
  notes = (h.zero, h.zeroed)

  pub Holds-open : MayStep j Open → Holds (after j Open)
  Holds-open may = Holds-owing j h owing.Open may (λ i no. no) (λ i no. no) j.zeroed (notes-kept j.owed h.owed j.zeroed notes owing.Open may (λ no. no)) (λ b is. is)

  pub Holds-push : (s : ℕ) → MayStep j (Push s) → Holds (after j (Push s))
  Holds-push s may = Holds-owing j h (owing.Push s) may (λ i no. no) (λ i no. no) j.zeroed (notes-kept j.owed h.owed j.zeroed notes (owing.Push s) may (λ no. no)) (λ b is. is)

  pub Holds-settle : (s : ℕ) → MayStep j (Settle s) → Holds (after j (Settle s))
  Holds-settle s may =
      Holds-owing j h (owing.Settle s) may (λ i no. no) (λ i no. no) _ (notes-taken j.owed h.owed j.zeroed notes (owing.Settle s) may tt Mover)
      (λ b is. (is.0, note-stays j.owed h.owed j.zeroed notes (owing.Settle s) may tt Mover b is.0 is.1))

  pub Holds-pay : (i : ℕ) → MayStep j (Pay i) → Holds (after j (Pay i))
  Holds-pay i may =
      Holds-owing j h (owing.Pay i) may (λ i no. no) (λ i no. no) _ (notes-taken j.owed h.owed j.zeroed notes (owing.Pay i) may tt (Worker i))
      (λ b is. (is.0, note-stays j.owed h.owed j.zeroed notes (owing.Pay i) may tt (Worker i) b is.0 is.1))

  pub Holds-enter : (i s : ℕ) → MayStep j (Enter i s) → Holds (after j (Enter i s))
  Holds-enter i s may =
      let x = owing.Enter i s in
      let lawful = enter-lawful j h i s may in
      let kept = notes-kept j.owed h.owed j.zeroed notes x may (λ no. no) in
      record {
        world = IsWorld-event j.world h.world (event.Enter i) lawful;
        owed = Holds-step j.owed h.owed x may;
        workers = h.workers ∙ sym (seats-after j.owed x may);
        in_inside = λ k within.
            elim (cases_eq k i) [
              | inl e ↦ (s, owing.pushed_on j.owed s, enter-seat j.owed i s may k e)
              | inr apart ↦
                  let is = h.in_inside k (elim within [ inl in_set ↦ inl (sym (enter-other j.world i k apart) ∙ in_set) | inr pair ↦ inr pair ]) in
                  inside-same _ _ (enter-seat_other j.owed i s may k apart) is
            ];
        inside_in = λ k is.
            elim (cases_eq k i) [
              | inl e ↦ inl (enter-here j.world i k e)
              | inr apart ↦
                  elim (h.inside_in k (inside-same _ _ (sym (enter-seat_other j.owed i s may k apart)) is)) [ inl in_set ↦ inl (enter-other j.world i k apart ∙ in_set) | inr pair ↦ inr pair ]
            ];
        listed = h.listed;
        told = h.told;
        numbered = λ p b listed. (let range = h.numbered p b listed in let last = last-after j.owed h.owed x may in (range.0, let most = range.1 in omega arith));
        pinned = λ k p b found listed. waits-after j.owed h.owed x may k b (h.in_inside k (inr (ap is_some found))) (λ no. no) (h.numbered p b listed).0 (h.pinned k p b found listed);
        gone = h.gone;
        zero = kept.0;
        zeroed = kept.1;
      }

  pub Holds-leave : (i : ℕ) → MayStep j (Leave i) → Holds (after j (Leave i))
  Holds-leave i lawful =
      let x = owing.Leave i in
      let may = leave-inside j h i lawful in
      let kept = notes-kept j.owed h.owed j.zeroed notes x may (λ no. no) in
      let gone : (k : ℕ) → k ≡ i → IsIn (effect j.world (event.Leave i)) k → ⊥ =
      λ k e within.
      elim within [
        | inl in_set ↦ true≢false (sym lawful ∙ ap is_some (ap (map.get j.world.inside) (sym e) ∙ h.world.fits.apart k in_set))
        | inr pair ↦ true≢false (sym pair ∙ ap is_some (leave-here j.world i k e))
      ] in
      let old : (k : ℕ) → k ≢ i → IsIn (effect j.world (event.Leave i)) k → IsIn j.world k =
      λ k apart within. elim within [ inl in_set ↦ inl in_set | inr pair ↦ inr (ap is_some (sym (leave-other j.world i k apart)) ∙ pair) ] in
      record {
        world = IsWorld-event j.world h.world (event.Leave i) lawful;
        owed = Holds-step j.owed h.owed x may;
        workers = h.workers ∙ sym (seats-after j.owed x may);
        in_inside = λ k within.
            elim (cases_eq k i) [
              | inl e ↦ absurd (gone k e within)
              | inr apart ↦ let is = h.in_inside k (old k apart within) in inside-same _ _ (stays-inside j.owed x may k is (λ e. apart (sym e))) is
            ];
        inside_in = λ k is.
            (let was = came-inside j.owed h.owed x may k is (λ no. no) in
            elim (cases_eq k i) [
              | inl e ↦ absurd (leave-out j.owed h.owed i may k e is)
              | inr apart ↦ elim (h.inside_in k was) [ inl in_set ↦ inl in_set | inr pair ↦ inr (ap is_some (leave-other j.world i k apart) ∙ pair) ]
            ]);
        listed = h.listed;
        told = h.told;
        numbered = λ p b listed. (let range = h.numbered p b listed in let last = last-after j.owed h.owed x may in (range.0, let most = range.1 in omega arith));
        pinned = λ k p b found listed.
            elim (cases_eq k i) [
              | inl e ↦ absurd (some≢none p (sym found ∙ leave-here j.world i k e))
              | inr apart ↦
                  let was = sym (leave-other j.world i k apart) ∙ found in
                  waits-after j.owed h.owed x may k b (h.in_inside k (inr (ap is_some was))) (λ e. apart (sym e)) (h.numbered p b listed).0 (h.pinned k p b was listed)
            ];
        gone = h.gone;
        zero = kept.0;
        zeroed = kept.1;
      }

  pub Holds-read : (i m p : ℕ) → MayStep j (Read i m p) → Holds (after j (Read i m p))
  Holds-read i m p lawful =
      record {
        world = IsWorld-event j.world h.world (event.Read i m p) lawful;
        owed = h.owed;
        workers = h.workers;
        in_inside = λ k within.
            elim (cases_eq k i) [
              | inl e ↦ h.in_inside k (inl (ap (set.contains j.world.entered) e ∙ lawful.0))
              | inr apart ↦ h.in_inside k (elim within [ inl in_set ↦ inl (sym (entered-other j.world i m p k apart) ∙ in_set) | inr pair ↦ inr (ap is_some (sym (read-other j.world i m p k apart)) ∙ pair) ])
            ];
        inside_in = λ k is.
            elim (cases_eq k i) [
              | inl e ↦ inr (ap is_some (read-here j.world i m p k e))
              | inr apart ↦ elim (h.inside_in k is) [ inl in_set ↦ inl (entered-other j.world i m p k apart ∙ in_set) | inr pair ↦ inr (ap is_some (read-other j.world i m p k apart) ∙ pair) ]
            ];
        listed = h.listed;
        told = h.told;
        numbered = h.numbered;
        pinned = λ k q b found listed.
            elim (cases_eq k i) [
              | inl e ↦
                  let same : p ≡ q = ap (λ o. unwrap_or o p) (sym (read-here j.world i m p k e) ∙ found) in
                  absurd (not-listed j.world p Current (ap (option_map (λ x. x.status)) lawful.1) (omega arith) (h.told p b (ap j.batch same ∙ listed)))
              | inr apart ↦ h.pinned k q b (sym (read-other j.world i m p k apart) ∙ found) listed
            ];
        gone = h.gone;
        zero = h.zero;
        zeroed = h.zeroed;
      }

  -- an event of the mappings that keeps which of them are listed, and which are gone
  module _ (e : Event) (lawful : IsLawful j.world e) (inside : (effect j.world e).inside ≡ j.world.inside) (entered : (effect j.world e).entered ≡ j.world.entered)
      (listed : (p : ℕ) → IsListed (effect j.world e) p → IsListed j.world p) (told : (p : ℕ) → IsListed j.world p → IsListed (effect j.world e) p)
      (gone : (p b : ℕ) → status_of (effect j.world e) p ≡ Some Gone → j.batch p ≡ Some b → IsZeroed j b) where
    Holds-world : Holds (record { world = effect j.world e; owed = j.owed; batch = j.batch; zeroed = j.zeroed })
    Holds-world =
        record {
          world = IsWorld-event j.world h.world e lawful;
          owed = h.owed;
          workers = h.workers;
          in_inside = λ k within. h.in_inside k (elim within [ inl in_set ↦ inl (ap (λ s. set.contains s k) (sym entered) ∙ in_set) | inr pair ↦ inr (ap (λ s. is_some (map.get s k)) (sym inside) ∙ pair) ]);
          inside_in = λ k is. elim (h.inside_in k is) [ inl in_set ↦ inl (ap (λ s. set.contains s k) entered ∙ in_set) | inr pair ↦ inr (ap (λ s. is_some (map.get s k)) inside ∙ pair) ];
          listed = λ p is. h.listed p (listed p is);
          told = λ p b is. told p (h.told p b is);
          numbered = h.numbered;
          pinned = λ k p b found is. h.pinned k p b (ap (λ s. map.get s k) (sym inside) ∙ found) is;
          gone = gone;
          zero = h.zero;
          zeroed = h.zeroed;
        }

  gone-listed : (p : ℕ) → status_of j.world p ≡ Some Gone → IsListed j.world p
  gone-listed p is = inr is

  pub Holds-map : (m p : ℕ) → MayStep j (Map m p) → Holds (after j (Map m p))
  Holds-map m p lawful =
      let v = effect j.world (event.Map m p) in
      let fresh : (q : ℕ) → q ≡ p → status_of v q ≡ Some Fresh = λ q e. ap (option_map (λ x. x.status)) (map-here j.world m p q e) in
      let other : (q : ℕ) → q ≢ p → status_of v q ≡ status_of j.world q = λ q apart. same-status v j.world q (map-other j.world m p q apart) in
      Holds-world (event.Map m p) lawful refl refl
      (λ q is. elim (cases_eq q p) [ inl e ↦ absurd (not-listed v q Fresh (fresh q e) (omega arith) is) | inr apart ↦ listed-same v j.world q (other q apart) is ])
      (λ q is. elim (cases_eq q p) [ inl e ↦ absurd (absent-listed j.world q (ap (map.get j.world.mappings) e ∙ lawful.1) is) | inr apart ↦ listed-same j.world v q (sym (other q apart)) is ])
      (λ q b is. elim (cases_eq q p) [ inl e ↦ λ told. absurd (not-listed v q Fresh (fresh q e) (omega arith) (inr is)) | inr apart ↦ h.gone q b (sym (other q apart) ∙ is) ])

  pub Holds-switch : (m p : ℕ) → MayStep j (Switch m p) → Holds (after j (Switch m p))
  Holds-switch m p lawful =
      let v = effect j.world (event.Switch m p) in
      let current : (q : ℕ) → q ≡ p → status_of v q ≡ Some Current = λ q e. ap (option_map (λ x. x.status)) (switch-here j.world m p q e) in
      let was : (q : ℕ) → q ≡ p → status_of j.world q ≡ Some Fresh = λ q e. ap (status_of j.world) e ∙ ap (option_map (λ x. x.status)) lawful in
      let back : (q : ℕ) → IsListed v q → status_of v q ≡ status_of j.world q =
      λ q is.
      elim (cases_eq q p) [
        | inl e ↦ absurd (not-listed v q Current (current q e) (omega arith) is)
        | inr apart ↦ elim (switch-status j.world m p q apart) [ inl same ↦ same | inr out ↦ absurd (not-listed v q Out out.1 (omega arith) is) ]
      ] in
      let on : (q : ℕ) → IsListed j.world q → status_of j.world q ≡ status_of v q =
      λ q is.
      elim (cases_eq q p) [
        | inl e ↦ absurd (not-listed j.world q Fresh (was q e) (omega arith) is)
        | inr apart ↦ elim (switch-status j.world m p q apart) [ inl same ↦ sym same | inr out ↦ absurd (not-listed j.world q Current out.0 (omega arith) is) ]
      ] in
      Holds-world (event.Switch m p) lawful refl refl
      (λ q is. listed-same v j.world q (back q is) is)
      (λ q is. listed-same j.world v q (on q is) is)
      (λ q b is. h.gone q b (sym (back q (inr is)) ∙ is))

  pub Holds-unmap : (p : ℕ) (a : Agent) → MayStep j (Unmap p a) → Holds (after j (Unmap p a))
  Holds-unmap p a may =
      let lawful = unmap-lawful j h p a may in
      let v = effect j.world (event.Unmap p) in
      let other : (q : ℕ) → q ≢ p → status_of v q ≡ status_of j.world q = λ q apart. same-status v j.world q (unmap-other j.world p lawful q apart) in
      Holds-world (event.Unmap p) lawful refl refl
      (λ q is. elim (cases_eq q p) [ inl e ↦ inl (ap (status_of j.world) e ∙ lawful.0) | inr apart ↦ listed-same v j.world q (other q apart) is ])
      (λ q is. elim (cases_eq q p) [ inl e ↦ inr (unmap-here j.world p lawful q e) | inr apart ↦ listed-same j.world v q (sym (other q apart)) is ])
      (λ q b is listed.
      elim (cases_eq q p) [
        | inl e ↦
            let same : may.batch ≡ b = ap (λ o. unwrap_or o may.batch) (sym may.listed ∙ ap j.batch (sym e) ∙ listed) in
            (a, ap j.zeroed (sym same) ∙ may.brought)
        | inr apart ↦ h.gone q b (sym (other q apart) ∙ is) listed
      ])

  pub Holds-retire : (p : ℕ) → MayStep j (Retire p) → Holds (after j (Retire p))
  Holds-retire p lawful =
      let v = effect j.world (event.Retire p) in
      let next = last_batch j.owed + 1 in
      let here : (q : ℕ) → q ≡ p → changed j.batch p (Some next) q ≡ Some next = λ q e. changed-here j.batch p (Some next) q e in
      let else : (q : ℕ) → q ≢ p → changed j.batch p (Some next) q ≡ j.batch q = λ q apart. changed-else j.batch p (Some next) q apart in
      let retired : (q : ℕ) → q ≡ p → status_of v q ≡ Some Retired = λ q e. retire-here j.world p lawful q e in
      let other : (q : ℕ) → q ≢ p → status_of v q ≡ status_of j.world q = λ q apart. same-status v j.world q (retire-other j.world p lawful q apart) in
      let number : (q b : ℕ) → q ≡ p → changed j.batch p (Some next) q ≡ Some b → b ≡ next = λ q b e is. ap (λ o. unwrap_or o b) (sym is ∙ here q e) in
      record {
        world = IsWorld-event j.world h.world (event.Retire p) lawful;
        owed = h.owed;
        workers = h.workers;
        in_inside = h.in_inside;
        inside_in = h.inside_in;
        listed = λ q is.
            elim (cases_eq q p) [
              | inl e ↦ (next, here q e)
              | inr apart ↦ let was = h.listed q (listed-same v j.world q (other q apart) is) in (was.0, else q apart ∙ was.1)
            ];
        told = λ q b is.
            elim (cases_eq q p) [
              | inl e ↦ inl (retired q e)
              | inr apart ↦ listed-same j.world v q (sym (other q apart)) (h.told q b (sym (else q apart) ∙ is))
            ];
        numbered = λ q b is.
            elim (cases_eq q p) [
              | inl e ↦ let same = number q b e is in (omega arith, omega arith)
              | inr apart ↦ h.numbered q b (sym (else q apart) ∙ is)
            ];
        pinned = λ k q b found is.
            elim (cases_eq q p) [
              | inl e ↦ let same = number q b e is in waits-unopened j.owed b k (omega arith)
              | inr apart ↦ h.pinned k q b found (sym (else q apart) ∙ is)
            ];
        gone = λ q b gone is.
            elim (cases_eq q p) [
              | inl e ↦ absurd (status≢ Retired Gone rank_of (λ e. absurd (omega arith)) (sym (retired q e) ∙ gone))
              | inr apart ↦ h.gone q b (sym (other q apart) ∙ gone) (sym (else q apart) ∙ is)
            ];
        zero = h.zero;
        zeroed = h.zeroed;
      }

-- a step that may be made keeps the invariant
pub Holds-after : (j : ReclaimState) → Holds j → (x : Step) → MayStep j x → Holds (after j x)
Holds-after j h (Enter i s) may = Holds-enter j h i s may
Holds-after j h (Read i m p) may = Holds-read j h i m p may
Holds-after j h (Leave i) may = Holds-leave j h i may
Holds-after j h (Pay i) may = Holds-pay j h i may
Holds-after j h (Map m p) may = Holds-map j h m p may
Holds-after j h (Switch m p) may = Holds-switch j h m p may
Holds-after j h (Retire p) may = Holds-retire j h p may
Holds-after j h Open may = Holds-open j h may
Holds-after j h (Push s) may = Holds-push j h s may
Holds-after j h (Settle s) may = Holds-settle j h s may
Holds-after j h (Unmap p a) may = Holds-unmap j h p a may
