-- The call of an entry that touches an address of a mapping that it doesn't run on ends in a trap.
use Rattle.std.proofs.Common.{◌≡◌, ℕ, ◌+◌, ◌*◌, ◌%◌, ⊎_elim, List, [], ◌∷◌, slice_get, Option, Some, inr, refl, sym, ap, subst, ◌∙◌}
use Rattle.std.specs.Prelude.{◌==◌, IsSomeAnd, MatchOption}
use Rattle.std.specs.List.{Contains}
use Rattle.std.proofs.lemmas.Bool.{cond_both}
use Rattle.std.proofs.lemmas.Slice.Zip.{AllZip-left}
use Rattle.ad_base.specs.declared.book.Entry.{Entry}
use Rattle.ad_base.specs.declared.image.Image.{Image}
use Rattle.ad_base.specs.declared.layout.TheConstants.{FETCH_BYTES, PAGE_BYTES, STACK_PAGES}
use Rattle.ad_base.specs.Book.{Contents}
use Rattle.ad_base.specs.Place.{base_of}
use Rattle.ad_base.proofs.Zeros.{length-zeros}
use Rattle.ad_call.proofs.Calls.{offset_there}
use Rattle.ad_core.specs.Image.{fresh_stack}
use Rattle.ad_core.specs.Memory.{Memory}
use Rattle.ad_core.specs.Plain.{PlainOutcome, first_registers, plain_call, plain_run, untouched}
use Rattle.ad_core.specs.Turn.{AreTurns, IsLawful, IsTurn, memory_before, opening_contents, plain, reached}
use Rattle.ad_lines.specs.Sound.{Lines, Outcome}
use Rattle.ad_lines.specs.Traps.{EndsInTrapAt, IsTrap}
use Rattle.ad_lines.proofs.BookRuns.{turns-push}
use Rattle.ad_maps.proofs.Elements.{cons-cases, none-in}
use Rattle.ad_maps.specs.Rows.{ClosedSeen}
use Rattle.ad_run.specs.Beside.{IsRunBeside}
use Rattle.ad_run.specs.Ended.{IsToRun}
use Rattle.ad_run.specs.Stale.{AreTrappedElsewhere, IsTrappedAt, IsTurnIn, first_state}
use Rattle.ad_run.proofs.Asked.{lawful-data}
use Rattle.ad_run.proofs.Stale.{finds-nothing}
use Rattle.ad_script.specs.declared.script.Step.{Step}

module _ (i : Image) (fuel : ℕ) where
  -- a turn more leaves a book lawful
  lawful-push : (before : Contents) (e : Entry) (after : Contents) → IsLawful i fuel before → IsTurn i fuel before e after → IsLawful i fuel after
  lawful-push before e after lawful turn =
      subst (λ es. AreTurns i fuel (opening_contents i) es after) (sym turn.entries) (turns-push i fuel (opening_contents i) before.entries before e after lawful turn)

  -- each entry of a book has its turn
  turn-from : (first : Contents) (es : List Entry) (b : Contents) → IsLawful i fuel first → AreTurns i fuel first es b → (e : Entry) → Contains es e → (before : Contents) × IsTurnIn i fuel b before e
  turn-from first [] b lawful turns e stands = absurd (none-in e stands)
  turn-from first (x ∷ xs) b lawful turns e stands = ⊎_elim
      (λ same. (first, record { lawful = lawful; after = turns.0; turn = subst (λ y. IsTurn i fuel first y turns.0) same turns.1; later = xs; rest = turns.2 }))
      (λ there. turn-from turns.0 xs b (lawful-push first x turns.0 lawful turns.1) turns.2 e there)
      (cons-cases x xs e stands)

  turn-of : (b : Contents) → IsLawful i fuel b → (e : Entry) → Contains b.entries e → (before : Contents) × IsTurnIn i fuel b before e
  turn-of b lawful e stands = let opened : IsLawful i fuel (opening_contents i) = refl in turn-from (opening_contents i) b.entries b opened lawful e stands

-- a call ends as its run, but for one that ends before any step
call-traps : (fuel entry sp : ℕ) (args : List ℕ) (memory : Memory) → IsTrap (plain_run fuel (record { registers = first_registers args sp; pc = entry }) (untouched memory)).end → IsTrap (plain_call fuel entry args sp memory).end
unfolding plain_call
call-traps fuel entry sp args memory trap = cond_both (entry % FETCH_BYTES == 0) _ _ (λ (o : PlainOutcome). IsTrap o.end) (λ e. trap) (λ odd. inr refl)

-- the end of a turn
turn-traps : (i : Image) (fuel : ℕ) (before : Contents) (e : Entry) (after : Contents) (at : ℕ) → IsTurn i fuel before e after → EndsInTrapAt at (reached i before e.under e.stack) → IsTrappedAt i fuel before e at
turn-traps i fuel before e after at turn ends comes =
    let sp = base_of e.stack + STACK_PAGES * PAGE_BYTES in
    let memory = memory_before i before e.under e.stack in
    let trap = call-traps fuel (first_state i e).pc sp e.args memory (ends fuel (first_state i e) (untouched memory) refl comes).run in
    let same = ap (λ offset. plain i fuel before e.under e.stack offset e.args) (offset_there i e.export turn.export turn.exists) in
    subst IsTrap (ap (λ (o : PlainOutcome). o.end) same ∙ sym turn.end) trap

module _ (slots frames : ℕ) (l : Lines) (script : List Step) (o : Outcome) (closed : ClosedSeen) (to_run : IsToRun frames l script) (ran : IsRunBeside slots frames l script o closed) where
  lawful-at : (number : ℕ) (i : Image) (b : Contents) → slice_get l.images number ≡ Some i → slice_get o.books number ≡ Some b → IsLawful i l.fuel b
  lawful-at number i b loaded stored =
      let R : Image → Contents → Type 0 = λ x y. IsLawful x l.fuel y in
      subst (λ (y : Option Contents). IsSomeAnd y (R i)) stored
      (subst (λ (x : Option Image). MatchOption x (Unit {0}) (λ z. IsSomeAnd (slice_get o.books number) (R z))) loaded (AllZip-left R l.images o.books ran.sound.lawful number))

  pub trapped-elsewhere : AreTrappedElsewhere l o
  trapped-elsewhere number i b loaded stored e stands =
      let t = turn-of i l.fuel b (lawful-at number i b loaded stored) e stands in
      record {
        before = t.0;
        made = t.1;
        trapped = λ r listed other at inside.
            let f = finds-nothing slots frames l script o closed to_run ran number i b loaded stored e stands r listed other at inside in
            turn-traps i l.fuel t.0 e t.1.after at t.1.turn (f.ends fresh_stack t.0.fixed t.0.writable (length-zeros (STACK_PAGES * PAGE_BYTES)) (lawful-data i l.fuel t.0 t.1.lawful));
      }
