-- The clear calls of a lawful book reply as the symbolic machine does.
use Rattle.std.proofs.Common.{◌≡◌, ℕ, zero, suc, ◌+◌, ◌*◌, ◌%◌, ◌^◌, ◌<◌, Bool, true, false, List, [], ◌∷◌, map, length, slice_get, Option, Some, None, Result, Ok, Err, refl, sym, ap, subst, ◌∙◌, arith}
use Rattle.std.specs.List.{All}
use Rattle.std.specs.Option.{option_map_or}
use Rattle.std.specs.Prelude.{if◌then◌else◌}
use Rattle.std.proofs.lemmas.List.Elements.{All-head, All-tail}
use Rattle.ad_base.specs.declared.book.Entry.{Entry}
use Rattle.ad_base.specs.declared.image.Export.{Export}
use Rattle.ad_base.specs.declared.image.Image.{Image}
use Rattle.ad_base.specs.declared.layout.TheConstants.{PAGE_BYTES, STACK_PAGES}
use Rattle.ad_base.specs.Book.{Contents}
use Rattle.ad_base.specs.Image.{IsWhole}
use Rattle.ad_base.specs.Place.{base_of}
use Rattle.ad_base.specs.Segments.{extents, is_data, is_fixed_data}
use Rattle.ad_base.proofs.Extents.{length-bytes_of_role}
use Rattle.ad_core.specs.Turn.{AreTurns, IsLawful, IsTurn, fixed_data_of, memory_before, opening_contents, plain, reached, writable_of, export_offset}
use Rattle.ad_core.proofs.Stay.{called_extents}
use Rattle.ad_symbolic.specs.declared.value.Value.TheVariants.{Num}
use Rattle.ad_symbolic.specs.AddressSpace.{numbers_of}
use Rattle.ad_symbolic.specs.Machine.{SymbolicOutcome, Unclear}
use Rattle.ad_symbolic.specs.Replay.{Answer, Clear, Keeps, Kept, answer_of, answers_from, clear_calls, end_of, keeps_none, kept_of, left_by, number_or_zero, replay, run_of}
use Rattle.ad_symbolic.specs.Replay as symbolic
use Rattle.ad_relate.specs.Stands.{DataFits, IsApart}
use Rattle.ad_relate.specs.ClearHistory.{AreOffsets, ArePlacedApart, RepliesAsReplayed, asked_of, entry_places}
use Rattle.ad_relate.proofs.Clear.{agrees}

-- what holds of all holds of the one at a place
all-there : {X : Type 0} (P : X → Type 0) (xs : List X) (k : ℕ) (x : X) → All P xs → slice_get xs k ≡ Some x → P x
all-there P [] k x h e = absurd cc
all-there P (y ∷ ys) zero x h e = let same : y ≡ x = cc in subst P same (All-head P y ys h)
all-there P (y ∷ ys) (suc k) x h e = all-there P ys k x (All-tail P y ys h) e

-- the offset of an export that is there
pub offset-there : (i : Image) (number : ℕ) (export : Export) → slice_get i.exports number ≡ Some export → export_offset i number ≡ export.offset
offset-there i number export e = ap (λ o. option_map_or (λ (x : Export). x.offset) o 0) e

-- a call leaves as much data as there was
module _ (i : Image) (fuel : ℕ) (book : Contents) (e : Entry) (offset : ℕ) where
  same-extents : extents (plain i fuel book e.under e.stack offset e.args).memory.segments ≡ extents (reached i book e.under e.stack)
  same-extents = called_extents fuel ((base_of e.under + offset) % 2 ^ 64) (base_of e.stack + STACK_PAGES * PAGE_BYTES) e.args (memory_before i book e.under e.stack)

  length-writable : length (writable_of (plain i fuel book e.under e.stack offset e.args)) ≡ length book.writable
  length-writable = length-bytes_of_role is_data (plain i fuel book e.under e.stack offset e.args).memory.segments (reached i book e.under e.stack) same-extents

  length-fixed : length (fixed_data_of (plain i fuel book e.under e.stack offset e.args)) ≡ length book.fixed
  length-fixed = length-bytes_of_role is_fixed_data (plain i fuel book e.under e.stack offset e.args).memory.segments (reached i book e.under e.stack) same-extents

module _ (i : Image) (fuel : ℕ) (offsets : AreOffsets i) where
  -- the symbolic machine keeps what the book holds
  record IsKept (k : Kept) (book : Contents) : Type 0 where
    same : k ≡ kept_of book
    fits : DataFits i book

  -- what a clear call of the symbolic machine says of an entry, and what it leaves
  record IsAnswered (e : Entry) (after : Contents) (o : SymbolicOutcome) : Type 0 where
    end : e.end ≡ end_of o.finish
    notes : e.notes ≡ map number_or_zero o.memory.notes
    left : IsKept (record { writable = symbolic.writable_of o; fixed = symbolic.fixed_data_of o; queue = o.memory.queue }) after

  answered : (k : Kept) (before after : Contents) (e : Entry) (o : SymbolicOutcome) → IsKept k before → IsTurn i fuel before e after → IsApart i (entry_places e) → run_of i fuel k (asked_of i e) ≡ Ok o → keeps_none o ≡ true → IsAnswered e after o
  answered k before after e o kept turn apart ran none =
      let offset = turn.export.offset in
      let there = offset-there i e.export turn.export turn.exists in
      let below : export_offset i e.export < 2 ^ 64 = subst (λ n. n < 2 ^ 64) (sym there) (all-there (λ (x : Export). x.offset < 2 ^ 64) i.exports e.export turn.export offsets turn.exists) in
      let from : run_of i fuel (kept_of before) (asked_of i e) ≡ Ok o = ap (λ x. run_of i fuel x (asked_of i e)) (sym kept.same) ∙ ran in
      let c = agrees i (entry_places e) fuel before (asked_of i e) o apart kept.fits below from none in
      let same : plain i fuel before e.under e.stack (export_offset i e.export) e.args ≡ plain i fuel before e.under e.stack offset e.args =
      ap (λ n. plain i fuel before e.under e.stack n e.args) there in
      let written = c.writable ∙ ap (λ p. numbers_of (writable_of p)) same ∙ ap numbers_of (sym turn.writable) in
      let fixed = c.fixed ∙ ap (λ p. numbers_of (fixed_data_of p)) same ∙ ap numbers_of (sym turn.fixed) in
      let queued = c.queue ∙ ap (λ p. map Num p.memory.queue) same ∙ ap (map Num) (sym turn.device) in
      record {
        end = turn.end ∙ ap (λ p. p.end) (sym same) ∙ c.end;
        notes = turn.notes ∙ ap (λ p. p.memory.notes) (sym same) ∙ c.notes;
        left = record {
          same = λ j. record { writable = written j; fixed = fixed j; queue = queued j };
          fits = record {
            writable = ap length turn.writable ∙ length-writable i fuel before e offset ∙ kept.fits.writable;
            fixed = ap length turn.fixed ∙ length-fixed i fuel before e offset ∙ kept.fits.fixed;
          };
        };
      }

  -- what replay says of calls, from what is kept on
  said : Option Kept → List Entry → List Answer
  said k es = answers_from i fuel k (map (asked_of i) es)

  -- the replies of the clear history, from what is kept on
  Replied : Kept → List Entry → Type 0
  Replied k es = (n : ℕ) (e : Entry) → n < clear_calls (said (Some k) es) → slice_get es n ≡ Some e → slice_get (said (Some k) es) n ≡ Some (Clear e.end e.notes)

  -- the answer for the first call and what it leaves, by whether it keeps an address
  answer_by : Bool → SymbolicOutcome → Answer
  answer_by none o = if none then Clear (end_of o.finish) (map number_or_zero o.memory.notes) else Keeps

  left_by_none : Bool → SymbolicOutcome → Option Kept
  left_by_none none o = if none then Some (record { writable = symbolic.writable_of o; fixed = symbolic.fixed_data_of o; queue = o.memory.queue }) else None

  by_keeping : (x : Entry) (xs : List Entry) (next : Contents) (o : SymbolicOutcome) (none : Bool) → (none ≡ true → IsAnswered x next o) → ((k : Kept) → IsKept k next → Replied k xs) → (n : ℕ) (e : Entry) → n < clear_calls (answer_by none o ∷ said (left_by_none none o) xs) → slice_get (x ∷ xs) n ≡ Some e → slice_get (answer_by none o ∷ said (left_by_none none o) xs) n ≡ Some (Clear e.end e.notes)
  unfolding said Replied answer_by left_by_none
  by_keeping x xs next o false is rest n e less at = absurd (omega arith)
  by_keeping x xs next o true is rest zero e less at =
      let a = is refl in
      let same : x ≡ e = cc in
      (λ j. Some (Clear (sym a.end j) (sym a.notes j))) ∙ ap (λ (y : Entry). Some (Clear y.end y.notes)) same
  by_keeping x xs next o true is rest (suc n) e less at = rest _ (is refl).left n e (omega arith) at

  by_run : (x : Entry) (xs : List Entry) (next : Contents) (ran : Result SymbolicOutcome Unclear) → ((o : SymbolicOutcome) → ran ≡ Ok o → keeps_none o ≡ true → IsAnswered x next o) → ((k : Kept) → IsKept k next → Replied k xs) → (n : ℕ) (e : Entry) → n < clear_calls (answer_of ran ∷ said (left_by ran) xs) → slice_get (x ∷ xs) n ≡ Some e → slice_get (answer_of ran ∷ said (left_by ran) xs) n ≡ Some (Clear e.end e.notes)
  unfolding said Replied answer_by left_by_none
  by_run x xs next (Err u) is rest n e less at = absurd (omega arith)
  by_run x xs next (Ok o) is rest n e less at = by_keeping x xs next o (keeps_none o) (is o refl) rest n e less at

  replied : (k : Kept) (es : List Entry) (before after : Contents) → IsKept k before → AreTurns i fuel before es after → ArePlacedApart i es → Replied k es
  unfolding said Replied
  replied k [] before after kept turns apart n e less at = absurd cc
  replied k (x ∷ xs) before after kept turns apart n e less at =
      let P : Entry → Type 0 = λ y. IsApart i (entry_places y) in
      by_run x xs turns.0 (run_of i fuel k (asked_of i x)) (λ o. answered k before turns.0 x o kept turns.1 (All-head P x xs apart))
      (λ left l. replied left xs turns.0 after l turns.2 (All-tail P x xs apart)) n e less at

-- the replies of the calls of a lawful book
pub replies : (i : Image) (fuel : ℕ) (book : Contents) → IsWhole i → IsLawful i fuel book → ArePlacedApart i book.entries → AreOffsets i → RepliesAsReplayed i fuel book.entries
unfolding said Replied replay
replies i fuel book whole lawful apart offsets =
    let opening = opening_contents i in
    replied i fuel offsets (kept_of opening) book.entries opening book (record { same = refl; fits = record { writable = whole.writable; fixed = whole.fixed_data } }) lawful apart
