-- What holds of a run beside, from what its calls, its moves and its closed tables say.
use Rattle.std.proofs.Common.{◌≡◌, ℕ, List, length, map, refl, sym, ap, subst, ◌∙◌}
use Rattle.std.specs.List.{Contains}
use Rattle.std.proofs.lemmas.List.{length-map}
use Rattle.ad_base.specs.declared.book.Book.{Book}
use Rattle.ad_base.specs.declared.ledger.Kind.TheVariants.{Code, Stack}
use Rattle.ad_base.specs.declared.ledger.Row.{Row}
use Rattle.ad_base.specs.Book.{contents_of}
use Rattle.ad_base.specs.Ledger.{is_same_kind}
use Rattle.ad_lines.specs.Sound.{IsSoundRun, Lines}
use Rattle.ad_maps.specs.Ledger.{all_made}
use Rattle.ad_maps.specs.Rows.{ClosedSeen, HaveReadRows, HaveUnmappedRows, HaveUnmapsTold}
use Rattle.ad_maps.proofs.Elements.{filter-from}
use Rattle.ad_mover.specs.Moves.{Moving}
use Rattle.ad_run.specs.Beside.{IsRunBeside}
use Rattle.ad_run.specs.Opened.{opening_in_frames, shape_for}
use Rattle.ad_run.proofs.AllRows.{AreClosedRows, IsMoverRun, all-are, code-are, last-rows, stacks-are}
use Rattle.ad_run.proofs.Books.{calls-made, lawful-books}
use Rattle.ad_run.proofs.Busy.{busy-full}
use Rattle.ad_run.proofs.Clear.{clear-on-rows}
use Rattle.ad_run.proofs.Ledgers.{of_row_kind, same-kind-is}
use Rattle.ad_run.proofs.OnRows.{HaveCodeRows, HaveStackRows, code-rows, on-rows, stack-rows}
use Rattle.ad_run.proofs.Ran.{HasRun}
use Rattle.ad_run.proofs.SoundRows.{code-within, fixed-within, rows-regions, sound-rows, stacks-within}
use Rattle.ad_run.proofs.Told.{told-in}
use Rattle.ad_script.specs.declared.script.Step.{Step}
use Rattle.ad_stacks.specs.Ledger.{HaveRows}
use Rattle.ad_wrapper.specs.declared.hands.Hands.{Hands}
use Rattle.ad_wrapper.specs.declared.shared.Shared.{Shared}

-- what the closed tables say of their shape and of the seats
pub record AreClosedSeats (slots frames : ℕ) (l : Lines) (after : List Hands) (last : Moving) (code stacks : List Row) (seen : ClosedSeen) : Type 0 where
  pub shape_is : seen.shape ≡ shape_for slots frames l
  pub rows_are : seen.rows ≡ code
  pub deeds_are : seen.mover.deeds ≡ last.deeds
  pub seats_are : seen.seats ≡ map (λ (h : Hands). h.seat) after
  pub reads : HaveReadRows code (map (λ (h : Hands). h.seat) after)
  pub took : HaveRows stacks (map (λ (h : Hands). h.stack_seat) after)
  pub unmaps : HaveUnmapsTold seen.rows seen.mover.deeds seen.seats
  pub unmapped : HaveUnmappedRows seen.rows seen.mover.deeds seen.seats

module _ (slots frames : ℕ) (l : Lines) (script : List Step) (s : Shared) (before after : List Hands) (books : List Book) (ran : HasRun slots frames l s before after books) (last : Moving) (run : IsMoverRun slots frames l script last)
    (code stacks all : List Row) (closed : AreClosedRows slots frames l last code stacks all) (seen : ClosedSeen) (seats : AreClosedSeats slots frames l after last code stacks seen) where
  stack-kinds : (r : Row) → Contains stacks r → r.kind ≡ Stack
  stack-kinds r c =
      let of = filter-from (λ (x : Row). is_same_kind Stack x.kind) (last-rows slots frames l script last run).rows r (subst (λ xs. Contains xs r) (stacks-are slots frames l script last run code stacks all closed) c) in
      sym (same-kind-is Stack r.kind of.1)

  on-code : HaveCodeRows after all
  on-code = code-rows after (all_made (shape_for slots frames l) last.deeds) last.deeds code all closed.each_row seats.reads (code-within slots frames l script last run code stacks all closed)

  on-stacks : HaveStackRows after all
  on-stacks = stack-rows after stacks all seats.took stack-kinds (stacks-within slots frames l script last run code stacks all closed)

  sound : IsSoundRun (opening_in_frames frames l) l (record { books = map contents_of books; moves = last.moves; rows = all })
  sound =
      let rows = sound-rows slots frames l script last run code stacks all closed in
      record {
        lawful = lawful-books slots frames l s before after books ran;
        calls = λ m w b e. calls-made slots frames l s before after books ran m w b e;
        clear = clear-on-rows slots frames l s before after books ran all (rows-regions slots frames l script last run code stacks all closed) (fixed-within slots frames l script last run code stacks all closed) on-code run.loaded.offsets;
        moves_are = rows.moves_are;
        places = rows.places;
        ledger = rows.ledger;
        unmapped = rows.unmapped;
      }

  pub run-beside : IsRunBeside slots frames l script (record { books = map contents_of books; moves = last.moves; rows = all }) seen
  run-beside = record {
    sound = sound;
    on_rows = on-rows slots frames l s before after books ran last.moves all on-code on-stacks;
    last = last;
    made = run.made;
    moves = refl;
    deeds = seats.deeds_are;
    busy = busy-full slots frames l script last run;
    seats = ap length seats.seats_are ∙ length-map after (λ (h : Hands). h.seat) ∙ ran.count;
    shape = seats.shape_is;
    told = told-in slots frames l s before after books ran seen.seats seats.seats_are;
    rows = seats.rows_are ∙ code-are slots frames l script last run code stacks all closed ∙ ap (of_row_kind Code) (sym (all-are slots frames l script last run code stacks all closed));
    unmaps = seats.unmaps;
    unmapped = seats.unmapped;
  }
