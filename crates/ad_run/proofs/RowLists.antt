-- The rows of mappings once one more mapping was made: it retires the row of its thing that has no line yet.
use Rattle.std.proofs.Common.{◌≡◌, ◌≢◌, inl, inr, ℕ, ◌+◌, ◌≤◌, List, [], ◌∷◌, ◌++◌, length, map, slice_get, Some, refl, sym, ap, subst, ◌∙◌, arith}
use Rattle.std.proofs.lemmas.Bool.Decides.{eqb_tells}
use Rattle.std.proofs.lemmas.List.{length-map}
use Rattle.ad_base.specs.declared.ledger.Kind.{Kind}
use Rattle.ad_base.specs.declared.ledger.Row.{Row}
use Rattle.ad_base.specs.Count.{risen}
use Rattle.ad_base.specs.Ledger.{IsLedger, IsUnmappedOnce, Mapping}
use Rattle.ad_lines.specs.LineRun.{retired}
use Rattle.ad_lines.specs.Opening.{row_of}
use Rattle.ad_lines.proofs.LedgerRuns.{IsMadeLater, later-push, ledger-push}
use Rattle.ad_lines.proofs.ListReads.{Each, each-push, map-read, read-front, read-last, read-map}
use Rattle.ad_lines.proofs.Rows.{NumberedFrom, numbered-map, numbered-push, retired-else, retired-here, retired-number, retired_row}

-- a row for each mapping, numbered from 1
pub record AreRowsFor (all : List Mapping) (rows : List Row) : Type 0 where
  pub ledger : IsLedger all rows
  pub later : IsMadeLater all
  pub numbers : NumberedFrom 1 rows
  pub once : Each IsUnmappedOnce rows

-- a thing has a row with no line, of this number
pub record HasOpenRow (rows : List Row) (kind : Kind) (who number : ℕ) : Type 0 where
  pub at : ℕ
  pub row : Row
  pub found : slice_get rows at ≡ Some row
  pub of_kind : row.kind ≡ kind
  pub of_who : row.who ≡ who
  pub no_line : row.line ≡ 0
  pub number_is : number ≡ at + 1

-- the rows once a mapping was made in the place of that of a number
abbrev pub with_row : ℕ → Mapping → List Row → List Row
with_row number n rows = map (retired number n.line) rows ++ row_of n ∷ []

-- what is unmapped by a line is unmapped once
retired-once : (line : ℕ) (r : Row) → 1 ≤ line → r.unmaps ≡ 0 → IsUnmappedOnce (retired_row line r)
retired-once line r some none = record { once = λ e. ap risen none; never = λ e. absurd (omega (arith, e)) }

module _ (all : List Mapping) (rows : List Row) (n : Mapping) (number : ℕ) (are : AreRowsFor all rows) (c : HasOpenRow rows n.kind n.who number) where
  -- a row of that number is the one with no line
  only : (k : ℕ) (r : Row) → slice_get rows k ≡ Some r → r.mapping ≡ number → r ≡ c.row
  only k r e is =
      let at : k ≡ c.at = omega (arith, is, c.number_is, are.numbers k r e) in
      let same : Some r ≡ Some c.row = sym e ∙ ap (slice_get rows) at ∙ c.found in
      cc

  pub open-number : c.row.mapping ≡ number
  open-number = are.numbers c.at c.row c.found ∙ sym c.number_is

  -- what holds of each row then
  pub each-with : (P Q : Row → Type 0) → ((r : Row) → P r → r.mapping ≢ number → Q r) → (P c.row → Q (retired_row n.line c.row)) → Q (row_of n) → Each P rows → Each Q (with_row number n rows)
  each-with P Q stays goes new h =
      each-push Q (map (retired number n.line) rows) (row_of n)
      (λ k y e.
      let x = map-read (retired number n.line) rows k y e in
      subst Q x.2 (elim (eqb_tells x.0.mapping number) [
        | inl is ↦
            let row = only k x.0 x.1 is.1 in
            let written = retired-here number n.line x.0 is.1 ∙ ap (retired_row n.line) row in
            subst Q (sym written) (goes (subst P row (h k x.0 x.1)))
        | inr other ↦ subst Q (sym (retired-else number n.line x.0 other.1)) (stays x.0 (h k x.0 x.1) other.1)
      ])) new

  -- the rows of other things that have no line have none then
  pub open-others : (k : Kind) (w x : ℕ) → (k ≡ n.kind → w ≡ n.who → ⊥) → HasOpenRow rows k w x → HasOpenRow (with_row number n rows) k w x
  open-others k w x apart h =
      let different : h.row.mapping ≡ number → ⊥ = λ e.
      let row = only h.at h.row h.found e in
      apart (sym h.of_kind ∙ ap (λ (r : Row). r.kind) row ∙ c.of_kind) (sym h.of_who ∙ ap (λ (r : Row). r.who) row ∙ c.of_who) in
      let stays = retired-else number n.line h.row different in
      record {
        at = h.at;
        row = h.row;
        found = read-front (map (retired number n.line) rows) (row_of n ∷ []) h.at h.row (read-map (retired number n.line) rows h.at h.row h.found ∙ ap Some stays);
        of_kind = h.of_kind;
        of_who = h.of_who;
        no_line = h.no_line;
        number_is = h.number_is;
      }

  -- the new row has none
  pub open-here : HasOpenRow (with_row number n rows) n.kind n.who (length rows + 1)
  open-here = record {
    at = length (map (retired number n.line) rows);
    row = row_of n;
    found = read-last (map (retired number n.line) rows) (row_of n);
    of_kind = refl;
    of_who = refl;
    no_line = refl;
    number_is = ap (λ k. k + 1) (sym (length-map rows (retired number n.line)));
  }

  pub rows-with : 1 ≤ n.line → n.place.mapping ≡ length rows + 1 → AreRowsFor (all ++ n ∷ []) (with_row number n rows)
  rows-with some next =
      let written = map (retired number n.line) rows in
      record {
        ledger = ledger-push all rows n number 1 are.numbers are.ledger are.later c.at c.row c.found c.of_kind c.of_who c.no_line c.number_is;
        later = later-push all n are.later some;
        numbers = numbered-push 1 written (row_of n) (numbered-map (retired number n.line) (retired-number number n.line) 1 rows are.numbers) (omega (arith, next, length-map rows (retired number n.line)));
        once = each-with IsUnmappedOnce IsUnmappedOnce (λ r h other. h) (λ h. retired-once n.line c.row some (h.never c.no_line)) (record { once = λ e. absurd (e refl); never = λ e. refl }) are.once;
      }
