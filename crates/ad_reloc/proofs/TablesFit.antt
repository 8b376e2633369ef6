-- The tables of an object are no longer than they may be.
use Rattle.std.proofs.Common.{◌≡◌, inl, inr, ℕ, ◌+◌, ◌<◌, ◌≤◌, nat_lt, false, List, [], ◌∷◌, Option, Some, None, is_some, option_and_then, length, take, refl, sym, ap, ◌∙◌, arith}
use Rattle.std.proofs.lemmas.Bool.{cases_Bool, ltb-false}
use Rattle.ad_base.specs.declared.layout.TheConstants.{LOCAL_WORDS, TABLE_WORDS}
use Rattle.ad_elf.specs.Below.{first}
use Rattle.ad_elf.proofs.Below.{fails_where_none}
use Rattle.ad_elf.specs.declared.object.Object.{Object}
use Rattle.ad_elf.specs.declared.object.Rela.{Rela}
use Rattle.ad_parts.specs.declared.layout.Layout.{Layout}
use Rattle.ad_tables.specs.declared.refusal.TableRefusal.TheVariants.{FixedFull, LocalFull}
use Rattle.ad_tables.specs.declared.table_set.TableSet.{TableSet}
use Rattle.ad_tables.specs.Tables.{AreTables, entry_row, fixed_symbols, local_symbols, row_upto, section_words, too_long, without_repeats}
use Rattle.ad_reloc.proofs.Linkable.{or_parts, some_none}
use Rattle.ad_reloc.proofs.Spellable.{clash, first_holds}
use lib.Seq.{take_all}

no_some : {X : Type 0} (x : Option X) → is_some x ≡ false → x ≡ None
no_some None e = refl
no_some (Some x) e = cc

none_below : {X : Type 0} (f : ℕ → Option X) (n : ℕ) (x : Option ℕ) → first (λ k. is_some (f k)) n ≡ x → option_and_then f x ≡ None → (k : ℕ) → k < n → f k ≡ None
none_below f n None e none k below = no_some (f k) (fails_where_none (λ k. is_some (f k)) n k e below)
none_below f n (Some i) e none k below = absurd (clash _ (first_holds (λ k. is_some (f k)) n i e) (ap is_some none))

fits_long : (words : ℕ) (local fixed : List ℕ) → too_long words local fixed ≡ None → (words + length local ≤ LOCAL_WORDS) × (length fixed ≤ TABLE_WORDS)
fits_long words local fixed e =
    elim (cases_Bool (nat_lt LOCAL_WORDS (words + length local))) [
      | inl more ↦ absurd (some_none LocalFull (rw more at e))
      | inr less ↦ (elim (cases_Bool (nat_lt TABLE_WORDS (length fixed))) [
        | inl more ↦ absurd (some_none FixedFull (rw (less, more) at e))
        | inr fewer ↦ (ltb-false LOCAL_WORDS (words + length local) less, ltb-false TABLE_WORDS (length fixed) fewer)
      ])
    ]

upto_all : (o : Object) (l : Layout) (rs : List Rela) → rs ≡ o.relas → section_words l ≤ LOCAL_WORDS → ((k : ℕ) → k < length o.relas → entry_row o l k ≡ None)
    → (section_words l + length (local_symbols o l rs) ≤ LOCAL_WORDS) × (length (fixed_symbols o l rs) ≤ TABLE_WORDS)
unfolding without_repeats
upto_all o l [] same few none = (omega (arith, few), omega arith)
upto_all o l (r ∷ rs) same few none =
    let last = (or_parts _ (row_upto o l (take (length rs + 1) o.relas)) (none (length rs) (omega (arith, ap length same)))).1 in
    let whole : take (length rs + 1) o.relas ≡ r ∷ rs = take_all (length rs + 1) o.relas (omega (arith, ap length same)) ∙ sym same in
    fits_long (section_words l) (local_symbols o l (r ∷ rs)) (fixed_symbols o l (r ∷ rs)) (ap (row_upto o l) (sym whole) ∙ last)

pub tables_fit : (o : Object) (l : Layout) (t : TableSet) → AreTables o l t → (section_words l + length t.local ≤ LOCAL_WORDS) × (length t.fixed ≤ TABLE_WORDS)
tables_fit o l t h =
    let row = h.no_row in
    elim (cases_Bool (nat_lt LOCAL_WORDS (section_words l))) [
      | inl more ↦ absurd (some_none LocalFull (rw more at row))
      | inr less ↦ (let all = upto_all o l o.relas refl (ltb-false LOCAL_WORDS (section_words l) less) (none_below (entry_row o l) (length o.relas) (first (λ k. is_some (entry_row o l k)) (length o.relas)) refl (rw less at row)) in
          (omega (arith, all.0, ap length h.local_found), omega (arith, all.1, ap length h.fixed_found)))
    ]

pub same_fit : (o : Object) (l m : Layout) (t u : TableSet) → AreTables o l t → m ≡ l → u ≡ t → (section_words m + length u.local ≤ LOCAL_WORDS) × (length u.fixed ≤ TABLE_WORDS)
same_fit o l m t u h same alike =
    let fit = tables_fit o l t h in
    (omega (arith, fit.0, ap (λ (l : Layout). section_words l) same, ap (λ (t : TableSet). length t.local) alike), omega (arith, fit.1, ap (λ (t : TableSet). length t.fixed) alike))
