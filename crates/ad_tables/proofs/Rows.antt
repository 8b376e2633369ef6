-- The first entry that has a row.
use Rattle.std.proofs.Common.{◌≡◌, inl, inr, ℕ, ◌+◌, ◌<◌, ◌≤◌, nat_lt, true, false, cond, List, [], ◌∷◌, ◌++◌, Some, None, Result, Ok, Err, get_or, length, take, refl, sym, ap, ap₂, ◌∙◌, arith}
use Rattle.std.specs.Option.{is_some}
use Rattle.std.specs.Result.{IsErrAnd}
use Rattle.std.proofs.lemmas.Bool.{cases_Bool, ltb-false}
use Rattle.std.proofs.lemmas.List.{get_or_default, take_all, take_more}
use Rattle.std.proofs.lemmas.Option.{slice_get_read}
use Rattle.ad_base.specs.declared.layout.TheConstants.{LOCAL_WORDS}
use Rattle.ad_elf.specs.Below.{first}
use Rattle.ad_elf.proofs.Below.{first_here, first_more}
use Rattle.ad_elf.specs.declared.object.Object.{Object}
use Rattle.ad_elf.specs.declared.object.Rela.{Rela}
use Rattle.ad_parts.specs.declared.layout.Layout.{Layout}
use Rattle.ad_tables.specs.declared.need.Need.{Need}
use Rattle.ad_tables.specs.declared.need.Need.TheVariants.{Fixed, Local, Nothing}
use Rattle.ad_tables.specs.declared.refusal.TableRefusal.{TableRefusal}
use Rattle.ad_tables.specs.declared.refusal.TableRefusal.TheVariants.{LocalFull}
use Rattle.ad_tables.specs.declared.table_set.Lists.{Lists}
use Rattle.ad_tables.specs.declared.table_set.TableSet.{TableSet}
use Rattle.ad_tables.specs.Private.Entries.{with_symbol}
use Rattle.ad_tables.specs.Private.Lists.{lists_of, over, with_need}
use Rattle.ad_tables.specs.Tables.{AreTables, IsRefused, entry_row, first_row, fixed_symbols, local_symbols, need_of, is_fixed, is_local, section_words, unresolved_row, without_repeats}
use Rattle.ad_tables.proofs.Listed.{symbols_needing-push}

-- lists that aren't too long
some_none : {X : Type 0} (x : X) → Some x ≡ None → ⊥
some_none x e = cc

pub over-none : (s : Lists) → over s ≡ None → s.section_words + length s.local ≤ LOCAL_WORDS
over-none s e =
    elim (cases_Bool (nat_lt LOCAL_WORDS (s.section_words + length s.local))) [
      | inl more ↦ absurd (some_none LocalFull (rw more at e))
      | inr few ↦ ltb-false LOCAL_WORDS (s.section_words + length s.local) few
    ]

-- one entry more
lists_with : (o : Object) (l : Layout) (rs : List Rela) (symbol : ℕ) (n : Need) → Lists
lists_with o l rs symbol n = record {
  section_words = section_words l;
  local = cond (is_local n) (with_symbol (local_symbols o l rs) symbol) (local_symbols o l rs);
  fixed = cond (is_fixed n) (with_symbol (fixed_symbols o l rs) symbol) (fixed_symbols o l rs);
}

lists_with-is : (o : Object) (l : Layout) (rs : List Rela) (symbol : ℕ) (n : Need) → lists_with o l rs symbol n ≡ with_need (lists_of o l rs) n symbol
unfolding lists_with
lists_with-is o l rs symbol Nothing = refl
lists_with-is o l rs symbol Local = refl
lists_with-is o l rs symbol Fixed = refl

pub lists_of-push : (o : Object) (l : Layout) (rs : List Rela) (r : Rela) → lists_of o l (rs ++ r ∷ []) ≡ with_need (lists_of o l rs) (need_of o l r) r.symbol
unfolding lists_with
lists_of-push o l rs r =
    ap₂ (λ xs ys. let s : Lists = record { section_words = section_words l; local = xs; fixed = ys } in s) (symbols_needing-push is_local o l rs r) (symbols_needing-push is_fixed o l rs r)
    ∙ lists_with-is o l rs r.symbol (need_of o l r)

pub lists_of-more : (o : Object) (l : Layout) (k : ℕ) (r : Rela) → k < length o.relas → r ≡ get_or o.relas k r → lists_of o l (take (k + 1) o.relas) ≡ with_need (lists_of o l (take k o.relas)) (need_of o l r) r.symbol
lists_of-more o l k r below is =
    ap (lists_of o l) (take_more o.relas k r below ∙ ap (λ (x : Rela). take k o.relas ++ x ∷ []) (sym is)) ∙ lists_of-push o l (take k o.relas) r

pub lists_of-none : (o : Object) (l : Layout) (s : Lists) → s.section_words ≡ section_words l → s.local ≡ [] → s.fixed ≡ [] → s ≡ lists_of o l []
unfolding without_repeats
lists_of-none o l s words local fixed = λ i. record { section_words = words i; local = local i; fixed = fixed i }

-- the row of an entry
pub entry_row-unresolved : (o : Object) (l : Layout) (k : ℕ) (r : Rela) (t : TableRefusal) → k < length o.relas → r ≡ get_or o.relas k r → unresolved_row o l r ≡ Some t → entry_row o l k ≡ Some t
entry_row-unresolved o l k r t below is row = rw (slice_get_read o.relas (length o.relas) k r refl below is, row) refl

pub entry_row-over : (o : Object) (l : Layout) (k : ℕ) (r : Rela) → k < length o.relas → r ≡ get_or o.relas k r → unresolved_row o l r ≡ None
    → entry_row o l k ≡ over (with_need (lists_of o l (take k o.relas)) (need_of o l r) r.symbol)
entry_row-over o l k r below is fine = rw (slice_get_read o.relas (length o.relas) k r refl below is, fine) (ap over (lists_of-more o l k r below is))

-- the first row
pub refused_at_once : (o : Object) (l : Layout) → nat_lt LOCAL_WORDS (section_words l) ≡ true → IsRefused o l LocalFull
unfolding IsRefused
refused_at_once o l more = rw more refl

few_at_once : (o : Object) (l : Layout) (rs : List Rela) → over (lists_of o l rs) ≡ None → nat_lt LOCAL_WORDS (section_words l) ≡ false
few_at_once o l rs fits = grind (arith, over-none (lists_of o l rs) fits)

pub refused_at : (o : Object) (l : Layout) (k : ℕ) (t : TableRefusal) → over (lists_of o l (take k o.relas)) ≡ None → first (λ j. is_some (entry_row o l j)) k ≡ None → k < length o.relas → entry_row o l k ≡ Some t → IsRefused o l t
unfolding IsRefused
refused_at o l k t fits none below row =
    let here = sym (first_here (λ j. is_some (entry_row o l j)) k (length o.relas) none (ap is_some row) below) in
    rw (few_at_once o l (take k o.relas) fits, here) row

pub fine_at : (o : Object) (l : Layout) (k : ℕ) → first (λ j. is_some (entry_row o l j)) k ≡ None → entry_row o l k ≡ None → first (λ j. is_some (entry_row o l j)) (k + 1) ≡ None
fine_at o l k none row = first_more (λ j. is_some (entry_row o l j)) k none (ap is_some row)

pub first_row-none : (o : Object) (l : Layout) (rs : List Rela) (k : ℕ) → over (lists_of o l rs) ≡ None → first (λ j. is_some (entry_row o l j)) k ≡ None → k ≡ length o.relas → first_row o l ≡ None
first_row-none o l rs k fits none all = rw (few_at_once o l rs fits, sym all, none) refl

-- an entry by its place, and what an error that is handed on is
pub record IsEntry (o : Object) (k : ℕ) (r : Rela) : Type 0 where
  pub below : k < length o.relas
  pub is : r ≡ get_or o.relas k r

pub entry_at : (o : Object) (rs : List Rela) (k : ℕ) (d : Rela) → rs ≡ o.relas → k < length rs → IsEntry o k (get_or rs k d)
entry_at o rs k d same below = record {
  below = rw (← same) below;
  is = ap (λ (xs : List Rela). get_or xs k d) same ∙ get_or_default o.relas k d (get_or rs k d) (rw (← same) below);
}

pub handed_on : {A E : Type 0} (r : Result A E) (u : E) → IsErrAnd r (λ t. t ≡ u) → r ≡ Err u
handed_on (Ok a) u is = absurd is
handed_on (Err t) u is = ap Err is

-- the lists up to an entry that has no row
pub record AreUpto (o : Object) (l : Layout) (k : ℕ) (s : Lists) : Type 0 where
  pub lists : s ≡ lists_of o l (take k o.relas)
  pub fits : over s ≡ None
  pub none : first (λ j. is_some (entry_row o l j)) k ≡ None

fits_before : (o : Object) (l : Layout) (k : ℕ) (s : Lists) → AreUpto o l k s → over (lists_of o l (take k o.relas)) ≡ None
fits_before o l k s h = ap over (sym h.lists) ∙ h.fits

pub refused_unresolved : (o : Object) (l : Layout) (k : ℕ) (s : Lists) (r : Rela) (t : TableRefusal) → IsEntry o k r → AreUpto o l k s → unresolved_row o l r ≡ Some t → IsRefused o l t
refused_unresolved o l k s r t e h row = refused_at o l k t (fits_before o l k s h) h.none e.below (entry_row-unresolved o l k r t e.below e.is row)

over_entry : (o : Object) (l : Layout) (k : ℕ) (s : Lists) (r : Rela) (n : Need) → IsEntry o k r → AreUpto o l k s → unresolved_row o l r ≡ None → n ≡ need_of o l r → entry_row o l k ≡ over (with_need s n r.symbol)
over_entry o l k s r n e h fine need =
    entry_row-over o l k r e.below e.is fine ∙ ap₂ (λ (x : Lists) (y : Need). over (with_need x y r.symbol)) (sym h.lists) (sym need)

pub refused_over : (o : Object) (l : Layout) (k : ℕ) (s : Lists) (r : Rela) (n : Need) (t : TableRefusal) → IsEntry o k r → AreUpto o l k s → unresolved_row o l r ≡ None → n ≡ need_of o l r → over (with_need s n r.symbol) ≡ Some t → IsRefused o l t
refused_over o l k s r n t e h fine need row = refused_at o l k t (fits_before o l k s h) h.none e.below (over_entry o l k s r n e h fine need ∙ row)

pub upto_more : (o : Object) (l : Layout) (k : ℕ) (s new : Lists) (r : Rela) (n : Need) → IsEntry o k r → AreUpto o l k s → unresolved_row o l r ≡ None → n ≡ need_of o l r → new ≡ with_need s n r.symbol → over new ≡ None → AreUpto o l (k + 1) new
upto_more o l k s new r n e h fine need is fits = record {
  lists = is ∙ ap₂ (λ (x : Lists) (y : Need). with_need x y r.symbol) h.lists need ∙ sym (lists_of-more o l k r e.below e.is);
  fits = fits;
  none = fine_at o l k h.none (over_entry o l k s r n e h fine need ∙ ap over (sym is) ∙ fits);
}

pub upto_all : (o : Object) (l : Layout) (k : ℕ) (s : Lists) (t : TableSet) → AreUpto o l k s → k ≡ length o.relas → t.local ≡ s.local → t.fixed ≡ s.fixed → AreTables o l t
upto_all o l k s t h all local fixed =
    let whole : take k o.relas ≡ o.relas = take_all k o.relas (omega (arith, all)) in
    let lists : s ≡ lists_of o l o.relas = h.lists ∙ ap (lists_of o l) whole in
    record {
      no_row = first_row-none o l (take k o.relas) k (fits_before o l k s h) h.none all;
      local_found = local ∙ ap (λ (x : Lists). x.local) lists;
      fixed_found = fixed ∙ ap (λ (x : Lists). x.fixed) lists;
    }
