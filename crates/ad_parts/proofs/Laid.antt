-- One section more is laid in its area.
use Rattle.std.proofs.Common.{◌≡◌, inl, inr, ℕ, zero, suc, ◌+◌, ◌-◌, ◌^◌, ◌<◌, ◌≤◌, ◌==◌, nat_le, true, false, cond, List, [], ◌∷◌, ◌++◌, add-one, append_assoc, drop, find, not, None, filter, fold, get_or, length, take, refl, sym, ap, ◌∙◌, arith}
use Rattle.std.specs.List.{All, AllPairs, list_all, list_any}
use Rattle.ad_elf.specs.Range.{IsInRange}
use Rattle.ad_elf.specs.declared.object.Object.{Object}
use Rattle.ad_elf.proofs.Found.{find_none}
use Rattle.std.proofs.Math.Seq.{drop-cons}
use Rattle.ad_parts.specs.declared.layout.Sizes.{Sizes}
use Rattle.ad_parts.specs.declared.layout.Spot.{Spot}
use Rattle.ad_parts.specs.Layout.{ends, spot, spots_behind}
use Rattle.std.proofs.Math.Nat.{div-mul-le_self}
use Rattle.std.proofs.lemmas.Bool.{and_parts, not-false, cases_Bool, cases_eq, cond-false, cond-true, eqb-true, leb-true, ne_eqb, or_cases}
use Rattle.std.proofs.lemmas.List.{append-nil, drop_all, length-append, take_more}
use Rattle.std.proofs.lemmas.List.Elements.{All-weaker, filter-append}
use Rattle.std.proofs.lemmas.List.Sums.{sum_by-append}
use Rattle.ad_elf.specs.declared.object.Section.{Section}
use Rattle.ad_parts.specs.Area.{area_of, is_same}
use Rattle.ad_parts.specs.declared.area.Area.{Area}
use Rattle.ad_parts.specs.declared.area.Area.TheVariants.{FixedReadOnly, FixedText, FixedWritable, Local, ReadOnly, Text, Writable}
use Rattle.ad_parts.specs.declared.ends.Ends.{Ends}
use Rattle.ad_parts.specs.Ends.{AreEnds, AreShort, align_of, alignments, area_end, end_at, end_of, ends_behind, is_aligned, next, with_end}

-- another end of one area changes that end alone
pub end_at-with_end : (e : Ends) (a b : Area) (n : ℕ) → end_at (with_end e a n) b ≡ cond (is_same a b) n (end_at e b)
end_at-with_end e Text Text n = refl
end_at-with_end e Text _ n = refl
end_at-with_end e ReadOnly ReadOnly n = refl
end_at-with_end e ReadOnly _ n = refl
end_at-with_end e Local Local n = refl
end_at-with_end e Local _ n = refl
end_at-with_end e Writable Writable n = refl
end_at-with_end e Writable _ n = refl
end_at-with_end e FixedText FixedText n = refl
end_at-with_end e FixedText _ n = refl
end_at-with_end e FixedReadOnly FixedReadOnly n = refl
end_at-with_end e FixedReadOnly _ n = refl
end_at-with_end e FixedWritable FixedWritable n = refl
end_at-with_end e FixedWritable _ n = refl

is_same-is : (a b : Area) → is_same a b ≡ true → a ≡ b
is_same-is Text Text e = refl
is_same-is Text _ e = cc
is_same-is ReadOnly ReadOnly e = refl
is_same-is ReadOnly _ e = cc
is_same-is Local Local e = refl
is_same-is Local _ e = cc
is_same-is Writable Writable e = refl
is_same-is Writable _ e = cc
is_same-is FixedText FixedText e = refl
is_same-is FixedText _ e = cc
is_same-is FixedReadOnly FixedReadOnly e = refl
is_same-is FixedReadOnly _ e = cc
is_same-is FixedWritable FixedWritable e = refl
is_same-is FixedWritable _ e = cc

-- where sections end with one more
fold-append : {A B : Type 0} (f : B → A → B) (b : B) (xs : List A) (x : A) → fold f b (xs ++ x ∷ []) ≡ f (fold f b xs) x
fold-append f b [] x = refl
fold-append f b (y ∷ xs) x = fold-append f (f b y) xs x

end_of-push : (ss : List Section) (s : Section) → end_of (ss ++ s ∷ []) ≡ next (align_of s) (end_of ss) + s.size
unfolding end_of
end_of-push ss s = fold-append (λ at (s : Section). next (align_of s) at + s.size) 0 ss s

pub area_end-push : (a : Area) (ss : List Section) (s : Section) → area_end a (ss ++ s ∷ []) ≡ cond (is_same (area_of s) a) (next (align_of s) (area_end a ss) + s.size) (area_end a ss)
area_end-push a ss s =
    ap end_of (filter-append (λ (s : Section). is_same (area_of s) a) ss (s ∷ []))
    ∙ elim (cases_Bool (is_same (area_of s) a)) [
      | inl same ↦ (rw (cond-true (is_same (area_of s) a) (s ∷ []) [] same, same) (end_of-push (filter (λ (s : Section). is_same (area_of s) a) ss) s))
      | inr other ↦ (rw (cond-false (is_same (area_of s) a) (s ∷ []) [] other, other, append-nil) refl)
    ]

-- the choice of an end, where the old ends agree
chosen : (ss : List Section) (e : Ends) (s : Section) (a : Area) → AreEnds ss e
    → cond (is_same (area_of s) a) (next (align_of s) (end_at e (area_of s)) + s.size) (end_at e a)
    ≡ cond (is_same (area_of s) a) (next (align_of s) (area_end a ss) + s.size) (area_end a ss)
chosen ss e s a h =
    elim (cases_Bool (is_same (area_of s) a)) [
      | inl same ↦ (rw same (ap (λ (n : ℕ). next (align_of s) n + s.size) (h.each_one (area_of s) ∙ ap (λ (b : Area). area_end b ss) (is_same-is (area_of s) a same))))
      | inr other ↦ (rw other (h.each_one a))
    ]

pub AreEnds-push : (ss : List Section) (e : Ends) (s : Section) → AreEnds ss e → AreEnds (ss ++ s ∷ []) (ends_behind e s)
AreEnds-push ss e s h = record { each_one = λ a. end_at-with_end e (area_of s) a _ ∙ chosen ss e s a h ∙ sym (area_end-push a ss s) }

-- an alignment that is taken
any_below : (n x : ℕ) (xs : List ℕ) → list_all (λ a. nat_le a n) xs ≡ true → list_any (λ a. a == x) xs ≡ true → x ≤ n
any_below n x [] all any = cc
any_below n x (y ∷ xs) all any =
    let each = and_parts (nat_le y n) (list_all (λ a. nat_le a n) xs) all in
    elim (or_cases (y == x) (list_any (λ a. a == x) xs) any) [
      | inl here ↦ omega (arith, eqb-true y x here, leb-true y n each.0)
      | inr later ↦ any_below n x xs each.1 later
    ]

pub align_of-some : (s : Section) → 0 < align_of s
align_of-some s =
    elim (cases_eq s.align 0) [
      | inl none ↦ (rw none (omega arith))
      | inr some ↦ (rw (cond-false (s.align == 0) 1 s.align (ne_eqb s.align 0 some)) (omega arith))
    ]

pub align_of-le : (s : Section) → is_aligned s ≡ true → align_of s ≤ 4096
unfolding is_aligned
align_of-le s fine =
    let low = any_below 4096 s.align alignments refl fine in
    elim (cases_eq s.align 0) [
      | inl none ↦ (rw none (omega arith))
      | inr some ↦ (rw (cond-false (s.align == 0) 1 s.align (ne_eqb s.align 0 some)) low)
    ]

-- the next multiple isn't far
pub next-le : (align n : ℕ) → 0 < align → next align n ≤ n + (align - 1)
unfolding next
next-le align n some = div-mul-le_self (n + (align - 1)) align

pub begin_le : (s : Section) (n : ℕ) → is_aligned s ≡ true → next (align_of s) n ≤ n + 4095
begin_le s n fine = omega (arith, next-le (align_of s) n (align_of-some s), align_of-le s fine)

pub AreShort-push : (ss : List Section) (e : Ends) (s : Section) → is_aligned s ≡ true → AreShort ss e → AreShort (ss ++ s ∷ []) (ends_behind e s)
AreShort-push ss e s fine h = record {
  each_one = λ a.
      rw (end_at-with_end e (area_of s) a (next (align_of s) (end_at e (area_of s)) + s.size), sum_by-append (λ (s : Section). s.size) ss (s ∷ []), length-append ss (s ∷ []))
      (elim (cases_Bool (is_same (area_of s) a)) [
        | inl same ↦ (rw same (omega (arith, begin_le s (end_at e (area_of s)) fine, h.each_one (area_of s))))
        | inr other ↦ (rw other (omega (arith, h.each_one a)))
      ]);
}

-- before any section
abbrev pub no_ends : Ends
no_ends = record { text = 0; read = 0; local = 0; «data» = 0; fixed_text = 0; fixed_read = 0; fixed_data = 0 }

pub end_at-no_ends : (a : Area) → end_at no_ends a ≡ 0
end_at-no_ends Text = refl
end_at-no_ends ReadOnly = refl
end_at-no_ends Local = refl
end_at-no_ends Writable = refl
end_at-no_ends FixedText = refl
end_at-no_ends FixedReadOnly = refl
end_at-no_ends FixedWritable = refl

pub AreEnds-none : AreEnds [] no_ends
unfolding end_of
AreEnds-none = record { each_one = end_at-no_ends }

pub AreShort-none : AreShort [] no_ends
AreShort-none = record { each_one = λ a. omega (arith, end_at-no_ends a) }

-- the sections up to one more
pub taken_more : (ss : List Section) (k : ℕ) (s : Section) → k < length ss → s ≡ get_or ss k s → take (k + 1) ss ≡ take k ss ++ s ∷ []
taken_more ss k s below is = take_more ss k s below ∙ ap (λ (t : Section). take k ss ++ t ∷ []) (sym is)

-- sections whose numbers rise are no more than the numbers
rank : (ss : List Section) → AllPairs (λ (s t : Section). s.index < t.index) ss → (k : ℕ) (d : Section) → k < length ss → k ≤ (get_or ss k d).index
rank ss rise zero d below = omega arith
rank ss rise (suc k) d below = omega (arith, rank ss rise k d (omega arith), rise k (suc k) d (omega arith) below)

few_from : (ss : List Section) (n : ℕ) → AllPairs (λ (s t : Section). s.index < t.index) ss → All (λ (s : Section). s.index ≤ n) ss → length ss ≤ n + 1
few_from [] n rise low = omega arith
few_from (s ∷ ss) n rise low =
    omega (arith, rank (s ∷ ss) rise (length ss) s (omega arith), low (length ss) s (omega arith))

pub few_sections : (o : Object) → IsInRange o → length o.sections ≤ 0xff01
few_sections o h = few_from o.sections 0xff00 h.indexes_rise (λ k d below. (h.sections_in k d below).number)

-- the ends of the areas are the one list of them
pub AreEnds-is : (ss : List Section) (e : Ends) → AreEnds ss e → e ≡ ends ss
AreEnds-is ss e h = λ i. record {
  text = h.each_one Text i;
  read = h.each_one ReadOnly i;
  local = h.each_one Local i;
  «data» = h.each_one Writable i;
  fixed_text = h.each_one FixedText i;
  fixed_read = h.each_one FixedReadOnly i;
  fixed_data = h.each_one FixedWritable i;
}

-- one more spot
pub spots_more : (z : Sizes) (ss : List Section) (k : ℕ) (s : Section) (old new : List Spot) (t : Spot) → k < length ss → s ≡ get_or ss k s → t ≡ spot z (take k ss) s → new ≡ old ++ t ∷ []
    → old ++ spots_behind z (take k ss) (drop k ss) ≡ spots_behind z [] ss → new ++ spots_behind z (take (k + 1) ss) (drop (k + 1) ss) ≡ spots_behind z [] ss
unfolding spots_behind
spots_more z ss k s old new t below is here pushed before =
    let rest : drop k ss ≡ s ∷ drop (k + 1) ss = rw add-one (drop-cons ss k s below ∙ ap (λ (x : Section). x ∷ drop (suc k) ss) (sym is)) in
    let more = taken_more ss k s below is in
    let split : spots_behind z (take k ss) (drop k ss) ≡ t ∷ spots_behind z (take (k + 1) ss) (drop (k + 1) ss) = rw (rest, more, here) refl in
    rw (pushed, append_assoc) (ap (λ (x : List Spot). old ++ x) (sym split) ∙ before)

-- behind the last section nothing is left
pub spots_all : (z : Sizes) (ss : List Section) (k : ℕ) (old whole : List Spot) → length ss ≤ k → old ++ spots_behind z (take k ss) (drop k ss) ≡ whole → old ≡ whole
unfolding spots_behind
spots_all z ss k old whole all e =
    let none : drop k ss ≡ [] = drop_all k ss all in
    let rest : spots_behind z (take k ss) (drop k ss) ≡ [] = rw none refl in
    sym (append-nil old) ∙ ap (λ (x : List Spot). old ++ x) (sym rest) ∙ e

-- no section is misaligned
pub aligned_from : (ss : List Section) → find (λ s. not (is_aligned s)) ss ≡ None → All (λ (s : Section). is_aligned s ≡ true) ss
aligned_from ss e = All-weaker (λ (s : Section). not (is_aligned s) ≡ false) (λ (s : Section). is_aligned s ≡ true) (λ s fine. not-false (is_aligned s) fine) ss (find_none (λ s. not (is_aligned s)) ss e)

-- the ends are small
pub small_ends : (o : Object) (e : Ends) → IsInRange o → AreShort o.sections e → (a : Area) → end_at e a < 2 ^ 70
small_ends o e h short a = omega (arith, short.each_one a, few_sections o h, h.sizes)
