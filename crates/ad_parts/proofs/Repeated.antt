-- The names of exports, which are gone through by place.
use Rattle.std.proofs.Common.{◌≡◌, ℕ, ◌+◌, ◌<◌, ◌||◌, Bool, true, false, not, cond, List, [], ◌∷◌, ◌++◌, get_or, length, take, Bor, Ordering, Some, None, refl, sym, ap, ap₂, ◌∙◌}
use Rattle.std.specs.BTreeSet.{BTreeSet, Updates, contains}
use Rattle.std.specs.Cmp.Lexicographic.{slice_cmp}
use Rattle.std.specs.List.{list_any}
use Rattle.std.specs.Ordering.{nat_cmp}
use Rattle.std.specs.Str.{bytes_eq}
use Rattle.std.proofs.lemmas.List.{get_or_default, take_more}
use Rattle.std.proofs.lemmas.List.Folds.{list_any-append}
use Rattle.std.proofs.lemmas.Map.Text.{is_eq-slice_cmp}
use Rattle.ad_base.specs.declared.image.Export.{Export}
use Rattle.ad_elf.specs.Below.{first}
use Rattle.ad_elf.proofs.Below.{first_here, first_more}
use Rattle.ad_parts.specs.Symbols.{first_repeated, has_name, name_of}

abbrev pub by_bytes : Bor (List ℕ) → Bor (List ℕ) → Ordering
by_bytes x y = slice_cmp nat_cmp x.now y.now

-- the set has the names of these exports
abbrev pub HasNames : List Export → BTreeSet (Bor (List ℕ)) → Type 0
HasNames es names = (q : Bor (List ℕ)) → contains by_bytes names q ≡ has_name es q.now

pub HasNames-none : (names : BTreeSet (Bor (List ℕ))) → names.keys ≡ [] → HasNames [] names
unfolding has_name
HasNames-none names none = λ q. rw none refl

or_false : (b : Bool) → (b || false) ≡ b
or_false true = refl
or_false false = refl

cond_or : (a b : Bool) → cond a true b ≡ (b || a)
cond_or true true = refl
cond_or true false = refl
cond_or false true = refl
cond_or false false = refl

has_name_push : (es : List Export) (e : Export) (name : List ℕ) → has_name (es ++ e ∷ []) name ≡ (has_name es name || bytes_eq e.name name)
unfolding has_name
has_name_push es e name = list_any-append (λ (e : Export). bytes_eq e.name name) es (e ∷ []) ∙ ap (λ b. list_any (λ (e : Export). bytes_eq e.name name) es || b) (or_false (bytes_eq e.name name))

pub HasNames-more : (es : List Export) (k : ℕ) (e : Export) (key : Bor (List ℕ)) (old new : BTreeSet (Bor (List ℕ))) → k < length es → key.now ≡ (get_or es k e).name → Updates by_bytes old new key true → HasNames (take k es) old → HasNames (take (k + 1) es) new
HasNames-more es k e key old new below same updates had = λ q.
    updates.0 q
    ∙ ap₂ (λ a b. cond a true b) (is_eq-slice_cmp key.now q.now ∙ ap (λ n. bytes_eq n q.now) same) (had q)
    ∙ cond_or (bytes_eq (get_or es k e).name q.now) (has_name (take k es) q.now)
    ∙ sym (ap (λ xs. has_name xs q.now) (take_more es k e below) ∙ has_name_push (take k es) (get_or es k e) q.now)

-- whether the name of export k is repeated
name_is : (es : List Export) (k : ℕ) (e : Export) (key : Bor (List ℕ)) → k < length es → key.now ≡ (get_or es k e).name → name_of es k ≡ key.now
name_is es k e key below same = ap (λ (x : Export). x.name) (get_or_default es k (record { name = []; offset = 0 }) e below) ∙ sym same

test_is : (es : List Export) (k : ℕ) (e : Export) (key : Bor (List ℕ)) (names : BTreeSet (Bor (List ℕ))) → k < length es → key.now ≡ (get_or es k e).name → HasNames (take k es) names → has_name (take k es) (name_of es k) ≡ contains by_bytes names key
test_is es k e key names below same had = ap (has_name (take k es)) (name_is es k e key below same) ∙ sym (had key)

not_true : (b : Bool) → not b ≡ true → b ≡ false
not_true true e = cc
not_true false e = refl

not_false : (b : Bool) → not b ≡ false → b ≡ true
not_false true e = refl
not_false false e = cc

pub repeated_here : (es : List Export) (k : ℕ) (e : Export) (key : Bor (List ℕ)) (names : BTreeSet (Bor (List ℕ))) (added : Bool) → k < length es → key.now ≡ (get_or es k e).name → added ≡ not (contains by_bytes names key) → added ≡ false
    → HasNames (take k es) names → first (λ j. has_name (take j es) (name_of es j)) k ≡ None → Some k ≡ first_repeated es
repeated_here es k e key names added below same new old had none =
    let there = not_false (contains by_bytes names key) (sym new ∙ old) in
    first_here (λ j. has_name (take j es) (name_of es j)) k (length es) none (test_is es k e key names below same had ∙ there) below

pub repeated_later : (es : List Export) (k : ℕ) (e : Export) (key : Bor (List ℕ)) (names : BTreeSet (Bor (List ℕ))) (added : Bool) → k < length es → key.now ≡ (get_or es k e).name → added ≡ not (contains by_bytes names key) → added ≡ true
    → HasNames (take k es) names → first (λ j. has_name (take j es) (name_of es j)) k ≡ None → first (λ j. has_name (take j es) (name_of es j)) (k + 1) ≡ None
repeated_later es k e key names added below same new fresh had none =
    let absent = not_true (contains by_bytes names key) (sym new ∙ fresh) in
    first_more (λ j. has_name (take j es) (name_of es j)) k none (test_is es k e key names below same had ∙ absent)
