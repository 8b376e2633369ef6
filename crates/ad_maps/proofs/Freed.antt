-- What the view of a seat is while it pays and frees batches.
use Rattle.std.proofs.Common.{◌≡◌, ◌≢◌, ℕ, ◌<◌, ◌≤◌, Bool, cond, eqb, eq-eqb, ne_eqb, List, [], ◌∷◌, ◌++◌, map, append_assoc, append-nil, refl, sym, ap, ◌∙◌, subst, arith}
use Rattle.std.proofs.lemmas.Bool.{le-ltb, lt-ltb}
use Rattle.std.proofs.lemmas.List.Elements.{All-append, All-cons, All-nil, All-weaker}
use Rattle.ad_base.specs.declared.place.Place.{Place}
use Rattle.ad_base.specs.Place.{place_at}
use Rattle.ad_maps.specs.declared.view.Act.{Act}
use Rattle.ad_maps.specs.declared.view.Act.TheVariants as act
use Rattle.ad_maps.specs.declared.view.Deed.{Deed}
use Rattle.ad_maps.specs.declared.view.Deed.TheVariants as deed
use Rattle.ad_maps.specs.declared.view.Freeing.{Freeing}
use Rattle.ad_maps.specs.declared.view.Freeing.TheVariants as freeing
use Rattle.ad_maps.specs.declared.view.Stance.{Stance}
use Rattle.ad_maps.specs.declared.view.Stance.TheVariants as stance
use Rattle.ad_maps.specs.declared.view.Doing.{Doing}
use Rattle.ad_maps.specs.declared.view.Doing.TheVariants.{Spent, Worker, Mover}
use Rattle.ad_maps.specs.Seen.{AddsUnmaps}
use Rattle.ad_maps.specs.Steps.{Sat, after_give, after_member, after_unmap, begins, freeing_from, freeing_of, gives_of, left_with, member_found, member_unmapped, next_member}
use Rattle.ad_maps.specs.Private.Handles.{acts_of, freed_by, worker_of, Frees, HasRetired, IsFreer, IsToFree, IsWorker}
use Rattle.ad_maps.proofs.Elements.{lines-unmaps}

map-append : {A B : Type 0} (f : A → B) (xs ys : List A) → map f (xs ++ ys) ≡ map f xs ++ map f ys
map-append f [] ys = refl
map-append f (x ∷ xs) ys = ap (λ zs. f x ∷ zs) (map-append f xs ys)

-- a list, once the images of two lists were added
pub added-twice : {A B : Type 0} (f : A → B) (before : List B) (xs ys : List A) → (before ++ map f xs) ++ map f ys ≡ before ++ map f (xs ++ ys)
added-twice f before xs ys = append_assoc before (map f xs) (map f ys) ∙ ap (λ zs. before ++ zs) (sym (map-append f xs ys))

-- ---- freeing

-- the view with nothing unmapped yet
none-freed : (d : Doing) (f : Freeing) → freeing_of d ≡ f → f ≢ freeing.Nothing → d ≡ freed_by d [] f
none-freed Spent f is some = absurd (some (sym is))
none-freed (Worker w h) f is some = λ i. Worker w (record h { freeing = is i; acts = sym (append-nil h.acts) i })
none-freed (Mover q) f is some = λ i. Mover (record q { freeing = is i; deeds = sym (append-nil q.deeds) i })

pub frees-none : (me : Sat) (b k : ℕ) → IsToFree me (freeing.Batch b k) → Frees me.0 (freeing.Batch b k) me
frees-none me b k is = record { numbers = []; retired = All-nil (HasRetired me.0); view = λ i. (none-freed me.0 (freeing.Batch b k) is.freeing (λ e. let z : ⊥ = cc in z) i, is.slots i) }

freed-again : (d : Doing) (xs ys : List ℕ) (f g : Freeing) → freed_by (freed_by d xs f) ys g ≡ freed_by d (xs ++ ys) g
freed-again Spent xs ys f g = refl
freed-again (Worker w h) xs ys f g = ap (λ (acts : List Act). Worker w (record h { freeing = g; acts = acts })) (added-twice (λ (n : ℕ). act.Unmap n) h.acts xs ys)
freed-again (Mover q) xs ys f g = ap (λ (deeds : List Deed). Mover (record q { freeing = g; deeds = deeds })) (added-twice (λ (n : ℕ). deed.Unmap n) q.deeds xs ys)

-- what was retired stays so as mappings are unmapped
retired-before : (d : Doing) (xs : List ℕ) (f : Freeing) (n : ℕ) → HasRetired (freed_by d xs f) n → HasRetired d n
retired-before Spent xs f n h = tt
retired-before (Worker w o) xs f n h = tt
retired-before (Mover q) xs f n h = subst (λ (line : ℕ). 0 < line) (lines-unmaps q.deeds xs n) h

-- some were freed, and then more
pub frees-more : (d : Doing) (f g : Freeing) (me me' : Sat) → Frees d f me → Frees me.0 g me' → Frees d g me'
frees-more d f g me me' first then = record {
  numbers = first.numbers ++ then.numbers;
  retired = All-append (HasRetired d) first.numbers then.numbers first.retired (All-weaker (HasRetired me.0) (HasRetired d) (λ n h. retired-before d first.numbers f n (subst (λ (m : Sat). HasRetired m.0 n) first.view h)) then.numbers then.retired);
  view = then.view ∙ (ap (λ (m : Sat). (freed_by m.0 then.numbers g, [])) first.view ∙ ap (λ (e : Doing). (e, [])) (freed-again d first.numbers then.numbers f g));
}

freeing-is : (d : Doing) (xs : List ℕ) (f g : Freeing) → freeing_of d ≡ g → g ≢ freeing.Nothing → freeing_of (freed_by d xs f) ≡ f
freeing-is Spent xs f g is some = absurd (some (sym is))
freeing-is (Worker w h) xs f g is some = refl
freeing-is (Mover q) xs f g is some = refl

gives-are : (d : Doing) (xs : List ℕ) (f : Freeing) → gives_of (freed_by d xs f) ≡ gives_of d
gives-are Spent xs f = refl
gives-are (Worker w h) xs f = refl
gives-are (Mover q) xs f = refl

-- and it has that to free
pub frees-left : (me : Sat) (b k : ℕ) (f : Freeing) (me' : Sat) → IsToFree me (freeing.Batch b k) → Frees me.0 f me' → IsToFree me' f
frees-left me b k f me' is frees = record {
  freeing = ap (λ (m : Sat). freeing_of m.0) frees.view ∙ freeing-is me.0 frees.numbers f (freeing.Batch b k) is.freeing (λ e. let z : ⊥ = cc in z);
  gives = ap (λ (m : Sat). gives_of m.0) frees.view ∙ (gives-are me.0 frees.numbers f ∙ is.gives);
  slots = ap (λ (m : Sat). m.1) frees.view;
}

-- batch b is freed from one of its members on
pub from-low : (b k : ℕ) → k < 8 → freeing_from b k ≡ freeing.Batch b k
from-low b k low = ap (λ (t : Bool). cond t freeing.Nothing (freeing.Batch b k)) (ne_eqb k 8 (λ e. omega arith))

pub from-end : (b k : ℕ) → k ≡ 8 → freeing_from b k ≡ freeing.Nothing
from-end b k end = ap (λ (t : Bool). cond t freeing.Nothing (freeing.Batch b k)) (eq-eqb k 8 end)

-- ---- one member

after-none : (d : Doing) (b k word : ℕ) → freeing_of d ≡ freeing.Batch b k → word ≡ 0 → after_member d word ≡ freed_by d [] (next_member b k)
after-none Spent b k word is none = absurd (let z : ⊥ = cc in z)
after-none (Worker w h) b k word is none = λ i. Worker w (record h { freeing = (ap (λ (f : Freeing). member_found f word) is ∙ ap (λ (t : Bool). cond t (next_member b k) (freeing.Found b k word)) (eq-eqb word 0 none)) i; acts = sym (append-nil h.acts) i })
after-none (Mover q) b k word is none = λ i. Mover (record q { freeing = (ap (λ (f : Freeing). member_found f word) is ∙ ap (λ (t : Bool). cond t (next_member b k) (freeing.Found b k word)) (eq-eqb word 0 none)) i; deeds = sym (append-nil q.deeds) i })

-- there is no such member
pub member-none : (me me' : Sat) (b k word : ℕ) → IsToFree me (freeing.Batch b k) → word ≡ 0 → me' ≡ (after_member me.0 word, []) → Frees me.0 (next_member b k) me'
member-none me me' b k word is none view = record { numbers = []; retired = All-nil (HasRetired me.0); view = view ∙ ap (λ (d : Doing). (d, [])) (after-none me.0 b k word is.freeing none) }

found-is : (d : Doing) (b k word : ℕ) → freeing_of d ≡ freeing.Batch b k → word ≢ 0 → freeing_of (after_member d word) ≡ freeing.Found b k word
found-is Spent b k word is some = absurd (let z : ⊥ = cc in z)
found-is (Worker w h) b k word is some = ap (λ (f : Freeing). member_found f word) is ∙ ap (λ (t : Bool). cond t (next_member b k) (freeing.Found b k word)) (ne_eqb word 0 some)
found-is (Mover q) b k word is some = ap (λ (f : Freeing). member_found f word) is ∙ ap (λ (t : Bool). cond t (next_member b k) (freeing.Found b k word)) (ne_eqb word 0 some)

same-gives : (d : Doing) (word : ℕ) → gives_of (after_member d word) ≡ gives_of d
same-gives Spent word = refl
same-gives (Worker w h) word = refl
same-gives (Mover q) word = refl

-- there is, and it is to be unmapped
pub member-found : (me me' : Sat) (b k word : ℕ) → IsToFree me (freeing.Batch b k) → word ≢ 0 → me' ≡ (after_member me.0 word, []) → IsToFree me' (freeing.Found b k word)
member-found me me' b k word is some view = record {
  freeing = ap (λ (m : Sat). freeing_of m.0) view ∙ found-is me.0 b k word is.freeing some;
  gives = ap (λ (m : Sat). gives_of m.0) view ∙ (same-gives me.0 word ∙ is.gives);
  slots = ap (λ (m : Sat). m.1) view;
}

unmapped-gives : (d : Doing) (f : Freeing) (found : ℕ) → freeing_of d ≡ f → f ≢ freeing.Nothing → gives_of (after_unmap d found) ≡ place_at found ∷ gives_of d
unmapped-gives Spent f found is some = absurd (some (sym is))
unmapped-gives (Worker w h) f found is some = refl
unmapped-gives (Mover q) f found is some = refl

-- it was unmapped, and its frame is to be given back
pub member-unmapped : (me me' : Sat) (b k word found : ℕ) (p : Place) → IsToFree me (freeing.Found b k word) → me' ≡ (after_unmap me.0 found, []) → p ≡ place_at found → gives_of me'.0 ≡ p ∷ []
member-unmapped me me' b k word found p is view place =
    ap (λ (m : Sat). gives_of m.0) view
    ∙ (unmapped-gives me.0 (freeing.Found b k word) found is.freeing (λ e. let z : ⊥ = cc in z) ∙ (λ i. sym place i ∷ is.gives i))

all-three : (d : Doing) (b k word found : ℕ) → freeing_of d ≡ freeing.Batch b k → word ≢ 0 → after_give (after_unmap (after_member d word) found) 0 ≡ freed_by d ((place_at found).mapping ∷ []) (next_member b k)
all-three Spent b k word found is some = absurd (let z : ⊥ = cc in z)
all-three (Worker w h) b k word found is some = ap (λ (f : Freeing). Worker w (record h { freeing = member_unmapped f; acts = h.acts ++ act.Unmap (place_at found).mapping ∷ [] })) (found-is (Worker w h) b k word is some)
all-three (Mover q) b k word found is some = ap (λ (f : Freeing). Mover (record q { freeing = member_unmapped f; deeds = q.deeds ++ deed.Unmap (place_at found).mapping ∷ [] })) (found-is (Mover q) b k word is some)

member-retired : (d : Doing) (word n : ℕ) → HasRetired (after_member d word) n → HasRetired d n
member-retired Spent word n h = tt
member-retired (Worker w o) word n h = tt
member-retired (Mover q) word n h = h

-- and it was given back
pub member-freed : (me one two three : Sat) (b k word found : ℕ) → IsToFree me (freeing.Batch b k) → word ≢ 0 → one ≡ (after_member me.0 word, []) → HasRetired one.0 (place_at found).mapping → two ≡ (after_unmap one.0 found, []) → three ≡ (after_give two.0 0, []) → Frees me.0 (next_member b k) three
member-freed me one two three b k word found is some first retired then last = record {
  numbers = (place_at found).mapping ∷ [];
  retired = All-cons (HasRetired me.0) (place_at found).mapping [] (member-retired me.0 word (place_at found).mapping (subst (λ (m : Sat). HasRetired m.0 (place_at found).mapping) first retired)) (All-nil (HasRetired me.0));
  view = last
      ∙ (ap (λ (m : Sat). (after_give m.0 0, [])) then
      ∙ (ap (λ (m : Sat). (after_give (after_unmap m.0 found) 0, [])) first
      ∙ ap (λ (d : Doing). (d, [])) (all-three me.0 b k word found is.freeing some)));
}

-- ---- a worker that pays

-- a worker that has this to free
pub freer-to-free : (me : Sat) (slot : ℕ) (d : Stance) (f : Freeing) → IsFreer me slot d f → IsToFree me f
freer-to-free me slot d f is = record { freeing = ap (λ (m : Sat). freeing_of m.0) is.view; gives = ap (λ (m : Sat). gives_of m.0) is.view; slots = ap (λ (m : Sat). m.1) is.view }

pub begins-all : (b count : ℕ) → count ≡ 1 → begins b (eqb count 1) ≡ freeing.Batch b 0
begins-all b count one = ap (begins b) (eq-eqb count 1 one)

pub begins-none : (b count : ℕ) → count ≢ 1 → begins b (eqb count 1) ≡ freeing.Nothing
begins-none b count more = ap (begins b) (ne_eqb count 1 more)

-- and has freed it
module _ (me me' : Sat) (slot : ℕ) (d : Stance) (f : Freeing) (is : IsFreer me slot d f) (frees : Frees me.0 freeing.Nothing me') where
  now : me' ≡ (Worker (worker_of me.0) (record { slot = slot; stance = d; freeing = freeing.Nothing; gives = []; acts = acts_of me.0 ++ map (λ (n : ℕ). act.Unmap n) frees.numbers }), [])
  now = frees.view ∙ ap (λ (m : Sat). (freed_by m.0 frees.numbers freeing.Nothing, [])) is.view

  acts-now : acts_of me'.0 ≡ acts_of me.0 ++ map (λ (n : ℕ). act.Unmap n) frees.numbers
  acts-now = ap (λ (m : Sat). acts_of m.0) now

  pub freed-worker : worker_of me'.0 ≡ worker_of me.0
  freed-worker = ap (λ (m : Sat). worker_of m.0) now

  pub freed-is : IsWorker me' slot d
  freed-is = record { few = is.few; view = now ∙ (λ i. (Worker (sym freed-worker i) (record { slot = slot; stance = d; freeing = freeing.Nothing; gives = []; acts = sym acts-now i }), [])) }

  pub freed-acts : AddsUnmaps (acts_of me.0) (acts_of me'.0)
  freed-acts = record { numbers = frees.numbers; grew = acts-now }

pub adds-none : (before after : List Act) → after ≡ before → AddsUnmaps before after
adds-none before after same = record { numbers = []; grew = same ∙ sym (append-nil before) }

pub adds-more : (before middle after : List Act) → AddsUnmaps before middle → AddsUnmaps middle after → AddsUnmaps before after
adds-more before middle after first then = record {
  numbers = first.numbers ++ then.numbers;
  grew = then.grew ∙ (ap (λ (acts : List Act). acts ++ map (λ (n : ℕ). act.Unmap n) then.numbers) first.grew ∙ added-twice (λ (n : ℕ). act.Unmap n) before first.numbers then.numbers);
}

pub left-paying : (paid last : ℕ) → paid < last → left_with paid last ≡ stance.Paying paid last
left-paying paid last low = ap (λ (t : Bool). cond t (stance.Paying paid last) stance.Away) (lt-ltb paid last low)

pub left-away : (paid last : ℕ) → last ≤ paid → left_with paid last ≡ stance.Away
left-away paid last end = ap (λ (t : Bool). cond t (stance.Paying paid last) stance.Away) (le-ltb paid last end)
