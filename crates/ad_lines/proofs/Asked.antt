-- The requests before the first line: how many there are, which are of a kind, that no two are of one thing, and what
-- one worker or one module more asks for.
use Rattle.std.proofs.Common.{◌≡◌, ℕ, zero, suc, ◌+◌, ◌*◌, ◌<◌, ◌≤◌, Bool, true, false, ◌==◌, ◌&&◌, List, [], ◌∷◌, ◌++◌, length, map, refl, sym, ap, subst, ◌∙◌, lit≤, arith, append_assoc, append-nil}
use Rattle.std.specs.List.{All, enumerate_from, filter, flat_map, range_with_len}
use Rattle.std.proofs.lemmas.Bool.Decides.{nat_tests}
use Rattle.std.proofs.lemmas.Grind.{flat_map-append}
use Rattle.std.proofs.lemmas.List.{length-append}
use Rattle.std.proofs.lemmas.List.Elements.{All-cons, All-head, All-nil, All-tail, filter-append}
use Rattle.std.proofs.lemmas.List.FromFn.{length-map-range_with_len, map-range_with_len_more}
use Rattle.ad_base.specs.declared.image.Image.{Image}
use Rattle.ad_base.specs.declared.layout.TheConstants.{PART_PAGES}
use Rattle.ad_base.specs.declared.ledger.Kind.{Kind}
use Rattle.ad_base.specs.declared.ledger.Kind.TheVariants.{Code, Fixed, Stack}
use Rattle.ad_base.specs.Image.{fixed_pages, movable_pages, IsWhole}
use Rattle.ad_base.specs.Ledger.{is_same_kind}
use Rattle.ad_lines.specs.Opening.{Request, drawn_for, module_requests, opening_requests, stack_request}
use Rattle.ad_lines.proofs.ListReads.{Each}

-- how many there are
length-modules : (n : ℕ) (images : List Image) → length (flat_map module_requests (enumerate_from n images)) ≡ 2 * length images
length-modules n [] = refl
length-modules n (i ∷ images) = let rest = length-modules (n + 1) images in omega (arith, rest)

pub length-requests : (workers : ℕ) (images : List Image) → length (opening_requests workers images) ≡ workers + 2 * length images
length-requests workers images =
    omega (arith, length-append (map stack_request (range_with_len 0 workers)) (flat_map module_requests (enumerate_from 0 images)), length-map-range_with_len stack_request 0 workers, length-modules 0 images)

-- each is for the pages of a part
abbrev FitsPart : Kind × ℕ → Type 0
FitsPart request = (1 ≤ request.1) × (request.1 ≤ PART_PAGES)

fits-modules : (n : ℕ) (images : List Image) → All IsWhole images → All FitsPart (map drawn_for (flat_map module_requests (enumerate_from n images)))
fits-modules n [] whole = All-nil FitsPart
fits-modules n (i ∷ images) whole =
    let w = All-head IsWhole i images whole in
    let fixed : (1 ≤ fixed_pages i) × (fixed_pages i ≤ PART_PAGES) = (omega arith, w.fixed_pages_fit) in
    let code : (1 ≤ movable_pages i) × (movable_pages i ≤ PART_PAGES) = (omega arith, w.movable_pages_fit) in
    let later = map drawn_for (flat_map module_requests (enumerate_from (n + 1) images)) in
    let first : Kind × ℕ = (Fixed, fixed_pages i) in
    let second : Kind × ℕ = (Code, movable_pages i) in
    All-cons FitsPart first (second ∷ later) fixed (All-cons FitsPart second later code (fits-modules (n + 1) images (All-tail IsWhole i images whole)))

fits-stacks : (n workers : ℕ) (rest : List Request) → All FitsPart (map drawn_for rest) → All FitsPart (map drawn_for (map stack_request (range_with_len n workers) ++ rest))
fits-stacks n zero rest h = h
fits-stacks n (suc workers) rest h =
    let later = map stack_request (range_with_len (n + 1) workers) ++ rest in
    let fits : FitsPart (drawn_for (stack_request n)) = (lit≤ tt, lit≤ tt) in
    All-cons FitsPart (drawn_for (stack_request n)) (map drawn_for later) fits (fits-stacks (n + 1) workers rest h)

pub fits-requests : (workers : ℕ) (images : List Image) → All IsWhole images → All FitsPart (map drawn_for (opening_requests workers images))
fits-requests workers images whole = fits-stacks 0 workers (flat_map module_requests (enumerate_from 0 images)) (fits-modules 0 images whole)

-- which are of a kind
abbrev pub of_kind : Kind → List Request → List Request
of_kind kind requests = filter (λ (r : Request). is_same_kind kind r.kind) requests

abbrev pub fixed_request : ℕ × Image → Request
fixed_request (number, i) = record { kind = Fixed; who = number; pages = fixed_pages i }

abbrev pub code_request : ℕ × Image → Request
code_request (number, i) = record { kind = Code; who = number; pages = movable_pages i }

stacks-of-stacks : (n workers : ℕ) → of_kind Stack (map stack_request (range_with_len n workers)) ≡ map stack_request (range_with_len n workers)
stacks-of-stacks n zero = refl
stacks-of-stacks n (suc workers) = ap (λ rs. stack_request n ∷ rs) (stacks-of-stacks (n + 1) workers)

fixed-of-stacks : (n workers : ℕ) → of_kind Fixed (map stack_request (range_with_len n workers)) ≡ []
fixed-of-stacks n zero = refl
fixed-of-stacks n (suc workers) = fixed-of-stacks (n + 1) workers

codes-of-stacks : (n workers : ℕ) → of_kind Code (map stack_request (range_with_len n workers)) ≡ []
codes-of-stacks n zero = refl
codes-of-stacks n (suc workers) = codes-of-stacks (n + 1) workers

stacks-of-modules : (n : ℕ) (images : List Image) → of_kind Stack (flat_map module_requests (enumerate_from n images)) ≡ []
stacks-of-modules n [] = refl
stacks-of-modules n (i ∷ images) = stacks-of-modules (n + 1) images

fixed-of-modules : (n : ℕ) (images : List Image) → of_kind Fixed (flat_map module_requests (enumerate_from n images)) ≡ map fixed_request (enumerate_from n images)
fixed-of-modules n [] = refl
fixed-of-modules n (i ∷ images) = ap (λ rs. fixed_request (n, i) ∷ rs) (fixed-of-modules (n + 1) images)

codes-of-modules : (n : ℕ) (images : List Image) → of_kind Code (flat_map module_requests (enumerate_from n images)) ≡ map code_request (enumerate_from n images)
codes-of-modules n [] = refl
codes-of-modules n (i ∷ images) = ap (λ rs. code_request (n, i) ∷ rs) (codes-of-modules (n + 1) images)

module _ (workers : ℕ) (images : List Image) where
  kind-parts : (kind : Kind) → of_kind kind (opening_requests workers images) ≡ of_kind kind (map stack_request (range_with_len 0 workers)) ++ of_kind kind (flat_map module_requests (enumerate_from 0 images))
  kind-parts kind = filter-append (λ (r : Request). is_same_kind kind r.kind) (map stack_request (range_with_len 0 workers)) (flat_map module_requests (enumerate_from 0 images))

  pub stacks-asked : of_kind Stack (opening_requests workers images) ≡ map stack_request (range_with_len 0 workers)
  stacks-asked = kind-parts Stack ∙ (λ j. stacks-of-stacks 0 workers j ++ stacks-of-modules 0 images j) ∙ append-nil (map stack_request (range_with_len 0 workers))

  pub fixed-asked : of_kind Fixed (opening_requests workers images) ≡ map fixed_request (enumerate_from 0 images)
  fixed-asked = kind-parts Fixed ∙ (λ j. fixed-of-stacks 0 workers j ++ fixed-of-modules 0 images j)

  pub codes-asked : of_kind Code (opening_requests workers images) ≡ map code_request (enumerate_from 0 images)
  codes-asked = kind-parts Code ∙ (λ j. codes-of-stacks 0 workers j ++ codes-of-modules 0 images j)

-- no two are of one thing
abbrev pub AreApart : Request → Request → Type 0
AreApart a b = (is_same_kind a.kind b.kind && (a.who == b.who)) ≡ false

abbrev pub AreOfOthers : List Request → Type 0
AreOfOthers [] = Unit {0}
AreOfOthers (r ∷ rs) = Each (AreApart r) rs × AreOfOthers rs

different : (j k : ℕ) → j < k → (j == k) ≡ false
different j k less = grind (arith, nat_tests)

neither : (b : Bool) (j k : ℕ) → j < k → (b && (j == k)) ≡ false
neither true j k less = different j k less
neither false j k less = refl

each-first : {A : Type 0} (P : A → Type 0) (x : A) (xs : List A) → P x → Each P xs → Each P (x ∷ xs)
each-first P x xs p h zero y e = let same : x ≡ y = cc in subst P same p
each-first P x xs p h (suc k) y e = h k y e

abbrev IsNoStack : Request → Type 0
IsNoStack r = is_same_kind Stack r.kind ≡ false

no-stacks : (n : ℕ) (images : List Image) → Each IsNoStack (flat_map module_requests (enumerate_from n images))
no-stacks n [] k r e = absurd cc
no-stacks n (i ∷ images) k r e =
    let rest = flat_map module_requests (enumerate_from (n + 1) images) in
    each-first IsNoStack (fixed_request (n, i)) (code_request (n, i) ∷ rest) refl (each-first IsNoStack (code_request (n, i)) rest refl (no-stacks (n + 1) images)) k r e

stack-apart : (n m workers : ℕ) (rest : List Request) → n < m → Each IsNoStack rest → Each (AreApart (stack_request n)) (map stack_request (range_with_len m workers) ++ rest)
stack-apart n m zero rest less none k r e = ap (λ b. b && (n == r.who)) (none k r e)
stack-apart n m (suc workers) rest less none k r e =
    each-first (AreApart (stack_request n)) (stack_request m) (map stack_request (range_with_len (m + 1) workers) ++ rest) (different n m less) (stack-apart n (m + 1) workers rest (omega (arith, less)) none) k r e

part-apart : (r : Request) (m : ℕ) (images : List Image) → r.who < m → Each (AreApart r) (flat_map module_requests (enumerate_from m images))
part-apart r m [] less k x e = absurd cc
part-apart r m (i ∷ images) less k x e =
    let rest = flat_map module_requests (enumerate_from (m + 1) images) in
    each-first (AreApart r) (fixed_request (m, i)) (code_request (m, i) ∷ rest) (neither (is_same_kind r.kind Fixed) r.who m less)
    (each-first (AreApart r) (code_request (m, i)) rest (neither (is_same_kind r.kind Code) r.who m less) (part-apart r (m + 1) images (omega (arith, less)))) k x e

parts-apart : (n : ℕ) (images : List Image) → AreOfOthers (flat_map module_requests (enumerate_from n images))
parts-apart n [] = tt
parts-apart n (i ∷ images) =
    let rest = flat_map module_requests (enumerate_from (n + 1) images) in
    let later : (r : Request) → r.who ≡ n → Each (AreApart r) rest = λ r at. part-apart r (n + 1) images (omega (arith, at)) in (
      each-first (AreApart (fixed_request (n, i))) (code_request (n, i)) rest refl (later (fixed_request (n, i)) refl),
      (later (code_request (n, i)) refl, parts-apart (n + 1) images),
    )

stacks-apart : (n workers : ℕ) (rest : List Request) → Each IsNoStack rest → AreOfOthers rest → AreOfOthers (map stack_request (range_with_len n workers) ++ rest)
stacks-apart n zero rest none h = h
stacks-apart n (suc workers) rest none h = (stack-apart n (n + 1) workers rest (omega arith) none, stacks-apart (n + 1) workers rest none h)

pub requests-apart : (workers : ℕ) (images : List Image) → AreOfOthers (opening_requests workers images)
requests-apart workers images = stacks-apart 0 workers (flat_map module_requests (enumerate_from 0 images)) (no-stacks 0 images) (parts-apart 0 images)

-- one worker more, where there is no module, and one module more
pub requests-worker : (workers : ℕ) → opening_requests (workers + 1) [] ≡ opening_requests workers [] ++ stack_request workers ∷ []
requests-worker workers =
    append-nil (map stack_request (range_with_len 0 (workers + 1)))
    ∙ map-range_with_len_more stack_request 0 workers workers (omega arith)
    ∙ ap (λ rs. rs ++ stack_request workers ∷ []) (sym (append-nil (map stack_request (range_with_len 0 workers))))

enumerate-push : (n : ℕ) (images : List Image) (i : Image) → enumerate_from n (images ++ i ∷ []) ≡ enumerate_from n images ++ (n + length images, i) ∷ []
enumerate-push n [] i = let at : n ≡ n + 0 = omega arith in ap (λ k. (k, i) ∷ []) at
enumerate-push n (x ∷ images) i =
    let at : n + 1 + length images ≡ n + suc (length images) = omega arith in
    ap (λ xs. (n, x) ∷ xs) (enumerate-push (n + 1) images i) ∙ ap (λ k. (n, x) ∷ (enumerate_from (n + 1) images ++ (k, i) ∷ [])) at

pub requests-push : (workers : ℕ) (images : List Image) (i : Image) → opening_requests workers (images ++ i ∷ []) ≡ opening_requests workers images ++ module_requests (length images, i)
requests-push workers images i =
    let stacks = map stack_request (range_with_len 0 workers) in
    let at : 0 + length images ≡ length images = omega arith in
    ap (λ xs. stacks ++ flat_map module_requests xs) (enumerate-push 0 images i ∙ ap (λ k. enumerate_from 0 images ++ (k, i) ∷ []) at)
    ∙ ap (λ rs. stacks ++ rs) (flat_map-append module_requests (enumerate_from 0 images) ((length images, i) ∷ []))
    ∙ sym (append_assoc stacks (flat_map module_requests (enumerate_from 0 images)) (module_requests (length images, i)))
