-- What the mover's list of deeds tells of lines and of mappings once it goes on.
use Rattle.std.proofs.Common.{◌≡◌, inl, inr, ℕ, ◌+◌, ◌≤◌, Bool, cond, eqb, List, [], ◌∷◌, ◌++◌, map, refl, sym, ap, ◌∙◌, append_assoc, append-nil, eq-eqb, arith}
use Rattle.std.proofs.lemmas.Bool.{cases_Bool}
use Rattle.ad_maps.specs.declared.shape.Shape.{Shape}
use Rattle.ad_maps.specs.declared.view.Deed.{Deed}
use Rattle.ad_maps.specs.declared.view.Deed.TheVariants as deed
use Rattle.ad_maps.specs.declared.view.Made.{Made}
use Rattle.ad_maps.specs.Ledger.{all_made, line_in, maps_in, opened_from}
use Rattle.ad_maps.specs.Seen.{looks_from}
use Rattle.ad_maps.specs.Steps.{made}
use Rattle.ad_maps.proofs.Elements.{maps-append}
use Rattle.ad_mover.specs.Moves.{Outcome, NoNumber, AllOwned, Placed, deeds_of, retired_by}

-- ---- lines

-- deeds that retire nothing
abbrev pub AreSilent : List Deed → Type 0
AreSilent ys = (zs : List Deed) (n : ℕ) → line_in (ys ++ zs) n ≡ line_in zs n

silent-looks : (f : ℕ) (os : List ℕ) → AreSilent (looks_from f os)
silent-looks f [] zs n = refl
silent-looks f (o ∷ os) zs n = silent-looks (f + 1) os zs n

pub silent-unmaps : (ns : List ℕ) → AreSilent (map (λ (n : ℕ). deed.Unmap n) ns)
silent-unmaps [] zs n = refl
silent-unmaps (k ∷ ns) zs n = silent-unmaps ns zs n

pub silent-deeds : (first m : ℕ) (o : Outcome) → AreSilent (deeds_of first m o)
silent-deeds first m NoNumber zs n = refl
silent-deeds first m (AllOwned owners last) zs n = silent-looks first (owners ++ last ∷ []) zs n
silent-deeds first m (Placed owners p) zs n =
    let looks = looks_from first (owners ++ 0 ∷ []) in
    let rest = deed.Map m p ∷ deed.Switch m p ∷ [] in
    ap (λ (ds : List Deed). line_in ds n) (append_assoc looks rest zs) ∙ silent-looks first (owners ++ 0 ∷ []) (rest ++ zs) n

-- such deeds between others leave each line
pub line-between : (xs ys zs : List Deed) (n : ℕ) → AreSilent ys → line_in (xs ++ (ys ++ zs)) n ≡ line_in (xs ++ zs) n
line-between [] ys zs n silent = silent zs n
line-between (deed.Look f o ∷ xs) ys zs n silent = line-between xs ys zs n silent
line-between (deed.Map m p ∷ xs) ys zs n silent = line-between xs ys zs n silent
line-between (deed.Switch m p ∷ xs) ys zs n silent = line-between xs ys zs n silent
line-between (deed.Retire k line ∷ xs) ys zs n silent = ap (λ (i : ℕ). cond (eqb k n) line i) (line-between xs ys zs n silent)
line-between (deed.Unmap k ∷ xs) ys zs n silent = line-between xs ys zs n silent

-- each retire has a line of a script
abbrev pub HasLines : List Deed → Type 0
HasLines [] = Unit {0}
HasLines (deed.Look f o ∷ ds) = HasLines ds
HasLines (deed.Map m p ∷ ds) = HasLines ds
HasLines (deed.Switch m p ∷ ds) = HasLines ds
HasLines (deed.Retire k line ∷ ds) = (1 ≤ line) × HasLines ds
HasLines (deed.Unmap k ∷ ds) = HasLines ds

pub has-append : (xs ys : List Deed) → HasLines xs → HasLines ys → HasLines (xs ++ ys)
has-append [] ys h g = g
has-append (deed.Look f o ∷ xs) ys h g = has-append xs ys h g
has-append (deed.Map m p ∷ xs) ys h g = has-append xs ys h g
has-append (deed.Switch m p ∷ xs) ys h g = has-append xs ys h g
has-append (deed.Retire k line ∷ xs) ys h g = (h.0, has-append xs ys h.1 g)
has-append (deed.Unmap k ∷ xs) ys h g = has-append xs ys h g

has-looks : (f : ℕ) (os : List ℕ) → HasLines (looks_from f os)
has-looks f [] = tt
has-looks f (o ∷ os) = has-looks (f + 1) os

pub has-unmaps : (ns : List ℕ) → HasLines (map (λ (n : ℕ). deed.Unmap n) ns)
has-unmaps [] = tt
has-unmaps (k ∷ ns) = has-unmaps ns

pub has-deeds : (first m : ℕ) (o : Outcome) → HasLines (deeds_of first m o)
has-deeds first m NoNumber = tt
has-deeds first m (AllOwned owners last) = has-looks first (owners ++ last ∷ [])
has-deeds first m (Placed owners p) = has-append (looks_from first (owners ++ 0 ∷ [])) (deed.Map m p ∷ deed.Switch m p ∷ []) (has-looks first (owners ++ 0 ∷ [])) tt

pub has-retired : (line m : ℕ) (current : List ℕ) (o : Outcome) → 1 ≤ line → HasLines (retired_by line m current o)
has-retired line m current NoNumber some = tt
has-retired line m current (AllOwned owners last) some = tt
has-retired line m current (Placed owners p) some = (some, tt)

-- the line of a mapping that wasn't retired before is that of the deed that retires it
pub line-retired : (ds : List Deed) (n line : ℕ) → HasLines ds → line_in ds n ≡ 0 → line_in (ds ++ deed.Retire n line ∷ []) n ≡ line
line-retired [] n line h none = ap (λ (b : Bool). cond b line 0) (eq-eqb n n refl)
line-retired (deed.Look f o ∷ ds) n line h none = line-retired ds n line h none
line-retired (deed.Map m p ∷ ds) n line h none = line-retired ds n line h none
line-retired (deed.Switch m p ∷ ds) n line h none = line-retired ds n line h none
line-retired (deed.Retire k l ∷ ds) n line h none = elim (cases_Bool (eqb k n)) [
  | inl same ↦ let is : l ≡ 0 = ap (λ (b : Bool). cond b l (line_in ds n)) (sym same) ∙ none in absurd (omega (arith, is, h.0))
  | inr other ↦
      let before : line_in ds n ≡ 0 = ap (λ (b : Bool). cond b l (line_in ds n)) (sym other) ∙ none in
      ap (λ (b : Bool). cond b l (line_in (ds ++ deed.Retire n line ∷ []) n)) other ∙ line-retired ds n line h.1 before
]
line-retired (deed.Unmap k ∷ ds) n line h none = line-retired ds n line h none

-- a retire that waits, behind deeds that retire nothing
pub line-waits : (deeds news waiting last : List Deed) (n : ℕ) → AreSilent news → line_in ((deeds ++ news) ++ (waiting ++ last)) n ≡ line_in ((deeds ++ waiting) ++ last) n
line-waits deeds news waiting last n silent =
    ap (λ (ds : List Deed). line_in ds n) (append_assoc deeds news (waiting ++ last))
    ∙ line-between deeds news (waiting ++ last) n silent
    ∙ ap (λ (ds : List Deed). line_in ds n) (sym (append_assoc deeds waiting last))

-- unmaps at the end
pub line-ended : (deeds waiting : List Deed) (ns : List ℕ) (n : ℕ) → line_in ((deeds ++ waiting ++ map (λ (k : ℕ). deed.Unmap k) ns) ++ []) n ≡ line_in (deeds ++ waiting) n
line-ended deeds waiting ns n =
    let unmaps = map (λ (k : ℕ). deed.Unmap k) ns in
    let none : unmaps ≡ unmaps ++ [] = sym (append-nil unmaps) in
    ap (λ (ds : List Deed). line_in ds n) (append-nil (deeds ++ waiting ++ unmaps) ∙ ap (λ (ds : List Deed). (deeds ++ waiting) ++ ds) none)
    ∙ line-between (deeds ++ waiting) unmaps [] n (silent-unmaps ns)
    ∙ ap (λ (ds : List Deed). line_in ds n) (append-nil (deeds ++ waiting))

-- ---- mappings

no-looks : (f : ℕ) (os : List ℕ) → maps_in (looks_from f os) ≡ []
no-looks f [] = refl
no-looks f (o ∷ os) = no-looks (f + 1) os

no-unmaps : (ns : List ℕ) → maps_in (map (λ (n : ℕ). deed.Unmap n) ns) ≡ []
no-unmaps [] = refl
no-unmaps (n ∷ ns) = no-unmaps ns

-- the mapping that moving a module makes, if it makes one
abbrev pub made_by : ℕ → Outcome → List Made
made_by m NoNumber = []
made_by m (AllOwned owners last) = []
made_by m (Placed owners p) = made m p ∷ []

maps-deeds : (first m : ℕ) (o : Outcome) → maps_in (deeds_of first m o) ≡ made_by m o
maps-deeds first m NoNumber = refl
maps-deeds first m (AllOwned owners last) = no-looks first (owners ++ last ∷ [])
maps-deeds first m (Placed owners p) =
    maps-append (looks_from first (owners ++ 0 ∷ [])) (deed.Map m p ∷ deed.Switch m p ∷ [])
    ∙ ap (λ (gs : List Made). gs ++ made m p ∷ []) (no-looks first (owners ++ 0 ∷ []))

pub no-retired : (line m : ℕ) (current : List ℕ) (o : Outcome) → maps_in (retired_by line m current o) ≡ []
no-retired line m current NoNumber = refl
no-retired line m current (AllOwned owners last) = refl
no-retired line m current (Placed owners p) = refl

made-append : (shape : Shape) (deeds more : List Deed) → all_made shape (deeds ++ more) ≡ all_made shape deeds ++ maps_in more
made-append shape deeds more =
    ap (λ (gs : List Made). opened_from 0 shape.modules ++ gs) (maps-append deeds more)
    ∙ sym (append_assoc (opened_from 0 shape.modules) (maps_in deeds) (maps_in more))

pub made-after : (shape : Shape) (deeds : List Deed) (first m : ℕ) (o : Outcome) → all_made shape (deeds ++ deeds_of first m o) ≡ all_made shape deeds ++ made_by m o
made-after shape deeds first m o = made-append shape deeds (deeds_of first m o) ∙ ap (λ (gs : List Made). all_made shape deeds ++ gs) (maps-deeds first m o)

pub made-ended : (shape : Shape) (deeds waiting : List Deed) (ns : List ℕ) → maps_in waiting ≡ [] → all_made shape (deeds ++ waiting ++ map (λ (k : ℕ). deed.Unmap k) ns) ≡ all_made shape deeds
made-ended shape deeds waiting ns none =
    let unmaps = map (λ (k : ℕ). deed.Unmap k) ns in
    ap (all_made shape) (append_assoc deeds waiting unmaps)
    ∙ made-append shape deeds (waiting ++ unmaps)
    ∙ ap (λ (gs : List Made). all_made shape deeds ++ gs) (maps-append waiting unmaps ∙ (λ j. none j ++ no-unmaps ns j))
    ∙ append-nil (all_made shape deeds)
