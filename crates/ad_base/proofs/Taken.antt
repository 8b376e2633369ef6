-- What a loop over writes has had taken so far, and what is left.
use Rattle.std.proofs.Common.{◌≡◌, ℕ, ◌<◌, List, [], ◌++◌, Option, length, take, drop, refl, sym, ap, ◌∙◌, subst, Result, Ok, Err, OnErr, arith, append_assoc, append-nil, length-append, take-append-drop}
use lib.Seq.{take-append_seam}
use Rattle.std.specs.Io.KnownBytes.{Appends, Keeps}
use Rattle.std.proofs.KnownBytes.{Appends-nil, Appends-trans, Appends-kept}

-- the bytes before the rest were appended
abbrev pub Taken : Option (List ℕ) → Option (List ℕ) → List ℕ → List ℕ → Type 0
Taken old new all rest = (before : List ℕ) × (all ≡ before ++ rest) × Appends old new before

pub Taken-none : (a : Option (List ℕ)) (all : List ℕ) → Taken a a all all
Taken-none a all = ([], refl, Appends-nil a)

pub Taken-more : (a b c : Option (List ℕ)) (all rest left : List ℕ) (n : ℕ) → Taken a b all rest → Appends b c (take n rest) → left ≡ drop n rest → Taken a c all left
Taken-more a b c all rest left n t p e =
    let joined : rest ≡ take n rest ++ left = sym (take-append-drop n rest) ∙ ap (λ l. take n rest ++ l) (sym e) in
    let split : all ≡ (t.0 ++ take n rest) ++ left = t.1 ∙ ap (λ l. t.0 ++ l) joined ∙ sym (append_assoc t.0 (take n rest) left) in
    (t.0 ++ take n rest, split, Appends-trans a b c t.0 (take n rest) t.2 p)

pub Taken-all : (a b : Option (List ℕ)) (all rest : List ℕ) → Taken a b all rest → rest ≡ [] → Appends a b all
Taken-all a b all rest t e =
    let same : t.0 ≡ all = sym (t.1 ∙ ap (λ l. t.0 ++ l) e ∙ append-nil t.0) in
    subst (Appends a b) same t.2

pub Taken-some : (a b c : Option (List ℕ)) (all rest : List ℕ) → Taken a b all rest → 0 < length rest → Keeps b c
    → (n : ℕ) × (n < length all) × Appends a c (take n all)
Taken-some a b c all rest t more kept =
    let front : t.0 ≡ take (length t.0) all = sym (ap (take (length t.0)) t.1 ∙ take-append_seam t.0 rest) in
    let shorter : length t.0 < length all = omega (arith, ap length t.1, length-append t.0 rest) in
    (length t.0, shorter, subst (Appends a c) front (Appends-kept a b c t.0 t.2 kept))

-- what holds anyway holds after an error
pub OnErr-always : {T E : Type 0} (r : Result T E) (P : Type 0) → P → OnErr r P
OnErr-always (Ok x) P h = tt
OnErr-always (Err e) P h = h
