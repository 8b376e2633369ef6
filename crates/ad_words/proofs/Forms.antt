-- What the words of an option are: its name, and its value in the same word or in the next.
use Rattle.std.proofs.Common.{◌≡◌, ◌==◌, ℕ, Bool, true, false, List, [], ◌∷◌, ◌++◌, length, refl, ap, ◌∙◌, arith, codes, append_assoc}
use Rattle.std.specs.List.{list_any, position_or_len}
use Rattle.std.proofs.Math.Seq.{drop-append-add, take-append_seam}
use Rattle.std.proofs.lemmas.Bool.{or_parts}
use Rattle.std.proofs.lemmas.Grind.{common_steps}
use Rattle.ad_words.specs.Laws.{IsOptionName}
use Rattle.ad_words.specs.Words.{Apart, Joined, kind_of, option_kind}

abbrev is_equals_sign : ℕ → Bool
is_equals_sign byte = byte == 0x3d

found-behind : (name value : List ℕ) → list_any is_equals_sign (name ++ 0x3d ∷ value) ≡ true
found-behind [] value = refl
found-behind (byte ∷ name) value = grind (arith, common_steps, found-behind name value)

first-behind : (name value : List ℕ) → list_any is_equals_sign name ≡ false
    → position_or_len is_equals_sign (name ++ 0x3d ∷ value) ≡ length name
first-behind [] value none = refl
first-behind (byte ∷ name) value none =
    let parts = or_parts (is_equals_sign byte) (list_any is_equals_sign name) none in
    let rest = first-behind name value parts.1 in
    rw parts.0 (rw rest (omega arith))

-- a text with `=` is cut behind its name
option_kind-joined : (name value : List ℕ) → list_any is_equals_sign name ≡ false
    → option_kind (name ++ 0x3d ∷ value) ≡ Joined name value
option_kind-joined name value none =
    rw (found-behind name value) (rw (first-behind name value none)
    (rw (take-append_seam name (0x3d ∷ value)) (rw (drop-append-add name (0x3d ∷ value) 1) refl)))

pub kind_of-joined : (name value : List ℕ) → IsOptionName name
    → kind_of (codes "--" ++ name ++ codes "=" ++ value) ≡ Joined name value
kind_of-joined [] value named = absurd (named.not_empty refl)
kind_of-joined (byte ∷ name) value named =
    ap (λ text. kind_of (codes "--" ++ byte ∷ text)) (append_assoc name (codes "=") value)
    ∙ option_kind-joined (byte ∷ name) value named.no_equals_sign

pub kind_of-apart : (name : List ℕ) → IsOptionName name → kind_of (codes "--" ++ name) ≡ Apart name
kind_of-apart [] named = absurd (named.not_empty refl)
kind_of-apart (byte ∷ name) named = rw named.no_equals_sign refl
