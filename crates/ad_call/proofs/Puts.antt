-- Bytes that are put into a list, and how long it is then.
use Rattle.std.proofs.Common.{◌≡◌, ℕ, suc, ◌+◌, ◌-◌, ◌/◌, ◌%◌, ◌≤◌, List, [], ◌∷◌, ◌++◌, length, take, drop, set, bit_and, refl, sym, ap, ◌∙◌, arith, length-take, length-drop}
use Rattle.std.proofs.lemmas.List.{append-nil, append_assoc, drop_all, length-append}
use Rattle.std.proofs.lemmas.Grind.{and_numeral}
use Rattle.byteorder.specs.Endian.{little_bytes}
use Rattle.byteorder.specs.Numbers.{length-bytes_low_first}
use borrow.Rule.Slice.PartMut.{put_mid}
use lib.Seq.{drop-drop, set_split, take_all}
use Rattle.ad_call.specs.Private.Held.{with_stored}

-- bytes that are written at the begin of the rest of a list
pub put-rest : (a size : ℕ) (xs bytes buf : List ℕ) → a + size ≤ length xs → buf ≡ bytes ++ drop size (take (length xs - a) (drop a xs))
    → put_mid a (length xs - a) xs buf ≡ take a xs ++ bytes ++ drop (a + size) xs
put-rest a size xs bytes buf fits is =
    let k = length xs - a in
    let none : drop k (drop a xs) ≡ [] = drop_all k (drop a xs) (omega (arith, length-drop a xs)) in
    let all : take k (drop a xs) ≡ drop a xs = take_all k (drop a xs) (omega (arith, length-drop a xs)) in
    let left = bytes ++ drop (a + size) xs in
    (λ j. take a xs ++ ((is ∙ ap (λ l. bytes ++ drop size l) all ∙ ap (λ l. bytes ++ l) (drop-drop size a xs)) j ++ none j))
    ∙ ap (λ l. take a xs ++ l) (append-nil left) ∙ sym (append_assoc (take a xs) bytes (drop (a + size) xs))

-- the low bytes of a value are those of its low part
pub low-2 : (v : ℕ) → little_bytes 2 (bit_and v 65535) ≡ little_bytes 2 v
low-2 v =
    let e : bit_and v 65535 ≡ v % 65536 = and_numeral v 65534 refl in
    let a : bit_and v 65535 % 256 ≡ v % 256 = omega (arith, e) in
    let b : bit_and v 65535 / 256 % 256 ≡ v / 256 % 256 = omega (arith, e) in
    λ j. a j ∷ b j ∷ []

pub low-4 : (v : ℕ) → little_bytes 4 (bit_and v 4294967295) ≡ little_bytes 4 v
low-4 v =
    let e : bit_and v 4294967295 ≡ v % 4294967296 = and_numeral v 4294967294 refl in
    let a : bit_and v 4294967295 % 256 ≡ v % 256 = omega (arith, e) in
    let b : bit_and v 4294967295 / 256 % 256 ≡ v / 256 % 256 = omega (arith, e) in
    let c : bit_and v 4294967295 / 65536 % 256 ≡ v / 65536 % 256 = omega (arith, e) in
    let d : bit_and v 4294967295 / 16777216 % 256 ≡ v / 16777216 % 256 = omega (arith, e) in
    λ j. a j ∷ b j ∷ c j ∷ d j ∷ []

-- one byte
pub put-one : (a v : ℕ) (xs : List ℕ) → a + 1 ≤ length xs → set xs a (bit_and v 255) ≡ with_stored a 1 v xs
put-one a v xs fits =
    let e : bit_and v 255 ≡ v % 256 = and_numeral v 254 refl in
    let behind : suc a ≡ a + 1 = omega arith in
    set_split xs a (bit_and v 255) (omega arith) ∙ (λ j. take a xs ++ e j ∷ drop (behind j) xs) ∙ sym (append_assoc (take a xs) (v % 256 ∷ []) (drop (a + 1) xs))

-- a list is as long as before
pub length-with_stored : (a size v : ℕ) (xs : List ℕ) → a + size ≤ length xs → length (with_stored a size v xs) ≡ length xs
length-with_stored a size v xs fits =
    omega (arith, length-append (take a xs ++ little_bytes size v) (drop (a + size) xs), length-append (take a xs) (little_bytes size v), length-take a xs, length-drop (a + size) xs, length-bytes_low_first 0 size v)
