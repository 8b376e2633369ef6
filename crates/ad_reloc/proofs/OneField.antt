-- A field spells a value by one list of bytes.
use Rattle.std.proofs.Common.{◌≡◌, ℕ, ◌/◌, ◌%◌, ◌^◌, [], ◌∷◌, ◌++◌, ℤ, pos, ◌*ℤ◌, refl, sym, ap, ◌∙◌, arith}
use Rattle.byteorder.specs.Endian.{little_bytes}
use Rattle.ad_reloc.specs.declared.row.Form.{Form}
use Rattle.ad_reloc.specs.declared.row.Form.TheVariants.{Branch, Empty, Immediate, Jump, Number32, Number64, Pair, Store, Upper}
use Rattle.ad_reloc.specs.Fields.{IsBranch, IsImmediate, IsJump, IsStore, IsUpper, Spells, bytes_of}
use Rattle.ad_reloc.proofs.OnePair.{same_high, same_low}
use Rattle.ad_reloc.proofs.OneWord.{one_branch, one_immediate, one_jump, one_store, one_upper}

-- the low four bytes of numbers that are one below 2^32, and eight bytes as twice four
low_four : (x y : ℕ) → x % 2 ^ 32 ≡ y % 2 ^ 32 → little_bytes 4 x ≡ little_bytes 4 y
low_four x y e =
    let a : x % 256 ≡ y % 256 = omega (arith, e) in
    let b : x / 256 % 256 ≡ y / 256 % 256 = omega (arith, e) in
    let c : x / 256 ^ 2 % 256 ≡ y / 256 ^ 2 % 256 = omega (arith, e) in
    let d : x / 256 ^ 3 % 256 ≡ y / 256 ^ 3 % 256 = omega (arith, e) in
    λ j. a j ∷ b j ∷ c j ∷ d j ∷ []

twice_four : (x : ℕ) → little_bytes 8 x ≡ little_bytes 4 x ++ little_bytes 4 (x / 2 ^ 32)
twice_four x =
    let a : x / 256 ^ 5 % 256 ≡ x / 2 ^ 32 / 256 % 256 = omega arith in
    let b : x / 256 ^ 6 % 256 ≡ x / 2 ^ 32 / 256 ^ 2 % 256 = omega arith in
    let c : x / 256 ^ 7 % 256 ≡ x / 2 ^ 32 / 256 ^ 3 % 256 = omega arith in
    λ j. little_bytes 4 x ++ x / 2 ^ 32 % 256 ∷ a j ∷ b j ∷ c j ∷ []

low_eight : (x y : ℕ) → x % 2 ^ 32 ≡ y % 2 ^ 32 → x / 2 ^ 32 % 2 ^ 32 ≡ y / 2 ^ 32 % 2 ^ 32 → little_bytes 8 x ≡ little_bytes 8 y
low_eight x y low high = twice_four x ∙ (λ j. low_four x y low j ++ low_four (x / 2 ^ 32) (y / 2 ^ 32) high j) ∙ sym (twice_four y)

same_number : (x y : ℕ) (v : ℤ) → pos x ≡ v → pos y ≡ v → x ≡ y
same_number x y v a b = cc

-- each format has one word below 2^32
upper_word : (v : ℤ) (old x y : ℕ) → IsUpper v old x → IsUpper v old y → x % 2 ^ 32 ≡ y % 2 ^ 32
upper_word v old x y a b =
    let high = same_high v a.high a.low b.high b.low a.halves b.halves in
    one_upper x y (a.immediate ∙ ap (λ h. pos 4096 *ℤ h) high ∙ sym b.immediate) (a.kept ∙ sym b.kept)

immediate_word : (v : ℤ) (old x y : ℕ) → IsImmediate v old x → IsImmediate v old y → x % 2 ^ 32 ≡ y % 2 ^ 32
immediate_word v old x y a b =
    let low = same_low v a.high a.low b.high b.low a.halves b.halves in
    one_immediate x y (a.immediate ∙ low ∙ sym b.immediate) (a.kept ∙ sym b.kept)

store_word : (v : ℤ) (old x y : ℕ) → IsStore v old x → IsStore v old y → x % 2 ^ 32 ≡ y % 2 ^ 32
store_word v old x y a b =
    let low = same_low v a.high a.low b.high b.low a.halves b.halves in
    one_store x y (a.immediate ∙ low ∙ sym b.immediate) (a.kept ∙ sym b.kept) (a.opcode_kept ∙ sym b.opcode_kept)

branch_word : (v : ℤ) (old x y : ℕ) → IsBranch v old x → IsBranch v old y → x % 2 ^ 32 ≡ y % 2 ^ 32
branch_word v old x y a b = one_branch x y (a.immediate ∙ sym b.immediate) (a.kept ∙ sym b.kept) (a.opcode_kept ∙ sym b.opcode_kept)

jump_word : (v : ℤ) (old x y : ℕ) → IsJump v old x → IsJump v old y → x % 2 ^ 32 ≡ y % 2 ^ 32
jump_word v old x y a b = one_jump x y (a.immediate ∙ sym b.immediate) (a.kept ∙ sym b.kept)

-- The numbers may have more bits than the field, whose bytes are their low ones.
pub one_field : (f : Form) (v : ℤ) (old x y : ℕ) → Spells f v old x → Spells f v old y → little_bytes (bytes_of f) x ≡ little_bytes (bytes_of f) y
one_field Empty v old x y a b = refl
one_field Number32 v old x y a b = ap (little_bytes 4) (same_number x y _ a b)
one_field Number64 v old x y a b = ap (little_bytes 8) (same_number x y _ a b)
one_field Upper v old x y a b = low_four x y (upper_word v old x y a b)
one_field Immediate v old x y a b = low_four x y (immediate_word v old x y a b)
one_field Store v old x y a b = low_four x y (store_word v old x y a b)
one_field Branch v old x y a b = low_four x y (branch_word v old x y a b)
one_field Jump v old x y a b = low_four x y (jump_word v old x y a b)
one_field Pair v old x y a b =
    let upper = upper_word v (old % 2 ^ 32) (x % 2 ^ 32) (y % 2 ^ 32) a.0 b.0 in
    let immediate = immediate_word v (old / 2 ^ 32) (x / 2 ^ 32) (y / 2 ^ 32) a.1 b.1 in
    low_eight x y (omega (arith, upper)) immediate
