-- The least multiple that isn't below a number.
use Rattle.std.proofs.Common.{◌≡◌, ℕ, ◌+◌, ◌-◌, ◌*◌, ◌/◌, ◌<◌, ◌≤◌, refl, arith}
use Rattle.std.proofs.Math.Nat.{div-add-mod', div-lt_iff_lt-mul, mod-lt, mul-le-mul_right}
use Rattle.ad_parts.specs.Ends.{next}

pub next-multiple : (align n : ℕ) → (k : ℕ) × (next align n ≡ k * align)
unfolding next
next-multiple align n = ((n + (align - 1)) / align, refl)

pub next-from : (align n : ℕ) → 0 < align → n ≤ next align n
unfolding next
next-from align n some =
    let whole = div-add-mod' (n + (align - 1)) align in
    let rest = mod-lt (n + (align - 1)) some in
    omega (arith, whole, rest)

pub next-least : (align n k : ℕ) → 0 < align → n ≤ k * align → next align n ≤ k * align
unfolding next
next-least align n k some below =
    let above : n + (align - 1) < (k + 1) * align = omega arith in
    let quotient : (n + (align - 1)) / align < k + 1 = (div-lt_iff_lt-mul some).1 above in
    let least : (n + (align - 1)) / align ≤ k = omega arith in
    mul-le-mul_right align least
