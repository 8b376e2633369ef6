use Rattle.std.proofs.Common.{◌≡◌, ℕ, ◌<◌, ◌^◌, refl, to_z, w64, inl, inr, arith, rules, ap, ◌∙◌}
use Rattle.std.proofs.lemmas.Bool.{cases_lt, lt-ltb, le-ltb}
use Rattle.std.proofs.lemmas.Int.{ints, to_z-of_z}
use Rattle.byteorder.specs.Endian.{twos_complement}
use Rattle.ad_base.proofs.fields.field_i64.Goals as goal

-- a cast to a signed type reads the bits as two's complement
signed : (n : ℕ) → n < 2 ^ 64 → to_z w64 n ≡ twos_complement 8 n
signed n fits = elim (cases_lt n (2 ^ 63)) [
  | inl low ↦ rw (lt-ltb n (2 ^ 63) low) refl
  | inr high ↦ rw (le-ltb n (2 ^ 63) high) (omega (arith, ints))
]

pub returns : goal.returns
returns c =
    to_z-of_z w64 c.cast_signed.result (search rules) ∙ c.cast_signed.ensures ∙ signed c.field_u64.result c.field_u64.type_inv
    ∙ ap (twos_complement 8) c.field_u64.ensures
