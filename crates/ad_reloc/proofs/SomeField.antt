-- A number that a form can spell is spelled after any number, so a row sets a field of any bytes.
use Rattle.std.proofs.Common.{◌≡◌, ℕ, ◌+◌, ◌*◌, ◌/◌, ◌%◌, ◌^◌, List, ℤ, pos, negsuc, refl, subst, arith}
use Rattle.std.specs.Int.{int_rem_euclid}
use Rattle.ad_reloc.specs.declared.row.Form.{Form}
use Rattle.ad_reloc.specs.declared.row.Form.TheVariants.{Branch, Empty, Immediate, Jump, Number32, Number64, Pair, Store, Upper}
use Rattle.ad_reloc.specs.declared.row.Row.{Row}
use Rattle.ad_reloc.specs.Fields.{CanSpell, IsImmediate, IsUpper, Spells, bytes_of}
use Rattle.ad_reloc.specs.Halves.{HasHalves}
use Rattle.ad_reloc.specs.Relocated.{IsSet, field_value, number_at, with_number}
use Rattle.ad_reloc.proofs.SomeWord.{some_branch, some_immediate, some_jump, some_store, some_upper}

-- a remainder has no sign
some_rest : (v d : ℤ) → (n : ℕ) × (pos n ≡ int_rem_euclid v d)
some_rest (pos k) d = (_, refl)
some_rest (negsuc k) d = (_, refl)

some_pair : (v : ℤ) (old : ℕ) → HasHalves v → (new : ℕ) × Spells Pair v old new
some_pair v old has =
    let upper = some_upper v (old % 2 ^ 32) has in
    let immediate = some_immediate v (old / 2 ^ 32) has in
    let low : upper.0 ≡ (upper.0 + immediate.0 * 2 ^ 32) % 2 ^ 32 = omega (arith, upper.1) in
    let high : immediate.0 ≡ (upper.0 + immediate.0 * 2 ^ 32) / 2 ^ 32 = omega (arith, upper.1) in
    (upper.0 + immediate.0 * 2 ^ 32, (subst (IsUpper v (old % 2 ^ 32)) low upper.2, subst (IsImmediate v (old / 2 ^ 32)) high immediate.2))

pub some_field : (f : Form) (v : ℤ) (old : ℕ) → CanSpell f v → (new : ℕ) × Spells f v old new
some_field Empty v old can = (old, refl)
some_field Number32 v old can = some_rest v (pos (2 ^ 32))
some_field Number64 v old can = some_rest v (pos (2 ^ 64))
some_field Upper v old can = let word = some_upper v old can in (word.0, word.2)
some_field Immediate v old can = let word = some_immediate v old can in (word.0, word.2)
some_field Store v old can = let word = some_store v old can in (word.0, word.2)
some_field Branch v old can = let word = some_branch v old can in (word.0, word.2)
some_field Jump v old can = let word = some_jump v old can in (word.0, word.2)
some_field Pair v old can = some_pair v old can

pub some_set : (w : Row) (v : ℤ) (at : ℕ) (before : List ℕ) → ((n : ℕ) → CanSpell w.form (field_value w.formula n v)) → (after : List ℕ) × IsSet w v at before after
some_set w v at before can =
    let old = number_at (bytes_of w.form) at before in
    let new = some_field w.form (field_value w.formula old v) old (can old) in
    (with_number (bytes_of w.form) at new.0 before, record { field = new.0; spells = new.1; rest = refl })
