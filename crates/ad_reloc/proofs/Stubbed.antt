-- The stubs of a part, one behind the other.
use Rattle.std.proofs.Common.{◌≡◌, ℕ, ◌+◌, ◌*◌, ◌-◌, ◌<◌, ◌≤◌, Bool, true, false, List, [], ◌++◌, length, take, length-take, ap, sym, ◌∙◌, arith}
use Rattle.std.specs.List.{flat_map}
use Rattle.byteorder.specs.Endian.{little_bytes}
use Rattle.ad_elf.proofs.Below.{joined-zero, joined_push}
use Rattle.ad_parts.specs.declared.layout.Layout.{Layout}
use Rattle.ad_parts.specs.declared.layout.Sizes.{Sizes}
use Rattle.ad_reloc.specs.Addresses.{stub, stubs_from, table_from, table_word}
use Rattle.ad_reloc.specs.Image.{stub_bytes, stub_words, stubs}
use Rattle.ad_reloc.specs.Private.Small.{AreSmall}

pub no_stubs : (l : Layout) (movable : Bool) (out : List ℕ) → out ≡ [] → out ≡ stubs l movable 0
unfolding stubs
no_stubs l movable out empty = empty ∙ sym (joined-zero (stub_bytes l movable))

pub one_stub : (l : Layout) (movable : Bool) (e : ℕ) (old new : List ℕ) (ahead : ℕ) → old ≡ stubs l movable e → new ≡ old ++ flat_map (little_bytes 4) (stub_words ahead) → ahead ≡ table_word l movable e - stub l movable e → new ≡ stubs l movable (e + 1)
unfolding stubs
one_stub l movable e old new ahead before made far = joined_push (stub_bytes l movable) e old new _ before made (ap (λ n. flat_map (little_bytes 4) (stub_words n)) far)

-- a word of the table is less than 2 gigabytes ahead of its stub
pub near : (z : Sizes) → AreSmall z → (movable : Bool) (e table first : ℕ) → table ≡ table_from z movable → first ≡ stubs_from z movable → table + 8 * e - (first + 16 * e) < 2147483648
near z h true e table first a b = omega (arith, h.read, h.text, a, b)
near z h false e table first a b = omega (arith, h.fixed_read, h.fixed_text, a, b)

-- the stubs lie in the code of a part
pub stubs_inside : (z : Sizes) (movable : Bool) (first count : ℕ) (part stubs code : List ℕ) → first ≡ stubs_from z movable → length stubs ≡ 16 * count → count ≤ 256 → length code ≡ length (take (table_from z movable) part) → table_from z movable ≤ length part
    → first + length stubs ≤ length code
stubs_inside z true first count part stubs code a b c d e = omega (arith, a, b, c, d, e, length-take (table_from z true) part)
stubs_inside z false first count part stubs code a b c d e = omega (arith, a, b, c, d, e, length-take (table_from z false) part)
