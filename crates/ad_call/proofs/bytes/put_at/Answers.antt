use Rattle.std.proofs.Common.{ap, ◌∙◌, ◌++◌, ◌+◌, sym, drop, take, arith, ◌≡◌, bit_and}
use Rattle.byteorder.specs.Endian.{little_bytes}
use Rattle.ad_call.specs.Private.Held.{with_stored}
use Rattle.ad_call.proofs.Puts.{low-2, low-4, put-one, put-rest}
use Rattle.ad_call.proofs.bytes.put_at.Goals as goal

pub returns-in-1 : goal.returns-in-1
returns-in-1 c =
    let xs = c.args.bytes.now in
    put-one c.args.offset c.args.value xs (omega (arith, c.requires.inside, c.in-1.is)) ∙ ap (λ n. with_stored c.args.offset n c.args.value xs) (sym c.in-1.is)

pub returns-in-2 : goal.returns-in-2
returns-in-2 c =
    let xs = c.args.bytes.now in
    put-rest c.args.offset 2 xs (little_bytes 2 (bit_and c.args.value 65535)) c.write_u16.new.buf (omega (arith, c.requires.inside, c.in-2.is)) c.write_u16.ensures
    ∙ ap (λ bytes. take c.args.offset xs ++ bytes ++ drop (c.args.offset + 2) xs) (low-2 c.args.value) ∙ ap (λ n. with_stored c.args.offset n c.args.value xs) (sym c.in-2.is)

pub returns-in-4 : goal.returns-in-4
returns-in-4 c =
    let xs = c.args.bytes.now in
    put-rest c.args.offset 4 xs (little_bytes 4 (bit_and c.args.value 4294967295)) c.write_u32.new.buf (omega (arith, c.requires.inside, c.in-4.is)) c.write_u32.ensures
    ∙ ap (λ bytes. take c.args.offset xs ++ bytes ++ drop (c.args.offset + 4) xs) (low-4 c.args.value) ∙ ap (λ n. with_stored c.args.offset n c.args.value xs) (sym c.in-4.is)

pub returns-in_default : goal.returns-in_default
returns-in_default c =
    let xs = c.args.bytes.now in
    let eight : c.args.size ≡ 8 = grind (arith, c.requires.size, c.in_default) in
    put-rest c.args.offset 8 xs (little_bytes 8 c.args.value) c.write_u64.new.buf (omega (arith, c.requires.inside, eight)) c.write_u64.ensures
    ∙ ap (λ n. with_stored c.args.offset n c.args.value xs) (sym eight)
