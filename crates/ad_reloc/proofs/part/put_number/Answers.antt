use Rattle.std.proofs.Common.{◌≡◌, ap, sym, ◌∙◌, arith}
use Rattle.byteorder.specs.Endian.{little_bytes}
use Rattle.ad_reloc.specs.Relocated.{with_number}
use Rattle.ad_reloc.proofs.Puts.{put-rest}
use Rattle.ad_reloc.proofs.part.put_number.Goals as goal

pub returns-in-4 : goal.returns-in-4
returns-in-4 c =
    let xs = c.args.bytes.now in
    put-rest c.args.at 4 xs (little_bytes 4 c.args.number) c.write_u32.new.buf (omega (arith, c.requires.inside, c.in-4.is)) c.write_u32.ensures
    ∙ ap (λ n. with_number n c.args.at c.args.number xs) (sym c.in-4.is)

pub returns-in_default : goal.returns-in_default
returns-in_default c =
    let xs = c.args.bytes.now in
    let eight : c.args.size ≡ 8 = grind (arith, c.requires.size, c.in_default) in
    put-rest c.args.at 8 xs (little_bytes 8 c.args.number) c.write_u64.new.buf (omega (arith, c.requires.inside, eight)) c.write_u64.ensures
    ∙ ap (λ n. with_number n c.args.at c.args.number xs) (sym eight)
