use Rattle.std.proofs.Common.{ℕ, length, take, ap, ◌∙◌, arith}
use Rattle.ad_reloc.proofs.Stubbed.{stubs_inside}
use Rattle.ad_reloc.proofs.linking.Linking.code.Goals as goal

pub put_bytes-requires : goal.put_bytes-requires
put_bytes-requires c =
    stubs_inside c.args.self.now.layout.now.sizes c.args.movable _ _ c.args.part.now c.deref.result.now c.deref_mut.result.now (c.stubs_from.ensures.value) (ap length c.deref.ensures.value ∙ c.in_ok-stubs.ensures.long)
    (omega (arith, c.requires.words, ap length c.symbols.ensures)) (ap length c.deref_mut.ensures.value ∙ ap length c.in_ok-code.ensures ∙ ap (λ (n : ℕ). length (take n c.args.part.now)) c.table_from.ensures.value) c.requires.part
