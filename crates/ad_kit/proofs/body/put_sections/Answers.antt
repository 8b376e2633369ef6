use Rattle.std.proofs.Common.{List, ℕ, ◌++◌, sym, ap, ◌∙◌}
use Rattle.ad_kit.specs.ObjectFile.{begin_behind, padded}
use Rattle.ad_kit.proofs.Bytes.{AreBegun-more, AreBegun-none, sections_bytes-more, sections_bytes-none}
use Rattle.ad_kit.proofs.body.put_sections.Goals as goal

pub loop-k-init : goal.loop-k-init
loop-k-init c = record { bytes = c.requires.empty ∙ sym sections_bytes-none; places = AreBegun-none c.args.sections.now _ c.new-places.ensures.items }

pub loop-k-preserved : goal.loop-k-preserved
loop-k-preserved c =
    let s = c.index-sections-k.result in
    let old = c.loop-k.invariant in
    let before = c.in_ok-pad.ensures.padded ∙ ap (padded s.align) old.bytes in
    record {
      bytes = c.in_ok-extend_from_slice.ensures.items ∙ ap (λ (b : List ℕ). c.pad.new.body.items ++ b) c.stored.ensures ∙ sections_bytes-more c.args.sections.now c.loop-k.k s c.pad.new.body.items c.loop-k-test.true c.index-sections-k.is before;
      places = AreBegun-more c.args.sections.now c.loop-k.k s c.loop-k.places.items _ c.in_ok-pad.field-0 c.loop-k-test.true c.index-sections-k.is old.places c.in_ok-push.ensures.items (c.in_ok-pad.ensures.place ∙ ap (begin_behind s.align) old.bytes);
    }
