use Rattle.std.proofs.Common.{List, ℕ, ◌++◌, append_assoc, flat_map, get_or, ap, sym, ◌∙◌, take}
use Rattle.std.specs.List.{All}
use Rattle.std.proofs.lemmas.List.{append-nil}
use Rattle.std.proofs.lemmas.List.Elements.{All-more, All-nil, All-same}
use Rattle.ad_kit.specs.ReadBack.{IsRelaFit}
use Rattle.ad_kit.specs.declared.object.KitSection.{KitSection}
use Rattle.ad_kit.specs.ObjectFile.{end_of, rela, relas_bytes, to_relas}
use Rattle.ad_kit.specs.declared.object.KitRela.{KitRela}
use Rattle.ad_kit.proofs.Bytes.{AreRelasBegun-more, AreRelasBegun-none, relas_bytes-more, relas_bytes-none}
use Rattle.ad_kit.proofs.body.put_relas.Goals as goal

pub loop-k-init : goal.loop-k-init
loop-k-init c = record { bytes = rw (relas_bytes-none, append-nil) c.requires.before; places = AreRelasBegun-none c.args.sections.now _ c.new-places.ensures.items; fit = All-nil (λ (s : KitSection). All IsRelaFit s.relas) }

pub loop-k-preserved : goal.loop-k-preserved
loop-k-preserved c =
    let ss = c.args.sections.now in
    let k = c.loop-k.k in
    let d = c.index-sections-k.result in
    let relas = (get_or ss k d).relas in
    let old = c.loop-k.invariant in
    let pushed = c.in_ok-put_relas_of.ensures.bytes ∙ ap (λ (rs : List KitRela). c.loop-k.body.items ++ flat_map rela rs) c.as_slice-in-loop-k.ensures in
    record {
      bytes = pushed ∙ ap (λ (b : List ℕ). b ++ flat_map rela relas) old.bytes ∙ append_assoc (to_relas ss) (relas_bytes (take k ss)) (flat_map rela relas) ∙ ap (λ (b : List ℕ). to_relas ss ++ b) (relas_bytes-more ss k d c.loop-k-test.true);
      places = AreRelasBegun-more ss k c.loop-k.places.items _ c.end_of.result old.places c.in_ok-push.ensures.items (c.end_of.ensures.value ∙ ap end_of (c.as_slice.ensures.value ∙ old.bytes));
      fit = All-more (λ (s : KitSection). All IsRelaFit s.relas) ss k d c.loop-k-test.true old.fit (All-same IsRelaFit relas _ (sym c.as_slice-in-loop-k.ensures) c.in_ok-put_relas_of.ensures.fit);
    }
