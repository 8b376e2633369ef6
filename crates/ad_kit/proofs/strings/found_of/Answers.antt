use Rattle.std.proofs.Common.{List, ℕ, ◌+◌, length, subst, take, sym, ap, ◌∙◌, arith}
use Rattle.std.proofs.lemmas.List.Sums.{fold_more, sum_by_more_le}
use Rattle.ad_kit.specs.ObjectFile.{used, with_name}
use Rattle.ad_kit.specs.Private.Written.{AreFound}
use Rattle.ad_kit.proofs.Names.{used-more, used-none}
use Rattle.ad_kit.proofs.strings.found_of.Goals as goal

pub loop-k-init : goal.loop-k-init
loop-k-init c = record { found = rw used-none c.in_ok-found.ensures.strings; size = omega (arith, c.in_ok-found.ensures.size) }

pub add-requires : goal.add-requires
add-requires c =
    let name = ap length (c.bytes.ensures ∙ c.index-names-k.is) in
    omega (arith, name, c.loop-k.invariant.size, sum_by_more_le (λ (n : List ℕ). length n + 1) c.args.names.now c.loop-k.k c.index-names-k.result c.loop-k-test.true, c.requires)

pub loop-k-preserved : goal.loop-k-preserved
loop-k-preserved c =
    let names = c.args.names.now in
    let d = c.index-names-k.result in
    let is = c.bytes.ensures ∙ c.index-names-k.is in
    let more = ap (with_name (used (take c.loop-k.k names))) is ∙ sym (used-more names c.loop-k.k d c.loop-k-test.true) in
    let sum = fold_more (λ (a : ℕ) (n : List ℕ). a + (length n + 1)) 0 names c.loop-k.k d c.loop-k-test.true in
    record {
      found = subst (λ (ns : List (List ℕ)). AreFound ns c.add.new.found) more (c.in_ok-add.ensures.found (used (take c.loop-k.k names)) c.loop-k.invariant.found);
      size = omega (arith, c.in_ok-add.ensures.size, c.loop-k.invariant.size, sum, ap length is);
    }
