use Rattle.std.proofs.Common.{refl, [], ◌∷◌}
use Rattle.std.proofs.lemmas.List.{append-nil}
use Rattle.ad_elf.proofs.Below.{each_push_behind, joined-zero}
use Rattle.ad_elf.specs.File.{rela}
use Rattle.ad_elf.proofs.relas.push_relas.Goals as goal

pub loop-j-init : goal.loop-j-init
loop-j-init c =
    rw (joined-zero (λ j. rela c.args.file.now c.args.i j ∷ []), append-nil) refl

pub loop-j-preserved : goal.loop-j-preserved
loop-j-preserved c =
    each_push_behind c.args.relas.now.items (rela c.args.file.now c.args.i) c.loop-j.j c.loop-j.relas.items _ c.rela.result c.loop-j.invariant c.in_ok-push.ensures.items c.rela.ensures
