use Rattle.std.proofs.Common.{List, ◌<◌, ◌∙◌, subst, sym}
use Rattle.std.specs.List.{All}
use Rattle.ad_elf.specs.declared.object.Rela.{Rela}
use Rattle.ad_elf.specs.Fields.{section_count}
use Rattle.ad_elf.proofs.Targets.{relas_targets}
use Rattle.ad_elf.proofs.relas.read_relas.Goals as goal

pub rela_refusal-requires-clause-targets : goal.rela_refusal-requires-clause-targets
rela_refusal-requires-clause-targets c =
    let same = c.as_slice.ensures.value ∙ c.in_ok-relas.ensures in
    subst (λ (rs : List Rela). All (λ (r : Rela). r.target < section_count c.args.file.now) rs) (sym same) (relas_targets c.args.file.now c.requires.directed)
