use Rattle.std.proofs.Common.{◌∙◌, ap, sym, Ok, take, drop, ◌-◌}
use Rattle.ad_symbolic.specs.AddressSpace.{value_of_bytes}
use Rattle.ad_symbolic.proofs.Accesses.{loaded-ended, loaded-found, loaded-unclear}
use Rattle.ad_symbolic.proofs.memory.Memory.load.Goals as goal

pub returns-in-Ok : goal.returns-in-Ok
returns-in-Ok c =
    let a = c.args in
    loaded-found a.self.now a.size a.at c.reach.result c.reach.ensures.reached a.signed c.in-Ok-Ok.role _ (c.in-Ok-Ok.is ∙ ap Ok c.in-Ok-Ok.field-0-is)
    (ap (value_of_bytes a.size a.signed) (sym (c.read.ensures.found ∙ (λ j. take a.size (drop (c.offset.ensures j - (c.piece.ensures j).base) (c.piece.ensures j).bytes)))) ∙ sym c.value_of.ensures ∙ c.in-Ok.is)

pub returns-in-Err-value_of : goal.returns-in-Err-value_of
returns-in-Err-value_of c =
    let a = c.args in
    loaded-found a.self.now a.size a.at c.reach.result c.reach.ensures.reached a.signed c.in-Ok-Ok.role _ (c.in-Ok-Ok.is ∙ ap Ok c.in-Ok-Ok.field-0-is)
    (ap (value_of_bytes a.size a.signed) (sym (c.read.ensures.found ∙ (λ j. take a.size (drop (c.offset.ensures j - (c.piece.ensures j).base) (c.piece.ensures j).bytes)))) ∙ sym c.value_of.ensures ∙ c.in-Err-value_of.is)

pub returns-in-Ok-Err : goal.returns-in-Ok-Err
returns-in-Ok-Err c = loaded-ended c.args.self.now c.args.size c.args.at c.reach.result c.reach.ensures.reached c.args.signed c.in-Ok-Err.end (c.in-Ok-Err.is ∙ ap Ok c.in-Ok-Err.field-0-is)

pub returns-in-Err : goal.returns-in-Err
returns-in-Err c = loaded-unclear c.args.self.now c.args.size c.args.at c.reach.result c.reach.ensures.reached c.args.signed c.in-Err.reason c.in-Err.is
