use Rattle.std.proofs.Common.{◌∙◌, ap, length, replicate}
use Rattle.ad_symbolic.specs.AddressSpace.{space_of}
use Rattle.ad_symbolic.specs.Private.Reached.{space_by}
use Rattle.ad_symbolic.specs.declared.byte.Byte.TheVariants.{Number}
use Rattle.std.proofs.lemmas.List.{length-replicate}
use Rattle.ad_symbolic.proofs.memory.Memory.clear_stack.Goals as goal

pub returns-clause-fresh : goal.returns-clause-fresh
returns-clause-fresh c of_image =
    let m = c.args.self.now in
    (λ j. space_by (record m { stack = c.clear.ensures j }) m.writable.bytes m.fixed_data.bytes (c.clear.ensures j).bytes)
    ∙ of_image.same m.writable.bytes m.fixed_data.bytes (replicate _ (Number 0))
    ∙ ap (λ n. space_of m.image.now m.writable.bytes m.fixed_data.bytes (replicate n (Number 0))) of_image.long

pub returns-clause-kept : goal.returns-clause-kept
returns-clause-kept c of_image = record {
  same = λ writable fixed stack. (λ j. space_by (record c.args.self.now { stack = record { base = (c.clear.ensures j).base; bytes = stack } }) writable fixed stack) ∙ of_image.same writable fixed stack;
  long = ap (λ s. length s.bytes) c.clear.ensures ∙ length-replicate _ (Number 0) ∙ of_image.long;
}
