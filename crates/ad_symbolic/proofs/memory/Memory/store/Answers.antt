use Rattle.std.proofs.Common.{◌∙◌, ap, refl, Ok}
use Rattle.ad_base.specs.declared.role.Role.TheVariants.{Data, FixedData, Stack}
use Rattle.ad_symbolic.specs.AddressSpace.{low_bytes}
use Rattle.ad_symbolic.specs.Private.Reached.{space_by}
use Rattle.ad_symbolic.proofs.Accesses.{may-not-store, put-data, put-fixed, put-stack, stored-denied, stored-ended, stored-found, stored-unclear}
use Rattle.ad_symbolic.proofs.memory.Memory.store.Goals as goal

pub returns-in-Ok-Err-clause-left : goal.returns-in-Ok-Err-clause-left
returns-in-Ok-Err-clause-left c = stored-ended c.args.self.now c.args.size c.args.at c.reach.result c.reach.ensures.reached c.args.value c.in-Ok-Err.end (c.in-Ok-Err.is ∙ ap Ok c.in-Ok-Err.field-0-is)

pub returns-in-Err-clause-left : goal.returns-in-Err-clause-left
returns-in-Err-clause-left c = stored-unclear c.args.self.now c.args.size c.args.at c.reach.result c.reach.ensures.reached c.args.value c.in-Err.reason c.in-Err.is

pub returns-in_default : goal.returns-in_default
returns-in_default c = record {
  left = stored-denied c.args.self.now c.args.size c.args.at c.reach.result c.reach.ensures.reached c.args.value c.in-Ok-Ok.role (c.in-Ok-Ok.is ∙ ap Ok c.in-Ok-Ok.field-0-is)
      (may-not-store c.in-Ok-Ok.role c.in_default.not-Stack c.in_default.not-FixedData c.in_default.not-Data);
  stays = refl;
  image = refl;
  kept = λ of_image. of_image;
}

pub returns-in-Stack-clause-left : goal.returns-in-Stack-clause-left
returns-in-Stack-clause-left c =
    let a = c.args in
    let is = (c.in-Ok-Ok.is ∙ ap Ok c.in-Ok-Ok.field-0-is) ∙ ap (λ x. Ok (Ok x)) c.in-Stack.is in
    stored-found a.self.now a.size a.at c.reach.result c.reach.ensures.reached a.value Stack _ is refl
    (put-stack a.self.now a.at c.reach.result c.reach.ensures.puts c.offset.result c.offset.ensures (low_bytes a.size a.value) c.put.new.self is (c.put.ensures.bytes Stack))

pub returns-in-Stack-clause-kept : goal.returns-in-Stack-clause-kept
returns-in-Stack-clause-kept c of_image = record {
  same = λ writable fixed stack. (λ j. space_by (record c.args.self.now { stack = record { base = c.put.ensures.base j; bytes = stack } }) writable fixed stack) ∙ of_image.same writable fixed stack;
  long = c.put.ensures.length ∙ of_image.long;
}

pub returns-in-Data-clause-left : goal.returns-in-Data-clause-left
returns-in-Data-clause-left c =
    let a = c.args in
    let put = c.put-in-Data in
    let offset = c.offset-in-Data in
    let is = (c.in-Ok-Ok.is ∙ ap Ok c.in-Ok-Ok.field-0-is) ∙ ap (λ x. Ok (Ok x)) c.in-Data.is in
    stored-found a.self.now a.size a.at c.reach.result c.reach.ensures.reached a.value Data _ is refl
    (put-data a.self.now a.at c.reach.result c.reach.ensures.puts offset.result offset.ensures (low_bytes a.size a.value) put.new.self is (put.ensures.bytes Data))

pub returns-in-Data-clause-kept : goal.returns-in-Data-clause-kept
returns-in-Data-clause-kept c of_image = record {
  same = λ writable fixed stack. (λ j. space_by (record c.args.self.now { writable = record { base = c.put-in-Data.ensures.base j; bytes = writable } }) writable fixed stack) ∙ of_image.same writable fixed stack;
  long = of_image.long;
}

pub returns-in-FixedData-clause-left : goal.returns-in-FixedData-clause-left
returns-in-FixedData-clause-left c =
    let a = c.args in
    let put = c.put-in-FixedData in
    let offset = c.offset-in-FixedData in
    let is = (c.in-Ok-Ok.is ∙ ap Ok c.in-Ok-Ok.field-0-is) ∙ ap (λ x. Ok (Ok x)) c.in-FixedData.is in
    stored-found a.self.now a.size a.at c.reach.result c.reach.ensures.reached a.value FixedData _ is refl
    (put-fixed a.self.now a.at c.reach.result c.reach.ensures.puts offset.result offset.ensures (low_bytes a.size a.value) put.new.self is (put.ensures.bytes FixedData))

pub returns-in-FixedData-clause-kept : goal.returns-in-FixedData-clause-kept
returns-in-FixedData-clause-kept c of_image = record {
  same = λ writable fixed stack. (λ j. space_by (record c.args.self.now { fixed_data = record { base = c.put-in-FixedData.ensures.base j; bytes = fixed } }) writable fixed stack) ∙ of_image.same writable fixed stack;
  long = of_image.long;
}
