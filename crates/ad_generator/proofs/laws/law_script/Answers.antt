use Rattle.std.proofs.Common.{refl, arith, lit≤}
use Rattle.ad_generator.proofs.ScriptRead.{generated-is-read, steps-built}
use Rattle.ad_generator.proofs.laws.law_script.Goals as goal

pub returns : goal.returns
returns c = record {
  read = λ n some few. generated-is-read n (omega (arith, few));
  some_worker = λ n. lit≤ tt;
  few_workers = λ n. lit≤ tt;
  loads = λ n. refl;
  steps = steps-built;
}
