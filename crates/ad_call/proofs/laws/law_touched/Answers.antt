use Rattle.ad_call.proofs.Touched.{touched}
use Rattle.ad_call.proofs.laws.law_touched.Goals as goal

pub returns : goal.returns
returns c = λ i under stack stack_bytes fixed writable accesses whole reaches long is pages. touched i under stack stack_bytes fixed writable whole reaches long is pages accesses
