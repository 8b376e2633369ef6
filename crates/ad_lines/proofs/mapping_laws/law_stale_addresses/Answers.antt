use Rattle.ad_lines.proofs.Stale.{data-long, stale-apart, stale-ends, stale-fault, stale-nothing}
use Rattle.ad_lines.proofs.mapping_laws.law_stale_addresses.Goals as goal

pub returns-clause-apart : goal.returns-clause-apart
returns-clause-apart c = λ seed workers fuel images before after loaded are old gone at there unmapped inside. stale-apart seed workers fuel images loaded before after are old gone at there unmapped inside

pub returns-clause-lengths : goal.returns-clause-lengths
returns-clause-lengths c = λ seed workers fuel images steps loaded are. data-long seed workers fuel images loaded steps are

pub returns-clause-nothing : goal.returns-clause-nothing
returns-clause-nothing c = λ seed workers fuel images before after loaded are old gone at there unmapped inside. stale-nothing seed workers fuel images loaded before after are old gone at there unmapped inside

pub returns-clause-fault : goal.returns-clause-fault
returns-clause-fault c = λ seed workers fuel images before after loaded are old gone at there unmapped inside. stale-fault seed workers fuel images loaded before after are old gone at there unmapped inside

pub returns-clause-ends : goal.returns-clause-ends
returns-clause-ends c = λ seed workers fuel images before after loaded are old gone at there unmapped inside. stale-ends seed workers fuel images loaded before after are old gone there unmapped at inside
