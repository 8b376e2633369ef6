use Rattle.ad_parts.proofs.Next.{next-from, next-least, next-multiple}
use Rattle.ad_parts.proofs.laws.law_next.Goals as goal

pub returns : goal.returns
returns c = record { multiple = next-multiple; from = next-from; least = next-least }
