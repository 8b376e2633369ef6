use Rattle.ad_mover.specs.Requests.{request}
use Rattle.ad_mover.proofs.Requests.{told-steps}
use Rattle.ad_mover.proofs.laws.law_requests.Goals as goal

pub returns : goal.returns
returns c = λ shape list before after made. told-steps request shape list before after made
