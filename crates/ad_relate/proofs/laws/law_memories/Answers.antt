use Rattle.ad_relate.proofs.Access.{load-stands, store-stands}
use Rattle.ad_relate.proofs.Fetch.{fetch-stands}
use Rattle.ad_relate.proofs.laws.law_memories.Goals as goal

pub returns : goal.returns
returns c = record { fetch = fetch-stands; load = load-stands; store = store-stands }
