use Rattle.std.proofs.Common.{rules}
use Rattle.bstr.proofs.lemmas.LossyLemmas.{lossy_chars-utf8_lossy}
use Rattle.ad_base.proofs.name.NameDisplay.fmt.Goals as goal

-- what the byte string prints is the text with U+FFFD for what isn't UTF-8
pub returns-clause-writes : goal.returns-clause-writes
returns-clause-writes g c = rw (← lossy_chars-utf8_lossy c.args.self.now) (search rules)
