use Rattle.ad_lines.proofs.RunLaws.{clear-replies}
use Rattle.ad_lines.proofs.book_laws.law_clear_replies.Goals as goal

pub returns : goal.returns
returns c seed workers fuel images steps = clear-replies seed workers fuel images steps
