use Rattle.std.proofs.lemmas.Str.{IsUtf8-from_ascii}
use Rattle.ad_script.proofs.Spelling.{file-name-ascii}
use Rattle.ad_script.proofs.laws.law_file_names_are_text.Goals as goal

pub returns : goal.returns
returns c = λ name is. IsUtf8-from_ascii name (file-name-ascii name is)
