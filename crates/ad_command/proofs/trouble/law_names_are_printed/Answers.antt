use Rattle.std.proofs.Common.{List, ℕ, ◌++◌, ap}
use Rattle.std.specs.Fmt.{decimal}
use Rattle.std.specs.Prelude.{codes}
use Rattle.std.proofs.lemmas.Str.{utf8_lossy-IsUtf8}
use Rattle.ad_link.specs.Reason.{stage_text}
use Rattle.ad_command.proofs.trouble.law_names_are_printed.Goals as goal

pub returns-clause-refused : goal.returns-clause-refused
returns-clause-refused c = λ name stage number text. ap (λ (n : List ℕ). codes "adelie: module " ++ n ++ codes ": " ++ stage_text stage ++ codes " " ++ decimal number) (utf8_lossy-IsUtf8 name text)

pub returns-clause-read : goal.returns-clause-read
returns-clause-read c = λ name text. ap (λ (n : List ℕ). codes "adelie: read " ++ n) (utf8_lossy-IsUtf8 name text)

pub returns-clause-too_large : goal.returns-clause-too_large
returns-clause-too_large c = λ name text. ap (λ (n : List ℕ). codes "adelie: read " ++ n ++ codes ": too large") (utf8_lossy-IsUtf8 name text)
