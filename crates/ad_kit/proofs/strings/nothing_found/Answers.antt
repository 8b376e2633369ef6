use Rattle.std.proofs.Common.{List, ℕ, ◌++◌, ◌∷◌, [], ap, ◌∙◌}
use Rattle.ad_kit.proofs.Names.{AreFound-none}
use Rattle.ad_kit.proofs.strings.nothing_found.Goals as goal

pub returns-clause-strings : goal.returns-clause-strings
returns-clause-strings c = AreFound-none _ (c.in_ok-push.ensures.items ∙ ap (λ (xs : List ℕ). xs ++ 0 ∷ []) c.new-bytes.ensures.items) c.new.ensures.empty
