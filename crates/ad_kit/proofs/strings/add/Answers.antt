use Rattle.std.proofs.Common.{◌≡◌, List, ℕ, ◌++◌, ◌∷◌, [], length, sym, ap, ◌∙◌, arith}
use Rattle.ad_kit.proofs.Names.{AreFound-more}
use Rattle.ad_kit.proofs.strings.add.Goals as goal

pub returns-clause-found : goal.returns-clause-found
returns-clause-found c = λ ns had.
    let end : c.len-at.result ≡ length c.args.found.now.bytes.items = omega (arith, c.len-at.ensures, c.args.found.now.bytes.ok.0) in
    AreFound-more ns c.args.name c.args.found.now _ _ had (sym c.is_empty.ensures ∙ c.if-is_empty.false) (sym c.contains_key.ensures ∙ c.if-contains_key.false)
    (c.in_ok-push.ensures.items ∙ ap (λ (xs : List ℕ). xs ++ 0 ∷ []) c.in_ok-extend_from_slice.ensures.items) c.in_ok-insert.ensures.updates end
