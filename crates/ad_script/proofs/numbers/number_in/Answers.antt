use Rattle.std.proofs.Common.{◌≡◌, ◌≤◌, sym, ◌∙◌, arith, Result, None, Ok, Err, MatchResult}
use Rattle.std.specs.Result.{result_ok}
use Rattle.std.proofs.lemmas.Str.{IsUtf8-from_ascii}
use Rattle.ad_script.proofs.Spelling.{digits-ascii}
use Rattle.ad_script.proofs.numbers.number_in.Goals as goal

not_ok : {T E U : Type 0} (r : Result T E) (P : T → Type 0) (Q : E → Type 0) → MatchResult r P (λ e. ¬ U × Q e) → result_ok r ≡ None → ¬ U
not_ok (Ok x) P Q h e = absurd cc
not_ok (Err x) P Q h e = h.0

pub returns-in_err-text-clause-none : goal.returns-in_err-text-clause-none
returns-in_err-text-clause-none c =
    let most : c.args.radix ≤ 16 = grind (arith, c.requires) in
    rw c.from_residual.ensures (λ numeral small. not_ok c.from_utf8.result _ _ c.from_utf8.ensures.cases (sym c.ok.ensures.value ∙ c.in_err-text.was) (IsUtf8-from_ascii _ (digits-ascii c.args.radix _ most numeral.1)))
