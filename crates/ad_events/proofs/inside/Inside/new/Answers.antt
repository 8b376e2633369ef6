use Rattle.std.proofs.Common.{ℕ, ap, sym, ◌∙◌, nat_cmp, eqb, unwrap_or}
use Rattle.std.specs.FinMap as map
use Rattle.std.specs.List.{count_by}
use Rattle.std.specs.Map.{values_of}
use Rattle.ad_events.proofs.inside.Inside.new.Goals as goal

pub invariant_of-result : goal.invariant_of-result
invariant_of-result c =
    record {
      ordered = c.new.ensures.ordered;
      counted = λ p.
          ap (λ (m : map.FinMap nat_cmp ℕ). unwrap_or (map.get m p) 0) c.new-2.ensures ∙ ap (λ o. unwrap_or o 0) (map.get-empty nat_cmp p)
          ∙ sym (ap (λ es. count_by (λ m. eqb m p) (values_of es)) c.new.ensures.empty);
    }
