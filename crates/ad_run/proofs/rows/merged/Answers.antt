use Rattle.std.proofs.Common.{rules, ◌≡◌, ◌++◌, ◌∙◌, ap, subst}
use Rattle.std.specs.List.Sorted.{IsPermutation}
use Rattle.std.proofs.lemmas.List.Sorted.{IsNonDecreasingBy-from_sort_by_key}
use Rattle.ad_base.specs.declared.ledger.Row.{Row}
use Rattle.ad_run.specs.Rows.{fixed_rows}
use Rattle.ad_run.proofs.rows.merged.Goals as goal

pub returns : goal.returns
returns c =
    let code = c.args.code.now in
    let stacks = c.args.stacks.now in
    let fixed = fixed_rows c.args.images.now in
    let both = c.in_ok-extend_from_slice-2.ensures.items ∙ ap (λ xs. xs ++ stacks) (c.in_ok-extend_from_slice.ensures.items ∙ ap (λ xs. xs ++ code) c.new-rows.ensures.items) in
    let all : c.push_fixed.new.rows.items ≡ code ++ stacks ++ fixed = c.in_ok-push_fixed.ensures ∙ ap (λ xs. xs ++ fixed) both in
    record {
      same = subst (λ xs. IsPermutation xs c.sort_by_key.new.self.items) all c.sort_by_key.ensures.permutation;
      in_order = IsNonDecreasingBy-from_sort_by_key (λ (r : Row). r.mapping) _ c.in_ok-sort_by_key.ensures.sorted (λ a r q k. search rules);
    }
