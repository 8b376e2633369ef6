use Rattle.std.proofs.Common.{◌≢◌, ℕ, ap, sym, Some, eqb, unwrap_or, nat_cmp, subst}
use Rattle.std.specs.Bool.{IsTrue}
use Rattle.std.specs.FinMap as map
use Rattle.ad_events.proofs.InsideLemmas.{free-is}
use Rattle.ad_events.proofs.inside.Inside.is_free.Goals as goal

pub returns-in-Some : goal.returns-in-Some
returns-in-Some c =
    subst (λ (m : map.FinMap nat_cmp ℕ). (IsTrue (eqb c.in-Some.count 0) → (w : ℕ) → map.get m w ≢ Some c.args.mapping) × (((w : ℕ) → map.get m w ≢ Some c.args.mapping) → IsTrue (eqb c.in-Some.count 0))) c.self.view_is
    (free-is c.self.inside.counts c.self.inside.pairs.entries c.self.invariant c.args.mapping c.in-Some.count (ap (λ o. unwrap_or o 0) (sym c.in-Some.ensures)))

pub returns-in-None : goal.returns-in-None
returns-in-None c =
    subst (λ (m : map.FinMap nat_cmp ℕ). (IsTrue (eqb 0 0) → (w : ℕ) → map.get m w ≢ Some c.args.mapping) × (((w : ℕ) → map.get m w ≢ Some c.args.mapping) → IsTrue (eqb 0 0))) c.self.view_is
    (free-is c.self.inside.counts c.self.inside.pairs.entries c.self.invariant c.args.mapping 0 (ap (λ o. unwrap_or o 0) (sym c.in-None.ensures)))
