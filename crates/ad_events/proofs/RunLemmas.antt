-- Runs of any machine: what each step keeps a run keeps, and a run goes on at its end. The state after it is std's `fold`, and
-- `fold-append` says what a longer run makes.
use Rattle.std.proofs.Common.{◌≡◌, List, [], ◌∷◌, ◌++◌}
use Rattle.std.specs.List.{fold}
use Rattle.std.proofs.lemmas.List.Sums.{fold-append}
use Rattle.ad_events.specs.Runs.{AllMay}

module _ {S X : Type 0} (may : S → X → Type 0) (after : S → X → S) where
  pub run-keeps : (P : S → Type 0) → ((s : S) → P s → (x : X) → may s x → P (after s x)) → (s : S) → P s → (xs : List X) → AllMay may after s xs → P (fold after s xs)
  run-keeps P keeps s is [] all = is
  run-keeps P keeps s is (x ∷ xs) all = run-keeps P keeps (after s x) (keeps s is x all.0) xs all.1

  pub may-append : (s : S) (xs ys : List X) → AllMay may after s xs → AllMay may after (fold after s xs) ys → AllMay may after s (xs ++ ys)
  may-append s [] ys all more = more
  may-append s (x ∷ xs) ys all more = (all.0, may-append (after s x) xs ys all.1 more)

  -- one step more
  pub run-append : (s : S) (xs : List X) (x : X) → fold after s (xs ++ x ∷ []) ≡ after (fold after s xs) x
  run-append s xs x = fold-append after s xs (x ∷ [])
