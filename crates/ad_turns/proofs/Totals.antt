-- Sums over the numbers of the workers.
use Rattle.std.proofs.Common.{◌≡◌, ◌≢◌, ℕ, zero, suc, ◌+◌, ◌<◌, ◌≤◌, List, [], length, get_or, take, sym, refl, ap, ◌∙◌, add-one, arith}
use Rattle.std.proofs.Math.Seq.{take-length}
use Rattle.std.proofs.lemmas.List.Sums.{sum_by_more}
use Rattle.ad_turns.specs.Rule.{total}
use Rattle.ad_turns.specs.Turns.{draws_of}
use Rattle.ad_turns.proofs.Changed.{either_way}

pub total_same : (f g : ℕ → ℕ) (n : ℕ) → ((v : ℕ) → v < n → g v ≡ f v) → total g n ≡ total f n
total_same f g zero same = refl
total_same f g (suc n) same = let a = total_same f g n (λ v l. same v (omega arith)) in let b = same n (omega arith) in omega arith

-- the sum once one of its parts was changed
pub total_changed : (f g : ℕ → ℕ) (n w : ℕ) → w < n → ((v : ℕ) → v ≢ w → g v ≡ f v) → total g n + f w ≡ total f n + g w
total_changed f g zero w l same = absurd (omega arith)
total_changed f g (suc n) w l same = either_way w n
    (λ e. let a = total_same f g n (λ v m. same v (λ d. omega arith)) in let b : g n ≡ g w = ap g (sym e) in let c : f n ≡ f w = ap f (sym e) in omega arith)
    (λ ne. let a = total_changed f g n w (omega arith) same in let b = same n (λ d. ne (sym d)) in omega arith)

-- no part is above the sum
pub total_has : (f : ℕ → ℕ) (n w : ℕ) → w < n → f w ≤ total f n
total_has f zero w l = absurd (omega arith)
total_has f (suc n) w l = either_way w n
    (λ e. let c : f n ≡ f w = ap f (sym e) in omega arith)
    (λ ne. let a = total_has f n w (omega arith) in omega arith)

-- the draws of the opening are the sum of what each worker may draw
pub total_draws : (calls : List (List ℕ)) (m : ℕ) → total (λ w. get_or (get_or calls w []) m 0) (length calls) ≡ draws_of calls m
total_draws calls m = below (length calls) (omega arith) ∙ ap (λ (cs : List (List ℕ)). draws_of cs m) (take-length calls)
  where
    below : (k : ℕ) → k ≤ length calls → total (λ w. get_or (get_or calls w []) m 0) k ≡ draws_of (take k calls) m
    below zero l = refl
    below (suc k) l = let a = below k (omega arith) in let b = sum_by_more (λ (c : List ℕ). get_or c m 0) calls k [] (omega arith) in
        ap (λ (n : ℕ). n + get_or (get_or calls k []) m 0) a ∙ (sym b ∙ ap (λ (n : ℕ). draws_of (take n calls) m) (add-one k))
