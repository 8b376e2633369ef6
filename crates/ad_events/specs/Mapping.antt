-- A mapping as a value.
use Rattle.std.specs.Prelude.{◌≡◌, ℕ, zero, suc, refl}
use Rattle.std.proofs.Common.{ap}
use Rattle.std.specs.Coded.{Coded, code_by, coded×, coded_ℕ}
use Rattle.ad_events.specs.declared.mapping.Status.{Status}
use Rattle.ad_events.specs.declared.mapping.Status.TheVariants.{Fresh, Current, Out, Retired, Gone}
use Rattle.ad_events.specs.declared.mapping.Mapping.{Mapping}

-- the place of a status in the order in which statuses go
abbrev pub rank_of : Status → ℕ
rank_of Fresh = 0
rank_of Current = 1
rank_of Out = 2
rank_of Retired = 3
rank_of Gone = 4

-- the status at a place of that order
abbrev pub status_at : ℕ → Status
status_at zero = Fresh
status_at (suc zero) = Current
status_at (suc (suc zero)) = Out
status_at (suc (suc (suc zero))) = Retired
status_at (suc (suc (suc (suc n)))) = Gone

pub status_at-rank_of : (s : Status) → status_at (rank_of s) ≡ s
status_at-rank_of Fresh = refl
status_at-rank_of Current = refl
status_at-rank_of Out = refl
status_at-rank_of Retired = refl
status_at-rank_of Gone = refl

-- a mapping is stored as its module and its status's place
abbrev pub coded_mapping : Coded Mapping
coded_mapping =
    code_by (ℕ × ℕ) (coded× coded_ℕ coded_ℕ) (λ m. (m.module, rank_of m.status)) (λ p. record { «module» = p.0; status = status_at p.1 })
    (λ m. ap (λ (s : Status). let r : Mapping = record { «module» = m.module; status = s } in r) (status_at-rank_of m.status))
