-- What steps of the plain machine lead to.
use Rattle.std.specs.Prelude.{◌≡◌, ℕ, zero, suc}
use Rattle.ad_isa.specs.Step.{State, Goes}
use Rattle.ad_core.specs.Plain.{Tracked, plain_step}

-- so many steps lead from one state of the machine to another
abbrev pub LeadsTo : ℕ → State ℕ → Tracked → State ℕ → Tracked → Type 0
LeadsTo zero h m later after = (h ≡ later) × (m ≡ after)
LeadsTo (suc steps) h m later after = (next : State ℕ) × (memory : Tracked) × (plain_step h m ≡ Goes next memory) × LeadsTo steps next memory later after
