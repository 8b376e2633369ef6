-- A call of a worked example.
use Rattle.std.specs.Prelude.{ℕ, List, [], ◌∷◌}
use Rattle.ad_core.specs.Examples.{code_and_data}
use Rattle.ad_core.specs.Plain.{Tracked, first_registers, untouched}
use Rattle.ad_isa.specs.Step.{State}

-- the words of lw a0, 0(a0) and of a return
abbrev pub loading_words : List ℕ
loading_words = 0x00052503 ∷ 0x00008067 ∷ []

-- these words at 0x100000, beside eight bytes of data at 0x200000
abbrev pub loading : Tracked
loading = untouched (code_and_data 0x100000 loading_words 0x200000 (1 ∷ 2 ∷ 3 ∷ 4 ∷ 5 ∷ 6 ∷ 7 ∷ 8 ∷ []))

-- before the load, where a0 holds this address
abbrev pub before_load : ℕ → State ℕ
before_load address = record { registers = first_registers (address ∷ []) 0; pc = 0x100000 }
