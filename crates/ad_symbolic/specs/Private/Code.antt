-- The effects and the bounds of the code, as those of the machine.
use Rattle.std.specs.Prelude.{ℕ, ◌*◌, ◌<◌, Bool, if◌then◌else◌, Result, Ok, Err}
use Rattle.ad_base.specs.declared.layout.TheConstants.{PAGE_BYTES, STACK_PAGES}
use Rattle.ad_isa.specs.Domain.{◌>>=◌}
use Rattle.ad_isa.specs.Rows.{Effect}
use Rattle.ad_isa.specs.Rows as rows
use Rattle.ad_isa.specs.Words.{IsSize}
use Rattle.ad_symbolic.specs.declared.effect.Effect.{Effect as Made}
use Rattle.ad_symbolic.specs.declared.effect.Effect.TheVariants.{Branches, Jumps, Loads, Passes, Stops, Stores, Writes}
use Rattle.ad_symbolic.specs.declared.value.Part.{Part}
use Rattle.ad_symbolic.specs.declared.value.Part.TheVariants.{Movable, Stack}
use Rattle.ad_symbolic.specs.declared.value.Reason.{Reason}
use Rattle.ad_symbolic.specs.declared.value.Value.{Value}
use Rattle.ad_symbolic.specs.declared.value.Value.TheVariants.{Num}
use Rattle.ad_symbolic.specs.Value.{sum_of}

-- how many bytes each part has, where the movable one has so many
abbrev pub sizes : ℕ → Part → ℕ
sizes movable Movable = movable
sizes movable Stack = STACK_PAGES * PAGE_BYTES

-- the effect that the code names so
abbrev pub effect_of : Made → Effect Value
effect_of Passes = rows.Passes
effect_of (Writes rd value) = rows.Writes rd value
effect_of (Jumps rd link target) = rows.Jumps rd link target
effect_of (Branches target) = rows.Branches target
effect_of (Loads size signed rd address) = rows.Loads size signed rd address
effect_of (Stores size value address) = rows.Stores size value address
effect_of (Stops end) = rows.Stops end

-- what the code came to, if it is clear
abbrev pub made_of : Result Made Reason → Result (Effect Value) Reason
made_of (Ok effect) = Ok (effect_of effect)
made_of (Err reason) = Err reason

-- its register is there, and its size is one of a load or a store
abbrev pub IsInRange : Made → Type 0
IsInRange (Writes rd value) = rd < 32
IsInRange (Jumps rd link target) = rd < 32
IsInRange (Loads size signed rd address) = IsSize size × (rd < 32)
IsInRange (Stores size value address) = IsSize size
IsInRange e = Unit {0}

-- a jump so far from an address, if it is taken
abbrev pub branched : Bool → Value → ℕ → Result (Effect Value) Reason
branched taken pc distance = sum_of pc (Num distance) >>= λ target. Ok (if taken then rows.Branches target else rows.Passes)
