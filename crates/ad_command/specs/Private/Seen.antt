-- How values of the code are seen.
use Rattle.std.specs.Prelude.{Result, Ok, Err}
use Rattle.ad_command.specs.declared.trouble.Trouble.{Trouble}

-- what came of a call, its value seen so
abbrev pub seen : {A B : Type 0} → (A → B) → Result A Trouble → Result B Trouble
seen view (Ok a) = Ok (view a)
seen view (Err t) = Err t
