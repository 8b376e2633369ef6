-- What the lines of a script ask to be moved.
use Rattle.std.specs.Prelude.{ℕ, List, [], ◌∷◌, map}
use Rattle.ad_base.specs.declared.ledger.Kind.{Kind}
use Rattle.ad_base.specs.declared.ledger.Kind.TheVariants as kinds
use Rattle.ad_base.specs.declared.ledger.Moved.{Moved}
use Rattle.ad_script.specs.declared.script.Step.{Step}
use Rattle.ad_script.specs.declared.script.Step.TheVariants as steps

-- what is moved: in which line, and what of whom
abbrev pub request : ℕ → Kind → ℕ → ℕ × Kind × ℕ
request line kind who = (line, kind, who)

-- what was moved, whatever came of it; and what a step moves, in order, which is nothing for a call. Both are told by a function of
-- the line, of what is moved and of whose it is.
module _ {A : Type 0} (tell : ℕ → Kind → ℕ → A) where
  abbrev pub moved_in : Moved → A
  moved_in m = tell m.line m.kind m.who

  abbrev pub moved_by : Step → List A
  moved_by (steps.Call line worker «module» export args) = []
  moved_by (steps.Move line modules) = map (tell line kinds.Code) modules
  moved_by (steps.Stack line worker) = tell line kinds.Stack worker ∷ []
