-- Runs of a machine: its steps in turn.
use Rattle.std.specs.Prelude.{List, [], ◌∷◌}

-- each step of the list may be made where it stands
abbrev pub AllMay : {S X : Type 0} → (S → X → Type 0) → (S → X → S) → S → List X → Type 0
AllMay may after s [] = Unit {0}
AllMay may after s (x ∷ xs) = may s x × AllMay may after (after s x) xs
