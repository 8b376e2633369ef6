-- How what a command reads may be refused, over files of any bytes.
use Rattle.std.specs.Prelude.{◌≡◌, ◌≤◌, ◌⊎◌, ℕ, List, length, Some, Ok}
use Rattle.ad_base.specs.declared.image.Image.{Image}
use Rattle.ad_base.specs.declared.layout.TheConstants.{FILE_BYTES}
use Rattle.ad_base.specs.declared.place.Place.{Place}
use Rattle.ad_link.specs.declared.refusal.LinkRefusal.{LinkRefusal}
use Rattle.ad_link.specs.Plan.{IsPlan, IsRefused, IsRefusedAt, Planned, fixed_pages}
use Rattle.ad_script.specs.declared.script.Load.{Load}
use Rattle.ad_script.specs.declared.script.Script.{Script}
use Rattle.ad_script.specs.Script.{script_of}
use Rattle.ad_command.specs.Command.{shown_at}
use Rattle.ad_command.specs.Loading.{fixed_behind}
use Rattle.ad_words.specs.Words.{Predict, Run, Seq, command_of}

-- the words are those of `run`, `seq` or `predict`, with the script in the file of this name and this seed
abbrev pub AreOnScript : List (List ℕ) → List ℕ → ℕ → Type 0
AreOnScript words name seed =
    ((fuel slots frames : ℕ) × (command_of words ≡ Some (Run name seed fuel slots frames)))
    ⊎ ((fuel : ℕ) × (command_of words ≡ Some (Seq name seed fuel)))
    ⊎ ((fuel : ℕ) × (command_of words ≡ Some (Predict name seed fuel)))

-- the file of this name isn't too long, and its text is this script
pub record IsScriptIn (files : List ℕ → List ℕ) (name : List ℕ) (s : Script) : Type 0 where
  pub short : length (files name) ≤ FILE_BYTES
  pub text : script_of (files name) ≡ Ok s

-- The module in the file of this name is refused so, with the immovable part of a plan at the place that it is given: the file
-- isn't too long, and has no plan, or has one that has no image.
pub record IsRefusedModule (files : List ℕ → List ℕ) (name : List ℕ) (place_of : Planned → Place) (r : LinkRefusal) : Type 0 where
  pub short : length (files name) ≤ FILE_BYTES
  pub refused : IsRefused (files name) r ⊎ ((p : Planned) × IsPlan (files name) p × IsRefusedAt (place_of p) p r)

-- a load is refused so behind others
abbrev pub IsRefusedLoad : (List ℕ → List ℕ) → ℕ → ℕ → List Image → Load → LinkRefusal → Type 0
IsRefusedLoad files seed workers before l = IsRefusedModule files l.file (fixed_behind seed workers before)

-- the module in the file of this name is refused so where it is to be shown
abbrev pub IsRefusedShown : (List ℕ → List ℕ) → List ℕ → LinkRefusal → Type 0
IsRefusedShown files name = IsRefusedModule files name (λ p. shown_at (fixed_pages p.layout.sizes))
