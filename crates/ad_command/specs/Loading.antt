-- Loading a module, and all modules of a script.
use Rattle.std.specs.Prelude.{◌≡◌, ◌≤◌, ℕ, List, [], ◌∷◌, ◌++◌, length, nat_lt, if◌then◌else◌}
use Rattle.ad_base.specs.declared.image.Image.{Image}
use Rattle.ad_base.specs.declared.layout.TheConstants.{FILE_BYTES}
use Rattle.ad_base.specs.declared.ledger.Kind.TheVariants.{Fixed}
use Rattle.ad_base.specs.declared.place.Place.{Place}
use Rattle.ad_generator.specs.Generated.{built_named}
use Rattle.ad_generator.specs.Script.{script_text}
use Rattle.ad_link.specs.Plan.{IsPlan, Planned, fixed_pages}
use Rattle.ad_lines.specs.Opening.{opening_drawn}
use Rattle.ad_place.specs.Choice.{next_place}
use Rattle.ad_reloc.specs.Image.{IsImage}
use Rattle.ad_script.specs.declared.script.Load.{Load}
use Rattle.ad_script.specs.declared.script.Script.{Script}
use Rattle.ad_script.specs.Script.{script_of}
use Rattle.ad_command.specs.declared.trouble.Trouble.TheVariants.{TooLarge}
use Rattle.ad_command.specs.Chain.{Ask, Chain, Done, ImageAt, Judge, ModuleFile, Refuse, ◌>>=◌, each_in_turn, judged}
use Rattle.ad_command.specs.Trouble.{refused_module, refused_script}

-- the file of a name, which isn't too long
unfoldable pub file_of : List ℕ → Chain (List ℕ)
file_of name = Ask name (λ file. if nat_lt FILE_BYTES (length file) then Refuse (TooLarge name) else Done file)

-- the script in a file
unfoldable pub script_in : List ℕ → Chain Script
script_in name = do
  text ← file_of name
  judged refused_script (script_of text)

-- the script of so many calls and moves over the modules that are built
unfoldable pub script_built : ℕ → Chain Script
script_built number = judged refused_script (script_of (script_text number))

-- what the link of the module in a file finds before the immovable part has a place
unfoldable pub module_of : List ℕ → Chain Planned
module_of name = do
  file ← file_of name
  Judge (ModuleFile file) (judged (refused_module name))

-- the same of the built module in the file of a name
unfoldable pub built_of : List ℕ → Chain Planned
built_of name = Judge (ModuleFile (built_named name)) (judged (refused_module name))

-- the image of a module from the file of a name, with its immovable part at a place
unfoldable pub image_at : List ℕ → Planned → Place → Chain Image
image_at name p fixed = Judge (ImageAt p fixed) (judged (refused_module name))

-- the place that a module's immovable part gets behind these images: the next one that the seed draws for its pages
abbrev pub fixed_behind : ℕ → ℕ → List Image → Planned → Place
fixed_behind seed workers before p = next_place (opening_drawn seed workers before) Fixed (fixed_pages p.layout.sizes)

-- the image of a load behind these
unfoldable pub loaded_image : (List ℕ → Chain Planned) → ℕ → ℕ → List Image → Load → Chain Image
loaded_image module_of seed workers before l = do
  p ← module_of l.file
  image_at l.file p (fixed_behind seed workers before p)

-- the images of a script's modules, in order, where the module in the file of a name is had so
unfoldable pub loaded_images : (List ℕ → Chain Planned) → ℕ → Script → Chain (List Image)
loaded_images module_of seed s = each_in_turn (loaded_image module_of seed s.workers) [] s.loads

-- Over files of these bytes a load has this image behind others: its file isn't too long and has a plan, and this is the
-- plan's image.
pub record IsLinked (files : List ℕ → List ℕ) (seed workers : ℕ) (before : List Image) (l : Load) (i : Image) : Type 0 where
  pub short : length (files l.file) ≤ FILE_BYTES
  pub planned : Planned
  pub plan : IsPlan (files l.file) planned
  pub image : IsImage planned.object planned.layout planned.tables (fixed_behind seed workers before planned) i

-- the loads have these images, one behind the other, behind those that are there before
abbrev pub AreLinked : (List ℕ → List ℕ) → ℕ → ℕ → List Image → List Load → List Image → Type 0
AreLinked files seed workers before [] images = images ≡ before
AreLinked files seed workers before (l ∷ ls) images = (i : Image) × IsLinked files seed workers before l i × AreLinked files seed workers (before ++ i ∷ []) ls images
