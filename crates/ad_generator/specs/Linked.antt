-- What a link makes of the modules that are built.
use Rattle.std.specs.Prelude.{◌≡◌, [], ◌∷◌}
use Rattle.ad_base.specs.declared.image.Export.{Export}
use Rattle.ad_base.specs.declared.image.Image.{Image}
use Rattle.ad_base.specs.declared.place.Place.{Place}
use Rattle.ad_link.specs.Plan.{IsPlan, IsRefused, IsRefusedAt, Planned}
use Rattle.ad_link.specs.declared.refusal.LinkRefusal.{LinkRefusal}
use Rattle.ad_reloc.specs.Image.{IsImage}
use Rattle.ad_generator.specs.Modules.{Module, file}

-- the function of a module, at the start of the movable part
abbrev pub export_of : Module → Export
export_of m = record { name = m.export; offset = 0 }

-- The file of a module has a plan and isn't refused, and in its plan the module's function is the one export.
pub record IsPlanned (m : Module) : Type 0 where
  pub some : (p : Planned) × IsPlan (file m) p
  pub not_refused : (r : LinkRefusal) → IsRefused (file m) r → ⊥
  pub export : (p : Planned) → IsPlan (file m) p → p.layout.exports ≡ export_of m ∷ []

-- With the immovable part at any place, the plan of its file has an image and isn't refused, and in each image the module's
-- function is the one export.
pub record HasImages (m : Module) : Type 0 where
  pub some : (p : Planned) (fixed : Place) → IsPlan (file m) p → (i : Image) × IsImage p.object p.layout p.tables fixed i
  pub not_refused : (p : Planned) (fixed : Place) (r : LinkRefusal) → IsPlan (file m) p → IsRefusedAt fixed p r → ⊥
  pub exports : (p : Planned) (fixed : Place) (i : Image) → IsPlan (file m) p → IsImage p.object p.layout p.tables fixed i → i.exports ≡ export_of m ∷ []
