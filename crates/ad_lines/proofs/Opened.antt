-- The modules of the opening: their images, their places and their books.
use Rattle.std.proofs.Common.{◌≡◌, ℕ, List, [], ◌∷◌, length, map, get_or, slice_get, zero, suc, Some, refl, subst, ◌∙◌}
use Rattle.std.specs.List.{All, zip}
use Rattle.std.proofs.lemmas.List.Elements.{All-cons, All-nil}
use Rattle.std.proofs.lemmas.Simd.{map-map}
use Rattle.std.proofs.lemmas.Slice.Zip.{firsts-zip}
use Rattle.ad_base.specs.declared.image.Image.{Image}
use Rattle.ad_base.specs.declared.ledger.Kind.TheVariants.{Code}
use Rattle.ad_base.specs.declared.place.Place.{Place}
use Rattle.ad_core.specs.Turn.{opening_contents}
use Rattle.ad_lines.specs.LineRun.{ModuleState}
use Rattle.ad_lines.specs.Opening.{AreLoaded, opening_drawn, opening_mappings, opening_module, opening_modules, opening_run, places_of_kind}
use Rattle.ad_lines.proofs.BookRuns.{AreLawful, AreThere, HasLawfulBook, histories, history_at}
use Rattle.ad_lines.proofs.ListReads.{map-read}
use Rattle.ad_lines.proofs.Opens.{parts-count, stacks-count}
use Rattle.ad_lines.proofs.Zips.{zip-read}

-- the module of an image, at one of these places
pub record IsOpenedAt (images : List Image) (parts : List Place) (k : ℕ) (m : ModuleState) : Type 0 where
  pub image_there : slice_get images k ≡ Some m.image
  pub part_there : slice_get parts k ≡ Some m.movable
  pub opens : m.book ≡ opening_contents m.image

pub opened-at : (images : List Image) (parts : List Place) (k : ℕ) (m : ModuleState) → slice_get (opening_modules images parts) k ≡ Some m → IsOpenedAt images parts k m
opened-at images parts k m e =
    let z = map-read opening_module (zip images parts) k m e in
    let both = zip-read images parts k z.0 z.1 in
    let is : IsOpenedAt images parts k (opening_module z.0) = record { image_there = both.0; part_there = both.1; opens = refl } in
    subst (IsOpenedAt images parts k) z.2 is

-- they are of these images, in order
pub opened-images : (images : List Image) (parts : List Place) → length parts ≡ length images → map (λ (m : ModuleState). m.image) (opening_modules images parts) ≡ images
opened-images images parts each = map-map (λ (m : ModuleState). m.image) opening_module (zip images parts) ∙ firsts-zip images parts each

-- their books are lawful, and have no entry
opened-lawful : (fuel : ℕ) (images : List Image) (parts : List Place) → All (HasLawfulBook fuel) (opening_modules images parts)
opened-lawful fuel [] parts = All-nil (HasLawfulBook fuel)
opened-lawful fuel (i ∷ images) [] = All-nil (HasLawfulBook fuel)
opened-lawful fuel (i ∷ images) (p ∷ parts) = All-cons (HasLawfulBook fuel) (record { image = i; movable = p; book = opening_contents i }) (opening_modules images parts) refl (opened-lawful fuel images parts)

opened-empty : (images : List Image) (parts : List Place) (number : ℕ) → get_or (histories (opening_modules images parts)) number [] ≡ []
opened-empty [] parts number = refl
opened-empty (i ∷ images) [] number = refl
opened-empty (i ∷ images) (p ∷ parts) zero = refl
opened-empty (i ∷ images) (p ∷ parts) (suc number) = opened-empty images parts number

module _ (seed workers : ℕ) (images : List Image) (loaded : AreLoaded seed workers images) where
  pub opening-there : AreThere images workers (opening_run workers images (opening_drawn seed workers images))
  unfolding opening_run
  opening-there =
      let mappings = opening_mappings workers images (opening_drawn seed workers images).places in
      record {
        images_are = opened-images images (places_of_kind Code mappings) (parts-count seed workers images loaded);
        stacks_are = stacks-count seed workers images loaded;
      }

  pub opening-lawful : (fuel : ℕ) → AreLawful images workers fuel (opening_run workers images (opening_drawn seed workers images))
  unfolding opening_run
  opening-lawful fuel = record { are_there = opening-there; books = opened-lawful fuel images (places_of_kind Code (opening_mappings workers images (opening_drawn seed workers images).places)) }

  pub opening-empty : (number : ℕ) → history_at (opening_run workers images (opening_drawn seed workers images)) number ≡ []
  unfolding opening_run
  opening-empty number = opened-empty images (places_of_kind Code (opening_mappings workers images (opening_drawn seed workers images).places)) number
