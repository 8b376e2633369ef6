-- The rows of the layout.
use Rattle.std.proofs.Common.{◌≡◌, ℕ, List, Option, Some, None, refl, sym, ap, ◌∙◌}
use Rattle.std.specs.Option.{option_map, option_or}
use Rattle.ad_base.specs.declared.image.Export.{Export}
use Rattle.ad_elf.specs.declared.object.Object.{Object}
use Rattle.ad_elf.specs.declared.object.Section.{Section}
use Rattle.ad_parts.specs.declared.ends.Ends.{Ends}
use Rattle.ad_parts.specs.declared.layout.Spot.{Spot}
use Rattle.ad_parts.specs.declared.refusal.PartRefusal.{PartRefusal}
use Rattle.ad_parts.specs.declared.refusal.PartRefusal.TheVariants.{Alignment, TooManyPages}
use Rattle.ad_parts.specs.Ends.{AreEnds}
use Rattle.ad_parts.specs.Layout.{ends, pages_over, spots}
use Rattle.ad_parts.specs.Symbols.{exports}
use Rattle.ad_parts.specs.Parts.{IsRefused, export_row, misaligned, section_row}
use Rattle.ad_parts.proofs.Laid.{AreEnds-is}

pub option_map_none : {X Y : Type 0} (f : X → Y) (o : Option X) → option_map f o ≡ None → o ≡ None
option_map_none f None e = refl
option_map_none f (Some x) e = cc

first_some : (o : Option Section) (r : Option PartRefusal) (n : ℕ) → option_map (λ (s : Section). s.index) o ≡ Some n → option_or (option_map (λ (s : Section). Alignment s.index) o) r ≡ Some (Alignment n)
first_some None r n e = cc
first_some (Some s) r n e = let same : s.index ≡ n = cc in ap (λ (k : ℕ). Some (Alignment k)) same

pub section_row-alignment : (o : Object) (n : ℕ) → option_map (λ (s : Section). s.index) (misaligned o) ≡ Some n → section_row o ≡ Some (Alignment n)
section_row-alignment o n e = first_some (misaligned o) (option_map TooManyPages (pages_over (ends o.sections))) n e

pub section_row-aligned : (o : Object) → misaligned o ≡ None → section_row o ≡ option_map TooManyPages (pages_over (ends o.sections))
section_row-aligned o none = rw none refl

pub section_row-pages : (o : Object) (e : Ends) (n : ℕ) → misaligned o ≡ None → AreEnds o.sections e → pages_over e ≡ Some n → section_row o ≡ Some (TooManyPages n)
section_row-pages o e n none are over =
    section_row-aligned o none ∙ ap (λ (f : Ends). option_map TooManyPages (pages_over f)) (sym (AreEnds-is o.sections e are)) ∙ ap (λ (p : Option ℕ). option_map TooManyPages p) over

-- the rows on sections come first
pub refused_by_sections : (o : Object) (r : PartRefusal) → section_row o ≡ Some r → IsRefused o r
unfolding IsRefused
refused_by_sections o r e = rw e refl

pub refused_by_exports : (o : Object) (ts : List Spot) (es : List Export) (r : PartRefusal) → section_row o ≡ None → ts ≡ spots o.sections → es ≡ exports ts o.symbols → export_row es ≡ Some r → IsRefused o r
unfolding IsRefused
refused_by_exports o ts es r none placed found e =
    rw none (ap export_row (sym (found ∙ ap (λ ts. exports ts o.symbols) placed)) ∙ e)
