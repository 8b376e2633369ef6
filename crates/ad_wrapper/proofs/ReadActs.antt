-- Acts that read no place leave the reads as they were.
use Rattle.std.proofs.Common.{◌≡◌, ℕ, List, [], ◌∷◌, ◌++◌, map, ap, refl}
use Rattle.std.specs.Prelude.{if◌then◌else◌, ◌==◌}
use Rattle.ad_call.specs.declared.asked.Asked.{Asked}
use Rattle.ad_call.specs.declared.asked.Asked.TheVariants as asked
use Rattle.ad_maps.specs.declared.view.Act.{Act}
use Rattle.ad_maps.specs.declared.view.Act.TheVariants as act
use Rattle.ad_maps.specs.Ledger.{reads_of}
use Rattle.ad_wrapper.specs.Asking.{act_of}

-- what reads nothing adds no read
pub reads-same : (m : ℕ) (acts more : List Act) → reads_of m more ≡ [] → reads_of m (acts ++ more) ≡ reads_of m acts
reads-same m [] more none = none
reads-same m (act.Enter ∷ acts) more none = reads-same m acts more none
reads-same m (act.Read n p ∷ acts) more none = ap (λ (ns : List ℕ). if n == m then p.mapping ∷ ns else ns) (reads-same m acts more none)
reads-same m (act.Page va ∷ acts) more none = reads-same m acts more none
reads-same m (act.Cell e ∷ acts) more none = reads-same m acts more none
reads-same m (act.Leave ∷ acts) more none = reads-same m acts more none
reads-same m (act.Unmap n ∷ acts) more none = reads-same m acts more none

pub reads-asked : (m : ℕ) (list : List Asked) → reads_of m (map act_of list) ≡ []
reads-asked m [] = refl
reads-asked m (asked.Page at ∷ list) = reads-asked m list
reads-asked m (asked.Cell entry ∷ list) = reads-asked m list

pub reads-unmaps : (m : ℕ) (numbers : List ℕ) → reads_of m (map (λ (n : ℕ). act.Unmap n) numbers) ≡ []
reads-unmaps m [] = refl
reads-unmaps m (n ∷ numbers) = reads-unmaps m numbers
