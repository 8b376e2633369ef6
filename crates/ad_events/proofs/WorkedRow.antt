-- The events of the worked row are lawful in turn.
use Rattle.std.proofs.Common.{◌≡◌, ℕ, [], ◌∷◌, Some, None, refl, sym, ap, ◌∙◌, inl, inr, arith, nat_cmp, true≢false}
use Rattle.std.specs.Option.{option_map, is_some}
use Rattle.std.specs.Cmp.{nat_cmp_total}
use Rattle.std.specs.FinMap as map
use Rattle.std.specs.FinSet as set
use Rattle.std.proofs.lemmas.Bool.{cases_eq}
use Rattle.ad_events.specs.declared.mapping.Status.TheVariants.{Fresh, Current, Out, Retired}
use Rattle.ad_events.specs.declared.mapping.Mapping.{Mapping}
use Rattle.ad_events.specs.World.{mapping_of, ended, map_values, with_status, world_opening, opening_entries}
use Rattle.ad_events.specs.WorldLaws.{AllLawful, worked_row}
use Rattle.ad_events.proofs.FiniteMaps.{get-insert_same, get-insert_other, get-remove_same, get-remove_other, contains-insert_same}
use Rattle.ad_events.proofs.WorldLemmas.{get-map_values, with_status-is}

abbrev Mappings : Type 0
Mappings = map.FinMap nat_cmp Mapping

-- the mappings at the opening, after the map, after the switch and after the retire
abbrev first : Mappings
first = map.from_entries (opening_entries 0 (1 ∷ []))

abbrev mapped : Mappings
mapped = map.insert first 2 (mapping_of 0 Fresh)

abbrev switched : Mappings
switched = map.insert (map_values (ended 0) mapped) 2 (mapping_of 0 Current)

abbrev inside : map.FinMap nat_cmp ℕ
inside = map.insert map.empty 0 1

first-at : (q : ℕ) → map.get first q ≡ map.find nat_cmp q (opening_entries 0 (1 ∷ []))
first-at q = map.get-from_entries nat_cmp_total (opening_entries 0 (1 ∷ [])) q

out : map.get switched 1 ≡ Some (mapping_of 0 Out)
out =
    get-insert_other (map_values (ended 0) mapped) 2 (mapping_of 0 Current) 1 (omega arith)
    ∙ get-map_values (ended 0) mapped 1
    ∙ ap (option_map (ended 0)) (get-insert_other first 2 (mapping_of 0 Fresh) 1 (omega arith) ∙ first-at 1)

retired : map.get (with_status switched 1 Retired) 1 ≡ Some (mapping_of 0 Retired)
retired = ap (λ ms. map.get ms 1) (with_status-is switched 1 0 Out Retired out) ∙ get-insert_same switched 1 (mapping_of 0 Retired) 1 refl

nobody : (worker : ℕ) → map.get (map.remove inside 0) worker ≡ None
nobody worker =
    elim (cases_eq worker 0) [
      | inl e ↦ get-remove_same inside 0 worker e
      | inr apart ↦ get-remove_other inside 0 worker apart ∙ get-insert_other map.empty 0 1 worker apart ∙ map.get-empty nat_cmp worker
    ]

pub lawful : AllLawful (world_opening 1 (1 ∷ [])) worked_row
lawful = (
  (omega arith, set.contains-empty nat_cmp 0, map.get-empty nat_cmp 0),
  (
    (contains-insert_same set.empty 0 0 refl, first-at 1),
    (
      (omega arith, first-at 2),
      (
        get-insert_same first 2 (mapping_of 0 Fresh) 2 refl,
        (
          ap (option_map (λ x. x.status)) out,
          (
            ap is_some (get-insert_same map.empty 0 1 0 refl),
            ((ap (option_map (λ x. x.status)) retired, λ worker found. true≢false (sym (ap is_some (sym (nobody worker) ∙ found)))), tt),
          ),
        ),
      ),
    ),
  ),
)
