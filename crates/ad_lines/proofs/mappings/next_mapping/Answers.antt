use Rattle.std.proofs.Common.{◌≡◌, ◌+◌, ◌∙◌, ◌++◌, ◌∷◌, [], ap, length, vec_capacity, subst, sym}
use Rattle.std.proofs.lemmas.List.{length_push}
use Rattle.ad_lines.specs.LineRun.{replaced}
use Rattle.ad_lines.specs.Private.Places.{IsMappingList}
use Rattle.ad_lines.proofs.Rows.{list-replaced}
use Rattle.ad_lines.proofs.mappings.next_mapping.Goals as goal

pub returns-clause-list : goal.returns-clause-list
returns-clause-list c =
    let old = c.args.placer.now.places in
    let rows = c.args.rows.now.items in
    let new = c.next-new.result in
    let is : c.push_reserved.new.self.items ≡ replaced rows c.args.line c.args.kind c.args.who c.args.old new =
    c.push_reserved.ensures.items ∙ (λ j. c.retire.ensures.rows j ++ c.new_row.ensures j ∷ []) in
    let longer : length c.next-new.new.self.places ≡ length old + 1 = ap (λ d. length d.places) c.next-new.ensures.after ∙ length_push old _ in
    subst (IsMappingList c.next-new.new.self.places c.push_reserved.new.self.items)
    (sym (c.push_reserved.ensures.capacity ∙ c.retire.ensures.capacity))
    (list-replaced old c.next-new.new.self.places rows c.push_reserved.new.self.items (vec_capacity c.args.rows.now) 0 c.args.line c.args.who c.args.kind c.args.old new c.requires.list is c.next-new.ensures.mapping longer)
