use Rattle.std.proofs.Common.{◌≡◌, ◌≢◌, ◌+◌, ◌<◌, List, Bool, [], ◌∷◌, ◌++◌, false, length, slice_index_or, ap, sym, subst, ◌∙◌, arith}
use Rattle.std.specs.List.{All}
use Rattle.std.specs.Option.{is_some}
use Rattle.ad_base.specs.declared.layout.TheConstants.{MAPPINGS}
use Rattle.ad_base.specs.declared.place.Place.{Place}
use Rattle.ad_base.specs.Place.{IsPlace}
use Rattle.ad_place.specs.Choice.{first_unused, next_place, Drawn}
use Rattle.ad_place.proofs.Kept.{words_say, next_place_made}
use Rattle.ad_place.proofs.Places.{next_place_fresh, next_place_is}
use Rattle.ad_place.proofs.placer.Placer.next.Goals as goal

pub unwrap-region-requires : goal.unwrap-region-requires
unwrap-region-requires c =
    let few : length c.self.inside.places.items < MAPPINGS = omega (arith, ap (λ (d : Drawn). length d.places) c.self.view_is, c.requires.left) in
    let say = words_say c.self.inside.seed _ _ _ c.self.inside.used.items c.self.inside.places.items c.args.kind c.args.pages _ _ c.self.invariant.0 few c.next_word-region_word.ensures c.next_word-start_word.ensures in
    ap is_some (c.first_unused.ensures ∙ ap (λ (used : List Bool). first_unused (λ region. slice_index_or used region false) c.args.kind c.next_word-region_word.result) c.as_slice.ensures.value ∙ say.region)

-- the place that is made is the one that is drawn next
made : (c : goal.After-push_reserved) → let place : Place = record { region = c.unwrap-region.result; start = c.start_page.result; pages = c.args.pages; mapping = c.len.result + 1; frame = 0 } in place ≡ next_place c.args.self.now c.args.kind c.args.pages
made c =
    let old : Drawn = record { seed = c.self.inside.seed; places = c.self.inside.places.items } in
    let few : length c.self.inside.places.items < MAPPINGS = omega (arith, ap (λ (d : Drawn). length d.places) c.self.view_is, c.requires.left) in
    let say = words_say c.self.inside.seed _ _ _ c.self.inside.used.items c.self.inside.places.items c.args.kind c.args.pages _ _ c.self.invariant.0 few c.next_word-region_word.ensures c.next_word-start_word.ensures in
    let found = c.first_unused.ensures ∙ ap (λ (used : List Bool). first_unused (λ region. slice_index_or used region false) c.args.kind c.next_word-region_word.result) c.as_slice.ensures.value ∙ say.region in
    let region : (next_place old c.args.kind c.args.pages).region ≡ c.unwrap-region.result = cc (found, c.unwrap-region.ensures) in
    next_place_made old c.args.kind c.args.pages _ _ _ region (c.start_page.ensures ∙ say.start) (omega (arith, c.len.ensures, c.self.inside.places.ok))
    ∙ ap (λ d. next_place d c.args.kind c.args.pages) c.self.view_is

pub returns-clause-drawn : goal.returns-clause-drawn
returns-clause-drawn c = made c

pub returns-clause-after : goal.returns-clause-after
returns-clause-after c =
    let with_places : List Place → Drawn = λ places. record { seed = c.self.inside.seed; places = places } in
    ap with_places (c.push_reserved.ensures.items ∙ ap (λ (p : Place). c.self.inside.places.items ++ p ∷ []) (made c))
    ∙ ap (λ (d : Drawn). let new : Drawn = record d { places = d.places ++ next_place c.args.self.now c.args.kind c.args.pages ∷ [] } in new) c.self.view_is

pub returns-clause-place : goal.returns-clause-place
returns-clause-place c = subst IsPlace (sym (made c)) (next_place_is c.args.self.now c.args.kind c.args.pages c.requires.left c.requires.some_page c.requires.pages_fit).place

pub returns-clause-region_from : goal.returns-clause-region_from
returns-clause-region_from c =
    omega (arith, ap (λ (p : Place). p.region) (made c), (next_place_is c.args.self.now c.args.kind c.args.pages c.requires.left c.requires.some_page c.requires.pages_fit).region_from)

pub returns-clause-region_to : goal.returns-clause-region_to
returns-clause-region_to c =
    omega (arith, ap (λ (p : Place). p.region) (made c), (next_place_is c.args.self.now c.args.kind c.args.pages c.requires.left c.requires.some_page c.requires.pages_fit).region_to)

pub returns-clause-fresh : goal.returns-clause-fresh
returns-clause-fresh c = subst (λ (p : Place). All (λ q. q.region ≢ p.region) c.args.self.now.places) (sym (made c)) (next_place_fresh c.args.self.now c.args.kind c.args.pages c.requires.left)
