use Rattle.std.proofs.Common.{◌≡◌, ◌+◌, [], ◌∷◌, ◌++◌, ◌∙◌, ap, sym, refl, length, map, take, slice_get, Some, arith}
use Rattle.std.specs.List.{zip}
use Rattle.std.specs.declared.iter.Zip.{Zip}
use Rattle.std.specs.declared.slice.Iter.{Iter}
use Rattle.std.specs.Iterator.Adapters.{zip_first, zip_second}
use Rattle.std.specs.Slice.Iter.{iter_rest}
use Rattle.ad_base.specs.declared.place.Place.{Place}
use Rattle.ad_lines.specs.declared.mappings.Thing.{Thing}
use Rattle.std.proofs.lemmas.List.{length_push, map_push, take_all}
use Rattle.std.proofs.lemmas.Option.{slice_get_read}
use Rattle.std.proofs.lemmas.Slice.Zip.{length-zip, zip_end, zip_turn}
use Rattle.ad_lines.specs.Private.Places.{thing_row}
use Rattle.ad_lines.proofs.Zips.{read-zip, take-next}
use Rattle.ad_lines.proofs.mappings.opening_rows.Goals as goal

pub loop-thing-preserved : goal.loop-thing-preserved
loop-thing-preserved c =
    let l = c.loop-thing in
    let things = c.args.things.now in
    let places = c.args.places.now in
    let thing = c.in-Some.thing in
    let place = c.in-Some.place in
    let n = length l.yielded in
    let first : iter_rest (zip_first c.into_iter-thing-iterator.result) ≡ things =
    ap (λ (z : Zip (Iter Thing) (Iter Place)). iter_rest (zip_first z)) c.into_iter-thing-iterator.ensures.into_iter_gives ∙ ap iter_rest c.zip-thing-items.ensures.first ∙ c.iter.ensures.rest in
    let second : iter_rest (zip_second c.into_iter-thing-iterator.result) ≡ places =
    ap (λ (z : Zip (Iter Thing) (Iter Place)). iter_rest (zip_second z)) c.into_iter-thing-iterator.ensures.into_iter_gives ∙ c.zip-thing-items.ensures.second.0 in
    let turn = zip_turn things places l.yielded c.into_iter-thing-iterator.result l.thing-iterator c.next.new.self c.next.result first second l.yielded_by (thing, place) c.in-Some.is c.next.ensures.steps in
    let thing_there : slice_get things n ≡ Some thing.now = slice_get_read things (length things) n thing.now refl turn.0 (turn.2 thing.now) in
    let place_there : slice_get places n ≡ Some place.now = slice_get_read places (length places) n place.now refl turn.1 (turn.3 place.now) in
    let more = take-next (zip things places) n (thing.now, place.now) (read-zip things places n thing.now place.now thing_there place_there) in
    let count : length (l.yielded ++ (thing, place) ∷ []) ≡ n + 1 = length_push l.yielded (thing, place) in
    record {
      rows =
          c.push_reserved.ensures.items
          ∙ (λ j. l.invariant.rows j ++ c.new_row.ensures j ∷ [])
          ∙ sym (map_push thing_row (take n (zip things places)) (thing.now, place.now))
          ∙ ap (map thing_row) (sym more)
          ∙ ap (λ k. map thing_row (take k (zip things places))) (sym count);
      len = omega (arith, c.push_reserved.ensures.len, l.invariant.len, count);
      room = omega (arith, c.push_reserved.ensures.capacity, l.invariant.room);
    }

pub returns-clause-rows : goal.returns-clause-rows
returns-clause-rows c =
    let l = c.loop-thing in
    let things = c.args.things.now in
    let places = c.args.places.now in
    let first : iter_rest (zip_first c.into_iter-thing-iterator.result) ≡ things =
    ap (λ (z : Zip (Iter Thing) (Iter Place)). iter_rest (zip_first z)) c.into_iter-thing-iterator.ensures.into_iter_gives ∙ ap iter_rest c.zip-thing-items.ensures.first ∙ c.iter.ensures.rest in
    let second : iter_rest (zip_second c.into_iter-thing-iterator.result) ≡ places =
    ap (λ (z : Zip (Iter Thing) (Iter Place)). iter_rest (zip_second z)) c.into_iter-thing-iterator.ensures.into_iter_gives ∙ c.zip-thing-items.ensures.second.0 in
    let end = zip_end things places l.yielded c.into_iter-thing-iterator.result l.thing-iterator c.next.new.self c.next.result first second l.yielded_by c.in-None.is c.next.ensures.steps in
    l.invariant.rows ∙ ap (map thing_row) (take_all (length l.yielded) (zip things places) (omega (arith, end, length-zip things places)))
