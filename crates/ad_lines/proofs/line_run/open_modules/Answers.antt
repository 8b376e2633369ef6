use Rattle.std.proofs.Common.{◌≡◌, ◌<◌, [], ◌∷◌, ◌++◌, ◌∙◌, ap, sym, refl, length, map, get_or, slice_get, Some, arith, append_assoc, length-append}
use Rattle.std.specs.Prelude.{sum_by}
use Rattle.std.proofs.lemmas.List.{length-map, length_push, map_push}
use Rattle.std.proofs.lemmas.Option.{slice_get_read}
use Rattle.ad_base.specs.declared.place.Place.{Place}
use Rattle.ad_lines.specs.declared.line_run.ModuleRun.{ModuleRun}
use Rattle.ad_lines.specs.Opening.{opening_modules}
use Rattle.ad_lines.specs.Room.{calls_of, module_state}
use Rattle.ad_lines.proofs.Opens.{default-same, modules-push, next-item, rooms-push}
use Rattle.ad_lines.proofs.Steps.{room_of}
use Rattle.ad_lines.proofs.line_run.open_modules.Goals as goal

pub loop-image-preserved : goal.loop-image-preserved
loop-image-preserved c =
    let l = c.loop-image in
    let parts = c.args.parts.now in
    let image = c.in-Some.image in
    let book = c.in_ok-book.book in
    let pushed = c.in_ok-push.ensures in
    let rest = c.next.new.self.rest.items in
    let next : l.image-iterator.rest.items ≡ image ∷ rest = next-item c.next.result image l.image-iterator.rest.items rest l.image-iterator.rest.len c.next.new.self.rest.len c.in-Some.is c.next.ensures.steps in
    let left : (l.yielded ++ image ∷ []) ++ rest ≡ c.args.images.items = append_assoc l.yielded (image ∷ []) rest ∙ ap (λ xs. l.yielded ++ xs) (sym next) ∙ l.invariant.left in
    let none : Place = record { region = 0; start = 0; pages = 0; mapping = 0; frame = 0 } in
    let number = c.len-number.result in
    let movable = get_or parts number none in
    let at : number ≡ length l.yielded = omega (arith, c.len-number.ensures, l.invariant.len) in
    let within : number < length parts =
    omega (arith, c.requires, at, ap length left, length-append (l.yielded ++ image ∷ []) rest, length_push l.yielded image) in
    let read = slice_get_read parts (length parts) number movable refl within (default-same parts number none movable within) in
    let there : slice_get parts (length l.yielded) ≡ Some movable = ap (slice_get parts) (sym at) ∙ read in
    let m : ModuleRun = record { image = image; movable = movable; book = book } in
    record {
      modules =
          ap (map module_state) pushed.items
          ∙ map_push module_state l.modules.items m
          ∙ ap (λ xs. xs ++ module_state m ∷ []) l.invariant.modules
          ∙ ap (λ b. opening_modules l.yielded parts ++ record { image = image; movable = movable; book = b } ∷ []) c.in_ok-book.ensures.opening
          ∙ sym (modules-push l.yielded parts image movable there);
      left = left;
      len = omega (arith, pushed.len, l.invariant.len, length_push l.yielded image);
      rooms = λ k room e.
          let same : map room_of c.push.new.self.items ≡ map room_of l.modules.items ++ room_of m ∷ [] = ap (map room_of) pushed.items ∙ map_push room_of l.modules.items m in
          let long = length-map l.modules.items room_of in
          let here : room_of m ≡ sum_by (calls_of (length (map room_of l.modules.items))) c.args.steps.now =
          c.in_ok-book.ensures.room ∙ c.calls_of.ensures ∙ ap (λ n. sum_by (calls_of n) c.args.steps.now) (omega (arith, c.len-number.ensures, long)) in
          rooms-push (λ n. sum_by (calls_of n) c.args.steps.now) (map room_of l.modules.items) (room_of m) l.invariant.rooms here k room (sym (ap (λ xs. slice_get xs k) same) ∙ e);
    }
