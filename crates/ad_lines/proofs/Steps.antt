-- What a step of the code makes of the run.
use Rattle.std.proofs.Common.{◌≡◌, ℕ, ◌<◌, List, [], ◌∷◌, length, map, get_or, slice_get, Option, Some, refl, sym, ap, ◌∙◌, arith}
use Rattle.std.specs.Option.{option_map, option_map_or}
use Rattle.std.specs.Prelude.{slice_index}
use Rattle.std.proofs.Math.ListN.{set}
use Rattle.std.proofs.Math.Seq.{map-set_same}
use Rattle.std.proofs.lemmas.List.{get_or-map, length-map, map-set}
use Rattle.std.proofs.lemmas.Option.{slice_get-map, slice_get_read}
use Rattle.ad_base.specs.declared.book.Book.{Book}
use Rattle.ad_base.specs.declared.ledger.Kind.TheVariants.{Code}
use Rattle.ad_base.specs.declared.place.Place.{Place}
use Rattle.ad_base.specs.Book.{Contents, contents_of}
use Rattle.ad_call.specs.declared.call.Call.{Call}
use Rattle.ad_call.specs.Call.{after_call}
use Rattle.ad_lines.specs.declared.line_run.ModuleRun.{ModuleRun}
use Rattle.ad_lines.specs.LineRun.{ModuleState, Placement, RunState, after_move, move_end, place_after, with_call, with_module_moved}
use Rattle.ad_lines.specs.Room.{images_of, module_state}

-- the room of a module's history
abbrev pub room_of : ModuleRun → ℕ
room_of m = m.book.history.room

-- the run of these modules
abbrev pub run_of : List ModuleRun → List Place → Placement → RunState
run_of modules stacks p = record { modules = map module_state modules; stacks = stacks; placement = p }

-- a number below that of the images is one of a module
pub within-images : (modules : List ModuleRun) (stacks : List Place) (p : Placement) (s : RunState) (n : ℕ) → run_of modules stacks p ≡ s → n < length (images_of s) → n < length modules
within-images modules stacks p s n e below =
    omega (arith, below, ap (λ x. length (images_of x)) e, length-map (map module_state modules) (λ (x : ModuleState). x.image), length-map modules module_state)

module _ (modules : List ModuleRun) (n : ℕ) (m : ModuleRun) (within : n < length modules) (is : m ≡ get_or modules n m) where
  pub found : slice_get (map module_state modules) n ≡ Some (module_state m)
  found = slice_get-map module_state modules n ∙ ap (option_map module_state) (slice_get_read modules (length modules) n m refl within is)

  pub image-found : (stacks : List Place) (p : Placement) → slice_get (images_of (run_of modules stacks p)) n ≡ Some m.image
  image-found stacks p = slice_get-map (λ (x : ModuleState). x.image) (map module_state modules) n ∙ ap (option_map (λ (x : ModuleState). x.image)) found

  pub room-found : slice_get (map room_of modules) n ≡ Some (room_of m)
  room-found = slice_get-map room_of modules n ∙ ap (option_map room_of) (slice_get_read modules (length modules) n m refl within is)

  -- a call of the module
  pub called : (fuel line worker export : ℕ) (args : List ℕ) (stacks : List Place) (p : Placement) (stack : Place) (book : Book)
      → slice_get stacks worker ≡ Some stack
      → (let call : Call = record { line = line; worker = worker; export = export; under = m.movable; stack = stack } in contents_of book ≡ after_call m.image fuel (contents_of m.book) call args)
      → run_of (set modules n (record { image = m.image; movable = m.movable; book = book })) stacks p ≡ with_call fuel (run_of modules stacks p) line worker n export args
  called fuel line worker export args stacks p stack book there after =
      let s = run_of modules stacks p in
      let call : Place → Call = λ at. record { line = line; worker = worker; export = export; under = m.movable; stack = at } in
      let inner = λ (x : ModuleState) (o : Option Place). option_map_or (λ at. let c : Call = record { line = line; worker = worker; export = export; under = x.movable; stack = at } in record { modules = set (map module_state modules) n (record { image = x.image; movable = x.movable; book = after_call x.image fuel x.book c args }); stacks = stacks; placement = p }) o s in
      let written : map module_state (set modules n (record { image = m.image; movable = m.movable; book = book })) ≡ set (map module_state modules) n (record { image = m.image; movable = m.movable; book = after_call m.image fuel (contents_of m.book) (call stack) args }) =
      map-set module_state modules n (record { image = m.image; movable = m.movable; book = book })
      ∙ ap (λ (b : Contents). set (map module_state modules) n (record { image = m.image; movable = m.movable; book = b })) after in
      (λ j. record { modules = written j; stacks = stacks; placement = p })
      ∙ ap (inner (module_state m)) (sym there)
      ∙ ap (λ (o : Option ModuleState). option_map_or (λ x. inner x (slice_get stacks worker)) o s) (sym found)

  -- a move of the module
  pub moved : (line : ℕ) (stacks : List Place) (p after : Placement) (place : Place)
      → place ≡ place_after m.movable (move_end p.drawn Code m.movable.pages) → after ≡ after_move p line Code n m.movable
      → run_of (set modules n (record { image = m.image; movable = place; book = m.book })) stacks after ≡ with_module_moved line (run_of modules stacks p) n
  moved line stacks p after place is_there is_after =
      let s = run_of modules stacks p in
      let written = map-set module_state modules n (record { image = m.image; movable = place; book = m.book })
      ∙ ap (λ q. set (map module_state modules) n (record { image = m.image; movable = q; book = contents_of m.book })) is_there in
      (λ j. record { modules = written j; stacks = stacks; placement = is_after j })
      ∙ ap (λ (o : Option ModuleState). option_map_or (λ x. record { modules = set (map module_state modules) n (record { image = x.image; movable = place_after x.movable (move_end p.drawn Code x.movable.pages); book = x.book }); stacks = stacks; placement = after_move p line Code n x.movable }) o s) (sym found)

  -- the room once the history of the module has other room
  pub room-set : (book : Book) (movable : Place) → map room_of (set modules n (record { image = m.image; movable = movable; book = book })) ≡ set (map room_of modules) n book.history.room
  room-set book movable = map-set room_of modules n (record { image = m.image; movable = movable; book = book })

  pub room-kept : (movable : Place) → map room_of (set modules n (record { image = m.image; movable = movable; book = m.book })) ≡ map room_of modules
  room-kept movable = map-set_same room_of modules n (record { image = m.image; movable = movable; book = m.book }) m (ap room_of is)

  pub room-here : slice_index (map room_of modules) n ≡ room_of m
  room-here = get_or-map room_of modules n m 0 within ∙ ap room_of (sym is)

-- what the books of modules hold
pub books-map : (ms : List ModuleRun) → map contents_of (map (λ (m : ModuleRun). m.book) ms) ≡ map (λ (m : ModuleState). m.book) (map module_state ms)
books-map [] = refl
books-map (m ∷ ms) = ap (λ bs. contents_of m.book ∷ bs) (books-map ms)
