-- One module more behind those that were loaded.
use Rattle.std.proofs.Common.{◌≡◌, ℕ, zero, suc, ◌+◌, ◌<◌, ◌≤◌, List, [], ◌∷◌, ◌++◌, length, map, refl, sym, ap, ◌∙◌, arith, append_assoc, append-nil, lit≤}
use Rattle.std.specs.List.{filter, range_with_len, zip}
use Rattle.std.proofs.lemmas.List.{length-map, length_push, map-append, map_push}
use Rattle.std.proofs.lemmas.List.Elements.{All-append, All-cons, All-nil, filter-append}
use Rattle.ad_base.specs.declared.image.Image.{Image}
use Rattle.ad_base.specs.declared.layout.TheConstants.{MODULES, STACK_PAGES, WORKERS}
use Rattle.ad_base.specs.declared.ledger.Kind.TheVariants.{Code, Fixed, Stack}
use Rattle.ad_base.specs.declared.place.Place.{Place}
use Rattle.ad_base.specs.Image.{fixed_pages, movable_pages, IsWhole}
use Rattle.ad_base.specs.Ledger.{Mapping, is_same_kind}
use Rattle.ad_place.specs.Choice.{Drawn, drawn_from, next_place, with_next}
use Rattle.ad_place.proofs.Requests.{drawn_from-append, length-drawn_from, seed-drawn_from}
use Rattle.ad_relate.specs.ClearHistory.{AreOffsets}
use Rattle.ad_lines.specs.Opening.{AreLoaded, Request, drawn_for, module_requests, opening_drawn, opening_mapping, opening_requests, places_of_kind, stack_request}
use Rattle.ad_lines.proofs.Asked.{code_request, fixed_request, length-requests, requests-push, requests-worker}
use Rattle.ad_lines.proofs.Opens.{drawn-each}
use Rattle.ad_lines.proofs.Zips.{zip-append}

-- what is drawn with no module, and for one worker more
pub drawn-none : (seed : ℕ) → opening_drawn seed 0 [] ≡ record { seed = seed; places = [] }
unfolding opening_drawn
drawn-none seed = refl

pub drawn-worker : (seed workers : ℕ) → opening_drawn seed (workers + 1) [] ≡ with_next (opening_drawn seed workers []) Stack STACK_PAGES
unfolding opening_drawn
drawn-worker seed workers =
    let start : Drawn = record { seed = seed; places = [] } in
    let before = opening_requests workers [] in
    ap (λ rs. drawn_from start (map drawn_for rs)) (requests-worker workers)
    ∙ ap (drawn_from start) (map_push drawn_for before (stack_request workers))
    ∙ drawn_from-append start (map drawn_for before) Stack STACK_PAGES

-- one more module draws two places more
pub drawn-push : (seed workers : ℕ) (images : List Image) (i : Image)
    → opening_drawn seed workers (images ++ i ∷ []) ≡ with_next (with_next (opening_drawn seed workers images) Fixed (fixed_pages i)) Code (movable_pages i)
unfolding opening_drawn
drawn-push seed workers images i =
    let start : Drawn = record { seed = seed; places = [] } in
    let before = opening_requests workers images in
    let fixed = fixed_request (length images, i) in
    let code = code_request (length images, i) in
    let requests : opening_requests workers (images ++ i ∷ []) ≡ (before ++ fixed ∷ []) ++ code ∷ [] =
    requests-push workers images i ∙ sym (append_assoc before (fixed ∷ []) (code ∷ [])) in
    ap (λ rs. drawn_from start (map drawn_for rs)) requests
    ∙ ap (drawn_from start) (map_push drawn_for (before ++ fixed ∷ []) code)
    ∙ drawn_from-append start (map drawn_for (before ++ fixed ∷ [])) Code (movable_pages i)
    ∙ ap (λ rs. with_next (drawn_from start rs) Code (movable_pages i)) (map_push drawn_for before fixed)
    ∙ ap (λ d. with_next d Code (movable_pages i)) (drawn_from-append start (map drawn_for before) Fixed (fixed_pages i))

-- the places of the immovable parts, with one more
fixed-more : (before : List Request) (number : ℕ) (i : Image) (places : List Place) (first second : Place) → length before ≡ length places
    → places_of_kind Fixed (map opening_mapping (zip (before ++ module_requests (number, i)) (places ++ first ∷ second ∷ [])))
    ≡ places_of_kind Fixed (map opening_mapping (zip before places)) ++ first ∷ []
fixed-more before number i places first second each =
    let requests = module_requests (number, i) in
    let more = first ∷ second ∷ [] in
    let is = λ (m : Mapping). is_same_kind Fixed m.kind in
    ap (λ zs. places_of_kind Fixed (map opening_mapping zs)) (zip-append before requests places more each)
    ∙ ap (places_of_kind Fixed) (map-append opening_mapping (zip before places) (zip requests more))
    ∙ ap (map (λ (m : Mapping). m.place)) (filter-append is (map opening_mapping (zip before places)) (map opening_mapping (zip requests more)))
    ∙ map-append (λ (m : Mapping). m.place) (filter is (map opening_mapping (zip before places))) (filter is (map opening_mapping (zip requests more)))

-- a module that was loaded behind others, at the place that is drawn for it
pub loaded-push : (seed workers : ℕ) (images : List Image) (i : Image) → AreLoaded seed workers images → length images < MODULES → IsWhole i → AreOffsets i
    → i.fixed ≡ next_place (opening_drawn seed workers images) Fixed (fixed_pages i) → AreLoaded seed workers (images ++ i ∷ [])
loaded-push seed workers images i loaded few whole offsets fixed =
    let places = (opening_drawn seed workers images).places in
    let first = next_place (opening_drawn seed workers images) Fixed (fixed_pages i) in
    let second = next_place (with_next (opening_drawn seed workers images) Fixed (fixed_pages i)) Code (movable_pages i) in
    let before = opening_requests workers images in
    let drawn : (opening_drawn seed workers (images ++ i ∷ [])).places ≡ places ++ first ∷ second ∷ [] =
    ap (λ (d : Drawn). d.places) (drawn-push seed workers images i) ∙ append_assoc places (first ∷ []) (second ∷ []) in
    record {
      some_worker = loaded.some_worker;
      few_workers = loaded.few_workers;
      few_modules = omega (arith, length_push images i, few);
      whole = All-append IsWhole images (i ∷ []) loaded.whole (All-cons IsWhole i [] whole (All-nil IsWhole));
      offsets = All-append AreOffsets images (i ∷ []) loaded.offsets (All-cons AreOffsets i [] offsets (All-nil AreOffsets));
      fixed =
          map_push (λ (x : Image). x.fixed) images i
          ∙ (λ j. loaded.fixed j ++ fixed j ∷ [])
          ∙ sym (fixed-more before (length images) i places first second (drawn-each seed workers images loaded))
          ∙ (λ j. places_of_kind Fixed (map opening_mapping (zip (sym (requests-push workers images i) j) (sym drawn j))));
    }

-- no module was loaded
fixed-none : (workers : ℕ) (places : List Place) → (n : ℕ) → places_of_kind Fixed (map opening_mapping (zip (map stack_request (range_with_len n workers)) places)) ≡ []
fixed-none zero places n = refl
fixed-none (suc workers) [] n = refl
fixed-none (suc workers) (p ∷ places) n = fixed-none workers places (n + 1)

pub loaded-none : (seed workers : ℕ) → 1 ≤ workers → workers ≤ WORKERS → AreLoaded seed workers []
loaded-none seed workers some few =
    let stacks = map stack_request (range_with_len 0 workers) in
    let places = (opening_drawn seed workers []).places in
    record {
      some_worker = some;
      few_workers = few;
      few_modules = lit≤ tt;
      whole = All-nil IsWhole;
      offsets = All-nil AreOffsets;
      fixed = sym (fixed-none workers places 0) ∙ ap (λ rs. places_of_kind Fixed (map opening_mapping (zip rs places))) (sym (append-nil stacks));
    }

-- and a place for each worker
pub length-stacks : (seed workers : ℕ) → length (opening_drawn seed workers []).places ≡ workers
unfolding opening_drawn
length-stacks seed workers =
    omega (arith, length-drawn_from (record { seed = seed; places = [] }) (map drawn_for (opening_requests workers [])), length-map (opening_requests workers []) drawn_for, length-requests workers [])

-- the seed stays
pub seed-drawn : (seed workers : ℕ) (images : List Image) → (opening_drawn seed workers images).seed ≡ seed
unfolding opening_drawn
seed-drawn seed workers images = seed-drawn_from (record { seed = seed; places = [] }) (map drawn_for (opening_requests workers images))
