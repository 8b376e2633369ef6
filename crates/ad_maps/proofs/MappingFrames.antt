-- What stays of the first half of the rule, and what the mover's seat knows.
use Rattle.std.proofs.Common.{◌≡◌, ◌≢◌, ℕ, ◌<◌, ◌≤◌, List, [], ◌∷◌, ◌++◌, length, map as list_map, get_or, Some, refl, sym, ap, ◌∙◌, subst, arith}
use Rattle.std.specs.List.{Contains}
use Rattle.std.specs.FinMap as map
use Rattle.std.proofs.lemmas.List.{append-nil, length-map, get_or_past}
use mathlib.Core.Option.{some}
use lib.ListN.{get_elem?}
use Rattle.ad_base.specs.Layout.{local_word}
use Rattle.ad_base.specs.declared.image.Cell.{Cell}
use Rattle.ad_base.specs.declared.place.Place.{Place}
use Rattle.ad_events.specs.declared.mapping.Status.{Status}
use Rattle.ad_events.specs.declared.mapping.Status.TheVariants.{Fresh, Current, Out, Retired, Gone}
use Rattle.ad_events.specs.World.{mapping_of}
use Rattle.ad_events.specs.Reclaim as machine
use Rattle.ad_maps.specs.declared.shape.Shape.{Shape}
use Rattle.ad_maps.specs.declared.view.Deed.{Deed}
use Rattle.ad_maps.specs.declared.view.Freeing.{Freeing}
use Rattle.ad_maps.specs.declared.view.Passing.{Passing}
use Rattle.ad_maps.specs.declared.view.Hand.{Hand}
use Rattle.ad_maps.specs.declared.view.Made.{Made}
use Rattle.ad_maps.specs.declared.view.Plan.{Plan}
use Rattle.ad_maps.specs.declared.view.Doing.TheVariants.{Mover}
use Rattle.ad_maps.specs.Ledger.{opened_from, maps_in, all_made, line_in}
use Rattle.ad_maps.specs.MapPlace.{cell_word}
use Rattle.ad_maps.specs.Rule.{St, Kept, HandStands, IsMapped, WordsSay, Batching, Dealt, Mappings}
use Rattle.ad_maps.proofs.Elements.{maps-append}
use Rattle.ad_maps.proofs.Machine.{holds_of}

-- the words of a mapping, where its directory word, its frame's owner and its cells are as they were
module _ (shape : Shape) (directory owner directory' owner' : ℕ → ℕ) (cell cell' : ℕ → ℕ → ℕ) (m : ℕ) (p : Place)
    (word : directory' p.region ≡ directory p.region) (owns : owner p.frame ≡ p.mapping → owner' p.frame ≡ owner p.frame)
    (cells : owner p.frame ≡ p.mapping → (e : ℕ) → cell' p.frame e ≡ cell p.frame e) where
  mapped-stays : IsMapped shape directory owner cell m p → IsMapped shape directory' owner' cell' m p
  mapped-stays h = record { word = word ∙ h.word; owns = owns h.owns ∙ h.owns; cells = λ e l. cells h.owns e ∙ h.cells e l }

  pub words-stay : (s : Status) → WordsSay shape directory owner cell m p s → WordsSay shape directory' owner' cell' m p s
  words-stay Fresh h = mapped-stays h
  words-stay Current h = mapped-stays h
  words-stay Out h = mapped-stays h
  words-stay Retired h = mapped-stays h
  words-stay Gone h = word ∙ h

-- a mapping that is in the directory stands so with every status but Gone
pub mapped-says : (shape : Shape) (directory owner : ℕ → ℕ) (cell : ℕ → ℕ → ℕ) (m : ℕ) (p : Place) (s : Status) → s ≢ Gone → IsMapped shape directory owner cell m p → WordsSay shape directory owner cell m p s
mapped-says shape directory owner cell m p Fresh apart h = h
mapped-says shape directory owner cell m p Current apart h = h
mapped-says shape directory owner cell m p Out apart h = h
mapped-says shape directory owner cell m p Retired apart h = h
mapped-says shape directory owner cell m p Gone apart h = absurd (apart refl)

-- there is no word past the cells
pub cell-past : (cells : List Cell) (base e : ℕ) → length cells ≤ e → cell_word cells base e ≡ 0
cell-past cells base e l = get_or_past (list_map (local_word base) cells) e 0 (let same = length-map cells (local_word base) in omega arith)

-- the mappings stand as they do, where the plan changes in its batch, its rooms, its list and its seats alone
pub mappings-stay : (shape : Shape) (s : St) (r : Kept shape s) (q : Plan) {passing : Passing} {batches dealt : ℕ} {freeing : Freeing} {rooms : List ℕ} {deeds : List Deed} {back : List Hand}
    → Mappings shape r.state.world.mappings r.places r.ledger q r.gives r.words.current r.words.directory r.words.owner r.words.cell → ((f : ℕ) → Contains rooms f → r.words.owner f ≡ 0)
    → Mappings shape r.state.world.mappings r.places r.ledger (record q { passing = passing; batches = batches; freeing = freeing; dealt = dealt; rooms = rooms; deeds = deeds; back = back }) r.gives r.words.current r.words.directory r.words.owner r.words.cell
mappings-stay shape s r q m free = record {
  each = m.each;
  each_made = m.each_made;
  wide = m.wide;
  each_current = m.each_current;
  each_region = m.each_region;
  each_owner = m.each_owner;
  newest = m.newest;
  each_give = m.each_give;
  past_cells = m.past_cells;
  fresh = m.fresh;
  outs = m.outs;
  rooms = free;
  stage = m.stage;
}

-- ---- what the mover's seat knows

pub record MoverKnows (shape : Shape) (s : St) (r : Kept shape s) (id : ℕ) (q : Plan) : Type 0 where
  pub is : q ≡ r.plan
  pub mine : id ≡ r.mover
  pub mappings : Mappings shape r.state.world.mappings r.places r.ledger q r.gives r.words.current r.words.directory r.words.owner r.words.cell
  pub ledger_is : r.ledger ≡ all_made shape q.deeds
  pub lines_are : (n : ℕ) → r.lines n ≡ line_in q.deeds n
  pub batching : Batching r.state.owed r.state.batch r.words.member q
  pub freeing : q.freeing ≡ r.frees machine.Mover
  pub gives : q.gives ≡ r.gives machine.Mover
  pub dealt : Dealt shape r.hands q

pub mover_knows : (shape : Shape) (s : St) (r : Kept shape s) (id : ℕ) (q : Plan) → get_elem? s.views id ≡ some (Mover q) → MoverKnows shape s r id q
mover_knows shape s r id q at =
    let k = r.each_seat id (Mover q) at in
    subst (MoverKnows shape s r id) (sym k.0) (record { is = refl; mine = k.1; mappings = r.mappings; ledger_is = r.ledger_is; lines_are = r.lines_are; batching = r.batching; freeing = r.tells.own; gives = r.tells.own_gives; dealt = r.dealt })

-- what the workers' seats know is so where the same mappings are current
pub same_currents : (shape : Shape) (s : St) (r : Kept shape s) (q : Plan) → q ≡ r.plan → (v : ℕ)
    → HandStands shape r.state.world r.places r.ledger r.plan.current r.gives v (r.hands v) → HandStands shape r.state.world r.places r.ledger q.current r.gives v (r.hands v)
same_currents shape s r q is v old = subst (λ (p : Plan). HandStands shape r.state.world r.places r.ledger p.current r.gives v (r.hands v)) (sym is) old

-- a deed that makes no mapping leaves the ledger
pub ledger-same : (shape : Shape) (deeds : List Deed) (d : Deed) → maps_in (d ∷ []) ≡ [] → all_made shape (deeds ++ d ∷ []) ≡ all_made shape deeds
ledger-same shape deeds d none = ap (λ (gs : List Made). opened_from 0 shape.modules ++ gs) (maps-append deeds (d ∷ []) ∙ (ap (λ (gs : List Made). maps_in deeds ++ gs) none ∙ append-nil (maps_in deeds)))

-- a module of the table is one of the world
pub module-there : (shape : Shape) (s : St) (r : Kept shape s) (m : ℕ) → m < length shape.modules → m < r.state.world.modules
module-there shape s r m low =
    let world = (holds_of shape r.form r.state r.reached).world in
    let is = world.fits.only (get_or r.plan.current m 0) m (r.mappings.each_current m low).there in
    let same = world.same in let below = is.0 in omega arith

-- two current mappings of a module are one
pub one-current : (shape : Shape) (s : St) (r : Kept shape s) (m k n : ℕ) → map.get r.state.world.mappings k ≡ Some (mapping_of m Current) → map.get r.state.world.mappings n ≡ Some (mapping_of m Current) → k ≡ n
one-current shape s r m k n there here =
    let world = (holds_of shape r.form r.state r.reached).world in
    sym (world.fits.only k m there).1 ∙ (world.fits.only n m here).1
