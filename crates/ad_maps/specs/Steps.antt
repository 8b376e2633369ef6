-- What each step makes of the view of its seat, and of the word that it found.
use Rattle.std.specs.Prelude.{◌≡◌, ◌+◌, ◌-◌, ◌/◌, ◌%◌, ◌^◌, ℕ, Bool, true, false, ◌&&◌, List, [], ◌∷◌, ◌++◌, slice_set, filter, not, ◌==◌, nat_lt, if◌then◌else◌}
use Rattle.atomic_table.specs.Table.{Me, Step}
use Rattle.ad_base.specs.declared.place.Place.{Place}
use Rattle.ad_base.specs.Place.{place_at}
use Rattle.ad_events.specs.Reclaim as machine
use Rattle.ad_events.specs.Reclaim.{Agent}
use Rattle.ad_maps.specs.declared.view.Act.{Act}
use Rattle.ad_maps.specs.declared.view.Act.TheVariants as act
use Rattle.ad_maps.specs.declared.view.Stance.{Stance}
use Rattle.ad_maps.specs.declared.view.Stance.TheVariants as stance
use Rattle.ad_maps.specs.declared.words.TheConstants.{MEMBERS}
use Rattle.ad_maps.specs.declared.view.Freeing.{Freeing}
use Rattle.ad_maps.specs.declared.view.Freeing.TheVariants as freeing
use Rattle.ad_maps.specs.declared.view.Passing.{Passing}
use Rattle.ad_maps.specs.declared.view.Passing.TheVariants as passing
use Rattle.ad_maps.specs.declared.view.Hand.{Hand}
use Rattle.ad_maps.specs.declared.view.Deed.TheVariants as deed
use Rattle.ad_maps.specs.declared.view.Made.{Made}
use Rattle.ad_maps.specs.declared.view.Stage.{Stage}
use Rattle.ad_maps.specs.declared.view.Stage.TheVariants as stage
use Rattle.ad_maps.specs.declared.view.Plan.{Plan}
use Rattle.ad_maps.specs.declared.view.Doing.{Doing}
use Rattle.ad_maps.specs.declared.view.Doing.TheVariants.{Spent, Worker, Mover}

-- a seat of the table: its view, and no slots of values
abbrev pub Sat : Type 0
Sat = Me (Unit {0}) Doing

-- a worker's seat that has nothing to free
abbrev pub hand : ℕ → Stance → List Place → List Act → Hand
hand slot stance gives acts = record { slot = slot; stance = stance; freeing = freeing.Nothing; gives = gives; acts = acts }

abbrev pub made : ℕ → Place → Made
made m p = record { of_module = m; place = p }

-- the view after is this function of the view before, and of the word found
abbrev pub Becomes : (Doing → ℕ → Doing) → Step (Unit {0}) → Sat → ℕ → Sat → Type 0
Becomes f st me found me' = me' ≡ (f me.0 found, me.1)

-- ---- a worker's steps

-- the seat has entered: the high half of the slot's word is its entry number
abbrev pub after_enter : Doing → ℕ → Doing
after_enter Spent word = Spent
after_enter (Worker w h) word = Worker w (record h { stance = stance.Entered (word / 2 ^ 32); acts = h.acts ++ act.Enter ∷ [] })
after_enter (Mover q) word = Mover q

-- the seat has read the current place of module m
abbrev pub reading : ℕ → Hand → ℕ → Stance → Hand
reading m h word stance.Away = h
reading m h word (stance.Entered entry) = record h { stance = stance.Inside entry m (place_at word); acts = h.acts ++ act.Read m (place_at word) ∷ [] }
reading m h word (stance.Inside entry n p) = h
reading m h word (stance.Paying paid last) = h

abbrev pub after_read : ℕ → Doing → ℕ → Doing
after_read m Spent word = Spent
after_read m (Worker w h) word = Worker w (reading m h word h.stance)
after_read m (Mover q) word = Mover q

-- the seat has done this, and is where it was
abbrev pub after_act : Act → Doing → ℕ → Doing
after_act a Spent word = Spent
after_act a (Worker w h) word = Worker w (record h { acts = h.acts ++ a ∷ [] })
after_act a (Mover q) word = Mover q

-- a seat that leaves pays the batches above its entry number up to the last one pushed on its slot
abbrev pub left_with : ℕ → ℕ → Stance
left_with entry pushed = if nat_lt entry pushed then stance.Paying entry pushed else stance.Away

abbrev pub leaving : Hand → ℕ → Stance → Hand
leaving h word stance.Away = h
leaving h word (stance.Entered entry) = h
leaving h word (stance.Inside entry m p) = record h { stance = left_with entry (word / 2 ^ 32); acts = h.acts ++ act.Leave ∷ [] }
leaving h word (stance.Paying paid last) = h

abbrev pub after_leave : Doing → ℕ → Doing
after_leave Spent word = Spent
after_leave (Worker w h) word = Worker w (leaving h word h.stance)
after_leave (Mover q) word = Mover q

-- who finds in the count of batch b all that it takes brings it to zero, and then frees it
abbrev pub begins : ℕ → Bool → Freeing
begins b all = if all then freeing.Batch b 0 else freeing.Nothing

-- the seat has paid the first batch that it still owed
abbrev pub paying : Hand → ℕ → Stance → Hand
paying h word stance.Away = h
paying h word (stance.Entered entry) = h
paying h word (stance.Inside entry m p) = h
paying h word (stance.Paying paid last) = record h { stance = left_with (paid + 1) last; freeing = begins (paid + 1) (word == 1) }

abbrev pub after_pay : Doing → ℕ → Doing
after_pay Spent word = Spent
after_pay (Worker w h) word = Worker w (paying h word h.stance)
after_pay (Mover q) word = Mover q

-- ---- the steps of who frees a batch, a worker or the mover

abbrev pub agent_of : Doing → Agent
agent_of Spent = machine.Mover
agent_of (Worker w h) = machine.Worker w
agent_of (Mover q) = machine.Mover

-- the batch that a seat frees
abbrev pub freeing_of : Doing → Freeing
freeing_of Spent = freeing.Nothing
freeing_of (Worker w h) = h.freeing
freeing_of (Mover q) = q.freeing

-- the places whose frames a seat has to give back
abbrev pub gives_of : Doing → List Place
gives_of Spent = []
gives_of (Worker w h) = h.gives
gives_of (Mover q) = q.gives

-- batch b is to be freed from member k on, where there is one
abbrev pub freeing_from : ℕ → ℕ → Freeing
freeing_from b k = if k == MEMBERS then freeing.Nothing else freeing.Batch b k

-- with the next member, if there is one more
abbrev pub next_member : ℕ → ℕ → Freeing
next_member b k = freeing_from b (k + 1)

-- the member's word was loaded, and is 0 where there is no such member
abbrev pub member_found : Freeing → ℕ → Freeing
member_found freeing.Nothing word = freeing.Nothing
member_found (freeing.Batch b k) word = if word == 0 then next_member b k else freeing.Found b k word
member_found (freeing.Found b k found) word = freeing.Found b k found

-- the member was unmapped
abbrev pub member_unmapped : Freeing → Freeing
member_unmapped freeing.Nothing = freeing.Nothing
member_unmapped (freeing.Batch b k) = freeing.Batch b k
member_unmapped (freeing.Found b k found) = next_member b k

-- the first of the places is given back
abbrev pub given : List Place → List Place
given [] = []
given (p ∷ ps) = ps

abbrev pub after_member : Doing → ℕ → Doing
after_member Spent word = Spent
after_member (Worker w h) word = Worker w (record h { freeing = member_found h.freeing word })
after_member (Mover q) word = Mover (record q { freeing = member_found q.freeing word })

abbrev pub after_unmap : Doing → ℕ → Doing
after_unmap Spent word = Spent
after_unmap (Worker w h) word = Worker w (record h { freeing = member_unmapped h.freeing; gives = place_at word ∷ h.gives; acts = h.acts ++ act.Unmap (place_at word).mapping ∷ [] })
after_unmap (Mover q) word = Mover (record q { freeing = member_unmapped q.freeing; gives = place_at word ∷ q.gives; deeds = q.deeds ++ deed.Unmap (place_at word).mapping ∷ [] })

abbrev pub after_give : Doing → ℕ → Doing
after_give Spent word = Spent
after_give (Worker w h) word = Worker w (record h { gives = given h.gives })
after_give (Mover q) word = Mover (record q { gives = given q.gives })

-- ---- at rest

abbrev pub is_away : Stance → Bool
is_away stance.Away = true
is_away (stance.Entered entry) = false
is_away (stance.Inside entry m p) = false
is_away (stance.Paying paid last) = false

abbrev pub is_idle : Stage → Bool
is_idle stage.Idle = true
is_idle (stage.Taken g filled) = false

abbrev pub is_resting : Passing → Bool
is_resting passing.Rest = true
is_resting (passing.Listing k) = false
is_resting (passing.Settled s) = false
is_resting (passing.Pushed s found) = false

abbrev pub has_freed : Freeing → Bool
has_freed freeing.Nothing = true
has_freed (freeing.Batch b k) = false
has_freed (freeing.Found b k word) = false

abbrev pub has_given : List Place → Bool
has_given [] = true
has_given (p ∷ ps) = false

-- a worker's seat is away, or the mover makes no mapping and is in no batch; and it has nothing to pay, to free or to give back
abbrev pub is_at_rest : Doing → Bool
is_at_rest Spent = true
is_at_rest (Worker w h) = is_away h.stance && (has_freed h.freeing && has_given h.gives)
is_at_rest (Mover q) = is_idle q.stage && (is_resting q.passing && (has_freed q.freeing && has_given q.gives))

-- ---- the mover's steps

-- the mover has looked at the owner of a frame
abbrev pub looking : ℕ → Plan → ℕ → Plan
looking f q word = record q { rooms = if word == 0 then f ∷ q.rooms else q.rooms; deeds = q.deeds ++ deed.Look f word ∷ [] }

abbrev pub after_look : ℕ → Doing → ℕ → Doing
after_look f Spent word = Spent
after_look f (Worker w h) word = Worker w h
after_look f (Mover q) word = Mover (looking f q word)

-- the frames but this one
abbrev pub without : ℕ → List ℕ → List ℕ
without f frames = filter (λ (g : ℕ). not (g == f)) frames

-- the frame of the new mapping is taken
abbrev pub taking : Made → Plan → Plan
taking g q = record q { stage = stage.Taken g 0; rooms = without g.place.frame q.rooms }

abbrev pub after_take : Made → Doing → ℕ → Doing
after_take g Spent word = Spent
after_take g (Worker w h) word = Worker w h
after_take g (Mover q) word = Mover (taking g q)

-- one cell more is filled
abbrev pub filling : Stage → Stage
filling stage.Idle = stage.Idle
filling (stage.Taken g filled) = stage.Taken g (filled + 1)

abbrev pub after_fill : Doing → ℕ → Doing
after_fill Spent word = Spent
after_fill (Worker w h) word = Worker w h
after_fill (Mover q) word = Mover (record q { stage = filling q.stage })

-- the new mapping is in the directory
abbrev pub mapping : Plan → Stage → Plan
mapping q stage.Idle = q
mapping q (stage.Taken g filled) = record q { stage = stage.Idle; fresh = q.fresh ++ g ∷ []; deeds = q.deeds ++ deed.Map g.of_module g.place ∷ [] }

abbrev pub after_map : Doing → ℕ → Doing
after_map Spent word = Spent
after_map (Worker w h) word = Worker w h
after_map (Mover q) word = Mover (mapping q q.stage)

-- the mappings but the one of this number
abbrev pub but : ℕ → List Made → List Made
but n gs = filter (λ (g : Made). not (g.place.mapping == n)) gs

-- the new mapping is current, and the one that the swap found is out
abbrev pub switching : Made → Plan → ℕ → Plan
switching g q word = record q {
  current = slice_set q.current g.of_module g.place.mapping;
  fresh = but g.place.mapping q.fresh;
  outs = q.outs ++ made g.of_module (place_at word) ∷ [];
  deeds = q.deeds ++ deed.Switch g.of_module g.place ∷ [];
}

abbrev pub after_switch : Made → Doing → ℕ → Doing
after_switch g Spent word = Spent
after_switch g (Worker w h) word = Worker w h
after_switch g (Mover q) word = Mover (switching g q word)

-- one mapping more is listed in the next batch
abbrev pub listed_more : Passing → Passing
listed_more passing.Rest = passing.Listing 1
listed_more (passing.Listing k) = passing.Listing (k + 1)
listed_more (passing.Settled s) = passing.Settled s
listed_more (passing.Pushed s found) = passing.Pushed s found

-- the mappings but these
abbrev pub but_all : List Made → List Made → List Made
but_all [] outs = outs
but_all (g ∷ gs) outs = but_all gs (but g.place.mapping outs)

abbrev pub listing : Made → ℕ → Plan → Plan
listing g line q = record q { passing = listed_more q.passing; outs = but g.place.mapping q.outs; deeds = q.deeds ++ deed.Retire g.place.mapping line ∷ [] }

abbrev pub after_list : Made → ℕ → Doing → ℕ → Doing
after_list g line Spent word = Spent
after_list g line (Worker w h) word = Worker w h
after_list g line (Mover q) word = Mover (listing g line q)

-- the batch is opened
abbrev pub opened : Plan → Plan
opened q = record q { batches = q.batches + 1; passing = passing.Settled 0 }

abbrev pub after_open : Doing → ℕ → Doing
after_open Spent word = Spent
after_open (Worker w h) word = Worker w h
after_open (Mover q) word = Mover (opened q)

-- the batch is pushed on the next slot: the low half of the slot's word is how many are inside
abbrev pub pushed_with : ℕ → Passing → Passing
pushed_with found passing.Rest = passing.Rest
pushed_with found (passing.Listing k) = passing.Listing k
pushed_with found (passing.Settled s) = passing.Pushed s found
pushed_with found (passing.Pushed s before) = passing.Pushed s before

abbrev pub after_push : Doing → ℕ → Doing
after_push Spent word = Spent
after_push (Worker w h) word = Worker w h
after_push (Mover q) word = Mover (record q { passing = pushed_with (word % 2 ^ 32) q.passing })

-- what a settle takes, where the push found so many inside
abbrev pub settles : ℕ → ℕ
settles found = 2 ^ 32 - found

-- the batch is settled on so many slots, and none is under way once it is settled on all
abbrev pub settled_on : ℕ → ℕ → Passing
settled_on slots s = if s == slots then passing.Rest else passing.Settled s

-- with the next slot, if there is one more
abbrev pub next_slot : ℕ → ℕ → Passing
next_slot slots s = settled_on slots (s + 1)

-- the slot is settled
abbrev pub settling : Plan → ℕ → Passing → Plan
settling q word passing.Rest = q
settling q word (passing.Listing k) = q
settling q word (passing.Settled s) = q
settling q word (passing.Pushed s found) = record q { passing = next_slot q.slots s; freeing = begins q.batches (word == settles found) }

abbrev pub after_settle : Doing → ℕ → Doing
after_settle Spent word = Spent
after_settle (Worker w h) word = Worker w h
after_settle (Mover q) word = Mover (settling q word q.passing)

-- ---- splitting and joining

-- what a worker's seat knows at first: the seats take the slots in turn
abbrev pub new_hand : ℕ → Hand
new_hand slot = hand slot stance.Away [] []

-- a worker's seat is split off the mover's
abbrev pub dealing : Plan → Plan
dealing q = record q { dealt = q.dealt + 1 }

abbrev pub given_off : Doing → Doing
given_off Spent = Spent
given_off (Worker w h) = Spent
given_off (Mover q) = Worker q.dealt (new_hand (q.dealt % q.slots))

abbrev pub after_deal : Doing → Doing
after_deal Spent = Spent
after_deal (Worker w h) = Worker w h
after_deal (Mover q) = Mover (dealing q)

-- a worker's seat is joined to the mover's
abbrev pub gathering : Plan → Hand → Plan
gathering q h = record q { back = q.back ++ h ∷ [] }

abbrev pub after_join : Doing → Doing → Doing
after_join (Mover q) (Worker w h) = Mover (gathering q h)
after_join view other = view
