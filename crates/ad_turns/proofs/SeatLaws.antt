-- To split off, make and join seats keeps the rule.
use Rattle.std.proofs.Common.{◌+◌, true, length, set, refl, ◌∙◌, arith}
use Rattle.ad_turns.specs.declared.view.Stage.TheVariants.{Rests}
use Rattle.ad_turns.specs.declared.view.Doing.TheVariants.{Worker, Dealer}
use Rattle.ad_turns.specs.Names.{changed}
use Rattle.ad_turns.specs.Steps.{hand}
use Rattle.ad_turns.specs.Laws.{SplitLaw, EnterLaw, JoinLaw}
use Rattle.ad_turns.proofs.Changed.{changed_else}
use Rattle.ad_turns.proofs.Seats.{dealer_splits, gatherer_enters, gatherer_joins}

pub split_law : SplitLaw
split_law openings calls s r id k cs at few =
    let mine = r.each_seat id (Dealer k cs) at in
    let next = mine.0 in
    let fresh = r.undealt k (omega arith) in (
      record {
        words = r.words;
        hands = r.hands;
        who = r.who;
        made = r.made;
        last = r.last;
        owner = changed r.owner k (length (set s.views id (Dealer (k + 1) cs)));
        joined = r.joined;
        dealt = r.dealt + 1;
        dealer = r.dealer;
        few = r.few;
        small = r.small;
        reads = r.reads;
        deep = r.deep;
        each_module = r.each_module;
        each_slot = r.each_slot;
        each_draw = r.each_draw;
        each_ticket = r.each_ticket;
        each_hand = r.each_hand;
        each_seat = dealer_splits calls r.hands r.owner r.joined r.dealt r.dealer s.views r.each_seat id k cs at fresh.0 fresh.1;
        all_dealt = omega arith;
        undealt = λ w l. r.undealt w (omega arith);
      },
      λ m. refl,
    )

pub enter_law : EnterLaw
enter_law openings calls s r = (
  record {
    words = r.words;
    hands = r.hands;
    who = r.who;
    made = r.made;
    last = r.last;
    owner = r.owner;
    joined = r.joined;
    dealt = r.dealt;
    dealer = r.dealer;
    few = r.few;
    small = r.small;
    reads = r.reads;
    deep = r.deep;
    each_module = r.each_module;
    each_slot = r.each_slot;
    each_draw = r.each_draw;
    each_ticket = r.each_ticket;
    each_hand = r.each_hand;
    each_seat = gatherer_enters calls r.hands r.owner r.joined r.dealt r.dealer s.views r.each_seat;
    all_dealt = r.all_dealt;
    undealt = r.undealt;
  },
  λ m. refl,
)

pub join_law : JoinLaw
join_law openings calls s r id other w back left drawn turns at apart there next =
    let mine = r.each_seat other (Worker w (hand Rests left drawn turns)) there in (
      record {
        words = r.words;
        hands = r.hands;
        who = r.who;
        made = r.made;
        last = r.last;
        owner = r.owner;
        joined = changed r.joined w true;
        dealt = r.dealt;
        dealer = r.dealer;
        few = r.few;
        small = r.small;
        reads = r.reads;
        deep = r.deep;
        each_module = r.each_module;
        each_slot = r.each_slot;
        each_draw = r.each_draw;
        each_ticket = r.each_ticket;
        each_hand = r.each_hand;
        each_seat = gatherer_joins calls r.hands r.owner r.joined r.dealt r.dealer s.views r.each_seat id other w back (hand Rests left drawn turns) at there refl next;
        all_dealt = r.all_dealt;
        undealt = λ v l. let old = r.undealt v l in (old.0, changed_else r.joined w true v (λ e. let d = mine.0 in omega arith) ∙ old.1);
      },
      λ m. refl,
    )
