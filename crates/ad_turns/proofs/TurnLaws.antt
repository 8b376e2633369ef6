-- To note a turn and to pass a module on keep the rule.
use Rattle.std.proofs.Common.{◌≡◌, ⊎_elim, inl, inr, ℕ, ◌+◌, ◌<◌, ◌≤◌, List, [], ◌∷◌, ◌++◌, length, length-append, get_or, set, Some, sym, refl, ap, ◌∙◌, subst, arith}
use Rattle.std.proofs.Math.ListN.{length-set}
use Rattle.std.proofs.lemmas.List.Elements.{All-push}
use mathlib.Core.Option.{some}
use Rattle.atomic_table.proofs.Lists.{set_here, set_else}
use Rattle.ad_base.specs.declared.book.Book.{Book}
use Rattle.ad_base.specs.Book.{contents_of}
use Rattle.ad_turns.specs.declared.view.Turn.{Turn}
use Rattle.ad_turns.specs.declared.view.Stage.TheVariants.{Rests, Holds, Gives}
use Rattle.ad_turns.specs.declared.view.Hand.{Hand}
use Rattle.ad_turns.specs.Names.{Serving, changed, wrote}
use Rattle.ad_turns.specs.Rule.{HasSlot, Homes, IsAtHome, IsHolder, ModuleStands, SlotStands, opening_of}
use Rattle.ad_turns.specs.Steps.{hand}
use Rattle.ad_turns.specs.Turns.{draws_of, turns_of, Made, Reaches}
use Rattle.ad_turns.specs.Laws.{one_more, MayGive, NoteLaw, PassLaw}
use Rattle.ad_turns.proofs.Changed.{changed_here, changed_else, at_changed, either_way}
use Rattle.ad_turns.proofs.Frames.{stage_notes, stage_passes, turns_stay, turns_more, slot_stays}
use Rattle.ad_turns.proofs.Lists.{turns_of_more, numbered_more, reaches_more}
use Rattle.ad_turns.proofs.Seats.{worker_steps}
use Rattle.ad_turns.proofs.StepLaws.{stands, known, undealt_other, each_hand_by, each_draw_stays, each_ticket_stays, has_slot}
use Rattle.ad_turns.proofs.Writes.{writes, reads}

abbrev pub one_turn : ℕ → ℕ → Book → Book → Turn
one_turn m t before after = record { «module» = m; position = t; before = before; after = after }

-- ---- note

-- the module's part, with one turn more
module_notes : (ticket serving : ℕ) (opening : Book) (draws workers : ℕ) (made : List Made) (last : Book) (w m t : ℕ) (before after : Book) → ModuleStands ticket serving opening draws workers made last → before ≡ last → length made ≡ t → t < ticket → w < workers → MayGive w before after
    → ModuleStands ticket serving opening draws workers (made ++ record { worker = w; turn = one_turn m t before after } ∷ []) after
module_notes ticket serving opening draws workers made last w m t before after o same count below known may =
    let e : Made = record { worker = w; turn = one_turn m t before after } in
    let longer = length-append made (e ∷ []) in
    let entries : length before.history.entries ≡ length made = ap (λ (b : Book). length b.history.entries) same ∙ o.book.entries in
    let room : before.history.room ≡ last.history.room = ap (λ (b : Book). b.history.room) same in record {
      few = omega arith;
      passed = let a = o.passed in omega arith;
      book = record {
        entries = ap length may.entry.added ∙ (length-append before.history.entries (may.entry.entry ∷ []) ∙ (ap (λ (n : ℕ). n + 1) entries ∙ sym longer));
        room = let a = o.book.room in let b = may.room in omega arith;
        lengths = record {
          writable = may.lengths.writable ∙ (ap (λ (b : Book). length b.writable) same ∙ o.book.lengths.writable);
          fixed = may.lengths.fixed ∙ (ap (λ (b : Book). length b.fixed) same ∙ o.book.lengths.fixed);
        };
      };
      numbered = numbered_more 0 made e o.numbered (omega arith);
      reaches = subst (λ (ts : List Turn). Reaches (contents_of opening) ts (contents_of after)) (sym (turns_of_more made w (one_turn m t before after)))
          (reaches_more (contents_of opening) (contents_of last) (turns_of made) (one_turn m t before after) o.reaches (ap contents_of same));
      whose = All-push (λ (x : Made). x.worker < workers) made e o.whose known;
    }

pub note_law : NoteLaw
note_law openings calls s r id w m t before after left drawn turns slots at may =
    let turn : Turn = one_turn m t before after in
    let e : Made = record { worker = w; turn = turn } in
    let noted : List Made = r.made m ++ e ∷ [] in
    let made' : ℕ → List Made = changed r.made m noted in
    let last' : ℕ → Book = changed r.last m after in
    let h' : Hand = hand (Gives m t after) left drawn (turns ++ turn ∷ []) in
    let old = stands openings calls s r id w (Holds m t before) left drawn turns at in
    let holder : IsHolder r.words.ticket r.words.serving r.who r.made r.last (length openings) w m t before t = old.stage in
    let lt = known openings calls s r id w (Holds m t before) left drawn turns at in
    let longer = length-append (r.made m) (e ∷ []) in
    let new : ModuleStands (r.words.ticket m) (r.words.serving m) (opening_of openings m) (draws_of calls m) (length calls) noted after =
    module_notes (r.words.ticket m) (r.words.serving m) (opening_of openings m) (draws_of calls m) (length calls) (r.made m) (r.last m) w m t before after (r.each_module m holder.is_ticket.inside) holder.leaves holder.noted holder.is_ticket.drawn lt may in (
      record {
        words = r.words;
        hands = changed r.hands w h';
        who = r.who;
        made = made';
        last = last';
        owner = r.owner;
        joined = r.joined;
        dealt = r.dealt;
        dealer = r.dealer;
        few = r.few;
        small = r.small;
        reads = reads s.words r.words (Serving m) r.reads;
        deep = r.deep;
        each_module = λ k l. at_changed r.made m noted k (λ (es : List Made). ModuleStands (r.words.ticket k) (r.words.serving k) (opening_of openings k) (draws_of calls k) (length calls) es (last' k))
            (λ f. subst (λ (b : Book). ModuleStands (r.words.ticket k) (r.words.serving k) (opening_of openings k) (draws_of calls k) (length calls) noted b) (sym (changed_here r.last m after k f))
            (subst (λ (j : ℕ). ModuleStands (r.words.ticket j) (r.words.serving j) (opening_of openings j) (draws_of calls j) (length calls) noted after) (sym f) new))
            (λ ne. subst (λ (b : Book). ModuleStands (r.words.ticket k) (r.words.serving k) (opening_of openings k) (draws_of calls k) (length calls) (r.made k) b) (sym (changed_else r.last m after k ne)) (r.each_module k l));
        each_slot = λ k l. either_way k m
            (λ f. inl (w, subst (λ (h : Hand). HasSlot h.stage k) (sym (changed_here r.hands w h' w refl)) (sym f)))
            (λ ne. slot_stays s.homes r.words.serving r.hands made' last' w h' k (has_slot openings calls s r id w (Holds m t before) left drawn turns at k)
            (⊎_elim inl (λ (o : IsAtHome s.homes (r.words.serving k) k (r.made k) (r.last k)). inr (subst (λ (es : List Made). IsAtHome s.homes (r.words.serving k) k es (last' k)) (sym (changed_else r.made m noted k ne)) (subst (λ (b : Book). IsAtHome s.homes (r.words.serving k) k (r.made k) b) (sym (changed_else r.last m after k ne)) o))) (r.each_slot k l)));
        each_draw = each_draw_stays openings calls s r id w (Holds m t before) left drawn turns at h' refl;
        each_ticket = each_ticket_stays openings calls s r id w (Holds m t before) left drawn turns at h' refl;
        each_hand = each_hand_by openings calls s r id w (Holds m t before) left drawn turns at r.words.ticket r.words.serving r.who made' last' h'
            (record {
              wide = old.wide;
              stage = record { is_ticket = holder.is_ticket; served = holder.served; leaves = sym (changed_here r.last m after m refl); noted = ap length (changed_here r.made m noted m refl) ∙ (longer ∙ ap (λ (n : ℕ). n + 1) holder.noted) };
              turns = turns_more r.made (length openings) m w turn refl turns holder.is_ticket.inside (sym holder.noted) may.entry old.turns;
              drawn = old.drawn;
            })
            (λ v ne o. record {
              wide = o.wide;
              stage = stage_notes r.words.ticket r.words.serving r.who (length openings) m t w holder.served holder.is_ticket.own r.made r.last noted after v (r.hands v).stage ne o.stage;
              turns = turns_stay r.made (length openings) m w turn refl v (r.hands v).turns ne o.turns;
              drawn = o.drawn;
            });
        each_seat = worker_steps calls r.hands r.owner r.joined r.dealt r.dealer s.views r.each_seat id w (hand (Holds m t before) left drawn turns) h' at;
        all_dealt = r.all_dealt;
        undealt = λ v l. let o = r.undealt v l in (changed_else r.hands w h' v (undealt_other openings calls s r id w (Holds m t before) left drawn turns at v l) ∙ o.0, o.1);
      },
      λ k. refl,
    )

-- ---- pass
pub pass_law : PassLaw
pass_law openings calls s r id w m t after left drawn turns at =
    let h' : Hand = hand Rests left drawn turns in
    let old = stands openings calls s r id w (Gives m t after) left drawn turns at in
    let holder : IsHolder r.words.ticket r.words.serving r.who r.made r.last (length openings) w m t after (t + 1) = old.stage in
    let inside = holder.is_ticket.inside in
    let few : m < 8 = let a = r.few in omega arith in
    let found : ℕ = get_or s.words (9 + m) 0 in
    let x : ℕ = one_more found in
    let here : found ≡ t = r.reads.1 (Serving m) few ∙ sym holder.served in
    let next : x ≡ t + 1 = let a = holder.is_ticket.drawn in let b = r.each_draw m inside in let c = r.small m inside in omega arith in
    let serving' : ℕ → ℕ = changed r.words.serving m x in
    let homes' : Homes = set s.homes m (some (Some after)) in
    let at_home : IsAtHome homes' (serving' m) m (r.made m) (r.last m) = record {
      here = set_here s.homes m (some (Some after)) (let a = r.deep in omega arith) ∙ ap (λ (b : Book). some (some (Some b))) holder.leaves;
      quiet = holder.noted ∙ (sym next ∙ sym (changed_here r.words.serving m x m refl));
    } in (
      record {
        words = wrote r.words (Serving m) x;
        hands = changed r.hands w h';
        who = r.who;
        made = r.made;
        last = r.last;
        owner = r.owner;
        joined = r.joined;
        dealt = r.dealt;
        dealer = r.dealer;
        few = r.few;
        small = r.small;
        reads = writes s.words r.words (Serving m) x few r.reads;
        deep = length-set s.homes m (some (Some after)) ∙ r.deep;
        each_module = λ k l. let o = r.each_module k l in record {
          few = o.few;
          passed = at_changed r.words.serving m x k (λ (n : ℕ). n ≤ length (r.made k)) (λ e. let a = holder.noted in let b : length (r.made k) ≡ length (r.made m) = ap (λ (j : ℕ). length (r.made j)) e in omega arith) (λ _. o.passed);
          book = o.book;
          numbered = o.numbered;
          reaches = o.reaches;
          whose = o.whose;
        };
        each_slot = λ k l. either_way k m
            (λ e. subst (λ (j : ℕ). SlotStands homes' serving' (changed r.hands w h') r.made r.last j) (sym e) (inr at_home))
            (λ ne. slot_stays homes' serving' r.hands r.made r.last w h' k (λ has. absurd (ne (sym (has_slot openings calls s r id w (Gives m t after) left drawn turns at k has))))
            (⊎_elim inl (λ (o : IsAtHome s.homes (r.words.serving k) k (r.made k) (r.last k)). inr (record { here = set_else s.homes m k (some (Some after)) ne ∙ o.here; quiet = o.quiet ∙ sym (changed_else r.words.serving m x k ne) })) (r.each_slot k l)));
        each_draw = each_draw_stays openings calls s r id w (Gives m t after) left drawn turns at h' refl;
        each_ticket = each_ticket_stays openings calls s r id w (Gives m t after) left drawn turns at h' refl;
        each_hand = each_hand_by openings calls s r id w (Gives m t after) left drawn turns at r.words.ticket serving' r.who r.made r.last h'
            (record { wide = old.wide; stage = tt; turns = old.turns; drawn = old.drawn })
            (λ v ne o. record {
              wide = o.wide;
              stage = stage_passes r.words.ticket r.words.serving r.who (length openings) m t w holder.served holder.is_ticket.own r.made r.last x next v (r.hands v).stage ne o.stage;
              turns = o.turns;
              drawn = o.drawn;
            });
        each_seat = worker_steps calls r.hands r.owner r.joined r.dealt r.dealer s.views r.each_seat id w (hand (Gives m t after) left drawn turns) h' at;
        all_dealt = r.all_dealt;
        undealt = λ v l. let o = r.undealt v l in (changed_else r.hands w h' v (undealt_other openings calls s r id w (Gives m t after) left drawn turns at v l) ∙ o.0, o.1);
      },
      λ k. refl,
    )
