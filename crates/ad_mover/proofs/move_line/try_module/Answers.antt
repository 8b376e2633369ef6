use Rattle.std.proofs.Common.{ℕ, ◌*◌, List, [], ◌∷◌, ◌++◌, get_or, set, append-nil, append_assoc, refl, sym, ap, ◌∙◌, arith}
use Rattle.ad_base.specs.declared.ledger.Kind.TheVariants as kinds
use Rattle.ad_maps.specs.declared.view.Deed.{Deed}
use Rattle.ad_maps.specs.declared.view.Deed.TheVariants as deed
use Rattle.ad_maps.specs.MapPlace.{opening_of}
use Rattle.ad_maps.specs.Seen.{looks_from, retires_of}
use Rattle.ad_mover.specs.Moves.{AllOwned, Placed}
use Rattle.ad_mover.specs.Seen.{moving}
use Rattle.ad_mover.proofs.Drawing.{drawn-looked}
use Rattle.ad_mover.proofs.Lines.{retires-more}
use Rattle.ad_place.specs.Choice.{next_place}
use Rattle.ad_mover.proofs.move_line.try_module.Goals as goal

pub place_in-requires-clause-drawn : goal.place_in-requires-clause-drawn
place_in-requires-clause-drawn c =
    let shape = c.args.shared.now.maps.shape in
    let found = c.in-Ok.ensures.found in
    drawn-looked shape c.args.shared.now.stacks.openings (moving c.args.mover.now) (record (moving c.args.mover.now) { deeds = c.room.new.mover.deeds; current = c.room.new.mover.current })
    (c.args.module * shape.frames) (found.owners ++ 0 ∷ []) c.requires.drawn refl found.looks refl c.in-Ok.ensures.current

pub returns-in-Ok-clause-comes : goal.returns-in-Ok-clause-comes
returns-in-Ok-clause-comes c =
    let shape = c.args.shared.now.maps.shape in
    let found = c.in-Ok.ensures.found in
    let first = c.args.module * shape.frames in
    let placed = c.place_in.ensures in record {
      outcome = Placed found.owners c.place_in.result;
      may = (
        (let v = c.left.ensures.value in let some = c.if-left-eq0.false in omega arith),
        found.within,
        found.last,
        placed.place ∙ (λ i. record (next_place c.args.mover.now.placer kinds.Code (opening_of shape c.args.module).place.pages) { frame = found.frame i }),
        found.owned,
      );
      is = refl;
      drawn = placed.placer;
      deeds = placed.deeds ∙ (ap (λ (ds : List Deed). ds ++ deed.Map c.args.module c.place_in.result ∷ deed.Switch c.args.module c.place_in.result ∷ []) found.looks
          ∙ append_assoc c.args.mover.now.seat.deeds (looks_from first (found.owners ++ 0 ∷ [])) (deed.Map c.args.module c.place_in.result ∷ deed.Switch c.args.module c.place_in.result ∷ []));
      current = placed.current ∙ ap (λ (ns : List ℕ). set ns c.args.module c.place_in.result.mapping) c.in-Ok.ensures.current;
      out = λ line. retires-more line c.args.mover.now.outs.items c.place_in.new.mover.outs.items placed.out.out (get_or c.args.mover.now.seat.current c.args.module 0) placed.out.outs
          (placed.out.is ∙ ap (λ (ns : List ℕ). get_or ns c.args.module 0) c.in-Ok.ensures.current);
    }

pub returns-in-Err-clause-comes : goal.returns-in-Err-clause-comes
returns-in-Err-clause-comes c =
    let none = c.in-Err.ensures.none in record {
      outcome = AllOwned none.owners c.in-Err.busy.owner;
      may = ((let v = c.left.ensures.value in let some = c.if-left-eq0.false in omega arith), none.all, none.last, none.owned);
      is = refl;
      drawn = refl;
      deeds = none.looks;
      current = c.in-Err.ensures.current;
      out = λ line. sym (append-nil (retires_of line c.args.mover.now.outs.items));
    }
