use Rattle.std.proofs.Common.{rules, get_or, length, [], ◌∷◌, Some, ◌+◌, ◌*◌, ◌%◌, ◌^◌, ◌∙◌, sym, ap, arith}
use Rattle.std.specs.Prelude.{◌++◌, option_map}
use Rattle.std.proofs.lemmas.Option.{slice_get-get_or}
use Rattle.ad_base.specs.declared.book.Entry.{Entry}
use Rattle.ad_base.specs.declared.layout.TheConstants.{PAGE_BYTES, STACK_PAGES}
use Rattle.ad_base.specs.Book.{contents_of}
use Rattle.ad_base.specs.Place.{base_of}
use Rattle.ad_base.specs.Segments.{extents}
use Rattle.ad_base.proofs.Zeros.{length-zeros}
use Rattle.ad_core.specs.Plain.{PlainOutcome, plain_call}
use Rattle.ad_core.proofs.Stay.{called_extents}
use Rattle.ad_call.specs.Call.{HasData}
use Rattle.ad_call.proofs.Asks.{keeps}
use Rattle.ad_call.proofs.Calls.{IsGiven, Left, call_made, has_data, memory_of, offset_there, run_asks, same_run}
use Rattle.ad_call.proofs.call.run_call.Goals as goal

pub invariant_of-pieces : goal.invariant_of-pieces
invariant_of-pieces g c = record {
  whole = c.requires.whole;
  sized = c.requires.under_pages;
  bounded = c.of.ensures.found;
  low = c.of.ensures.low;
  fresh = ap (λ h. length h.stack) c.fresh.ensures ∙ length-zeros (STACK_PAGES * PAGE_BYTES);
  «data» = record {
    movable = ap (λ h. length h.writable) c.fresh.ensures ∙ ap length c.take-2.ensures.taken ∙ c.requires.data.movable;
    immovable = ap (λ h. length h.fixed) c.fresh.ensures ∙ ap length c.take.ensures.taken ∙ c.requires.data.immovable;
  };
}

pub returns : goal.returns
returns g c =
    let call = c.args.call in
    let image = c.args.image.now in
    let fuel = c.args.fuel in
    let args = c.args.args.now in
    let any = c.index-as_slice-call.result in
    let export = get_or c.as_slice.result.now call.export any in
    let bus = c.call-end.new.bus in
    let pieces = bus.pieces in
    let there = slice_get-get_or image.exports call.export any c.requires.export ∙ ap (λ xs. Some (get_or xs call.export any)) (sym c.as_slice.ensures) in
    let book = contents_of c.args.book.now in
    let entry = (c.base.result + export.offset) % 2 ^ 64 in
    let sp = c.base-2.result + c.from.result * 4096 in
    let fixed = c.take.result in
    let writable = c.take-2.result in
    let notes = c.new-2.result in
    let device = c.replace-device.result in
    let fresh = c.fresh.result in
    let given : IsGiven image book call entry sp notes writable fixed device = record {
      entry_is = ap (λ b. (b + export.offset) % 2 ^ 64) c.base.ensures.value ∙ ap (λ x. (base_of call.under + x) % 2 ^ 64) (sym (offset_there image call.export export there));
      sp_is = omega arith;
      no_note = c.new-2.ensures;
      writable_is = c.take-2.ensures.taken;
      fixed_is = c.take.ensures.taken;
      device_is = c.replace-device.ensures.value;
    } in
    let before = memory_of image call.under call.stack fresh.stack fresh.fixed fresh.writable notes device in
    let same = same_run image fuel book call args entry sp notes writable fixed device given fresh c.fresh.ensures in
    let left : Left image fuel book call args pieces.image.now pieces.under pieces.stack c.call-end.result pieces.bytes.stack bus.notes pieces.bytes.writable pieces.bytes.fixed bus.device c.push.new.self.entries = record {
      end_is = c.call-end.ensures.end ∙ ap (λ (o : PlainOutcome). o.end) same;
      memory = c.call-end.ensures.memory ∙ ap (λ (o : PlainOutcome). o.memory) same;
      appended = c.push.ensures.entries ∙ ap (λ (e : Entry). book.entries ++ e ∷ []) c.made_entry.ensures;
    } in
    let had : HasData image fresh.writable fresh.fixed = record {
      movable = ap (λ h. length h.writable) c.fresh.ensures ∙ ap length c.take-2.ensures.taken ∙ c.requires.data.movable;
      immovable = ap (λ h. length h.fixed) c.fresh.ensures ∙ ap length c.take.ensures.taken ∙ c.requires.data.immovable;
    } in
    let stay = ap (λ m. extents m.segments) c.call-end.ensures.memory ∙ called_extents fuel entry sp args before in
    let has = has_data image pieces.image.now image call.under call.stack pieces.under pieces.stack fresh.stack fresh.fixed fresh.writable pieces.bytes.stack pieces.bytes.fixed pieces.bytes.writable stay had in
    let kept = keeps (plain_call fuel entry args sp before).accesses _ _ c.call-end.ensures.track in
    record {
      after = (λ j. record { writable = c.into_parts.ensures.writable j; fixed = c.into_parts.ensures.fixed j; device = bus.device; entries = c.push.new.self.entries })
          ∙ call_made image fuel book call args pieces.image.now pieces.under pieces.stack c.call-end.result pieces.bytes.stack bus.notes pieces.bytes.writable pieces.bytes.fixed bus.device c.push.new.self.entries left;
      «data» = record { movable = ap length c.into_parts.ensures.writable ∙ has.movable; immovable = ap length c.into_parts.ensures.fixed ∙ has.immovable };
      room = search rules;
      pages = λ j. record {
        place = (bus.place ∙ kept.under ∙ sym c.requires.under) j;
        cells = (bus.cells ∙ ap (λ i. i.cells) kept.image ∙ sym c.requires.cells) j;
        origin = kept.origin j;
        asked = (kept.asked ∙ ap (λ more. option_map (λ l. l ++ more) (g.P.Pages.view c.args.pages).asked) (run_asks image fuel book call args entry sp notes writable fixed device given fresh c.fresh.ensures)) j;
      };
    }
