-- Clear calls: what the symbolic machine says is what the plain one does, wherever the parts lie.
use Rattle.std.proofs.Common.{◌≡◌, ℕ, ◌+◌, ◌*◌, ◌%◌, ◌^◌, ◌<◌, ◌&&◌, Bool, true, false, Option, Some, None, List, ◌++◌, [], ◌∷◌, map, Ok, refl, sym, ap, ◌∙◌}
use Rattle.std.specs.List.{list_all}
use Rattle.std.specs.Option.{option_map_or}
use Rattle.std.specs.Prelude.{find, if◌then◌else◌}
use Rattle.ad_base.specs.declared.image.Image.{Image}
use Rattle.ad_base.specs.declared.layout.TheConstants.{PAGE_BYTES, STACK_PAGES}
use Rattle.ad_base.specs.declared.role.Role.{Role}
use Rattle.ad_base.specs.Layout.{extents_from, fixed_roles, movable_roles, rights_of, size_of, stack_roles}
use Rattle.ad_base.specs.Segments.{Extent, Segment, bytes_of_role, extent_of, extents, is_data, is_fixed_data}
use Rattle.ad_base.specs.Book.{Contents}
use Rattle.ad_base.specs.Place.{base_of}
use Rattle.ad_core.specs.Plain as machine
use Rattle.ad_core.specs.Turn.{plain}
use Rattle.ad_isa.specs.Finish.{Aborts, Ends, Finish, Returns}
use Rattle.ad_symbolic.specs.declared.byte.Byte.{Byte}
use Rattle.ad_symbolic.specs.declared.byte.Byte.TheVariants.{Number, OfAddress}
use Rattle.ad_symbolic.specs.declared.value.Value.TheVariants.{At, Num}
use Rattle.ad_symbolic.specs.declared.value.Value.{Value}
use Rattle.ad_symbolic.specs.AddressSpace.{AddressSpace, numbers_of, space_of}
use Rattle.ad_symbolic.specs.Machine.{Memory, SymbolicOutcome, fresh_stack}
use Rattle.ad_symbolic.specs.Replay.{Asked, end_of, fixed_data_of, is_number, is_number_byte, is_number_end, keeps_none, kept_of, number_or_zero, run_of, writable_of}
use Rattle.ad_relate.specs.Machines.{Agrees, finish_at, memory_at}
use Rattle.ad_relate.specs.Stands.{DataFits, Fits, IsApart, Places, byte_at, number_at, segment_at, segments_at}
use Rattle.ad_relate.proofs.Apart.{extents-at, find-first, find-second, fixed_segments, movable_segments, part_at, stack_segments}
use Rattle.ad_relate.proofs.Parts.{space-at, space-fits}
use Rattle.ad_relate.proofs.Runs.{call-fits, call-outcome}
use Rattle.ad_relate.proofs.Values.{numbers-at}

-- bytes and values that are numbers are those that they stand for
bytes-are : (ps : Places) (bs : List Byte) → list_all is_number_byte bs ≡ true → bs ≡ numbers_of (map (byte_at ps) bs)
bytes-are ps [] h = refl
bytes-are ps (Number n ∷ bs) h = ap (λ xs. Number n ∷ xs) (bytes-are ps bs h)
bytes-are ps (OfAddress i p o ∷ bs) h = absurd cc

values-are : (ps : Places) (vs : List Value) → list_all is_number vs ≡ true → vs ≡ map Num (map (number_at ps) vs)
values-are ps [] h = refl
values-are ps (Num n ∷ vs) h = ap (λ xs. Num n ∷ xs) (values-are ps vs h)
values-are ps (At p o ∷ vs) h = absurd cc

notes-are : (ps : Places) (vs : List Value) → list_all is_number vs ≡ true → map number_or_zero vs ≡ map (number_at ps) vs
notes-are ps [] h = refl
notes-are ps (Num n ∷ vs) h = ap (λ xs. n ∷ xs) (notes-are ps vs h)
notes-are ps (At p o ∷ vs) h = absurd cc

end-is : (ps : Places) (f : Finish Value) → is_number_end f ≡ true → machine.end_of (finish_at ps f) ≡ end_of f
end-is ps (Returns (Num n)) h = refl
end-is ps (Returns (At p o)) h = absurd cc
end-is ps (Aborts (Num n)) h = refl
end-is ps (Aborts (At p o)) h = absurd cc
end-is ps (Ends end) h = refl

both-true : (a b : Bool) → a && b ≡ true → (a ≡ true) × (b ≡ true)
both-true true b h = (refl, h)
both-true false b h = absurd cc

-- no piece of these roles is one that is looked for
no-role : (test : Role → Bool) (part : List (Segment ℕ)) (base : ℕ) (size : Role → ℕ) (roles : List Role) → extents part ≡ extents_from base size roles → find test roles ≡ None → find (λ s. test s.role) part ≡ None
no-role test [] base size roles e none = refl
no-role test (s ∷ part) base size [] e none = absurd cc
no-role test (s ∷ part) base size (r ∷ rs) e none =
    let here : extent_of s ≡ record { base = base; size = size r; rights = rights_of r; role = r } = cc in
    by (test s.role) (test r) (ap (λ (x : Extent). test x.role) here) none (no-role test part (base + size r) size rs cc)
  where
    by : (a b : Bool) → a ≡ b → (if b then Some r else find test rs) ≡ None → (find test rs ≡ None → find (λ s. test s.role) part ≡ None) → (if a then Some s else find (λ s. test s.role) part) ≡ None
    by true true e none rest = absurd cc
    by false false e none rest = rest none
    by true false e none rest = absurd cc
    by false true e none rest = absurd cc

-- what a part holds of a role stands for what the part that it stands for holds of it
role-at : (ps : Places) (shift : ℕ) (test : Role → Bool) (part : List (Segment Byte)) → bytes_of_role test (part_at ps shift part) ≡ map (byte_at ps) (bytes_of_role test part)
role-at ps shift test [] = refl
role-at ps shift test (s ∷ part) = by (test s.role) (role-at ps shift test part)
  where
    by : (b : Bool) → bytes_of_role test (part_at ps shift part) ≡ map (byte_at ps) (bytes_of_role test part)
        → option_map_or (λ s. s.bytes) (if b then Some (segment_at ps shift s) else find (λ s. test s.role) (part_at ps shift part)) []
        ≡ map (byte_at ps) (option_map_or (λ s. s.bytes) (if b then Some s else find (λ s. test s.role) part) [])
    by true rest = refl
    by false rest = rest

-- the data of the parts, among the segments that an address space stands for
module _ (ps : Places) (space : AddressSpace) (fits : Fits space) where
  none-of : (test : Role → Bool) (shift base : ℕ) (roles : List Role) (part : List (Segment Byte)) → extents part ≡ extents_from base (size_of space.image) roles → find test roles ≡ None → find (λ s. test s.role) (part_at ps shift part) ≡ None
  none-of test shift base roles part lies none = no-role test (part_at ps shift part) (shift + base) (size_of space.image) roles (extents-at ps shift base (size_of space.image) roles part lies) none

  abbrev bytes_found : Option (Segment ℕ) → List ℕ
  bytes_found found = option_map_or (λ s. s.bytes) found []

  data-at : bytes_of_role is_data (segments_at ps space) ≡ map (byte_at ps) (bytes_of_role is_data space.movable)
  data-at =
      let test = λ (s : Segment ℕ). is_data s.role in
      let no_stack = none-of is_data (base_of ps.stack) 0 stack_roles space.stack fits.stack refl in
      let no_fixed = none-of is_data 0 (base_of space.image.fixed) fixed_roles space.fixed fits.fixed refl in
      ap bytes_found (find-second test (stack_segments space ps ++ fixed_segments space ps) (movable_segments space ps) (find-second test (stack_segments space ps) (fixed_segments space ps) no_stack ∙ no_fixed))
      ∙ role-at ps (base_of ps.movable) is_data space.movable

  fixed-data-at : bytes_of_role is_fixed_data (segments_at ps space) ≡ map (byte_at ps) (bytes_of_role is_fixed_data space.fixed)
  fixed-data-at =
      let test = λ (s : Segment ℕ). is_fixed_data s.role in
      let no_stack = none-of is_fixed_data (base_of ps.stack) 0 stack_roles space.stack fits.stack refl in
      let no_movable = none-of is_fixed_data (base_of ps.movable) 0 movable_roles space.movable fits.movable refl in
      ap bytes_found (find-first test (stack_segments space ps ++ fixed_segments space ps) (movable_segments space ps) no_movable ∙ find-second test (stack_segments space ps) (fixed_segments space ps) no_stack)
      ∙ role-at ps 0 is_fixed_data space.fixed

pub agrees : (i : Image) (ps : Places) (fuel : ℕ) (book : Contents) (call : Asked) (o : SymbolicOutcome) → IsApart i ps → DataFits i book → call.offset < 2 ^ 64 → run_of i fuel (kept_of book) call ≡ Ok o → keeps_none o ≡ true → Agrees o (plain i fuel book ps.movable ps.stack call.offset call.args)
agrees i ps fuel book call o apart fits below ran none =
    let m : Memory = record { space = space_of i (numbers_of book.writable) (numbers_of book.fixed) fresh_stack; notes = []; queue = map Num book.device } in
    let before = space-fits i book.writable book.fixed apart.whole fits.writable fits.fixed in
    let c = call-outcome ps fuel call.offset call.args m o apart before below ran in
    let left = call-fits ps fuel call.offset call.args m o apart before below ran in
    let entry = (base_of ps.movable + call.offset) % 2 ^ 64 in
    let sp = base_of ps.stack + STACK_PAGES * PAGE_BYTES in
    let same : machine.plain_call fuel entry call.args sp (memory_at ps m) ≡ plain i fuel book ps.movable ps.stack call.offset call.args =
    λ j. machine.plain_call fuel entry call.args sp (record { segments = space-at i book.writable book.fixed ps j; notes = []; queue = numbers-at ps book.device j }) in
    let ends = both-true (list_all is_number_byte (writable_of o) && list_all is_number_byte (fixed_data_of o) && list_all is_number o.memory.notes && list_all is_number o.memory.queue) (is_number_end o.finish) none in
    let queued = both-true (list_all is_number_byte (writable_of o) && list_all is_number_byte (fixed_data_of o) && list_all is_number o.memory.notes) (list_all is_number o.memory.queue) ends.0 in
    let noted = both-true (list_all is_number_byte (writable_of o) && list_all is_number_byte (fixed_data_of o)) (list_all is_number o.memory.notes) queued.0 in
    let both = both-true (list_all is_number_byte (writable_of o)) (list_all is_number_byte (fixed_data_of o)) noted.0 in
    let memory = ap (λ p. p.memory) (sym same) ∙ c.memory in
    let segments = ap (λ p. p.segments) memory in
    record {
      end = ap (λ p. p.end) (sym same) ∙ c.end ∙ end-is ps o.finish ends.1;
      notes = ap (λ p. p.notes) memory ∙ sym (notes-are ps o.memory.notes noted.1);
      queue = values-are ps o.memory.queue queued.1 ∙ ap (map Num) (sym (ap (λ p. p.queue) memory));
      writable = bytes-are ps (writable_of o) both.0 ∙ ap numbers_of (sym (ap (bytes_of_role is_data) segments ∙ data-at ps o.memory.space left));
      fixed = bytes-are ps (fixed_data_of o) both.1 ∙ ap numbers_of (sym (ap (bytes_of_role is_fixed_data) segments ∙ fixed-data-at ps o.memory.space left));
    }
