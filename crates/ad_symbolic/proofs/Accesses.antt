-- What an access comes to, by the piece that it reaches.
use Rattle.std.proofs.Common.{◌≡◌, ℕ, Bool, true, false, if◌then◌else◌, List, [], ◌∷◌, take, Result, Ok, Err, refl, sym, ap, subst, ◌∙◌}
use Rattle.ad_base.specs.declared.end.End.{End}
use Rattle.ad_base.specs.declared.end.End.TheVariants.{Denied}
use Rattle.ad_base.specs.declared.role.Role.{Role}
use Rattle.ad_base.specs.declared.role.Role.TheVariants.{Cells, Code, Constants, Data, FixedCode, FixedConstants, FixedData, FixedTable, Stack, Table}
use Rattle.ad_base.specs.Layout.{rights_of}
use Rattle.ad_base.specs.Segments.{Load, Segment, Store, Use, bytes_from, with_bytes}
use Rattle.ad_isa.specs.Domain.{◌>>=◌}
use Rattle.ad_symbolic.specs.AddressSpace.{AddressSpace, loaded_value, low_bytes, put_at_value, reach_value, reached_then, stored_value, value_of_bytes}
use Rattle.ad_symbolic.specs.Private.Pieces.{Stretch, segment_of}
use Rattle.ad_symbolic.specs.Private.Reached.{PutsIn, allowed, role_reached, segment_in, space_in}
use Rattle.ad_symbolic.specs.Value.{offset_of}
use Rattle.ad_symbolic.specs.declared.byte.Byte.{Byte}
use Rattle.ad_symbolic.specs.declared.memory.Memory.{Memory}
use Rattle.ad_symbolic.specs.declared.value.Reason.{Reason}
use Rattle.ad_symbolic.specs.declared.value.Value.{Value}

-- each piece may be loaded
may-load : (r : Role) → (rights_of r).load ≡ true
may-load Stack = refl
may-load FixedCode = refl
may-load FixedConstants = refl
may-load FixedTable = refl
may-load FixedData = refl
may-load Code = refl
may-load Constants = refl
may-load Table = refl
may-load Cells = refl
may-load Data = refl

module _ (m : Memory) (size : ℕ) (v : Value) (r : Result (Result Role End) Reason) (reached : (wanted : Use) → reach_value wanted size (space_in m) v ≡ allowed m wanted r) where
  -- an access that is denied, faults or isn't clear
  then-ended : {A : Type 0} (wanted : Use) (f : Segment Byte → Result (Result A End) Reason) (end : End) → r ≡ Ok (Err end) → reached_then (reach_value wanted size (space_in m) v) f ≡ Ok (Err end)
  then-ended wanted f end is = ap (λ x. reached_then x f) (reached wanted ∙ ap (allowed m wanted) is)

  then-unclear : {A : Type 0} (wanted : Use) (f : Segment Byte → Result (Result A End) Reason) (reason : Reason) → r ≡ Err reason → reached_then (reach_value wanted size (space_in m) v) f ≡ Err reason
  then-unclear wanted f reason is = ap (λ x. reached_then x f) (reached wanted ∙ ap (allowed m wanted) is)

  module _ (signed_ : Bool) where
    pub loaded-ended : (end : End) → r ≡ Ok (Err end) → loaded_value size signed_ (space_in m) v ≡ Ok (Err end)
    unfolding loaded_value
    loaded-ended end is = then-ended Load _ end is

    pub loaded-unclear : (reason : Reason) → r ≡ Err reason → loaded_value size signed_ (space_in m) v ≡ Err reason
    unfolding loaded_value
    loaded-unclear reason is = then-unclear Load _ reason is

    pub loaded-found : (role : Role) (found : Result Value Reason) → r ≡ Ok (Ok role) → value_of_bytes size signed_ (take size (bytes_from (offset_of v) (segment_in m role))) ≡ found
        → loaded_value size signed_ (space_in m) v ≡ (found >>= λ value. Ok (Ok value))
    unfolding loaded_value
    loaded-found role found is same =
        let s = segment_in m role in
        let more : Segment Byte → Result (Result Value End) Reason = λ found. value_of_bytes size signed_ (take size (bytes_from (offset_of v) found)) >>= λ value. Ok (Ok value) in
        ap (λ x. reached_then x more) (reached Load ∙ ap (allowed m Load) is)
        ∙ ap (λ b. reached_then (Ok (if b then Ok s else Err Denied)) more) (may-load role)
        ∙ ap (λ (x : Result Value Reason). x >>= λ value. Ok (Ok value)) same

  module _ (value : Value) where
    pub stored-ended : (end : End) → r ≡ Ok (Err end) → stored_value size value (space_in m) v ≡ Ok (Err end)
    unfolding stored_value
    stored-ended end is = then-ended Store _ end is

    pub stored-unclear : (reason : Reason) → r ≡ Err reason → stored_value size value (space_in m) v ≡ Err reason
    unfolding stored_value
    stored-unclear reason is = then-unclear Store _ reason is

    -- a piece that may not be stored to
    pub stored-denied : (role : Role) → r ≡ Ok (Ok role) → (rights_of role).store ≡ false → stored_value size value (space_in m) v ≡ Ok (Err Denied)
    unfolding stored_value
    stored-denied role is may =
        let s = segment_in m role in
        let more : Segment Byte → Result (Result AddressSpace End) Reason = λ found. Ok (Ok (put_at_value v (low_bytes size value) (space_in m))) in
        ap (λ x. reached_then x more) (reached Store ∙ ap (allowed m Store) is) ∙ ap (λ b. reached_then (Ok (if b then Ok s else Err Denied)) more) may

    -- and one that may
    pub stored-found : (role : Role) (left : AddressSpace) → r ≡ Ok (Ok role) → (rights_of role).store ≡ true → put_at_value v (low_bytes size value) (space_in m) ≡ left → stored_value size value (space_in m) v ≡ Ok (Ok left)
    unfolding stored_value
    stored-found role left is may put =
        let s = segment_in m role in
        let more : Segment Byte → Result (Result AddressSpace End) Reason = λ found. Ok (Ok (put_at_value v (low_bytes size value) (space_in m))) in
        ap (λ x. reached_then x more) (reached Store ∙ ap (allowed m Store) is)
        ∙ ap (λ b. reached_then (Ok (if b then Ok s else Err Denied)) more) may
        ∙ ap (λ x. Ok (Ok x)) put

-- the roles that may not be stored to
pub may-not-store : (r : Role) → (r ≡ Stack → ⊥) → (r ≡ FixedData → ⊥) → (r ≡ Data → ⊥) → (rights_of r).store ≡ false
may-not-store Stack a b c = absurd (a refl)
may-not-store FixedCode a b c = refl
may-not-store FixedConstants a b c = refl
may-not-store FixedTable a b c = refl
may-not-store FixedData a b c = absurd (b refl)
may-not-store Code a b c = refl
may-not-store Constants a b c = refl
may-not-store Table a b c = refl
may-not-store Cells a b c = refl
may-not-store Data a b c = absurd (c refl)

module _ (m : Memory) (v : Value) (r : Result (Result Role End) Reason) (puts : PutsIn m v (role_reached r)) (at : ℕ) (same : at ≡ offset_of v) (more : List Byte) (left : Stretch) where
  -- what is reached once bytes were put into a piece
  pub put-stack : r ≡ Ok (Ok Stack) → segment_of Stack left ≡ with_bytes at more (segment_of Stack m.stack) → put_at_value v more (space_in m) ≡ record (space_in m) { stack = segment_of Stack left ∷ [] }
  put-stack is put =
      subst (λ x. PutsIn m v (role_reached x)) is puts more
      ∙ ap (λ (s : Segment Byte). record (space_in m) { stack = s ∷ [] }) (ap (λ n. with_bytes n more (segment_of Stack m.stack)) (sym same) ∙ sym put)

  pub put-data : r ≡ Ok (Ok Data) → segment_of Data left ≡ with_bytes at more (segment_of Data m.writable)
      → put_at_value v more (space_in m)
      ≡ record (space_in m) { movable = segment_of Code m.code ∷ segment_of Constants m.constants ∷ segment_of Table m.table ∷ segment_of Cells m.cells ∷ segment_of Data left ∷ [] }
  put-data is put =
      subst (λ x. PutsIn m v (role_reached x)) is puts more
      ∙ ap (λ (s : Segment Byte). record (space_in m) { movable = segment_of Code m.code ∷ segment_of Constants m.constants ∷ segment_of Table m.table ∷ segment_of Cells m.cells ∷ s ∷ [] })
      (ap (λ n. with_bytes n more (segment_of Data m.writable)) (sym same) ∙ sym put)

  pub put-fixed : r ≡ Ok (Ok FixedData) → segment_of FixedData left ≡ with_bytes at more (segment_of FixedData m.fixed_data)
      → put_at_value v more (space_in m)
      ≡ record (space_in m) { fixed = segment_of FixedCode m.fixed_code ∷ segment_of FixedConstants m.fixed_constants ∷ segment_of FixedTable m.fixed_table ∷ segment_of FixedData left ∷ [] }
  put-fixed is put =
      subst (λ x. PutsIn m v (role_reached x)) is puts more
      ∙ ap (λ (s : Segment Byte). record (space_in m) { fixed = segment_of FixedCode m.fixed_code ∷ segment_of FixedConstants m.fixed_constants ∷ segment_of FixedTable m.fixed_table ∷ s ∷ [] })
      (ap (λ n. with_bytes n more (segment_of FixedData m.fixed_data)) (sym same) ∙ sym put)
