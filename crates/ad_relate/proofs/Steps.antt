-- A step of the symbolic machine stands for the step of the plain one.
use Rattle.std.proofs.Common.{◌≡◌, ℕ, ◌+◌, ◌-◌, ◌%◌, ◌^◌, ◌<◌, ◌++◌, ◌∙◌, bit_and, List, [], ◌∷◌, length, Option, Some, None, map, Bool, true, false, Ok, Err, Result, IfOk, refl, sym, ap, subst, append_assoc, arith}
use Rattle.std.specs.Prelude.{◌==◌, if◌then◌else◌, nat_lt}
use Rattle.std.specs.Int.{cast_unsigned, w64}
use Rattle.std.proofs.lemmas.Bool.{cond_both, eqb-true}
use Rattle.std.proofs.lemmas.List.{append-nil, length-map, map-append}
use Rattle.std.proofs.lemmas.Nat.{and_le_r}
use Rattle.ad_base.specs.declared.end.End.{End}
use Rattle.ad_base.specs.declared.end.End.TheVariants.{Misaligned}
use Rattle.ad_base.specs.declared.end.End.TheVariants as ends
use Rattle.ad_base.specs.declared.image.Image.{Image}
use Rattle.ad_base.specs.declared.layout.TheConstants.{FETCH_BYTES, INSTRUCTION_BYTES, K_ABORT, K_NOTE, K_OUT, NOTES, QUEUE_WORDS}
use Rattle.ad_base.specs.Segments.{Access, Fetch, Load as Loading, Segment, Store as Storing, told}
use Rattle.ad_core.specs.Memory.{fetched, loaded, stored}
use Rattle.ad_core.specs.Memory as plain
use Rattle.ad_core.specs.Plain.{Tracked, certain, found_or_end, plain_step, plain_storage, widened_or_end, with_access}
use Rattle.ad_core.specs.Plain as machine
use Rattle.ad_isa.specs.declared.instr.Alu.{Alu}
use Rattle.ad_isa.specs.declared.instr.Alu.TheVariants.{Add, Sub, Sll, Slt, Sltu, Xor, Srl, Sra, Or, And, Mul, Mulh, Mulhsu, Mulhu, Div, Divu, Rem, Remu}
use Rattle.ad_isa.specs.declared.instr.Test.{Test}
use Rattle.ad_isa.specs.declared.instr.Test.TheVariants as test
use Rattle.ad_isa.specs.declared.instr.Instr.{Instr}
use Rattle.ad_isa.specs.declared.instr.Instr.TheVariants.{Lui, Auipc, Jal, Jalr, Branch, Load, Store, OpImm, OpImm32, Op, Op32, Fence, Ecall, Ebreak}
use Rattle.ad_isa.specs.Domain.{◌>>=◌}
use Rattle.ad_isa.specs.Numbers.{number_of, numbers, operation_on, test_of, word_operation_on}
use Rattle.ad_isa.specs.Rows.{Branches, Effect, Jumps, Loads, Passes, Stops, Stores, Writes, effect, operation, register, with_register}
use Rattle.ad_isa.specs.Finish.{Aborts, Ends, Finish}
use Rattle.ad_isa.specs.Services.{Channels, noted, sent, served, taken}
use Rattle.ad_isa.specs.Step.{Finishes, Found, Goes, Next, Service, State, Word, after_store, execute, perform, return_from_service, settle, step, to_target, with_loaded}
use Rattle.ad_isa.specs.Table.{decoded}
use Rattle.ad_isa.specs.Words.{IsSize}
use Rattle.ad_symbolic.specs.AddressSpace.{AddressSpace, fetched_value, loaded_value, part_bytes, stored_value}
use Rattle.ad_symbolic.specs.Machine.{Memory, after_service, channels_of, symbolic_step, symbolic_storage, values_in}
use Rattle.ad_symbolic.specs.Machine as symbolic
use Rattle.ad_symbolic.specs.Value.{conjunction_of, offset_of, other_of, sum_of, values}
use Rattle.ad_symbolic.specs.declared.value.Value.TheVariants.{At, Num}
use Rattle.ad_symbolic.specs.declared.value.Part.{Part}
use Rattle.ad_symbolic.specs.declared.value.Reason.{Reason}
use Rattle.ad_symbolic.specs.declared.value.Value.{Value}
use Rattle.ad_relate.specs.Machines.{IsReady, finish_at, found_at, left_at, next_at, state_at, tracked_at}
use Rattle.ad_relate.specs.Stands.{Fits, IsApart, Places, number_at, segments_at}
use Rattle.ad_relate.proofs.Access.{load-follows, store-fits, store-follows}
use Rattle.ad_relate.proofs.Comparisons.{holds-follows}
use Rattle.ad_relate.proofs.Fetch.{fetch-stands}
use Rattle.ad_relate.proofs.Sizes.{HasSize, size-of-decoded}
use Rattle.ad_relate.proofs.Values.{Follows, alignment, conjunction-follows, difference-follows, if-apart, if-each, other-follows, register-at, sum-follows, with_register-at}

-- one answer after another
follows-bind : {A B C D R S : Type 0} (f : A → B) (g : C → D) (x : Result A R) (y : Result B S) (k : A → Result C R) (l : B → Result D S)
    → Follows f x y → ((a : A) → x ≡ Ok a → Follows g (k a) (l (f a))) → Follows g (x >>= k) (y >>= l)
follows-bind f g (Ok a) y k l e h = subst (λ z. Follows g (k a) (z >>= l)) (sym e) (h a refl)
follows-bind f g (Err reason) y k l e h = tt

-- an effect leads to an offset of 64 bits, and it loads and stores so many bytes at once from and to such a one
abbrev LeadsTo : Effect Value → Type 0
LeadsTo (Jumps rd link target) = offset_of target < 2 ^ 64
LeadsTo (Branches target) = offset_of target < 2 ^ 64
LeadsTo (Loads size signed rd address) = IsSize size × (offset_of address < 2 ^ 64)
LeadsTo (Stores size v address) = IsSize size × (offset_of address < 2 ^ 64)
LeadsTo e = Unit {0}

-- what holds of each answer of the first holds of what follows
if-bind : {A B R : Type 0} (P : B → Type 0) (x : Result A R) (k : A → Result B R) → ((a : A) → x ≡ Ok a → IfOk (k a) P) → IfOk (x >>= k) P
if-bind P (Ok a) k h = h a refl
if-bind P (Err reason) k h = tt

-- the offset of a sum
sum-below : (a b : Value) → IfOk (sum_of a b) (λ v. offset_of v < 2 ^ 64)
sum-below (Num a) (Num b) = omega arith
sum-below (At p o) (Num n) = omega arith
sum-below (Num n) (At p o) = omega arith
sum-below (At p o) (At q u) = tt

even-below : (a : Value) → IfOk (conjunction_of a (Num (2 ^ 64 - 2))) (λ v. offset_of v < 2 ^ 64)
even-below (Num a) = omega (arith, and_le_r a (2 ^ 64 - 2))
even-below (At p o) = omega (arith, and_le_r o (2 ^ 64 - 2))

-- and that of the next instruction
next-aligned : (a : Value) → offset_of a % FETCH_BYTES ≡ 0 → IfOk (sum_of a (Num INSTRUCTION_BYTES)) (λ v. offset_of v % FETCH_BYTES ≡ 0)
next-aligned (Num n) h = omega arith
next-aligned (At p o) h = omega arith

module _ (size : Part → ℕ) (xs : List Value) (pc next : Value) where
  -- the address of an instruction
  leads-by : (a b : Value) (k : Value → Result (Effect Value) Reason) → ((v : Value) → offset_of v < 2 ^ 64 → IfOk (k v) LeadsTo) → IfOk (sum_of a b >>= k) LeadsTo
  leads-by a b k h = if-bind LeadsTo (sum_of a b) k (λ v e. h v (if-each (λ v. offset_of v < 2 ^ 64) (sum_of a b) v (sum-below a b) e))

  taken-leads : (taken : Bool) (target : Value) → offset_of target < 2 ^ 64 → LeadsTo (if taken then Branches target else Passes)
  taken-leads true target below = below
  taken-leads false target below = tt

  effect-leads : (i : Instr) → HasSize i → IfOk (effect (values size) xs pc next i) LeadsTo
  unfolding effect
  effect-leads (Lui rd imm) has = tt
  effect-leads (Auipc rd imm) has = leads-by pc (Num _) _ (λ v below. tt)
  effect-leads (Jal rd imm) has = leads-by pc (Num _) _ (λ v below. below)
  effect-leads (Jalr rd rs1 imm) has =
      leads-by (register (values size) xs rs1) (Num _) _ (λ sum below.
      if-bind LeadsTo (conjunction_of sum (Num (2 ^ 64 - 2))) _ (λ target t. if-each (λ v. offset_of v < 2 ^ 64) (conjunction_of sum (Num (2 ^ 64 - 2))) target (even-below sum) t))
  effect-leads (Branch t rs1 rs2 imm) has =
      if-bind LeadsTo ((values size).holds t (register (values size) xs rs1) (register (values size) xs rs2)) _ (λ taken e. leads-by pc (Num _) _ (λ target below. taken-leads taken target below))
  effect-leads (Load bytes signed rd rs1 imm) has = leads-by (register (values size) xs rs1) (Num _) _ (λ v below. (has, below))
  effect-leads (Store bytes rs1 rs2 imm) has = leads-by (register (values size) xs rs1) (Num _) _ (λ v below. (has, below))
  effect-leads (OpImm op rd rs1 imm) has = if-bind LeadsTo (operation (values size) op (register (values size) xs rs1) (Num _)) _ (λ v e. tt)
  effect-leads (Op op rd rs1 rs2) has = if-bind LeadsTo (operation (values size) op (register (values size) xs rs1) (register (values size) xs rs2)) _ (λ v e. tt)
  effect-leads (OpImm32 op rd rs1 imm) has = if-bind LeadsTo (other_of (word_operation_on op) (register (values size) xs rs1) (Num _)) _ (λ v e. tt)
  effect-leads (Op32 op rd rs1 rs2) has = if-bind LeadsTo (other_of (word_operation_on op) (register (values size) xs rs1) (register (values size) xs rs2)) _ (λ v e. tt)
  effect-leads Fence has = tt
  effect-leads Ecall has = tt
  effect-leads Ebreak has = tt

module _ (i : Image) (ps : Places) (apart : IsApart i ps) where
  abbrev sizes : Part → ℕ
  sizes = part_bytes i

  -- what an effect stands for
  abbrev effect_at : Effect Value → Effect ℕ
  effect_at Passes = Passes
  effect_at (Writes rd v) = Writes rd (number_at ps v)
  effect_at (Jumps rd link target) = Jumps rd (number_at ps link) (number_at ps target)
  effect_at (Branches target) = Branches (number_at ps target)
  effect_at (Loads size signed rd address) = Loads size signed rd (number_at ps address)
  effect_at (Stores size v address) = Stores size (number_at ps v) (number_at ps address)
  effect_at (Stops end) = Stops end

  -- what follows a sum
  follows-sum : {C D : Type 0} (g : C → D) (a b : Value) (x y : ℕ) (k : Value → Result C Reason) (l : ℕ → Result D ⊥) → x ≡ number_at ps a → y ≡ number_at ps b
      → ((v : Value) → Follows g (k v) (l (number_at ps v))) → Follows g (sum_of a b >>= k) (l ((x + y) % 2 ^ 64))
  follows-sum g a b x y k l e h rest = follows-bind (number_at ps) g (sum_of a b) (Ok ((x + y) % 2 ^ 64)) k l (sum-follows ps a b x y e h) (λ v is. rest v)

  -- a comparison as a number
  truth-follows : (t : Test) (a b : Value) (x y : ℕ) → x ≡ number_at ps a → y ≡ number_at ps b
      → Follows {S = ⊥} (number_at ps) ((values sizes).holds t a b >>= λ c. Ok (Num (number_of c))) (Ok (number_of (test_of t x y)))
  truth-follows t a b x y e h = follows-bind (λ (c : Bool). c) (number_at ps) ((values sizes).holds t a b) (Ok (test_of t x y)) _ (λ c. Ok (number_of c)) (holds-follows i ps apart t a b x y e h) (λ c is. refl)

  -- an operation stands for the operation
  operation-follows : (op : Alu) (a b : Value) (x y : ℕ) → x ≡ number_at ps a → y ≡ number_at ps b
      → Follows (number_at ps) (operation (values sizes) op a b) (operation numbers op x y)
  operation-follows Add a b x y e h = sum-follows ps a b x y e h
  operation-follows Sub a b x y e h = difference-follows ps a b x y e h
  operation-follows And a b x y e h = conjunction-follows ps a b x y e h
  operation-follows Slt a b x y e h = truth-follows test.Lt a b x y e h
  operation-follows Sltu a b x y e h = truth-follows test.Ltu a b x y e h
  operation-follows Sll a b x y e h = other-follows ps (operation_on Sll) a b x y e h
  operation-follows Xor a b x y e h = other-follows ps (operation_on Xor) a b x y e h
  operation-follows Srl a b x y e h = other-follows ps (operation_on Srl) a b x y e h
  operation-follows Sra a b x y e h = other-follows ps (operation_on Sra) a b x y e h
  operation-follows Or a b x y e h = other-follows ps (operation_on Or) a b x y e h
  operation-follows Mul a b x y e h = other-follows ps (operation_on Mul) a b x y e h
  operation-follows Mulh a b x y e h = other-follows ps (operation_on Mulh) a b x y e h
  operation-follows Mulhsu a b x y e h = other-follows ps (operation_on Mulhsu) a b x y e h
  operation-follows Mulhu a b x y e h = other-follows ps (operation_on Mulhu) a b x y e h
  operation-follows Div a b x y e h = other-follows ps (operation_on Div) a b x y e h
  operation-follows Divu a b x y e h = other-follows ps (operation_on Divu) a b x y e h
  operation-follows Rem a b x y e h = other-follows ps (operation_on Rem) a b x y e h
  operation-follows Remu a b x y e h = other-follows ps (operation_on Remu) a b x y e h

  module _ (xs : List Value) (pc next : Value) where
    -- registers and the values in them
    abbrev value_in : ℕ → Value
    value_in r = register (values sizes) xs r

    abbrev number_in : ℕ → ℕ
    number_in r = register numbers (map (number_at ps) xs) r

    held : (r : ℕ) → number_in r ≡ number_at ps (value_in r)
    held r = register-at ps sizes xs r

    writes : (rd : ℕ) (x : Result Value Reason) (y : Result ℕ ⊥) → Follows (number_at ps) x y → Follows effect_at (x >>= λ v. Ok (Writes rd v)) (y >>= λ v. Ok (Writes rd v))
    writes rd x y h = follows-bind (number_at ps) effect_at x y (λ v. Ok (Writes rd v)) (λ v. Ok (Writes rd v)) h (λ v is. refl)

    taken-follows : (taken : Bool) (target : Value) → Follows {R = Reason} {S = ⊥} effect_at (Ok (if taken then Branches target else Passes)) (Ok (if taken then Branches (number_at ps target) else Passes))
    taken-follows true target = refl
    taken-follows false target = refl

    effect-follows : (instr : Instr) → Follows effect_at (effect (values sizes) xs pc next instr) (effect numbers (map (number_at ps) xs) (number_at ps pc) (number_at ps next) instr)
    unfolding effect
    effect-follows (Lui rd imm) = refl
    effect-follows (Auipc rd imm) = follows-sum effect_at pc (Num _) _ _ _ (λ v. Ok (Writes rd v)) refl refl (λ v. refl)
    effect-follows (Jal rd imm) = follows-sum effect_at pc (Num _) _ _ _ (λ v. Ok (Jumps rd (number_at ps next) v)) refl refl (λ v. refl)
    effect-follows (Jalr rd rs1 imm) =
        follows-sum effect_at (value_in rs1) (Num _) _ _ _ (λ s. Ok (Jumps rd (number_at ps next) (bit_and s (2 ^ 64 - 2)))) (held rs1) refl (λ sum.
        follows-bind (number_at ps) effect_at (conjunction_of sum (Num (2 ^ 64 - 2))) _ _ (λ t. Ok (Jumps rd (number_at ps next) t)) (conjunction-follows ps sum (Num (2 ^ 64 - 2)) _ _ refl refl) (λ target is. refl))
    effect-follows (Branch t rs1 rs2 imm) =
        follows-bind (λ (c : Bool). c) effect_at ((values sizes).holds t (value_in rs1) (value_in rs2)) (Ok (test_of t (number_in rs1) (number_in rs2))) _
        (λ taken. Ok (if taken then Branches ((number_at ps pc + cast_unsigned w64 imm) % 2 ^ 64) else Passes))
        (holds-follows i ps apart t (value_in rs1) (value_in rs2) _ _ (held rs1) (held rs2))
        (λ taken is. follows-sum effect_at pc (Num _) _ _ _ (λ target. Ok (if taken then Branches target else Passes)) refl refl (λ target. taken-follows taken target))
    effect-follows (Load size signed rd rs1 imm) = follows-sum effect_at (value_in rs1) (Num _) _ _ _ (λ a. Ok (Loads size signed rd a)) (held rs1) refl (λ v. refl)
    effect-follows (Store size rs1 rs2 imm) =
        follows-sum effect_at (value_in rs1) (Num _) _ _ _ (λ a. Ok (Stores size (number_in rs2) a)) (held rs1) refl (λ v. ap (λ n. Ok (Stores size n (number_at ps v))) (held rs2))
    effect-follows (OpImm op rd rs1 imm) = writes rd _ _ (operation-follows op (value_in rs1) (Num _) _ _ (held rs1) refl)
    effect-follows (Op op rd rs1 rs2) = writes rd _ _ (operation-follows op (value_in rs1) (value_in rs2) _ _ (held rs1) (held rs2))
    effect-follows (OpImm32 op rd rs1 imm) = writes rd _ _ (other-follows ps (word_operation_on op) (value_in rs1) (Num _) _ _ (held rs1) refl)
    effect-follows (Op32 op rd rs1 rs2) = writes rd _ _ (other-follows ps (word_operation_on op) (value_in rs1) (value_in rs2) _ _ (held rs1) (held rs2))
    effect-follows Fence = refl
    effect-follows Ecall = refl
    effect-follows Ebreak = refl

-- what was fetched, and what is stored then
abbrev beside : Memory → Result (Result Found End) Reason → Result (Result Found End × Memory) Reason
beside m clear = clear >>= λ found. Ok (found, m)

-- Where there is an answer, the plain machine comes to what it stands for, with these accesses and some more.
abbrev Stands : Places → List Access → Result (Next Value Memory) Reason → Result (Next ℕ Tracked) ⊥ → Type 0
Stands ps accesses x y = IfOk x (λ next. (more : List Access) × (y ≡ Ok (next_at ps (accesses ++ more) next)))

stands-bind : {A B : Type 0} (ps : Places) (accesses : List Access) (f : A → B) (x : Result A Reason) (y : Result B ⊥) (k : A → Result (Next Value Memory) Reason) (l : B → Result (Next ℕ Tracked) ⊥)
    → Follows f x y → ((a : A) → x ≡ Ok a → Stands ps accesses (k a) (l (f a))) → Stands ps accesses (x >>= k) (y >>= l)
stands-bind ps accesses f (Ok a) y k l e h = subst (λ z. Stands ps accesses (k a) (z >>= l)) (sym e) (h a refl)
stands-bind ps accesses f (Err reason) y k l e h = tt

-- no more accesses
none-more : (ps : Places) (accesses : List Access) (next : Next Value Memory) (y : Result (Next ℕ Tracked) ⊥) → y ≡ Ok (next_at ps accesses next) → Stands ps accesses (Ok next) y
none-more ps accesses next y e = ([], e ∙ ap (λ all. Ok (next_at ps all next)) (sym (append-nil accesses)))

-- what a service finds and leaves
abbrev channels_at : Places → Channels Value → Channels ℕ
channels_at ps c = record { notes = map (number_at ps) c.notes; queue = map (number_at ps) c.queue }

abbrev reply_at : Places → Result Value (Finish Value) → Result ℕ (Finish ℕ)
reply_at ps (Ok v) = Ok (number_at ps v)
reply_at ps (Err finish) = Err (finish_at ps finish)

abbrev served_at : Places → Result Value (Finish Value) × Channels Value → Result ℕ (Finish ℕ) × Channels ℕ
served_at ps answer = (reply_at ps answer.0, channels_at ps answer.1)

module _ (ps : Places) (size : Part → ℕ) (a0 : Value) (c : Channels Value) where
  -- a word more
  longer : (vs : List Value) → map (number_at ps) (vs ++ a0 ∷ []) ≡ map (number_at ps) vs ++ number_at ps a0 ∷ []
  longer vs = map-append (number_at ps) vs (a0 ∷ [])

  noted-at : noted numbers (number_at ps a0) (channels_at ps c) ≡ served_at ps (noted (values size) a0 c)
  noted-at =
      ap (λ n. if nat_lt n NOTES then (Ok (number_at ps a0), record { notes = map (number_at ps) c.notes ++ number_at ps a0 ∷ []; queue = map (number_at ps) c.queue }) else (Err (Ends ends.NotesFull), channels_at ps c)) (length-map c.notes (number_at ps))
      ∙ ap (λ (notes : List ℕ). if nat_lt (length c.notes) NOTES then (Ok (number_at ps a0), record { notes = notes; queue = map (number_at ps) c.queue }) else (Err (Ends ends.NotesFull), channels_at ps c)) (sym (longer c.notes))
      ∙ sym (if-apart (served_at ps) (nat_lt (length c.notes) NOTES) (Ok a0, record { notes = c.notes ++ a0 ∷ []; queue = c.queue }) (Err (Ends ends.NotesFull), c))

  sent-at : sent numbers (number_at ps a0) (channels_at ps c) ≡ served_at ps (sent (values size) a0 c)
  sent-at =
      ap (λ n. if nat_lt n QUEUE_WORDS then (Ok 1, record { notes = map (number_at ps) c.notes; queue = map (number_at ps) c.queue ++ number_at ps a0 ∷ [] }) else (Ok 0, channels_at ps c)) (length-map c.queue (number_at ps))
      ∙ ap (λ (queue : List ℕ). if nat_lt (length c.queue) QUEUE_WORDS then (Ok 1, record { notes = map (number_at ps) c.notes; queue = queue }) else (Ok 0, channels_at ps c)) (sym (longer c.queue))
      ∙ sym (if-apart (served_at ps) (nat_lt (length c.queue) QUEUE_WORDS) (Ok (Num 1), record { notes = c.notes; queue = c.queue ++ a0 ∷ [] }) (Ok (Num 0), c))

  taken-at : (queue : List Value) → taken numbers (map (number_at ps) queue) (channels_at ps c) ≡ served_at ps (taken (values size) queue c)
  taken-at [] = refl
  taken-at (v ∷ queue) = refl

  -- a service makes of what values stand for what its answer stands for
  pub service-at : (number : ℕ) → served numbers number (number_at ps a0) (channels_at ps c) ≡ served_at ps (served (values size) number a0 c)
  unfolding served
  service-at number =
      choose (number == K_NOTE) _ _ _ _ noted-at
      (choose (number == K_ABORT) (Err (Aborts (number_at ps a0)), channels_at ps c) _ (Err (Aborts a0), c) _ refl
      (choose (number == K_OUT) _ _ _ _ sent-at (taken-at c.queue)))
    where
      choose : (b : Bool) (x y : Result ℕ (Finish ℕ) × Channels ℕ) (v w : Result Value (Finish Value) × Channels Value) → x ≡ served_at ps v → y ≡ served_at ps w → (if b then x else y) ≡ served_at ps (if b then v else w)
      choose true x y v w h k = h
      choose false x y v w h k = k

module _ (ps : Places) (h : State Value) (m : Memory) (ready : IsReady ps h m) where
  abbrev bytes : Part → ℕ
  bytes = part_bytes m.space.image

  module _ (accesses : List Access) where
    -- a target
    to_target-at : (xs : List Value) (after : Memory) (target : Value) → to_target numbers plain_storage (map (number_at ps) xs) (tracked_at ps accesses after) (number_at ps target) ≡ next_at ps accesses (to_target (values_in m) symbolic_storage xs after target)
    to_target-at xs after target =
        ap (λ n. if n == 0 then Goes (record { registers = map (number_at ps) xs; pc = number_at ps target }) (tracked_at ps accesses after) else Finishes (Ends Misaligned) (tracked_at ps accesses after)) (alignment ps target)
        ∙ sym (if-apart (next_at ps accesses) (offset_of target % FETCH_BYTES == 0) (Goes (record { registers = xs; pc = target }) after) (Finishes (Ends Misaligned) after))

    -- a load, once it is known what it finds
    loads : (next : Value) (rd : ℕ) (told : List Access) (x : Result (Result Value End) Reason) (y : Result ℕ End) → Follows {S = ⊥} (found_at ps) x (Ok y)
        → Stands ps accesses ((x >>= λ found. Ok (found, m)) >>= λ found. Ok (with_loaded (values_in m) symbolic_storage h next rd found))
        (Ok (with_loaded numbers plain_storage (state_at ps h) (number_at ps next) rd (y, tracked_at ps (accesses ++ told) m)))
    loads next rd told (Ok (Ok v)) y e =
        let same : y ≡ Ok (number_at ps v) = cc in (
          told,
          ap (λ z. Ok (with_loaded numbers plain_storage (state_at ps h) (number_at ps next) rd (z, tracked_at ps (accesses ++ told) m))) same
              ∙ (λ j. Ok (Goes (record { registers = with_register-at ps bytes h.registers rd v j; pc = number_at ps next }) (tracked_at ps (accesses ++ told) m))),
        )
    loads next rd told (Ok (Err end)) y e =
        let same : y ≡ Err end = cc in
        (told, ap (λ z. Ok (with_loaded numbers plain_storage (state_at ps h) (number_at ps next) rd (z, tracked_at ps (accesses ++ told) m))) same)
    loads next rd told (Err reason) y e = tt

    -- a store, once it is known what it leaves
    stores : (next : Value) (told : List Access) (x : Result (Result AddressSpace End) Reason) (y : Result (List (Segment ℕ)) End) → Follows {S = ⊥} (left_at ps) x (Ok y)
        → Stands ps accesses ((x >>= λ left. Ok (symbolic.after_store m left)) >>= λ left. Ok (after_store (values_in m) symbolic_storage h next left))
        (Ok (after_store numbers plain_storage (state_at ps h) (number_at ps next) (machine.after_store (tracked_at ps (accesses ++ told) m) y)))
    stores next told (Ok (Ok space)) y e =
        let same : y ≡ Ok (segments_at ps space) = cc in
        (told, ap (λ z. Ok (after_store numbers plain_storage (state_at ps h) (number_at ps next) (machine.after_store (tracked_at ps (accesses ++ told) m) z))) same)
    stores next told (Ok (Err end)) y e =
        let same : y ≡ Err end = cc in
        (told, ap (λ z. Ok (after_store numbers plain_storage (state_at ps h) (number_at ps next) (machine.after_store (tracked_at ps (accesses ++ told) m) z))) same)
    stores next told (Err reason) y e = tt

    settle-stands : (next : Value) (e : Effect Value) → LeadsTo e
        → Stands ps accesses (settle (values_in m) symbolic_storage h m next e) (settle numbers plain_storage (state_at ps h) (tracked_at ps accesses m) (number_at ps next) (effect_at m.space.image ps ready.apart e))
    settle-stands next Passes leads = none-more ps accesses (Goes (record { registers = h.registers; pc = next }) m) _ refl
    settle-stands next (Writes rd v) leads = none-more ps accesses (Goes (record { registers = with_register (values_in m) h.registers rd v; pc = next }) m) _ (λ j. Ok (Goes (record { registers = with_register-at ps bytes h.registers rd v j; pc = number_at ps next }) (tracked_at ps accesses m)))
    settle-stands next (Jumps rd link target) leads =
        none-more ps accesses (to_target (values_in m) symbolic_storage (with_register (values_in m) h.registers rd link) m target) _ (ap Ok
        (ap (λ xs. to_target numbers plain_storage xs (tracked_at ps accesses m) (number_at ps target)) (with_register-at ps bytes h.registers rd link)
        ∙ to_target-at (with_register (values_in m) h.registers rd link) m target))
    settle-stands next (Branches target) leads = none-more ps accesses (to_target (values_in m) symbolic_storage h.registers m target) _ (ap Ok (to_target-at h.registers m target))
    settle-stands next (Loads size signed rd address) leads =
        loads next rd (told Loading size (number_at ps address)) (loaded_value size signed m.space address) (widened_or_end size signed (loaded size (segments_at ps m.space) (number_at ps address)))
        (load-follows m.space ps ready.apart ready.fits size leads.0 signed address leads.1)
    settle-stands next (Stores size v address) leads =
        stores next (told Storing size (number_at ps address)) (stored_value size v m.space address) (stored size (number_at ps v) (segments_at ps m.space) (number_at ps address))
        (store-follows m.space ps ready.apart ready.fits size leads.0 v address leads.1)
    settle-stands next (Stops end) leads = none-more ps accesses (Finishes (Ends end) m) _ refl

    execute-stands : (i : Option Instr) → ((instr : Instr) → i ≡ Some instr → HasSize instr)
        → Stands ps accesses (execute (values_in m) symbolic_storage h m INSTRUCTION_BYTES i) (execute numbers plain_storage (state_at ps h) (tracked_at ps accesses m) INSTRUCTION_BYTES i)
    execute-stands None has = none-more ps accesses (Finishes (Ends ends.Illegal) m) _ refl
    execute-stands (Some i) has =
        stands-bind ps accesses (number_at ps) (sum_of h.pc (Num INSTRUCTION_BYTES)) (Ok ((number_at ps h.pc + INSTRUCTION_BYTES) % 2 ^ 64)) _
        (λ next. effect numbers (map (number_at ps) h.registers) (number_at ps h.pc) next i >>= λ e. settle numbers plain_storage (state_at ps h) (tracked_at ps accesses m) next e)
        (sum-follows ps h.pc (Num INSTRUCTION_BYTES) _ _ refl refl)
        (λ next is. stands-bind ps accesses (effect_at m.space.image ps ready.apart) (effect (values_in m) h.registers h.pc next i) _ _ (λ e. settle numbers plain_storage (state_at ps h) (tracked_at ps accesses m) (number_at ps next) e)
        (effect-follows m.space.image ps ready.apart h.registers h.pc next i)
        (λ e comes. settle-stands next e (if-each LeadsTo (effect (values_in m) h.registers h.pc next i) e (effect-leads bytes h.registers h.pc next i (has i refl)) comes)))

    -- a service, once it is known what it answers
    returns : (reply : Result Value (Finish Value)) (after : Memory)
        → Stands ps accesses (return_from_service (values_in m) symbolic_storage h after reply) (return_from_service numbers plain_storage (state_at ps h) (tracked_at ps accesses after) (reply_at ps reply))
    returns (Ok v) after =
        stands-bind ps accesses (number_at ps) (conjunction_of (register (values bytes) h.registers 1) (Num (2 ^ 64 - 2))) _ _
        (λ target. Ok (to_target numbers plain_storage (with_register numbers (map (number_at ps) h.registers) 10 (number_at ps v)) (tracked_at ps accesses after) target))
        (conjunction-follows ps (register (values bytes) h.registers 1) (Num (2 ^ 64 - 2)) _ _ (register-at ps bytes h.registers 1) refl)
        (λ target is. none-more ps accesses (to_target (values_in m) symbolic_storage (with_register (values_in m) h.registers 10 v) after target) _ (ap Ok
        (ap (λ xs. to_target numbers plain_storage xs (tracked_at ps accesses after) (number_at ps target)) (with_register-at ps bytes h.registers 10 v)
        ∙ to_target-at (with_register (values_in m) h.registers 10 v) after target)))
    returns (Err finish) after = none-more ps accesses (Finishes finish after) _ refl

    -- what is found is performed
    found-stands : (found : Result Found End) → Stands ps accesses (perform (values_in m) symbolic_storage h m found) (perform numbers plain_storage (state_at ps h) (tracked_at ps accesses m) found)
    found-stands (Ok (Word word)) = execute-stands (decoded word) (size-of-decoded word)
    found-stands (Ok (Service number)) =
        let a0 = register (values bytes) h.registers 10 in
        let answer = served (values bytes) number a0 (channels_of m) in
        let same : served numbers number (register numbers (map (number_at ps) h.registers) 10) (plain.channels_of (tracked_at ps accesses m).memory) ≡ served_at ps answer =
        ap (λ n. served numbers number n (channels_at ps (channels_of m))) (register-at ps bytes h.registers 10) ∙ service-at ps bytes a0 (channels_of m) number in
        subst (λ (x : Result ℕ (Finish ℕ) × Channels ℕ). Stands ps accesses (return_from_service (values_in m) symbolic_storage h (after_service m answer).1 answer.0) (return_from_service numbers plain_storage (state_at ps h) (machine.after_service (tracked_at ps accesses m) x).1 x.0)) (sym same)
        (returns answer.0 (after_service m answer).1)
    found-stands (Err end) = none-more ps accesses (Finishes (Ends end) m) _ refl

    -- a step, where what is fetched is the same
    fetched-stands : (clear : Result (Result Found End) Reason) (found : Result Found End) → ((x : Result Found End) → clear ≡ Ok x → found ≡ x)
        → Stands ps accesses (beside m clear >>= λ x. perform (values_in m) symbolic_storage h x.1 x.0) (perform numbers plain_storage (state_at ps h) (tracked_at ps accesses m) found)
    fetched-stands (Ok x) found same = subst (λ w. Stands ps accesses (perform (values_in m) symbolic_storage h m x) (perform numbers plain_storage (state_at ps h) (tracked_at ps accesses m) w)) (sym (same x refl)) (found-stands x)
    fetched-stands (Err reason) found same = tt

  -- where a step goes on, it does so at an offset that may be fetched at; and what it leaves lies as the layout has it
  abbrev GoesReady : Next Value Memory → Type 0
  GoesReady (Goes after memory) = IsReady ps after memory
  GoesReady (Finishes finish memory) = Fits memory.space

  -- what is left lies where it lay
  record IsLeft (after : Memory) : Type 0 where
    fits : Fits after.space
    image : after.space.image ≡ m.space.image

  unchanged : IsLeft m
  unchanged = record { fits = ready.fits; image = refl }

  goes : (after : Memory) (xs : List Value) (pc : Value) → IsLeft after → offset_of pc % FETCH_BYTES ≡ 0 → offset_of pc < 2 ^ 64 → IsReady ps (record { registers = xs; pc = pc }) after
  goes after xs pc left aligned below = record { apart = subst (λ i. IsApart i ps) (sym left.image) ready.apart; fits = left.fits; aligned = aligned; below = below }

  to_target-ready : (after : Memory) (xs : List Value) (target : Value) → IsLeft after → offset_of target < 2 ^ 64 → GoesReady (to_target (values_in m) symbolic_storage xs after target)
  to_target-ready after xs target left below =
      cond_both (offset_of target % FETCH_BYTES == 0) (Goes (record { registers = xs; pc = target }) after) (Finishes (Ends Misaligned) after) GoesReady
      (λ e. goes after xs target left (eqb-true (offset_of target % FETCH_BYTES) 0 e) below) (λ e. left.fits)

  module _ (next : Value) (aligned : offset_of next % FETCH_BYTES ≡ 0) (below : offset_of next < 2 ^ 64) where
    loads-ready : (rd : ℕ) (x : Result (Result Value End) Reason) → IfOk ((x >>= λ found. Ok (found, m)) >>= λ found. Ok (with_loaded (values_in m) symbolic_storage h next rd found)) GoesReady
    loads-ready rd (Ok (Ok v)) = goes m (with_register (values_in m) h.registers rd v) next unchanged aligned below
    loads-ready rd (Ok (Err end)) = ready.fits
    loads-ready rd (Err reason) = tt

    stores-ready : (x : Result (Result AddressSpace End) Reason) → ((space : AddressSpace) → x ≡ Ok (Ok space) → Fits space × (space.image ≡ m.space.image))
        → IfOk ((x >>= λ left. Ok (symbolic.after_store m left)) >>= λ left. Ok (after_store (values_in m) symbolic_storage h next left)) GoesReady
    stores-ready (Ok (Ok space)) left = goes (record { space = space; notes = m.notes; queue = m.queue }) h.registers next (record { fits = (left space refl).0; image = (left space refl).1 }) aligned below
    stores-ready (Ok (Err end)) left = ready.fits
    stores-ready (Err reason) left = tt

    settle-ready : (e : Effect Value) → LeadsTo e → IfOk (settle (values_in m) symbolic_storage h m next e) GoesReady
    settle-ready Passes leads = goes m h.registers next unchanged aligned below
    settle-ready (Writes rd v) leads = goes m (with_register (values_in m) h.registers rd v) next unchanged aligned below
    settle-ready (Jumps rd link target) leads = to_target-ready m _ target unchanged leads
    settle-ready (Branches target) leads = to_target-ready m _ target unchanged leads
    settle-ready (Loads size signed rd address) leads = loads-ready rd (loaded_value size signed m.space address)
    settle-ready (Stores size v address) leads = stores-ready (stored_value size v m.space address) (store-fits m.space ps ready.apart ready.fits size leads.0 v address)
    settle-ready (Stops end) leads = ready.fits

  execute-ready : (i : Option Instr) → ((instr : Instr) → i ≡ Some instr → HasSize instr) → IfOk (execute (values_in m) symbolic_storage h m INSTRUCTION_BYTES i) GoesReady
  execute-ready None has = ready.fits
  execute-ready (Some i) has =
      if-bind GoesReady (sum_of h.pc (Num INSTRUCTION_BYTES)) _ (λ next n.
      if-bind GoesReady (effect (values_in m) h.registers h.pc next i) _ (λ e leads.
      settle-ready next
      (if-each (λ v. offset_of v % FETCH_BYTES ≡ 0) (sum_of h.pc (Num INSTRUCTION_BYTES)) next (next-aligned h.pc ready.aligned) n)
      (if-each (λ v. offset_of v < 2 ^ 64) (sum_of h.pc (Num INSTRUCTION_BYTES)) next (sum-below h.pc (Num INSTRUCTION_BYTES)) n)
      e (if-each LeadsTo (effect (values_in m) h.registers h.pc next i) e (effect-leads bytes h.registers h.pc next i (has i refl)) leads)))

  returns-ready : (reply : Result Value (Finish Value)) (after : Memory) → IsLeft after → IfOk (return_from_service (values_in m) symbolic_storage h after reply) GoesReady
  returns-ready (Ok v) after left =
      let ra = register (values bytes) h.registers 1 in
      if-bind GoesReady (conjunction_of ra (Num (2 ^ 64 - 2))) _ (λ target e. to_target-ready after _ target left (if-each (λ v. offset_of v < 2 ^ 64) (conjunction_of ra (Num (2 ^ 64 - 2))) target (even-below ra) e))
  returns-ready (Err finish) after left = left.fits

  found-ready : (found : Result Found End) → IfOk (perform (values_in m) symbolic_storage h m found) GoesReady
  found-ready (Ok (Word word)) = execute-ready (decoded word) (size-of-decoded word)
  found-ready (Ok (Service number)) =
      let answer = served (values bytes) number (register (values bytes) h.registers 10) (channels_of m) in
      returns-ready answer.0 (after_service m answer).1 (record { fits = ready.fits; image = refl })
  found-ready (Err end) = ready.fits

  clear-ready : (clear : Result (Result Found End) Reason) → IfOk (beside m clear >>= λ x. perform (values_in m) symbolic_storage h x.1 x.0) GoesReady
  clear-ready (Ok found) = found-ready found
  clear-ready (Err reason) = tt

  step-ready : IfOk (symbolic_step h m) GoesReady
  unfolding symbolic_step step
  step-ready = clear-ready (fetched_value m.space h.pc)

  step-follows : (accesses : List Access) → Stands ps (accesses ++ told Fetch FETCH_BYTES (number_at ps h.pc)) (symbolic_step h m) (step numbers plain_storage (state_at ps h) (tracked_at ps accesses m))
  unfolding symbolic_step step
  step-follows accesses =
      fetched-stands (accesses ++ told Fetch FETCH_BYTES (number_at ps h.pc)) (fetched_value m.space h.pc) (found_or_end (fetched (segments_at ps m.space) (number_at ps h.pc)))
      (λ found. fetch-stands m.space ps ready.apart ready.fits h.pc found ready.below ready.aligned)

-- what a step comes to is what the plain machine's step comes to, whatever accesses were made before
pub step-stands : (ps : Places) (h : State Value) (m : Memory) (accesses : List Access) (next : Next Value Memory) → IsReady ps h m → symbolic_step h m ≡ Ok next
    → (more : List Access) × (plain_step (state_at ps h) (tracked_at ps accesses m) ≡ next_at ps (accesses ++ more) next)
unfolding plain_step
step-stands ps h m accesses next ready e =
    let first = told Fetch FETCH_BYTES (number_at ps h.pc) in
    let (more, is) = if-each (λ n. (more : List Access) × (step numbers plain_storage (state_at ps h) (tracked_at ps accesses m) ≡ Ok (next_at ps (accesses ++ first ++ more) n))) (symbolic_step h m) next (step-follows ps h m ready accesses) e in
    (first ++ more, ap certain is ∙ ap (λ all. next_at ps all next) (append_assoc accesses first more))

-- and is ready for the step after it
pub step-leaves : (ps : Places) (h after : State Value) (m memory : Memory) → IsReady ps h m → symbolic_step h m ≡ Ok (Goes after memory) → IsReady ps after memory
step-leaves ps h after m memory ready e = if-each (GoesReady ps h m ready) (symbolic_step h m) (Goes after memory) (step-ready ps h m ready) e

-- and where it ends the call, what it leaves lies as the layout has it
pub step-fits : (ps : Places) (h : State Value) (m memory : Memory) (finish : Finish Value) → IsReady ps h m → symbolic_step h m ≡ Ok (Finishes finish memory) → Fits memory.space
step-fits ps h m memory finish ready e = if-each (GoesReady ps h m ready) (symbolic_step h m) (Finishes finish memory) (step-ready ps h m ready) e
