-- Replay: the calls of a module in their order, by the symbolic machine alone; and the clear history.
use Rattle.std.specs.Prelude.{ℕ, ◌+◌, Bool, true, false, ◌&&◌, if◌then◌else◌, List, [], ◌∷◌, map, Option, Some, None, Ok, Err}
use Rattle.std.specs.List.{list_all}
use Rattle.ad_base.specs.declared.end.End.{End}
use Rattle.ad_base.specs.declared.end.End.TheVariants as ends
use Rattle.ad_base.specs.declared.image.Image.{Image}
use Rattle.ad_base.specs.Book.{Contents}
use Rattle.ad_base.specs.Segments.{bytes_of_role, is_data, is_fixed_data}
use Rattle.ad_symbolic.specs.declared.byte.Byte.{Byte}
use Rattle.ad_symbolic.specs.declared.byte.Byte.TheVariants.{Number, OfAddress}
use Rattle.ad_symbolic.specs.declared.value.Value.TheVariants.{At, Num}
use Rattle.ad_symbolic.specs.declared.value.Reason.{Reason}
use Rattle.ad_symbolic.specs.declared.value.Value.{Value}
use Rattle.ad_symbolic.specs.AddressSpace.{numbers_of, space_of}
use Rattle.ad_isa.specs.Finish.{Aborts, Ends, Finish, Returns}
use Rattle.ad_symbolic.specs.Machine.{SymbolicOutcome, Run, fresh_stack, symbolic_call}

-- nothing of it comes from an address
abbrev pub is_number_byte : Byte → Bool
is_number_byte (Number n) = true
is_number_byte (OfAddress i p o) = false

abbrev pub is_number : Value → Bool
is_number (Num n) = true
is_number (At p o) = false

abbrev pub is_number_end : Finish Value → Bool
is_number_end (Returns v) = is_number v
is_number_end (Aborts v) = is_number v
is_number_end (Ends end) = true

-- the data of the movable part, and of the immovable one, that a run left
abbrev pub writable_of : SymbolicOutcome → List Byte
writable_of o = bytes_of_role is_data o.memory.space.movable

abbrev pub fixed_data_of : SymbolicOutcome → List Byte
fixed_data_of o = bytes_of_role is_fixed_data o.memory.space.fixed

-- A run keeps no address: at its end no byte of the data of either part, no note, no word of the device
-- queue and no number that is returned or aborted with comes from one.
abbrev pub keeps_none : SymbolicOutcome → Bool
keeps_none o =
    list_all is_number_byte (writable_of o) && list_all is_number_byte (fixed_data_of o)
    && list_all is_number o.memory.notes && list_all is_number o.memory.queue && is_number_end o.finish

-- the number of a value, which is none where it comes from an address
abbrev pub number_or_zero : Value → ℕ
number_or_zero (Num n) = n
number_or_zero (At p o) = 0

-- the end of a call that keeps no address
abbrev pub end_of : Finish Value → End
end_of (Returns v) = ends.Returned (number_or_zero v)
end_of (Aborts v) = ends.Abort (number_or_zero v)
end_of (Ends end) = end

-- what is said of a call
pub data Answer : Type 0 where
  -- it ends so, with these notes, wherever the movable part and the stack lie
  Clear : End → List ℕ → Answer
  -- it isn't clear, for this reason, at this step
  NotClear : Reason → ℕ → Answer
  -- it keeps an address
  Keeps : Answer
  -- a call before it wasn't clear
  Lost : Answer

-- what a module keeps from call to call: its data, and the device queue
pub record Kept : Type 0 where
  pub writable : List Byte
  pub fixed : List Byte
  pub queue : List Value

-- what it keeps, where its book holds these numbers
abbrev pub kept_of : Contents → Kept
kept_of book = record { writable = numbers_of book.writable; fixed = numbers_of book.fixed; queue = map Num book.device }

-- a call: the offset of its export, and its arguments
pub record Asked : Type 0 where
  pub offset : ℕ
  pub args : List ℕ

-- the run of a call, with a fresh stack and no note so far
abbrev pub run_of : Image → ℕ → Kept → Asked → Run
run_of i fuel k a =
    symbolic_call fuel a.offset a.args
    (record { space = space_of i k.writable k.fixed fresh_stack; notes = []; queue = k.queue })

abbrev pub answer_of : Run → Answer
answer_of (Ok o) = if keeps_none o then Clear (end_of o.finish) (map number_or_zero o.memory.notes) else Keeps
answer_of (Err u) = NotClear u.reason u.step

-- what a call leaves, if it is clear
abbrev pub left_by : Run → Option Kept
left_by (Ok o) =
    if keeps_none o then Some (record { writable = writable_of o; fixed = fixed_data_of o; queue = o.memory.queue }) else None
left_by (Err u) = None

-- the answers for calls in order, each beginning with what the call before left; behind the first that isn't
-- clear all are lost
abbrev pub answers_from : Image → ℕ → Option Kept → List Asked → List Answer
answers_from i fuel k [] = []
answers_from i fuel None (a ∷ more) = Lost ∷ answers_from i fuel None more
answers_from i fuel (Some k) (a ∷ more) = answer_of (run_of i fuel k a) ∷ answers_from i fuel (left_by (run_of i fuel k a)) more

-- what a module keeps before its first call
abbrev pub opened : Image → Kept
opened i = record { writable = numbers_of i.writable; fixed = numbers_of i.fixed_data; queue = [] }

unfoldable pub replay : Image → ℕ → List Asked → List Answer
replay i fuel calls = answers_from i fuel (Some (opened i)) calls

abbrev pub is_clear : Answer → Bool
is_clear (Clear end notes) = true
is_clear (NotClear reason step) = false
is_clear Keeps = false
is_clear Lost = false

-- how many calls the clear history has: those before the first that isn't clear
abbrev pub clear_calls : List Answer → ℕ
clear_calls [] = 0
clear_calls (a ∷ more) = if is_clear a then 1 + clear_calls more else 0
