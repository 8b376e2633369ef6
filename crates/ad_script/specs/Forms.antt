-- What the words of a line may be: how many of them there are, and how each is spelled.
use Rattle.std.specs.Prelude.{ℕ, ◌^◌, ◌&&◌, ◌==◌, Bool, not, nat_le, nat_lt, bytes_eq, codes, List, [], ◌∷◌, drop, length, slice_index, take, Option, None, Some, if◌then◌else◌}
use Rattle.std.specs.List.{after_first, before_first, list_all}
use Rattle.std.specs.Char.{is_ascii_digit, is_digit}
use Rattle.std.specs.Int.{is_in_range}
use Rattle.std.specs.Str.Parse.{digits_value}
use Rattle.ad_base.specs.ExportName.{is_export_byte, is_name_byte}

-- What is to be done by a line, in the words that say it:
--     Blank                           nothing
--     Workers count                   there are so many workers
--     Loads name file                 a module is loaded from a file
--     Calls worker target args        a worker calls an export of a module
--     Moves names                     modules are moved
--     Stacks worker                   a worker gets a fresh stack
pub data Form : Type 0 where
  Blank : Form
  Workers : List ℕ → Form
  Loads : List ℕ → List ℕ → Form
  Calls : List ℕ → List ℕ → List (List ℕ) → Form
  Moves : List (List ℕ) → Form
  Stacks : List ℕ → Form

-- The forms by the words behind the first. A call has any number of arguments, and a move at least one name.
abbrev pub workers_form : List (List ℕ) → Option Form
workers_form (count ∷ []) = Some (Workers count)
workers_form other = None

abbrev pub load_form : List (List ℕ) → Option Form
load_form (name ∷ file ∷ []) = Some (Loads name file)
load_form other = None

abbrev pub call_form : List (List ℕ) → Option Form
call_form (worker ∷ target ∷ args) = Some (Calls worker target args)
call_form other = None

abbrev pub move_form : List (List ℕ) → Option Form
move_form [] = None
move_form (name ∷ names) = Some (Moves (name ∷ names))

abbrev pub stack_form : List (List ℕ) → Option Form
stack_form (worker ∷ []) = Some (Stacks worker)
stack_form other = None

-- the form of these words: none where the first is unknown, or a word is missing or too many
unfoldable pub form_of : List (List ℕ) → Option Form
form_of [] = Some Blank
form_of (first ∷ rest) =
    if bytes_eq first (codes "workers") then workers_form rest
    else if bytes_eq first (codes "load") then load_form rest
    else if bytes_eq first (codes "call") then call_form rest
    else if bytes_eq first (codes "move") then move_form rest
    else if bytes_eq first (codes "stack") then stack_form rest
    else None

-- the name of a module: 1 to 32 letters, digits and `_`, of which the first is no digit
unfoldable pub is_module_name : List ℕ → Bool
is_module_name name = nat_lt 0 (length name) && nat_le (length name) 32 && not (is_ascii_digit (slice_index name 0)) && list_all is_name_byte name

-- The name of a file: 1 to 255 bytes. What a word of a line has anyhow is said too: its bytes are printing ASCII without
-- spaces, and the first is no `#`.
abbrev pub is_graphic : ℕ → Bool
is_graphic byte = is_in_range 0x21 0x7e byte

unfoldable pub is_file_name : List ℕ → Bool
is_file_name name = nat_lt 0 (length name) && nat_le (length name) 255 && not (slice_index name 0 == 0x23) && list_all is_graphic name

-- the name of an export: 1 to 128 letters, digits, `_`, `.` and `$`
unfoldable pub is_export_name : List ℕ → Bool
is_export_name name = nat_lt 0 (length name) && nat_le (length name) 128 && list_all is_export_byte name

-- An export is named by its module's name, a dot, and its own name. The name of the module ends at the first dot.
abbrev pub is_dot : ℕ → Bool
is_dot byte = byte == 0x2e

abbrev pub module_part : List ℕ → List ℕ
module_part target = before_first is_dot target

abbrev pub export_part : List ℕ → List ℕ
export_part target = after_first is_dot target

unfoldable pub is_target : List ℕ → Bool
is_target target = is_module_name (module_part target) && is_export_name (export_part target)

-- the number that digits of a radix say, below 2^64
abbrev pub number_in : ℕ → List ℕ → Option ℕ
number_in radix digits =
    if nat_lt 0 (length digits) && list_all (λ digit. is_digit digit radix) digits && nat_lt (digits_value radix digits) (2 ^ 64)
    then Some (digits_value radix digits) else None

-- the number that a word says: by decimal digits, or by `0x` and hexadecimal ones
unfoldable pub number_of : List ℕ → Option ℕ
number_of word = if bytes_eq (take 2 word) (codes "0x") then number_in 16 (drop 2 word) else number_in 10 word
