-- The bytes that a call may change.
use Rattle.std.specs.Prelude.{ℕ, ◌+◌, List, ◌++◌, take, drop}
use Rattle.byteorder.specs.Endian.{little_bytes}
use Rattle.ad_base.specs.declared.role.Role.{Role}
use Rattle.ad_base.specs.declared.role.Role.TheVariants.{Data, FixedData, Stack}

-- the bytes of the stack, and of the data of the immovable and of the movable part
pub record Held : Type 0 where
  pub stack : List ℕ
  pub fixed : List ℕ
  pub writable : List ℕ

-- the bytes once so many low bytes of a value were put at an offset
abbrev pub with_stored : ℕ → ℕ → ℕ → List ℕ → List ℕ
with_stored offset size value bytes = take offset bytes ++ little_bytes size value ++ drop (offset + size) bytes

-- the same in the piece of a role that may be stored to; the others stay
abbrev pub with_put : Role → ℕ → ℕ → ℕ → Held → Held
with_put Stack offset size value h = record h { stack = with_stored offset size value h.stack }
with_put FixedData offset size value h = record h { fixed = with_stored offset size value h.fixed }
with_put Data offset size value h = record h { writable = with_stored offset size value h.writable }
with_put role offset size value h = h
