-- The fields of an instruction word (unprivileged ISA, "Base Instruction Formats").
use Rattle.std.specs.Prelude.{ℕ, ◌+◌, ◌-◌, ◌*◌, ◌/◌, ◌%◌, ◌^◌, nat_lt, if◌then◌else◌, ℤ, pos, ◌-ℤ◌}

-- the bits of a word from `high` down to `low`, as a number
abbrev pub bits : ℕ → ℕ → ℕ → ℕ
bits word high low = word / 2 ^ low % 2 ^ (high + 1 - low)

unfoldable pub opcode : ℕ → ℕ
opcode word = bits word 6 0

unfoldable pub rd : ℕ → ℕ
rd word = bits word 11 7

unfoldable pub funct3 : ℕ → ℕ
funct3 word = bits word 14 12

unfoldable pub rs1 : ℕ → ℕ
rs1 word = bits word 19 15

unfoldable pub rs2 : ℕ → ℕ
rs2 word = bits word 24 20

unfoldable pub funct7 : ℕ → ℕ
funct7 word = bits word 31 25

unfoldable pub funct6 : ℕ → ℕ
funct6 word = bits word 31 26

-- a number of so many bits, of which the highest is the sign
abbrev pub signed_bits : ℕ → ℕ → ℤ
signed_bits count n = if nat_lt n (2 ^ (count - 1)) then pos n else pos n -ℤ pos (2 ^ count)

-- the immediate of the I format
unfoldable pub i_immediate : ℕ → ℤ
i_immediate word = signed_bits 12 (bits word 31 20)

-- the immediate of the U format: its twelve low bits are zeros
unfoldable pub u_immediate : ℕ → ℤ
u_immediate word = signed_bits 32 (bits word 31 12 * 2 ^ 12)

-- by how many bits a shift of 64 bits shifts, and one of 32 bits
unfoldable pub amount : ℕ → ℤ
amount word = pos (bits word 25 20)

unfoldable pub amount32 : ℕ → ℤ
amount32 word = pos (bits word 24 20)

-- the immediate of the S format
unfoldable pub s_immediate : ℕ → ℤ
s_immediate word = signed_bits 12 (bits word 31 25 * 2 ^ 5 + bits word 11 7)

-- the immediate of the B format: bit 0 is zero
unfoldable pub b_immediate : ℕ → ℤ
b_immediate word = signed_bits 13 (bits word 31 31 * 2 ^ 12 + bits word 7 7 * 2 ^ 11 + bits word 30 25 * 2 ^ 5 + bits word 11 8 * 2)

-- the immediate of the J format: bit 0 is zero
unfoldable pub j_immediate : ℕ → ℤ
j_immediate word = signed_bits 21 (bits word 31 31 * 2 ^ 20 + bits word 19 12 * 2 ^ 12 + bits word 20 20 * 2 ^ 11 + bits word 30 21 * 2)
