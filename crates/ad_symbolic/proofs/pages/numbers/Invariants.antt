use Rattle.std.proofs.Common.{◌≡◌, take}
use Rattle.ad_symbolic.specs.AddressSpace.{numbers_of}
use Rattle.ad_symbolic.proofs.pages.numbers.Given as goal

-- the bytes so far
abbrev pub invariant-loop-byte : goal.invariant-loop-byte
invariant-loop-byte l = l.numbers.items ≡ numbers_of (take l.byte-index l.bytes)
