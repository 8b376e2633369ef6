-- The part of a ring buffer that is in use.
use Rattle.std.specs.Prelude.{ℕ, List, ◌++◌, take, drop}

-- the n words from place k on, going on at the start of the buffer behind its end
abbrev pub window : ℕ → ℕ → List ℕ → List ℕ
window k n slots = take n (drop k slots ++ take k slots)
