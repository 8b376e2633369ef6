-- The lines of a text, and the words of a line.
use Rattle.std.specs.Prelude.{ℕ, ◌-◌, ◌==◌, ◌||◌, Bool, not, List, [], ◌∷◌, filter, length, slice_index, take, if◌then◌else◌}
use Rattle.std.specs.List.{slice_split, take_while}
use Rattle.std.specs.Int.{is_in_range}

-- the bytes that end a line and may stand before its end, those between words, and the one that begins a comment
abbrev pub is_line_end : ℕ → Bool
is_line_end byte = byte == 0x0a

abbrev pub is_return : ℕ → Bool
is_return byte = byte == 0x0d

abbrev pub is_blank : ℕ → Bool
is_blank byte = (byte == 0x20) || (byte == 0x09)

abbrev pub is_comment : List ℕ → Bool
is_comment word = slice_index word 0 == 0x23

-- a byte that may stand in a line: from the space to the tilde in ASCII, or a tab
abbrev pub is_text_byte : ℕ → Bool
is_text_byte byte = is_in_range 0x20 0x7e byte || (byte == 0x09)

abbrev pub is_empty : List ℕ → Bool
is_empty text = length text == 0

-- the parts without the last where that is empty: nothing stands behind the end of the last line
abbrev pub without_empty_end : List (List ℕ) → List (List ℕ)
without_empty_end [] = []
without_empty_end (part ∷ []) = if is_empty part then [] else part ∷ []
without_empty_end (part ∷ next ∷ parts) = part ∷ without_empty_end (next ∷ parts)

-- The lines of a text: each ends at LF, and a last one without LF counts.
unfoldable pub lines_of : List ℕ → List (List ℕ)
lines_of text = without_empty_end (slice_split is_line_end text)

-- a line without the one CR that may stand at its end
unfoldable pub without_return : List ℕ → List ℕ
without_return line = if is_return (slice_index line (length line - 1)) then take (length line - 1) line else line

-- The words of a line: what stands between spaces and tabs, up to the word that begins with `#`.
unfoldable pub words_of : List ℕ → List (List ℕ)
words_of text = take_while (λ word. not (is_comment word)) (filter (λ part. not (is_empty part)) (slice_split is_blank text))
