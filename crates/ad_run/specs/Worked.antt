-- The lines of a worked example, and how its mappings are written.
use Rattle.std.specs.Prelude.{ℕ, [], ◌∷◌}
use Rattle.ad_base.specs.declared.ledger.Kind.{Kind}
use Rattle.ad_base.specs.declared.place.Place.{Place}
use Rattle.ad_base.specs.Image.{text_image}
use Rattle.ad_base.specs.Ledger.{Mapping}
use Rattle.ad_lines.specs.Sound.{Lines}

-- a mapping by its number: so many pages from a start page of a region on, in a frame
abbrev pub place_of : ℕ → ℕ → ℕ → ℕ → ℕ → Place
place_of mapping region start pages frame = record { region = region; start = start; pages = pages; mapping = mapping; frame = frame }

-- a mapping that was made before the first line
abbrev pub opened : Kind → ℕ → Place → Mapping
opened kind who place = record { kind = kind; who = who; place = place; line = 0 }

-- the immovable parts of two modules
abbrev pub first_fixed : Place
first_fixed = place_of 2 29432 1 2 0

abbrev pub second_fixed : Place
second_fixed = place_of 4 27250 39 2 0

-- no line, of one worker and of two modules of a page of text each, at seed 0
abbrev pub no_lines : Lines
no_lines = record { seed = 0; workers = 1; images = text_image [] [] first_fixed ∷ text_image [] [] second_fixed ∷ []; fuel = 100; steps = [] }
