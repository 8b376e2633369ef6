-- A lawful book of a worked example: two calls of a module that adds, which moved between them.
use Rattle.std.specs.Prelude.{ℕ, List, [], ◌∷◌}
use Rattle.ad_base.specs.declared.book.Entry.{Entry}
use Rattle.ad_base.specs.declared.end.End.TheVariants.{Returned}
use Rattle.ad_base.specs.declared.image.Image.{Image}
use Rattle.ad_base.specs.declared.layout.TheConstants.{MODULE_REGION, STACK_PAGES, STACK_REGION}
use Rattle.ad_base.specs.declared.place.Place.{Place}
use Rattle.ad_base.specs.Book.{Contents}
use Rattle.ad_symbolic.specs.Examples.{fixed_place, image_of, sum_words}

abbrev pub sum_image : Image
sum_image = image_of sum_words fixed_place

-- where the movable part lies at first, and after the move
abbrev pub first_place : Place
first_place = record { region = MODULE_REGION; start = 1; pages = 4; mapping = 3; frame = 0 }

abbrev pub second_place : Place
second_place = record { region = MODULE_REGION; start = 7; pages = 4; mapping = 4; frame = 1 }

abbrev pub stack_place : Place
stack_place = record { region = STACK_REGION; start = 1; pages = STACK_PAGES; mapping = 1; frame = 0 }

-- a call of the module's export, and the sum that it returned
abbrev pub sum_entry : ℕ → List ℕ → Place → ℕ → Entry
sum_entry line args under sum = record { line = line; worker = 0; export = 0; args = args; under = under; stack = stack_place; notes = []; end = Returned sum }

abbrev pub book_of : List Entry → Contents
book_of entries = record { writable = []; fixed = []; device = []; entries = entries }

abbrev pub sum_book : Contents
sum_book = book_of (sum_entry 1 (2 ∷ 3 ∷ []) first_place 5 ∷ sum_entry 3 (4 ∷ 3 ∷ []) second_place 7 ∷ [])
