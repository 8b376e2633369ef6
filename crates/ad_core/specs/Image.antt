-- The segments that a call of an image reaches, under the places of its movable part and of its stack.
use Rattle.std.specs.Prelude.{ℕ, ◌*◌, List, ◌++◌, map}
use Rattle.ad_base.specs.declared.image.Image.{Image}
use Rattle.ad_base.specs.declared.layout.TheConstants.{PAGE_BYTES, STACK_PAGES}
use Rattle.ad_base.specs.declared.place.Place.{Place}
use Rattle.ad_base.specs.declared.role.Role.{Role}
use Rattle.ad_base.specs.Image.{zeros}
use Rattle.ad_base.specs.Layout.{bytes_of, fixed_roles, laid_out, local_word, movable_roles, page_of_words, stack_roles}
use Rattle.ad_base.specs.Place.{base_of}
use Rattle.ad_base.specs.Segments.{Segment}

-- the local area of a movable part with this base
abbrev pub local_area : Image → ℕ → List ℕ
local_area i base = page_of_words (map (local_word base) i.cells)

-- what each piece holds, where the movable part lies so and stack and data hold these bytes
abbrev pub bytes_under : Image → Place → List ℕ → List ℕ → List ℕ → Role → List ℕ
bytes_under i under stack_bytes fixed_data writable = bytes_of (λ bytes. bytes) i (local_area i (base_of under)) writable fixed_data stack_bytes

-- The stack counts before the immovable part, and that before the movable one.
abbrev pub segments_of : Image → Place → Place → List ℕ → List ℕ → List ℕ → List (Segment ℕ)
segments_of i under stack stack_bytes fixed_data writable =
    let bytes = bytes_under i under stack_bytes fixed_data writable in
    laid_out (base_of stack) bytes stack_roles ++ laid_out (base_of i.fixed) bytes fixed_roles ++ laid_out (base_of under) bytes movable_roles

-- the bytes of a fresh stack
abbrev pub fresh_stack : List ℕ
fresh_stack = zeros (STACK_PAGES * PAGE_BYTES)
