-- The segments of a module and a stack are whole words.
use Rattle.std.proofs.Common.{◌≡◌, ℕ, ◌+◌, ◌*◌, ◌%◌, List, [], ◌∷◌, ◌++◌, length, map, ap, ◌∙◌, arith}
use Rattle.std.proofs.lemmas.List.{length-map}
use Rattle.std.proofs.lemmas.List.Elements.{All-append, All-cons, All-nil}
use Rattle.ad_base.specs.declared.image.Image.{Image}
use Rattle.ad_base.specs.declared.layout.TheConstants.{PAGE_BYTES, STACK_PAGES, WORD_BYTES}
use Rattle.ad_base.specs.declared.place.Place.{Place}
use Rattle.ad_base.specs.declared.role.Role.{Role}
use Rattle.ad_base.specs.declared.role.Role.TheVariants.{Cells, Code, Constants, Data, FixedCode, FixedConstants, FixedData, FixedTable, Stack, Table}
use Rattle.ad_base.specs.Image.{IsWhole}
use Rattle.ad_base.specs.Layout.{fixed_roles, laid_out, local_word, movable_roles, rights_of, size_of, stack_roles}
use Rattle.ad_base.specs.Place.{base_of}
use Rattle.ad_base.specs.Segments.{Segment}
use Rattle.ad_base.proofs.Pages.{length-page_of_words}
use Rattle.ad_base.proofs.Pieces.{length-bytes_of}
use Rattle.ad_core.specs.Image.{bytes_under, local_area, segments_of}
use Rattle.ad_core.specs.Memory.{HasWholeWords}
use Rattle.ad_call.specs.Call.{HasData}

-- the local area is a page
length-local_area : (i : Image) (base : ℕ) → IsWhole i → length (local_area i base) ≡ PAGE_BYTES
length-local_area i base whole = length-page_of_words (map (local_word base) i.cells) (omega (arith, length-map i.cells (local_word base), whole.cells_fit))

-- the pieces are as long as the layout says
pub length-bytes_under : (i : Image) (under : Place) (stack_bytes fixed writable : List ℕ) → IsWhole i → length stack_bytes ≡ STACK_PAGES * PAGE_BYTES → HasData i writable fixed
    → (r : Role) → length (bytes_under i under stack_bytes fixed writable r) ≡ size_of i r
length-bytes_under i under stack_bytes fixed writable whole stack reaches =
    length-bytes_of (λ bytes. bytes) (λ bytes i. length bytes) i (local_area i (base_of under)) writable fixed stack_bytes whole (length-local_area i (base_of under) whole)
    (omega (arith, reaches.movable, whole.writable)) (omega (arith, reaches.immovable, whole.fixed_data)) stack

-- a piece is whole words
pub size-whole : (i : Image) (r : Role) → size_of i r % WORD_BYTES ≡ 0
size-whole i Stack = omega arith
size-whole i FixedCode = omega arith
size-whole i FixedConstants = omega arith
size-whole i FixedTable = omega arith
size-whole i FixedData = omega arith
size-whole i Code = omega arith
size-whole i Constants = omega arith
size-whole i Table = omega arith
size-whole i Cells = omega arith
size-whole i Data = omega arith

IsWords : Segment ℕ → Type 0
IsWords s = (s.base % WORD_BYTES ≡ 0) × (length s.bytes % WORD_BYTES ≡ 0)

laid_out-whole : (base : ℕ) (bytes : Role → List ℕ) (roles : List Role) → base % WORD_BYTES ≡ 0 → ((r : Role) → length (bytes r) % WORD_BYTES ≡ 0) → HasWholeWords (laid_out base bytes roles)
unfolding IsWords
laid_out-whole base bytes [] from whole = All-nil IsWords
laid_out-whole base bytes (r ∷ rs) from whole =
    let next : (base + length (bytes r)) % WORD_BYTES ≡ 0 = omega (arith, from, whole r) in
    All-cons IsWords (record { base = base; bytes = bytes r; rights = rights_of r; role = r }) (laid_out (base + length (bytes r)) bytes rs) (from, whole r) (laid_out-whole (base + length (bytes r)) bytes rs next whole)

pub base-whole : (p : Place) → base_of p % WORD_BYTES ≡ 0
base-whole p = omega arith

pub segments-whole : (i : Image) (under stack : Place) (stack_bytes fixed writable : List ℕ) → IsWhole i → length stack_bytes ≡ STACK_PAGES * PAGE_BYTES → HasData i writable fixed
    → HasWholeWords (segments_of i under stack stack_bytes fixed writable)
unfolding IsWords
segments-whole i under stack stack_bytes fixed writable whole long reaches =
    let bytes = bytes_under i under stack_bytes fixed writable in
    let words : (r : Role) → length (bytes r) % WORD_BYTES ≡ 0 = λ r. ap (λ n. n % WORD_BYTES) (length-bytes_under i under stack_bytes fixed writable whole long reaches r) ∙ size-whole i r in
    All-append IsWords (laid_out (base_of stack) bytes stack_roles ++ laid_out (base_of i.fixed) bytes fixed_roles) (laid_out (base_of under) bytes movable_roles)
    (All-append IsWords (laid_out (base_of stack) bytes stack_roles) (laid_out (base_of i.fixed) bytes fixed_roles)
    (laid_out-whole (base_of stack) bytes stack_roles (base-whole stack) words)
    (laid_out-whole (base_of i.fixed) bytes fixed_roles (base-whole i.fixed) words))
    (laid_out-whole (base_of under) bytes movable_roles (base-whole under) words)
