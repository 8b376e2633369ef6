-- What the parts of an address space stand for: the plain machine's pieces, which are as long.
use Rattle.std.proofs.Common.{◌≡◌, ℕ, zero, suc, ◌+◌, ◌-◌, ◌*◌, List, [], ◌∷◌, ◌++◌, length, map, take, drop, replicate, flat_map, sym, refl, ap, ◌∙◌, arith}
use Rattle.std.proofs.lemmas.List.{length-map, length-replicate, map-append}
use Rattle.byteorder.specs.Endian.{little_bytes}
use Rattle.byteorder.specs.Numbers.{length-bytes_low_first}
use Rattle.ad_base.specs.declared.image.Cell.{Cell}
use Rattle.ad_base.specs.declared.image.Cell.TheVariants.{Off, Num as Constant}
use Rattle.ad_base.specs.declared.image.Image.{Image}
use Rattle.ad_base.specs.declared.layout.TheConstants.{LOCAL_PAGES, PAGE_BYTES, STACK_PAGES, WORD_BYTES}
use Rattle.ad_base.specs.declared.role.Role.{Role}
use Rattle.ad_base.specs.declared.role.Role.TheVariants.{Cells, Code, Constants, Data, FixedCode, FixedConstants, FixedData, FixedTable, Stack, Table}
use Rattle.ad_base.specs.Image.{IsWhole, zeros}
use Rattle.ad_base.specs.Layout.{extents_from, fixed_roles, laid_out, local_word, movable_roles, page_of_words, rights_of, size_of, stack_roles, text_bytes}
use Rattle.ad_base.specs.Place.{base_of}
use Rattle.ad_base.proofs.Extents.{extents-laid_out}
use Rattle.ad_base.proofs.Lists.{length-filled, length-flat_map_equal}
use Rattle.ad_base.proofs.Pieces.{length-bytes_of}
use Rattle.ad_core.specs.Image.{bytes_under, segments_of, fresh_stack as zero_stack}
use Rattle.ad_symbolic.specs.declared.byte.Byte.{Byte}
use Rattle.ad_symbolic.specs.declared.byte.Byte.TheVariants.{Number}
use Rattle.ad_symbolic.specs.AddressSpace.{bytes_in, cell_bytes, local_page, numbers_of, space_of}
use Rattle.ad_symbolic.specs.Machine.{fresh_stack}
use Rattle.ad_relate.specs.Stands.{Fits, Places, byte_at, segment_at, segments_at}

-- bytes that are numbers stand for these
pub bytes-at : (ps : Places) (ns : List ℕ) → map (byte_at ps) (numbers_of ns) ≡ ns
bytes-at ps [] = refl
bytes-at ps (n ∷ ns) = λ j. n ∷ bytes-at ps ns j

zeros-at : (ps : Places) (n : ℕ) → map (byte_at ps) (replicate n (Number 0)) ≡ zeros n
unfolding zeros
zeros-at ps zero = refl
zeros-at ps (suc n) = λ j. 0 ∷ zeros-at ps n j

-- a word of the local area stands for the bytes of its number
cell-at : (ps : Places) (c : Cell) → map (byte_at ps) (cell_bytes c) ≡ little_bytes WORD_BYTES (local_word (base_of ps.movable) c)
cell-at ps (Off o) = refl
cell-at ps (Constant n) = bytes-at ps (little_bytes WORD_BYTES n)

cells-at : (ps : Places) (cs : List Cell) → map (byte_at ps) (flat_map cell_bytes cs) ≡ flat_map (little_bytes WORD_BYTES) (map (local_word (base_of ps.movable)) cs)
cells-at ps [] = refl
cells-at ps (c ∷ cs) = map-append (byte_at ps) (cell_bytes c) (flat_map cell_bytes cs) ∙ (λ j. cell-at ps c j ++ cells-at ps cs j)

local-at : (ps : Places) (cs : List Cell) → map (byte_at ps) (local_page cs) ≡ page_of_words (map (local_word (base_of ps.movable)) cs)
local-at ps cs =
    let bytes = flat_map cell_bytes cs in
    let same = cells-at ps cs in
    let long = sym (length-map bytes (byte_at ps)) ∙ ap length same in
    map-append (byte_at ps) bytes (replicate (PAGE_BYTES - length bytes) (Number 0))
    ∙ (λ j. same j ++ zeros-at ps (PAGE_BYTES - length bytes) j)
    ∙ ap (λ n. flat_map (little_bytes WORD_BYTES) (map (local_word (base_of ps.movable)) cs) ++ zeros (PAGE_BYTES - n)) long

-- pieces stand for the pieces of what they hold, so many bytes further on
pieces-at : (ps : Places) (shift : ℕ) (bytes : Role → List Byte) (numbers : Role → List ℕ) → ((r : Role) → map (byte_at ps) (bytes r) ≡ numbers r)
    → (base : ℕ) (roles : List Role) → map (segment_at ps shift) (laid_out base bytes roles) ≡ laid_out (shift + base) numbers roles
pieces-at ps shift bytes numbers same base [] = refl
pieces-at ps shift bytes numbers same base (r ∷ rs) =
    let long : length (bytes r) ≡ length (numbers r) = sym (length-map (bytes r) (byte_at ps)) ∙ ap length (same r) in
    let next : shift + (base + length (bytes r)) ≡ shift + base + length (numbers r) = omega (arith, long) in
    let more = pieces-at ps shift bytes numbers same (base + length (bytes r)) rs ∙ ap (λ n. laid_out n numbers rs) next in
    λ j. record { base = shift + base; bytes = same r j; rights = rights_of r; role = r } ∷ more j

module _ (i : Image) (writable fixed : List ℕ) where
  -- what the pieces hold at the start of a call
  abbrev start : Role → List Byte
  start = bytes_in i (numbers_of writable) (numbers_of fixed) fresh_stack

  start-at : (ps : Places) (r : Role) → map (byte_at ps) (start r) ≡ bytes_under i ps.movable zero_stack fixed writable r
  start-at ps Stack = zeros-at ps (STACK_PAGES * PAGE_BYTES)
  start-at ps FixedCode = bytes-at ps (take (text_bytes i.fixed_text_pages) i.fixed_code)
  start-at ps FixedConstants = bytes-at ps (drop (text_bytes i.fixed_text_pages) i.fixed_code)
  start-at ps FixedTable = bytes-at ps (page_of_words i.table)
  start-at ps FixedData = bytes-at ps fixed
  start-at ps Code = bytes-at ps (take (text_bytes i.text_pages) i.code)
  start-at ps Constants = bytes-at ps (drop (text_bytes i.text_pages) i.code)
  start-at ps Table = bytes-at ps (page_of_words i.table)
  start-at ps Cells = local-at ps i.cells
  start-at ps Data = bytes-at ps writable

  -- what a call reaches at its start
  pub space-at : (ps : Places) → segments_at ps (space_of i (numbers_of writable) (numbers_of fixed) fresh_stack) ≡ segments_of i ps.movable ps.stack zero_stack fixed writable
  space-at ps =
      let numbers = bytes_under i ps.movable zero_stack fixed writable in
      let from = λ (shift base at : ℕ) (roles : List Role) (e : shift + base ≡ at). pieces-at ps shift start numbers (start-at ps) base roles ∙ ap (λ n. laid_out n numbers roles) e in
      let on_stack = from (base_of ps.stack) 0 (base_of ps.stack) stack_roles (omega arith) in
      let in_place = from 0 (base_of i.fixed) (base_of i.fixed) fixed_roles (omega arith) in
      let under = from (base_of ps.movable) 0 (base_of ps.movable) movable_roles (omega arith) in
      λ j. on_stack j ++ in_place j ++ under j

  length-cell : (c : Cell) → length (cell_bytes c) ≡ WORD_BYTES
  length-cell (Off o) = refl
  length-cell (Constant n) = length-map (little_bytes WORD_BYTES n) Number ∙ length-bytes_low_first 0 WORD_BYTES n

  length-local : IsWhole i → length (local_page i.cells) ≡ LOCAL_PAGES * PAGE_BYTES
  length-local whole =
      let words = length-flat_map_equal cell_bytes WORD_BYTES length-cell i.cells in
      length-filled PAGE_BYTES (flat_map cell_bytes i.cells) (Number 0) (omega (arith, words, whole.cells_fit))

  -- it lies as the layout has it
  pub space-fits : IsWhole i → length writable ≡ i.data_pages * PAGE_BYTES → length fixed ≡ i.fixed_data_pages * PAGE_BYTES → Fits (space_of i (numbers_of writable) (numbers_of fixed) fresh_stack)
  space-fits whole w f =
      let long : (r : Role) → length (start r) ≡ size_of i r =
      length-bytes_of numbers_of (λ ns. length-map ns Number) i (local_page i.cells) (numbers_of writable) (numbers_of fixed) fresh_stack whole
      (length-local whole) (length-map writable Number ∙ w) (length-map fixed Number ∙ f) (length-replicate (STACK_PAGES * PAGE_BYTES) (Number 0)) in
      let lies = λ (base : ℕ) (roles : List Role). extents-laid_out base start roles ∙ (λ j. extents_from base (λ r. long r j) roles) in
      record { movable = lies 0 movable_roles; stack = lies 0 stack_roles; fixed = lies (base_of i.fixed) fixed_roles }
