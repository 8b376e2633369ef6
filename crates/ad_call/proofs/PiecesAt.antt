-- Where an address lies among the pieces of a module and a stack.
use Rattle.std.proofs.Common.{◌≡◌, Bool, true, false, if◌then◌else◌, ℕ, ◌+◌, ◌-◌, ◌*◌, ◌%◌, ◌^◌, ◌<◌, ◌≤◌, ◌∙◌, List, length, Option, Some, ap, subst, sym, arith}
use Rattle.ad_base.specs.declared.place.Place.{Place}
use Rattle.ad_base.specs.declared.role.Role.{Role}
use Rattle.ad_base.specs.declared.role.Role.TheVariants.{Code, Stack}
use Rattle.ad_base.specs.declared.layout.TheConstants.{PAGE_BYTES}
use Rattle.ad_base.specs.Place.{IsInside, base_of, page_number}
use Rattle.ad_base.specs.Layout.{size_of, text_bytes}
use Rattle.ad_core.specs.Image.{bytes_under}
use Rattle.ad_isa.specs.Words.{IsSize}
use Rattle.ad_call.specs.declared.pieces.Pieces.{Pieces}
use Rattle.ad_call.specs.declared.spot.Spot.{Spot}
use Rattle.ad_call.specs.Private.InPieces.{segments_in}
use Rattle.ad_call.specs.Private.Spots.{IsHeld, bounds_of, is_text_alone, spot_at}
use Rattle.ad_call.specs.Private.WholeWords.{length-bytes_under}
use Rattle.ad_call.proofs.Reached.{fits}
use Rattle.ad_call.proofs.Spotted.{IsClear, clear-stack, clear-text, inside, spotted}

abbrev pub bytes_in : Pieces → Role → List ℕ
bytes_in b = bytes_under b.image.now b.under b.bytes.stack b.bytes.fixed b.bytes.writable

-- where the pages' own place has an address, there it lies
pub there : (b : Pieces) (place : Place) (at : ℕ) (found : Option Spot) (o : Option Spot) → place ≡ b.under → found ≡ spot_at b.image.now place b.stack at → found ≡ o → spot_at b.image.now b.under b.stack at ≡ o
there b place at found o same located is = ap (λ p. spot_at b.image.now p b.stack at) (sym same) ∙ sym located ∙ is

-- what is found at an address is where it lies
pub held-at : (b : Pieces) (at : ℕ) (o : Option Spot) → spot_at b.image.now b.under b.stack at ≡ o → IsHeld (segments_in b) (bytes_in b) at o
held-at b at o is = subst (λ x. IsHeld (segments_in b) (bytes_in b) at x) is (spotted b.image.now b.under b.stack at b.bytes.stack b.bytes.fixed b.bytes.writable b.whole b.fresh b.data)

-- an aligned access ends in the piece where it begins
pub fits-at : (b : Pieces) (size at : ℕ) (spot : Spot) → IsSize size → at % size ≡ 0 → spot_at b.image.now b.under b.stack at ≡ Some spot → spot.offset + size ≤ length (bytes_in b spot.role)
fits-at b size at spot is_size aligned is = fits size at is_size aligned (bytes_in b) (segments_in b) spot (held-at b at (Some spot) is)

-- a piece is as long as the layout says
pub length-in : (b : Pieces) (r : Role) → length (bytes_in b r) ≡ size_of b.image.now r
length-in b r = length-bytes_under b.image.now b.under b.bytes.stack b.bytes.fixed b.bytes.writable b.whole b.fresh b.data r

-- an aligned access to the piece of this role ends in it
pub fits-of : (b : Pieces) (size at : ℕ) (spot : Spot) (r : Role) → IsSize size → at % size ≡ 0 → spot_at b.image.now b.under b.stack at ≡ Some spot → spot.role ≡ r → spot.offset + size ≤ length (bytes_in b r)
fits-of b size at spot r is_size aligned is e = subst (λ x. spot.offset + size ≤ length (bytes_in b x)) e (fits-at b size at spot is_size aligned is)

-- an address among the bytes of the stack or of the text that are found with no other look
pub clear-text-at : (b : Pieces) (at : ℕ) → at < 2 ^ 64 → (at + (2 ^ 64 - b.bounds.text_base)) % 2 ^ 64 < b.bounds.clear_text → IsClear b.image.now b.under b.stack Code ((at + (2 ^ 64 - b.bounds.text_base)) % 2 ^ 64) at
clear-text-at b at fits below =
    let offset = (at + (2 ^ 64 - b.bounds.text_base)) % 2 ^ 64 in
    let base_is : b.bounds.text_base ≡ base_of b.under = ap (λ x. x.text_base) b.bounded in
    let bytes_are : b.bounds.clear_text ≡ (bounds_of b.image.now b.under b.stack).clear_text = ap (λ x. x.clear_text) b.bounded in
    let there = inside b.bounds.text_base b.bounds.clear_text at fits (omega (arith, b.low.text, b.low.text_bytes)) below in
    subst (λ n. IsClear b.image.now b.under b.stack Code offset n) (sym (there ∙ ap (λ n. n + offset) base_is)) (clear-text b.image.now b.under b.stack offset (subst (λ n. offset < n) bytes_are below))

pub clear-stack-at : (b : Pieces) (at : ℕ) → at < 2 ^ 64 → (at + (2 ^ 64 - b.bounds.stack_base)) % 2 ^ 64 < b.bounds.clear_stack → IsClear b.image.now b.under b.stack Stack ((at + (2 ^ 64 - b.bounds.stack_base)) % 2 ^ 64) at
clear-stack-at b at fits below =
    let offset = (at + (2 ^ 64 - b.bounds.stack_base)) % 2 ^ 64 in
    let base_is : b.bounds.stack_base ≡ base_of b.stack = ap (λ x. x.stack_base) b.bounded in
    let bytes_are : b.bounds.clear_stack ≡ (bounds_of b.image.now b.under b.stack).clear_stack = ap (λ x. x.clear_stack) b.bounded in
    let there = inside b.bounds.stack_base b.bounds.clear_stack at fits (omega (arith, b.low.stack, b.low.stack_bytes)) below in
    subst (λ n. IsClear b.image.now b.under b.stack Stack offset n) (sym (there ∙ ap (λ n. n + offset) base_is)) (clear-stack b.image.now b.under b.stack offset (subst (λ n. offset < n) bytes_are below))

-- the page and the offset in it of an address of a place say how far behind its first byte the address lies
pub in-place : (p : Place) (at : ℕ) → base_of p ≤ at → page_number p at * PAGE_BYTES + at % PAGE_BYTES ≡ at - base_of p
in-place p at low = omega (arith, low)

if-some : (b : Bool) (n : ℕ) → (if b then n else 0) ≤ n
if-some true n = omega arith
if-some false n = omega arith

module _ (b : Pieces) (at : ℕ) (fits_word : at < 2 ^ 64) (below : (at + (2 ^ 64 - b.bounds.text_base)) % 2 ^ 64 < b.bounds.clear_text) where
  -- an address of the text that nothing else covers is one of the movable part
  pub text-inside : IsInside b.under at
  text-inside =
      let base_is : b.bounds.text_base ≡ base_of b.under = ap (λ x. x.text_base) b.bounded in
      let bytes_are : b.bounds.clear_text ≡ (bounds_of b.image.now b.under b.stack).clear_text = ap (λ x. x.clear_text) b.bounded in
      let few : (bounds_of b.image.now b.under b.stack).clear_text ≤ text_bytes b.image.now.text_pages = if-some (is_text_alone b.image.now b.under b.stack) (text_bytes b.image.now.text_pages) in
      let found = inside b.bounds.text_base b.bounds.clear_text at fits_word (omega (arith, b.low.text, b.low.text_bytes)) below in
      record { from = omega (arith, found, base_is); to = omega (arith, found, base_is, below, bytes_are, few, b.sized) }

  -- how far it lies behind the first byte says which byte of the text it is
  pub text-spot : spot_at b.image.now b.under b.stack at ≡ Some (record { role = Code; offset = at - base_of b.under })
  text-spot =
      let clear = clear-text-at b at fits_word below in
      let base_is : b.bounds.text_base ≡ base_of b.under = ap (λ x. x.text_base) b.bounded in
      let found = inside b.bounds.text_base b.bounds.clear_text at fits_word (omega (arith, b.low.text, b.low.text_bytes)) below in
      clear.spot ∙ ap (λ n. Some (record { role = Code; offset = n })) (omega (arith, found, base_is))

  -- and so do its page and its offset there
  pub text-offset : (place : Place) (page : ℕ) → place ≡ b.under → page ≡ page_number place at → page * PAGE_BYTES + at % PAGE_BYTES ≡ at - base_of b.under
  text-offset place page same is = ap (λ n. n * PAGE_BYTES + at % PAGE_BYTES) (is ∙ ap (λ p. page_number p at) same) ∙ in-place b.under at text-inside.from
