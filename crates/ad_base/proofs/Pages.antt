-- A page of words is a page.
use Rattle.std.proofs.Common.{◌≡◌, ℕ, ◌*◌, ◌≤◌, List, length, flat_map, arith}
use Rattle.byteorder.specs.Endian.{little_bytes}
use Rattle.byteorder.specs.Numbers.{length-bytes_low_first}
use Rattle.ad_base.specs.declared.layout.TheConstants.{PAGE_BYTES, WORD_BYTES}
use Rattle.ad_base.specs.Image.{zeros}
use Rattle.ad_base.proofs.Lists.{length-filled, length-flat_map_equal}
use Rattle.ad_base.specs.Layout.{page_of_words}

-- words that fit a page fill it with the zeros behind them
pub length-page_of_words : (words : List ℕ) → length words * WORD_BYTES ≤ PAGE_BYTES → length (page_of_words words) ≡ PAGE_BYTES
unfolding zeros
length-page_of_words words fits =
    let bytes : length (flat_map (little_bytes WORD_BYTES) words) ≡ length words * WORD_BYTES = length-flat_map_equal (little_bytes WORD_BYTES) WORD_BYTES (length-bytes_low_first 0 WORD_BYTES) words in
    length-filled PAGE_BYTES (flat_map (little_bytes WORD_BYTES) words) 0 (omega (arith, bytes))
