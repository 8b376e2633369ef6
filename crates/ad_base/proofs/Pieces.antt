-- How long the pieces of a whole image are.
use Rattle.std.proofs.Common.{◌≡◌, ℕ, List, length, take, drop, ◌∙◌, arith, length-take, length-drop}
use Rattle.ad_base.specs.declared.image.Image.{Image}
use Rattle.ad_base.specs.declared.role.Role.{Role}
use Rattle.ad_base.specs.declared.role.Role.TheVariants.{Cells, Code, Constants, Data, FixedCode, FixedConstants, FixedData, FixedTable, Stack, Table}
use Rattle.ad_base.specs.Image.{IsWhole}
use Rattle.ad_base.specs.Layout.{bytes_of, page_of_words, size_of, text_bytes}
use Rattle.ad_base.proofs.Pages.{length-page_of_words}

-- the pieces hold as many bytes as the layout says, where the local area, the data and the stack do
pub length-bytes_of : {B : Type 0} (as_bytes : List ℕ → List B) → ((ns : List ℕ) → length (as_bytes ns) ≡ length ns)
    → (i : Image) (cells data_bytes fixed_data stack : List B) → IsWhole i → length cells ≡ size_of i Cells → length data_bytes ≡ size_of i Data → length fixed_data ≡ size_of i FixedData → length stack ≡ size_of i Stack
    → (r : Role) → length (bytes_of as_bytes i cells data_bytes fixed_data stack r) ≡ size_of i r
length-bytes_of as_bytes same i cells data_bytes fixed_data stack whole c d f s Stack = s
length-bytes_of as_bytes same i cells data_bytes fixed_data stack whole c d f s FixedCode = same (take (text_bytes i.fixed_text_pages) i.fixed_code) ∙ omega (arith, length-take (text_bytes i.fixed_text_pages) i.fixed_code, whole.fixed_code)
length-bytes_of as_bytes same i cells data_bytes fixed_data stack whole c d f s FixedConstants = same (drop (text_bytes i.fixed_text_pages) i.fixed_code) ∙ omega (arith, length-drop (text_bytes i.fixed_text_pages) i.fixed_code, whole.fixed_code)
length-bytes_of as_bytes same i cells data_bytes fixed_data stack whole c d f s FixedTable = same (page_of_words i.table) ∙ length-page_of_words i.table (omega (arith, whole.table_fits))
length-bytes_of as_bytes same i cells data_bytes fixed_data stack whole c d f s FixedData = f
length-bytes_of as_bytes same i cells data_bytes fixed_data stack whole c d f s Code = same (take (text_bytes i.text_pages) i.code) ∙ omega (arith, length-take (text_bytes i.text_pages) i.code, whole.code)
length-bytes_of as_bytes same i cells data_bytes fixed_data stack whole c d f s Constants = same (drop (text_bytes i.text_pages) i.code) ∙ omega (arith, length-drop (text_bytes i.text_pages) i.code, whole.code)
length-bytes_of as_bytes same i cells data_bytes fixed_data stack whole c d f s Table = same (page_of_words i.table) ∙ length-page_of_words i.table (omega (arith, whole.table_fits))
length-bytes_of as_bytes same i cells data_bytes fixed_data stack whole c d f s Cells = c
length-bytes_of as_bytes same i cells data_bytes fixed_data stack whole c d f s Data = d
