-- The worked file is computed.
use Rattle.std.proofs.Common.{◌≡◌, refl}
use Rattle.ad_elf.specs.Worked.{sum_file}
use Rattle.ad_parts.specs.Ends.{next}
use Rattle.ad_kit.specs.ObjectFile.{find_place, header_of, headers_behind, headers_of, names_of, object_file, padded, rela_header, relas_bytes, sections_bytes, strings, symbols_bytes, symbols_header, used}
use Rattle.ad_kit.specs.Worked.{sum_sections, sum_symbols}

pub sum_is_written : object_file sum_sections sum_symbols ≡ sum_file
unfolding find_place header_of headers_behind headers_of names_of next object_file padded rela_header relas_bytes sections_bytes strings symbols_bytes symbols_header used
sum_is_written = refl
