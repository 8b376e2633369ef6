-- The worked file, computed.
use Rattle.std.proofs.Common.{[], refl, take}
use Rattle.ad_elf.specs.declared.refusal.ElfRefusal.TheVariants.{SectionTable, Short}
use Rattle.ad_elf.specs.Below.{first, joined, total}
use Rattle.ad_elf.specs.Fields.{header_at, i64_at, rela_at, symbol_at, u16_at, u32_at, u64_at}
use Rattle.ad_elf.specs.File.{content, has_kept_relas, has_string, is_frame, is_part, one_table, rela, relas_of, section, string_at, symbol, table_number}
use Rattle.ad_elf.specs.Refusals.{IsObject, IsRefused, is_misdirected, is_out_of_bounds, lacks_symbols, lacks_table, leaves_section}
use Rattle.ad_elf.specs.Relocation.{width}
use Rattle.ad_elf.specs.Worked.{sum_file, sum_object}

pub IsObject-sum : IsObject sum_file sum_object
unfolding first joined total header_at i64_at rela_at symbol_at u16_at u32_at u64_at content has_kept_relas has_string is_frame is_part one_table rela relas_of section string_at symbol table_number is_misdirected is_out_of_bounds lacks_symbols lacks_table leaves_section width
IsObject-sum = record { no_row = refl; says = record { sections_said = refl; symbols_said = refl; relas_said = refl } }

pub IsRefused-cut : IsRefused (take 479 sum_file) SectionTable
unfolding IsRefused first joined total header_at i64_at rela_at symbol_at u16_at u32_at u64_at content has_kept_relas has_string is_frame is_part one_table rela relas_of section string_at symbol table_number is_misdirected is_out_of_bounds lacks_symbols lacks_table leaves_section width
IsRefused-cut = refl

pub IsRefused-empty : IsRefused [] Short
unfolding IsRefused
IsRefused-empty = refl
