-- The lists of both tables, as they grow.
use Rattle.std.specs.Prelude.{ℕ, List, Option}
use Rattle.ad_elf.specs.declared.object.Object.{Object}
use Rattle.ad_elf.specs.declared.object.Rela.{Rela}
use Rattle.ad_parts.specs.declared.layout.Layout.{Layout}
use Rattle.ad_tables.specs.declared.need.Need.{Need}
use Rattle.ad_tables.specs.declared.need.Need.TheVariants.{Fixed, Local, Nothing}
use Rattle.ad_tables.specs.declared.refusal.TableRefusal.{TableRefusal}
use Rattle.ad_tables.specs.declared.table_set.Lists.{Lists}
use Rattle.ad_tables.specs.Private.Entries.{with_symbol}
use Rattle.ad_tables.specs.Tables.{fixed_symbols, local_symbols, section_words, too_long}

-- the lists of these entries
abbrev pub lists_of : Object → Layout → List Rela → Lists
lists_of o l rs = record { section_words = section_words l; local = local_symbols o l rs; fixed = fixed_symbols o l rs }

-- the lists with a symbol that needs a word of one of them
abbrev pub with_need : Lists → Need → ℕ → Lists
with_need s Nothing symbol = s
with_need s Local symbol = record s { local = with_symbol s.local symbol }
with_need s Fixed symbol = record s { fixed = with_symbol s.fixed symbol }

-- why one of them is too long
abbrev pub over : Lists → Option TableRefusal
over s = too_long s.section_words s.local s.fixed
