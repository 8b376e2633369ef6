use Rattle.ad_parts.specs.declared.area.Area.TheVariants.{FixedReadOnly, FixedText, FixedWritable, ReadOnly, Text, Writable}
use Rattle.ad_parts.proofs.pages.sizes_of.Goals as goal

pub pages_of-text-requires : goal.pages_of-text-requires
pages_of-text-requires c = c.requires Text

pub pages_of-read-requires : goal.pages_of-read-requires
pages_of-read-requires c = c.requires ReadOnly

pub pages_of-data-requires : goal.pages_of-data-requires
pages_of-data-requires c = c.requires Writable

pub pages_of-fixed_text-requires : goal.pages_of-fixed_text-requires
pages_of-fixed_text-requires c = c.requires FixedText

pub pages_of-fixed_read-requires : goal.pages_of-fixed_read-requires
pages_of-fixed_read-requires c = c.requires FixedReadOnly

pub pages_of-fixed_data-requires : goal.pages_of-fixed_data-requires
pages_of-fixed_data-requires c = c.requires FixedWritable
