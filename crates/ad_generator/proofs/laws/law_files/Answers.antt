use Rattle.ad_generator.proofs.Readable.{each_object, each_readable, each_small, each_writable}
use Rattle.ad_generator.proofs.laws.law_files.Goals as goal

pub returns : goal.returns
returns c = record { writable = each_writable; readable = each_readable; object = each_object; short = each_small }
