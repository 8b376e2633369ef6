use Rattle.ad_script.proofs.Spelling.{export-name-is}
use Rattle.ad_script.proofs.names.is_export_name.Goals as goal

pub returns : goal.returns
returns c = export-name-is c.is_export_name.result c.args.name.now c.is_export_name.ensures
