-- The modules by their names in the code.
use Rattle.ad_generator.specs.declared.names.BuiltModule.{BuiltModule}
use Rattle.ad_generator.specs.declared.names.BuiltModule.TheVariants.{Counter, Device, Sum, Table}
use Rattle.ad_generator.specs.Modules.{Module, cnt, dev, sum, tab}

abbrev pub module_of : BuiltModule → Module
module_of Sum = sum
module_of Counter = cnt
module_of Device = dev
module_of Table = tab
