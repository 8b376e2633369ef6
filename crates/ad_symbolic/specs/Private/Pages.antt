-- Words of the local area, as the code has them.
use Rattle.ad_base.specs.declared.image.Cell.{Cell}
use Rattle.ad_base.specs.declared.image.Cell.TheVariants.{Off, Num as Constant}
use Rattle.ad_symbolic.specs.declared.value.Part.TheVariants.{Movable}
use Rattle.ad_symbolic.specs.declared.value.Value.{Value}
use Rattle.ad_symbolic.specs.declared.value.Value.TheVariants.{At, Num}

-- a word of the local area as a value
abbrev pub value_of_cell : Cell → Value
value_of_cell (Off o) = At Movable o
value_of_cell (Constant n) = Num n
