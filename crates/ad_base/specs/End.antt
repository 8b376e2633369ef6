-- What is printed of the end of a call.
use Rattle.std.specs.Prelude.{ℕ, List, ◌++◌, codes}
use Rattle.std.specs.Fmt.{decimal}
use Rattle.ad_base.specs.declared.end.End.{End}
use Rattle.ad_base.specs.declared.end.End.TheVariants.{Returned, Illegal, Misaligned, Fault, Denied, Ecall, Ebreak, Fuel, Abort, NotesFull}

abbrev pub end_text : End → List ℕ
end_text (Returned n) = codes "returned " ++ decimal n
end_text Illegal = codes "trap illegal"
end_text Misaligned = codes "trap misaligned"
end_text Fault = codes "trap fault"
end_text Denied = codes "trap denied"
end_text Ecall = codes "trap ecall"
end_text Ebreak = codes "trap ebreak"
end_text Fuel = codes "trap fuel"
end_text (Abort n) = codes "abort " ++ decimal n
end_text NotesFull = codes "trap notes"
