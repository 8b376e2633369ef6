-- The text that is printed of a mapping.
use Rattle.std.specs.Prelude.{ℕ, List, [], ◌∷◌, ◌++◌, slice_get, codes}
use Rattle.std.specs.Option.{option_map_or}
use Rattle.std.specs.Fmt.{decimal}
use Rattle.ad_base.specs.declared.ledger.Kind.{Kind}
use Rattle.ad_base.specs.declared.ledger.Kind.TheVariants.{Code, Fixed, Stack}
use Rattle.ad_base.specs.declared.ledger.Row.{Row}
use Rattle.ad_script.specs.declared.script.Script.{Script}

-- the name of the module of this number, and no byte where none has it
abbrev pub module_name : Script → ℕ → List ℕ
module_name s number = option_map_or (λ l. l.name) (slice_get s.loads number) []

-- what a mapping is
abbrev pub kind_text : Kind → List ℕ
kind_text Code = codes "code"
kind_text Fixed = codes "fixed"
kind_text Stack = codes "stack"

-- whose mapping it is: a module's, or a worker's
abbrev pub who_text : Script → Kind → ℕ → List ℕ
who_text s Code who = module_name s who
who_text s Fixed who = module_name s who
who_text s Stack who = codes "w" ++ decimal who

-- the line of a mapping
unfoldable pub map_line : Script → Row → List ℕ
map_line s r =
    codes "map " ++ decimal r.mapping ++ codes " " ++ kind_text r.kind ++ codes " " ++ who_text s r.kind r.who
    ++ codes " region " ++ decimal r.place.region ++ codes " start " ++ decimal r.place.start ++ codes " pages " ++ decimal r.place.pages
    ++ codes " retired " ++ decimal r.line ++ codes " unmapped " ++ decimal r.unmaps ++ 0x0a ∷ []
