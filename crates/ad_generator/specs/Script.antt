-- The script that calls and moves the modules that are built.
use Rattle.std.specs.Prelude.{ℕ, ◌/◌, ◌%◌, ◌==◌, List, [], ◌∷◌, ◌++◌, codes, flat_map, length, Option, if◌then◌else◌}
use Rattle.std.specs.Fmt.{decimal}
use Rattle.std.specs.List.{slice_get}
use Rattle.std.specs.Option.{option_map_or}
use Rattle.ad_elf.specs.Below.{joined}
use Rattle.ad_generator.specs.declared.script.TheConstants.{SCRIPT_WORKERS}
use Rattle.ad_generator.specs.Modules.{Module, modules}

-- what a line ends with
abbrev pub line_feed : List ℕ
line_feed = 0x0a ∷ []

-- the name of a module's file
abbrev pub file_name : Module → List ℕ
file_name m = m.name ++ codes ".o"

-- the lines that set the number of workers, that load a module, and that move one
abbrev pub workers_line : List ℕ
workers_line = codes "workers " ++ decimal SCRIPT_WORKERS ++ line_feed

abbrev pub load_line : Module → List ℕ
load_line m = codes "load " ++ m.name ++ codes " " ++ file_name m ++ line_feed

abbrev pub move_line : Module → List ℕ
move_line m = codes "move " ++ m.name ++ line_feed

-- Line k as a call of a module's export: by the next worker in turn, with k as the first argument.
abbrev pub second_text : Option ℕ → List ℕ
second_text second = option_map_or (λ n. codes " " ++ decimal n) second []

abbrev pub call_line : ℕ → Module → List ℕ
call_line k m =
    codes "call " ++ decimal (k % SCRIPT_WORKERS) ++ codes " " ++ m.name ++ codes "." ++ m.export ++ codes " " ++ decimal k ++ second_text m.second
    ++ line_feed

-- what is said of the module of a number, which are counted over and over
abbrev pub of_module : (Module → List ℕ) → ℕ → List ℕ
of_module text k = option_map_or text (slice_get modules (k % length modules)) []

-- Line k behind the loads. Of eight lines the last moves a module, each time the next one; the others call a module, each of
-- them in two lines.
unfoldable pub line_text : ℕ → List ℕ
line_text k = if k % 8 == 7 then of_module move_line (k / 8) else of_module (call_line k) (k / 2)

-- the script of so many such lines, which are counted from 0
unfoldable pub script_text : ℕ → List ℕ
script_text n = workers_line ++ flat_map load_line modules ++ joined line_text n

-- the script of eight lines
abbrev pub worked_script : List ℕ
worked_script =
    flat_map (λ line. line ++ line_feed)
    (codes "workers 4"
    ∷ codes "load sum sum.o"
    ∷ codes "load cnt cnt.o"
    ∷ codes "load dev dev.o"
    ∷ codes "load tab tab.o"
    ∷ codes "call 0 sum.sum 0 1"
    ∷ codes "call 1 sum.sum 1 1"
    ∷ codes "call 2 cnt.add 2"
    ∷ codes "call 3 cnt.add 3"
    ∷ codes "call 0 dev.echo 4"
    ∷ codes "call 1 dev.echo 5"
    ∷ codes "call 2 tab.pick 6"
    ∷ codes "move sum"
    ∷ [])
