-- The text that is printed of what the symbolic machine says of a script's calls.
use Rattle.std.specs.Prelude.{ℕ, Bool, true, false, List, [], ◌∷◌, ◌++◌, length, take, slice_get, codes, count_by}
use Rattle.std.specs.List.{enumerate_from, flat_map}
use Rattle.std.specs.Option.{option_map_or}
use Rattle.std.specs.Fmt.{decimal}
use Rattle.ad_base.specs.declared.image.Export.{Export}
use Rattle.ad_base.specs.declared.image.Image.{Image}
use Rattle.ad_base.specs.End.{end_text}
use Rattle.ad_lines.specs.declared.ready.ReadyStep.{ReadyStep}
use Rattle.ad_lines.specs.declared.ready.ReadyStep.TheVariants.{Call, Move, Stack}
use Rattle.ad_lines.specs.LineLaws.{calls_of_module}
use Rattle.ad_report.specs.Mapping.{module_name}
use Rattle.ad_report.specs.Report.{notes_text}
use Rattle.ad_script.specs.declared.script.Script.{Script}
use Rattle.ad_symbolic.specs.Replay.{Answer, Asked, Clear, Keeps, Lost, NotClear, replay}
use Rattle.ad_symbolic.specs.Reply.{reason_number}

-- what is said of a call: its end and its notes where it is clear, else the step and the number of the reason, or that
-- it keeps an address, or that a call before it wasn't clear
abbrev pub answer_text : Answer → List ℕ
answer_text (Clear end notes) = end_text end ++ notes_text notes
answer_text (NotClear reason step) = codes "unclear step " ++ decimal step ++ codes " reason " ++ decimal (reason_number reason)
answer_text Keeps = codes "keeps"
answer_text Lost = codes "lost"

-- the line of a call: where the script has it, who calls what, and what is said of it
unfoldable pub call_line : ℕ → ℕ → List ℕ → List ℕ → Answer → List ℕ
call_line line worker name export answer =
    codes "call " ++ decimal line ++ codes " w" ++ decimal worker ++ codes " " ++ name ++ codes "." ++ export ++ codes ": " ++ answer_text answer ++ 0x0a ∷ []

-- the name of the export of this number, and no byte where none has it
abbrev pub export_name : Image → ℕ → List ℕ
export_name i number = option_map_or (λ (x : Export). x.name) (slice_get i.exports number) []

-- what a step asks of the image that it calls, and nothing where it calls no export of it
abbrev pub asked_by : Image → ReadyStep → List Asked
asked_by i (Call line worker «module» export args) = option_map_or (λ (x : Export). record { offset = x.offset; args = args } ∷ []) (slice_get i.exports export) []
asked_by i (Move line modules) = []
asked_by i (Stack line worker) = []

-- what steps ask of the module of this number, in order
abbrev pub asked_of : Image → ℕ → List ReadyStep → List Asked
asked_of i number steps = flat_map (asked_by i) (calls_of_module number steps)

-- the line of the step at this place among all steps, if it is a call: its answer is that of the replay of all that is
-- asked of its module, behind as many as the steps before it ask
abbrev pub step_text : Script → List Image → ℕ → List ReadyStep → ℕ → ReadyStep → List ℕ
step_text s images fuel steps at (Call line worker «module» export args) =
    option_map_or (λ i. option_map_or (call_line line worker (module_name s «module») (export_name i export))
    (slice_get (replay i fuel (asked_of i «module» steps)) (length (asked_of i «module» (take at steps)))) [])
    (slice_get images «module») []
step_text s images fuel steps at (Move line modules) = []
step_text s images fuel steps at (Stack line worker) = []

abbrev pub is_call : ReadyStep → Bool
is_call (Call line worker «module» export args) = true
is_call (Move line modules) = false
is_call (Stack line worker) = false

-- the last line: how many calls there are
abbrev pub end_line : ℕ → List ℕ
end_line calls = codes "end calls " ++ decimal calls ++ 0x0a ∷ []

-- The prediction of a script whose modules have these images and whose steps are these, each call with so many steps at
-- most.
unfoldable pub prediction : Script → List Image → ℕ → List ReadyStep → List ℕ
prediction s images fuel steps =
    flat_map (λ p. step_text s images fuel steps p.0 p.1) (enumerate_from 0 steps) ++ end_line (count_by is_call steps)
