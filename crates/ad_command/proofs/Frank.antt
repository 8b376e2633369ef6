-- Which faults of a command tell of its files: a failed read where the count of faults rose, and names that were asked for
-- last. None tells of writing.
use Rattle.std.proofs.Common.{◌≡◌, ◌≢◌, ◌⊎◌, ℕ, Bool, true, false, List, [], ◌∷◌, ◌++◌, Option, None, Some, Result, Ok, Err, inl, inr, ⊎_elim, sym, ap, ◌∙◌, length}
use Rattle.std.specs.Prelude.{nat_lt, if◌then◌else◌}
use Rattle.ad_base.specs.Count.{Rose}
use Rattle.ad_base.specs.Outside.{Told}
use Rattle.ad_base.specs.declared.image.Image.{Image}
use Rattle.ad_base.specs.declared.layout.TheConstants.{FILE_BYTES}
use Rattle.ad_base.specs.declared.place.Place.{Place}
use Rattle.ad_lines.specs.Ready.{ready_steps}
use Rattle.ad_generator.specs.Script.{script_text}
use Rattle.ad_link.specs.declared.reason.Reason.{Reason}
use Rattle.ad_link.specs.declared.refusal.LinkRefusal.{LinkRefusal}
use Rattle.ad_link.specs.Plan.{Planned}
use Rattle.ad_link.specs.Reason.{reason_of}
use Rattle.ad_script.specs.declared.script.Load.{Load}
use Rattle.ad_script.specs.declared.refusal.ScriptRefusal.{ScriptRefusal}
use Rattle.ad_script.specs.declared.refusal.ScriptRefusal.TheVariants.{At, OutOfMemory}
use Rattle.ad_script.specs.declared.script.Script.{Script}
use Rattle.ad_script.specs.Script.{script_of}
use Rattle.std.specs.Option.{option_map_or}
use Rattle.ad_command.specs.declared.trouble.Trouble.{Trouble}
use Rattle.ad_command.specs.declared.trouble.Trouble.TheVariants.{Memory, Module, NoExport, Read, TooLarge, Usage, Write}
use Rattle.ad_command.specs.Chain.{Ask, Chain, Done, Judge, MayEnd, ModuleFile, Refuse, Verdict, ◌>>=◌, each_in_turn, given, judged}
use Rattle.ad_command.specs.Command.{Beside, Generated, Lines, Predicted, Shown, command, job_built, job_from, job_in, job_of, shown_in, work_of}
use Rattle.ad_command.specs.Loading.{built_of, file_of, fixed_behind, image_at, loaded_image, loaded_images, module_of, script_built, script_in}
use Rattle.ad_command.specs.Trouble.{refused_module, refused_script}
use Rattle.ad_words.specs.Words.{Command, Gen, Predict, Run, Seq, Show, command_of}

-- a fault that doesn't tell of reading a file or of writing
pub record IsPlain (t : Trouble) : Type 0 where
  pub no_read : (name : List ℕ) → t ≢ Read name
  pub not_large : (name : List ℕ) → t ≢ TooLarge name
  pub no_write : t ≢ Write

-- A chain never refuses as if a file couldn't be read or nothing be written, and tells only the file as too large that it asked
-- for last.
abbrev pub IsFrank : {A : Type 0} → Option (List ℕ) → Chain A → Type 0
IsFrank last (Done a) = Unit {0}
IsFrank last (Refuse t) = ((name : List ℕ) → t ≢ Read name) × ((name : List ℕ) → t ≡ TooLarge name → last ≡ Some name) × (t ≢ Write)
IsFrank last (Ask name next) = (file : List ℕ) → IsFrank (Some name) (next file)
IsFrank last (Judge q next) = (v : Verdict q) → IsFrank last (next v)

plain-frank : (A : Type 0) (last : Option (List ℕ)) (t : Trouble) → IsPlain t → IsFrank {A = A} last (Refuse t)
plain-frank A last t plain = (plain.no_read, λ name large. absurd (plain.not_large name large), plain.no_write)

frank-behind : {A B : Type 0} (last : Option (List ℕ)) (c : Chain A) (f : A → Chain B) → IsFrank last c → ((at : Option (List ℕ)) (a : A) → IsFrank at (f a)) → IsFrank last (c >>= f)
frank-behind last (Done a) f first second = second last a
frank-behind last (Refuse t) f first second = first
frank-behind last (Ask name next) f first second = λ file. frank-behind (Some name) (next file) f (first file) second
frank-behind last (Judge q next) f first second = λ v. frank-behind last (next v) f (first v) second

frank-judged : {A E : Type 0} (last : Option (List ℕ)) (trouble : E → Trouble) → ((e : E) → IsPlain (trouble e)) → (r : Result A E) → IsFrank last (judged trouble r)
frank-judged {A} last trouble plain (Ok a) = tt
frank-judged {A} last trouble plain (Err e) = plain-frank A last (trouble e) (plain e)

script-plain : (r : ScriptRefusal) → IsPlain (refused_script r)
script-plain (At line cause) = record { no_read = λ name e. cc; not_large = λ name e. cc; no_write = λ e. cc }
script-plain OutOfMemory = record { no_read = λ name e. cc; not_large = λ name e. cc; no_write = λ e. cc }

no-export : (line : ℕ) → IsPlain (NoExport line)
no-export line = record { no_read = λ name e. cc; not_large = λ name e. cc; no_write = λ e. cc }

usage : IsPlain Usage
usage = record { no_read = λ name e. cc; not_large = λ name e. cc; no_write = λ e. cc }

module-plain : (file : List ℕ) (x : Option Reason) → IsPlain (option_map_or (λ (y : Reason). Module file y.stage y.number) x Memory)
module-plain file None = record { no_read = λ name e. cc; not_large = λ name e. cc; no_write = λ e. cc }
module-plain file (Some y) = record { no_read = λ name e. cc; not_large = λ name e. cc; no_write = λ e. cc }

refused-plain : (file : List ℕ) (r : LinkRefusal) → IsPlain (refused_module file r)
refused-plain file r = module-plain file (reason_of r)

frank-if : (name file : List ℕ) (b : Bool) → IsFrank (Some name) (if b then Refuse (TooLarge name) else Done file)
frank-if name file true = (λ n e. cc, λ n e. cc, λ e. cc)
frank-if name file false = tt

frank-file : (last : Option (List ℕ)) (name : List ℕ) → IsFrank last (file_of name)
unfolding file_of
frank-file last name = λ file. frank-if name file (nat_lt FILE_BYTES (length file))

frank-script : (last : Option (List ℕ)) (name : List ℕ) → IsFrank last (script_in name)
unfolding script_in
frank-script last name = frank-behind last (file_of name) (λ text. judged refused_script (script_of text)) (frank-file last name) (λ at text. frank-judged at refused_script script-plain (script_of text))

frank-built-script : (last : Option (List ℕ)) (number : ℕ) → IsFrank last (script_built number)
unfolding script_built
frank-built-script last number = frank-judged last refused_script script-plain (script_of (script_text number))

frank-module : (last : Option (List ℕ)) (name : List ℕ) → IsFrank last (module_of name)
unfolding module_of
frank-module last name = frank-behind last (file_of name) (λ file. Judge (ModuleFile file) (judged (refused_module name))) (frank-file last name) (λ at file v. frank-judged at (refused_module name) (refused-plain name) v)

frank-built : (last : Option (List ℕ)) (name : List ℕ) → IsFrank last (built_of name)
unfolding built_of
frank-built last name = λ v. frank-judged last (refused_module name) (refused-plain name) v

frank-image : (last : Option (List ℕ)) (name : List ℕ) (p : Planned) (fixed : Place) → IsFrank last (image_at name p fixed)
unfolding image_at
frank-image last name p fixed = λ v. frank-judged last (refused_module name) (refused-plain name) v

-- where the module in the file of a name is had frankly, so are the images of loads, and the job
module _ (had : List ℕ → Chain Planned) (frank : (last : Option (List ℕ)) (name : List ℕ) → IsFrank last (had name)) where
  frank-load : (seed workers : ℕ) (last : Option (List ℕ)) (before : List Image) (l : Load) → IsFrank last (loaded_image had seed workers before l)
  unfolding loaded_image
  frank-load seed workers last before l =
      frank-behind last (had l.file) (λ p. image_at l.file p (fixed_behind seed workers before p)) (frank last l.file) (λ at p. frank-image at l.file p (fixed_behind seed workers before p))

  frank-loads : (seed workers : ℕ) (last : Option (List ℕ)) (before : List Image) (ls : List Load) → IsFrank last (each_in_turn (loaded_image had seed workers) before ls)
  unfolding each_in_turn
  frank-loads seed workers last before [] = tt
  frank-loads seed workers last before (l ∷ ls) =
      let f = loaded_image had seed workers in
      frank-behind last (f before l) (λ y. each_in_turn f (before ++ y ∷ []) ls) (frank-load seed workers last before l) (λ at y. frank-loads seed workers at (before ++ y ∷ []) ls)

  frank-job : (script : Script) (seed fuel : ℕ) (last : Option (List ℕ)) → IsFrank last (job_of had script seed fuel)
  unfolding job_of loaded_images
  frank-job script seed fuel last =
      frank-behind last (loaded_images had seed script) (λ images. judged NoExport (ready_steps images script.steps) >>= λ steps. Done (record { seed = seed; fuel = fuel; script = script; images = images; steps = steps }))
      (frank-loads seed script.workers last [] script.loads)
      (λ at images. frank-behind at (judged NoExport (ready_steps images script.steps)) (λ steps. Done (record { seed = seed; fuel = fuel; script = script; images = images; steps = steps })) (frank-judged at NoExport no-export (ready_steps images script.steps)) (λ x steps. tt))

  frank-job-from : (script_had : Chain Script) (seed fuel : ℕ) (last : Option (List ℕ)) → IsFrank last script_had → IsFrank last (job_from script_had had seed fuel)
  unfolding job_from
  frank-job-from script_had seed fuel last script = frank-behind last script_had (λ s. job_of had s seed fuel) script (λ at s. frank-job s seed fuel at)

frank-job-in : (name : List ℕ) (seed fuel : ℕ) (last : Option (List ℕ)) → IsFrank last (job_in name seed fuel)
frank-job-in name seed fuel last = frank-job-from module_of frank-module (script_in name) seed fuel last (frank-script last name)

frank-job-built : (number seed fuel : ℕ) (last : Option (List ℕ)) → IsFrank last (job_built number seed fuel)
frank-job-built number seed fuel last = frank-job-from built_of frank-built (script_built number) seed fuel last (frank-built-script last number)

frank-shown : (name : List ℕ) (last : Option (List ℕ)) → IsFrank last (shown_in name)
unfolding shown_in
frank-shown name last = frank-behind last (module_of name) _ (frank-module last name) (λ at p. frank-image at name p _)

frank-work : (last : Option (List ℕ)) (c : Command) → IsFrank last (work_of c)
frank-work last (Run script seed fuel slots frames) = frank-behind last (job_in script seed fuel) (λ j. Done (Beside slots frames j)) (frank-job-in script seed fuel last) (λ at j. tt)
frank-work last (Seq script seed fuel) = frank-behind last (job_in script seed fuel) (λ j. Done (Lines j)) (frank-job-in script seed fuel last) (λ at j. tt)
frank-work last (Predict script seed fuel) = frank-behind last (job_in script seed fuel) (λ j. Done (Predicted j)) (frank-job-in script seed fuel last) (λ at j. tt)
frank-work last (Show file) = frank-behind last (shown_in file) (λ i. Done (Shown i)) (frank-shown file last) (λ at i. tt)
frank-work last (Gen number seed fuel) = frank-behind last (job_built number seed fuel) (λ j. Done (Generated number j)) (frank-job-built number seed fuel last) (λ at j. tt)

frank-given : (last : Option (List ℕ)) (x : Option Command) → IsFrank last (given Usage x)
frank-given last None = plain-frank Command last Usage usage
frank-given last (Some c) = tt

pub frank-command : (words : List (List ℕ)) → IsFrank None (command words)
unfolding command
frank-command words = frank-behind None (given Usage (command_of words)) work_of (frank-given None (command_of words)) frank-work

-- where a read failed, the count of faults rose, and the file was asked for last
pub read-rose : {A : Type 0} (told : Told) (old new : ℕ) (last : Option (List ℕ)) (c : Chain A) (names : List (List ℕ)) (name : List ℕ) → IsFrank last c → MayEnd told old new c names (Err (Read name))
    → Rose old new × ((more : List (List ℕ)) × (names ≡ more ++ name ∷ []))
read-rose told old new last (Done a) names name frank end = ⊎_elim (λ e. absurd cc) (λ e. absurd cc) end.2
read-rose told old new last (Refuse t) names name frank end = ⊎_elim (λ e. let same : t ≡ Read name = cc in absurd (frank.0 name same)) (λ e. absurd cc) end.2
read-rose told old new last (Ask asked next) names name frank (inl none) = absurd (let e = none.2 in cc)
read-rose told old new last (Ask asked next) names name frank (inr (inl failed)) =
    let same : name ≡ asked = (let e = failed.2 in cc) in
    (failed.1, ([], failed.0 ∙ ap (λ n. n ∷ []) (sym same)))
read-rose told old new last (Ask asked next) names name frank (inr (inr read)) =
    let later = read-rose told old new (Some asked) (next read.0) read.1 name (frank read.0) read.4 in
    (later.0, (asked ∷ later.1.0, read.2 ∙ ap (λ ns. asked ∷ ns) later.1.1))
read-rose told old new last (Judge q next) names name frank (inl none) = absurd (let e = none.2 in cc)
read-rose told old new last (Judge q next) names name frank (inr verdict) = read-rose told old new last (next verdict.0) names name (frank verdict.0) verdict.2

-- no chain ends as if nothing could be written
pub no-write : {A : Type 0} (told : Told) (old new : ℕ) (last : Option (List ℕ)) (c : Chain A) (names : List (List ℕ)) → IsFrank last c → MayEnd told old new c names (Err Write) → ⊥
no-write told old new last (Done a) names frank end = ⊎_elim (λ e. absurd cc) (λ e. absurd cc) end.2
no-write told old new last (Refuse t) names frank end = ⊎_elim (λ e. let same : t ≡ Write = cc in frank.2 same) (λ e. absurd cc) end.2
no-write told old new last (Ask asked next) names frank (inl none) = absurd (let e = none.2 in cc)
no-write told old new last (Ask asked next) names frank (inr (inl failed)) = absurd (let e = failed.2 in cc)
no-write told old new last (Ask asked next) names frank (inr (inr read)) = no-write told old new (Some asked) (next read.0) read.1 (frank read.0) read.4
no-write told old new last (Judge q next) names frank (inl none) = absurd (let e = none.2 in cc)
no-write told old new last (Judge q next) names frank (inr verdict) = no-write told old new last (next verdict.0) names (frank verdict.0) verdict.2

-- a file that is too large was asked for last, of these names or before them
abbrev EndsSo : Option (List ℕ) → List (List ℕ) → List ℕ → Type 0
EndsSo last names name = ((names ≡ []) × (last ≡ Some name)) ⊎ ((more : List (List ℕ)) × (names ≡ more ++ name ∷ []))

asked-before : (asked name : List ℕ) (more names : List (List ℕ)) → names ≡ asked ∷ more → EndsSo (Some asked) more name → (rest : List (List ℕ)) × (names ≡ rest ++ name ∷ [])
asked-before asked name more names whole (inl none) =
    let same : asked ≡ name = (let e = none.1 in cc) in
    ([], whole ∙ (λ i. same i ∷ none.0 i))
asked-before asked name more names whole (inr some) = (asked ∷ some.0, whole ∙ ap (λ ns. asked ∷ ns) some.1)

large-last : {A : Type 0} (told : Told) (old new : ℕ) (last : Option (List ℕ)) (c : Chain A) (names : List (List ℕ)) (name : List ℕ) → IsFrank last c → MayEnd told old new c names (Err (TooLarge name)) → EndsSo last names name
large-last told old new last (Done a) names name frank end = ⊎_elim (λ e. absurd cc) (λ e. absurd cc) end.2
large-last told old new last (Refuse t) names name frank end = ⊎_elim (λ e. let same : t ≡ TooLarge name = cc in inl (end.0, frank.1 name same)) (λ e. absurd cc) end.2
large-last told old new last (Ask asked next) names name frank (inl none) = absurd (let e = none.2 in cc)
large-last told old new last (Ask asked next) names name frank (inr (inl failed)) = absurd (let e = failed.2 in cc)
large-last told old new last (Ask asked next) names name frank (inr (inr read)) =
    inr (asked-before asked name read.1 names read.2 (large-last told old new (Some asked) (next read.0) read.1 name (frank read.0) read.4))
large-last told old new last (Judge q next) names name frank (inl none) = absurd (let e = none.2 in cc)
large-last told old new last (Judge q next) names name frank (inr verdict) = large-last told old new last (next verdict.0) names name (frank verdict.0) verdict.2

-- where no read failed, the count stays
pub count-stays : {A : Type 0} (told : Told) (old new : ℕ) (c : Chain A) (names : List (List ℕ)) (r : Result A Trouble) → ((name : List ℕ) → r ≢ Err (Read name)) → MayEnd told old new c names r → new ≡ old
count-stays told old new (Done a) names r other end = end.1
count-stays told old new (Refuse t) names r other end = end.1
count-stays told old new (Ask asked next) names r other (inl none) = none.1
count-stays told old new (Ask asked next) names r other (inr (inl failed)) = absurd (other asked failed.2)
count-stays told old new (Ask asked next) names r other (inr (inr read)) = count-stays told old new (next read.0) read.1 r other read.4
count-stays told old new (Judge q next) names r other (inl none) = none.1
count-stays told old new (Judge q next) names r other (inr verdict) = count-stays told old new (next verdict.0) names r other verdict.2

no-name : (names : List (List ℕ)) (name : List ℕ) → EndsSo None names name → (more : List (List ℕ)) × (names ≡ more ++ name ∷ [])
no-name names name (inl none) = absurd (let e = none.1 in cc)
no-name names name (inr some) = some

pub large-asked : {A : Type 0} (told : Told) (old new : ℕ) (c : Chain A) (names : List (List ℕ)) (name : List ℕ) → IsFrank None c → MayEnd told old new c names (Err (TooLarge name)) → (more : List (List ℕ)) × (names ≡ more ++ name ∷ [])
large-asked told old new c names name frank end = no-name names name (large-last told old new None c names name frank end)
