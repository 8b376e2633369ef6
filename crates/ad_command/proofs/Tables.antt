-- A command ends with a closed table exactly where it does the work of `run`, and that is where its first word is `run`.
use Rattle.std.proofs.Common.{◌≡◌, ℕ, Bool, true, false, List, [], ◌∷◌, Option, None, Some, IfSome, IsSomeAnd, is_some, Ok, bytes_eq, codes, inl, inr, ⊎_elim, refl, sym, ap, subst}
use Rattle.ad_base.specs.Outside.{Told}
use Rattle.ad_command.specs.declared.trouble.Trouble.TheVariants.{Usage}
use Rattle.ad_command.specs.Chain.{Ask, Chain, Done, Judge, MayEnd, Refuse, Verdict, ◌>>=◌, given}
use Rattle.ad_command.specs.Command.{Beside, Generated, Lines, Predicted, Shown, Work, begins_with_run, command, job_built, job_in, shown_in, work_of}
use Rattle.ad_command.specs.Ending.{Ending, IsDone}
use Rattle.ad_words.specs.Words.{Command, Gen, Predict, Run, Seq, Show, command_of}
use Rattle.ad_words.proofs.FirstWord.{first-word, is_run}

-- whether the calls of a job are made beside its moves
abbrev pub is_beside : Work → Bool
is_beside (Lines j) = false
is_beside (Beside slots frames j) = true
is_beside (Predicted j) = false
is_beside (Shown i) = false
is_beside (Generated number j) = false

-- what a chain is done with, if it is done, is such
abbrev pub EndsIn : {A : Type 0} → (A → Type 0) → Chain A → Type 0
EndsIn P (Done a) = P a
EndsIn P (Refuse t) = Unit {0}
EndsIn P (Ask name next) = (file : List ℕ) → EndsIn P (next file)
EndsIn P (Judge q next) = (v : Verdict q) → EndsIn P (next v)

ends-behind : {A B : Type 0} (P : B → Type 0) (c : Chain A) (f : A → Chain B) → ((a : A) → EndsIn P (f a)) → EndsIn P (c >>= f)
ends-behind P (Done a) f all = all a
ends-behind P (Refuse t) f all = tt
ends-behind P (Ask name next) f all = λ file. ends-behind P (next file) f all
ends-behind P (Judge q next) f all = λ v. ends-behind P (next v) f all

ends-so : {A : Type 0} (P : A → Type 0) (told : Told) (old new : ℕ) (c : Chain A) (names : List (List ℕ)) (a : A) → EndsIn P c → MayEnd told old new c names (Ok a) → P a
ends-so P told old new (Done b) names a ends end = ⊎_elim (λ e. let same : b ≡ a = cc in subst P same ends) (λ e. absurd cc) end.2
ends-so P told old new (Refuse t) names a ends end = ⊎_elim (λ e. absurd cc) (λ e. absurd cc) end.2
ends-so P told old new (Ask asked next) names a ends (inl none) = absurd (let e = none.2 in cc)
ends-so P told old new (Ask asked next) names a ends (inr (inl failed)) = absurd (let e = failed.2 in cc)
ends-so P told old new (Ask asked next) names a ends (inr (inr read)) = ends-so P told old new (next read.0) read.1 a (ends read.0) read.4
ends-so P told old new (Judge q next) names a ends (inl none) = absurd (let e = none.2 in cc)
ends-so P told old new (Judge q next) names a ends (inr verdict) = ends-so P told old new (next verdict.0) names a (ends verdict.0) verdict.2

abbrev IsOf : Bool → Work → Type 0
IsOf b w = is_beside w ≡ b

work-ends : (c : Command) → EndsIn (IsOf (is_run c)) (work_of c)
work-ends (Run script seed fuel slots frames) = ends-behind (IsOf true) (job_in script seed fuel) (λ j. Done (Beside slots frames j)) (λ j. refl)
work-ends (Seq script seed fuel) = ends-behind (IsOf false) (job_in script seed fuel) (λ j. Done (Lines j)) (λ j. refl)
work-ends (Predict script seed fuel) = ends-behind (IsOf false) (job_in script seed fuel) (λ j. Done (Predicted j)) (λ j. refl)
work-ends (Show file) = ends-behind (IsOf false) (shown_in file) (λ i. Done (Shown i)) (λ i. refl)
work-ends (Gen number seed fuel) = ends-behind (IsOf false) (job_built number seed fuel) (λ j. Done (Generated number j)) (λ j. refl)

said-ends : (b : Bool) (c : Option Command) → IfSome c (λ x. is_run x ≡ b) → EndsIn (IsOf b) (given Usage c >>= work_of)
said-ends b None is = tt
said-ends b (Some c) is = subst (λ x. EndsIn (IsOf x) (work_of c)) is (work-ends c)

command-ends : (words : List (List ℕ)) → EndsIn (IsOf (begins_with_run words)) (command words)
unfolding command
command-ends [] = tt
command-ends (word ∷ words) = said-ends (bytes_eq word (codes "run")) (command_of (word ∷ words)) (first-word word words)

-- work is done beside where the first word is `run`
pub beside-by-word : (told : Told) (old new : ℕ) (words : List (List ℕ)) (names : List (List ℕ)) (w : Work) → MayEnd told old new (command words) names (Ok w) → is_beside w ≡ begins_with_run words
beside-by-word told old new words names w end = ends-so (IsOf (begins_with_run words)) told old new (command words) names w (command-ends words) end

some-there : {A : Type 0} (P : A → Type 0) (o : Option A) → IsSomeAnd o P → is_some o ≡ true
some-there P None is = absurd is
some-there P (Some a) is = refl

-- there is a table where work was done beside
pub table-beside : (w : Work) (e : Ending) → IsDone w e → is_some e.closed ≡ is_beside w
table-beside (Lines j) e done = ap is_some done.1.no_table
table-beside (Beside slots frames j) e done = some-there _ e.closed done.1
table-beside (Predicted j) e done = ap is_some done.1.no_table
table-beside (Shown i) e done = ap is_some done.1.no_table
table-beside (Generated number j) e done = ap is_some done.1.no_table

pub no-table : {A : Type 0} (o : Option A) → is_some o ≡ false → o ≡ None
no-table None is = refl
no-table (Some a) is = absurd cc

-- the command of words is `run` where their first is
pub run-by-word : (words : List (List ℕ)) (c : Command) → Some c ≡ command_of words → is_run c ≡ begins_with_run words
run-by-word [] c is = absurd cc
run-by-word (word ∷ words) c is = subst (λ o. IfSome o (λ x. is_run x ≡ bytes_eq word (codes "run"))) (sym is) (first-word word words)
