-- What a command does before it runs, as a chain of steps, and how such a chain may end.
use Rattle.std.specs.Prelude.{◌≡◌, ◌⊎◌, ℕ, List, [], ◌∷◌, ◌++◌, Option, None, Some, IfSome, Result, Ok, Err}
use Rattle.ad_base.specs.Count.{Rose}
use Rattle.ad_base.specs.Outside.{Outside, Tells, Told}
use Rattle.ad_base.specs.declared.image.Image.{Image}
use Rattle.ad_base.specs.declared.place.Place.{Place}
use Rattle.ad_link.specs.declared.refusal.LinkRefusal.{LinkRefusal}
use Rattle.ad_link.specs.Plan.{IsPlan, IsRefused, IsRefusedAt, Planned}
use Rattle.ad_reloc.specs.Image.{IsImage}
use Rattle.ad_command.specs.declared.trouble.Trouble.{Trouble}
use Rattle.ad_command.specs.declared.trouble.Trouble.TheVariants.{Read, Memory}

-- What a chain has judged, where the answer is a relation and no function:
--     ModuleFile bytes        what the link of these bytes finds before the immovable part has a place
--     ImageAt plan fixed      what image the plan of a link has with its immovable part at a place
pub data Question : Type 0 where
  ModuleFile : List ℕ → Question
  ImageAt : Planned → Place → Question

-- what is found where nothing is wrong
abbrev pub Found : Question → Type 0
Found (ModuleFile bytes) = Planned
Found (ImageAt p fixed) = Image

-- what was found, or how the link refuses the module
abbrev pub Verdict : Question → Type 0
Verdict q = Result (Found q) LinkRefusal

abbrev pub IsFound : (q : Question) → Found q → Type 0
IsFound (ModuleFile bytes) p = IsPlan bytes p
IsFound (ImageAt p fixed) i = IsImage p.object p.layout p.tables fixed i

abbrev pub IsWrong : Question → LinkRefusal → Type 0
IsWrong (ModuleFile bytes) r = IsRefused bytes r
IsWrong (ImageAt p fixed) r = IsRefusedAt fixed p r

-- the verdict is right
abbrev pub IsVerdict : (q : Question) → Verdict q → Type 0
IsVerdict q (Ok found) = IsFound q found
IsVerdict q (Err refusal) = IsWrong q refusal

-- A chain of steps: it is done, or refuses, or asks for the file of a name and goes on with its bytes, or has a question
-- judged and goes on with the verdict.
pub data Chain (A : Type 0) : Type 0 where
  Done : A → Chain A
  Refuse : Trouble → Chain A
  Ask : List ℕ → (List ℕ → Chain A) → Chain A
  Judge : (q : Question) → (Verdict q → Chain A) → Chain A

-- one chain behind the other: the first refusal counts
infixl 10 ◌>>=◌
abbrev pub ◌>>=◌ : {A B : Type 0} → Chain A → (A → Chain B) → Chain B
(Done a) >>= f = f a
(Refuse t) >>= f = Refuse t
(Ask name next) >>= f = Ask name (λ file. next file >>= f)
(Judge q next) >>= f = Judge q (λ v. next v >>= f)

-- a step for each of a list, in order, behind those that are done, of which it may make use
unfoldable pub each_in_turn : {A B : Type 0} → (List B → A → Chain B) → List B → List A → Chain (List B)
each_in_turn f done [] = Done done
each_in_turn f done (x ∷ xs) = f done x >>= λ y. each_in_turn f (done ++ y ∷ []) xs

-- what there is, or else a refusal
abbrev pub given : {A : Type 0} → Trouble → Option A → Chain A
given t None = Refuse t
given t (Some a) = Done a

-- a result, or else the refusal that its error stands for
abbrev pub judged : {A E : Type 0} → (E → Trouble) → Result A E → Chain A
judged trouble (Ok a) = Done a
judged trouble (Err e) = Refuse (trouble e)

-- Serving a chain, where the count of faults was `old` and then is `new`, may ask for these names and come to this end.
-- Each file has bytes that what is told of it allows. Instead of any step there may be no memory. A file may fail to
-- be read: then its name was asked for last, and the count rose; else it stays.
abbrev pub MayEnd : {A : Type 0} → Told → ℕ → ℕ → Chain A → List (List ℕ) → Result A Trouble → Type 0
MayEnd told old new (Done a) names r = (names ≡ []) × (new ≡ old) × ((r ≡ Ok a) ⊎ (r ≡ Err Memory))
MayEnd told old new (Refuse t) names r = (names ≡ []) × (new ≡ old) × ((r ≡ Err t) ⊎ (r ≡ Err Memory))
MayEnd told old new (Ask name next) names r =
    ((names ≡ []) × (new ≡ old) × (r ≡ Err Memory))
    ⊎ ((names ≡ name ∷ []) × Rose old new × (r ≡ Err (Read name)))
    ⊎ ((file : List ℕ) × (more : List (List ℕ)) × (names ≡ name ∷ more) × Tells (told name) file × MayEnd told old new (next file) more r)
MayEnd told old new (Judge q next) names r =
    ((names ≡ []) × (new ≡ old) × (r ≡ Err Memory))
    ⊎ ((v : Verdict q) × IsVerdict q v × MayEnd told old new (next v) names r)

-- from one state of the files to another, the chain comes to this end
pub record Serves {A : Type 0} (old new : Outside) (c : Chain A) (r : Result A Trouble) : Type 0 where
  pub names : List (List ℕ)
  pub ends : MayEnd old.told old.faults new.faults c names r
  pub asked : IfSome old.asked (λ before. new.asked ≡ Some (before ++ names))
  pub same : new.told ≡ old.told

-- what the chain gives over files of these bytes, and the names that it asks for
abbrev pub Gives : {A : Type 0} → (List ℕ → List ℕ) → Chain A → List (List ℕ) → Result A Trouble → Type 0
Gives files (Done a) names r = (names ≡ []) × (r ≡ Ok a)
Gives files (Refuse t) names r = (names ≡ []) × (r ≡ Err t)
Gives files (Ask name next) names r = (more : List (List ℕ)) × (names ≡ name ∷ more) × Gives files (next (files name)) more r
Gives files (Judge q next) names r = (v : Verdict q) × IsVerdict q v × Gives files (next v) names r

-- the bytes of all these names are told
abbrev pub AreTold : Told → (List ℕ → List ℕ) → List (List ℕ) → Type 0
AreTold told files [] = Unit {0}
AreTold told files (name ∷ names) = (told name ≡ Some (files name)) × AreTold told files names
