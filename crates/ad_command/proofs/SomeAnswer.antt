-- Over any files a chain has an answer.
use Rattle.std.proofs.Common.{⊎_elim, ℕ, List, [], ◌∷◌, Result, Ok, Err, refl}
use Rattle.ad_link.specs.declared.refusal.LinkRefusal.TheVariants.{Reloc}
use Rattle.ad_link.proofs.OneAnswer.{some_plan}
use Rattle.ad_reloc.proofs.SomeImage as image
use Rattle.ad_command.specs.declared.trouble.Trouble.{Trouble}
use Rattle.ad_command.specs.Chain.{Ask, Chain, Done, Gives, ImageAt, IsVerdict, Judge, ModuleFile, Question, Refuse, Verdict}

-- a question has a verdict
some-verdict : (q : Question) → (v : Verdict q) × IsVerdict q v
some-verdict (ModuleFile bytes) = ⊎_elim (λ planned. (Ok planned.0, planned.1)) (λ refused. (Err refused.0, refused.1)) (some_plan bytes)
some-verdict (ImageAt p fixed) = ⊎_elim (λ made. (Ok made.0, made.1)) (λ refused. (Err (Reloc refused.0), refused.1)) (image.some_answer p.object p.layout p.tables fixed)

pub some-answer : {A : Type 0} (files : List ℕ → List ℕ) (c : Chain A) → (names : List (List ℕ)) × (end : Result A Trouble) × Gives files c names end
some-answer files (Done a) = ([], Ok a, (refl, refl))
some-answer files (Refuse t) = ([], Err t, (refl, refl))
some-answer files (Ask name next) = let later = some-answer files (next (files name)) in (name ∷ later.0, later.1, (later.0, refl, later.2))
some-answer files (Judge q next) =
    let v = some-verdict q in
    let later = some-answer files (next v.0) in
    (later.0, later.1, (v.0, v.1, later.2))
