-- What is told of the outside: of files, and of a sink.
use Rattle.std.specs.Prelude.{◌≡◌, ℕ, ◌++◌, ◌∷◌, [], List, Option, Result, Ok, Err, IfSome}
use Rattle.ad_base.specs.declared.files.Fetch.{Fetch}
use Rattle.ad_base.specs.declared.files.Fetch.TheVariants.{Failed, TooLarge, OutOfMemory}

-- the bytes of each name, where they are told
abbrev pub Told : Type 0
Told = List ℕ → Option (List ℕ)

-- files, as far as they are told: the bytes of each name, the names asked for so far, and how many faults there were
pub record Outside : Type 0 where
  pub told : Told
  pub asked : Option (List (List ℕ))
  pub faults : ℕ

-- a sink, as far as it is told: the bytes taken so far, and how many faults there were
pub record Output : Type 0 where
  pub taken : Option (List ℕ)
  pub faults : ℕ

-- where bytes are told, they are these
abbrev pub Tells : Option (List ℕ) → List ℕ → Type 0
Tells told bytes = IfSome told (λ b. b ≡ bytes)

-- the names asked for, once a fetch by one more name gave its answer: want of memory asks for none
abbrev pub asked_after : {T : Type 0} → Result T Fetch → List (List ℕ) → List ℕ → List (List ℕ)
asked_after (Ok x) names name = names ++ name ∷ []
asked_after (Err Failed) names name = names ++ name ∷ []
asked_after (Err TooLarge) names name = names ++ name ∷ []
asked_after (Err OutOfMemory) names name = names
