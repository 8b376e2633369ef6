-- What holds of all relocations of a file.
use Rattle.std.proofs.Common.{◌≡◌, inl, inr, ℕ, zero, suc, ◌<◌, ◌/◌, true, List, [], ◌∷◌, ◌++◌, refl, arith}
use Rattle.std.specs.List.{All}
use Rattle.std.proofs.lemmas.Bool.{cases_Bool, cases_lt, cond-false, cond-true}
use Rattle.std.proofs.lemmas.List.Elements.{All-append, All-cons, All-head, All-nil, All-tail}
use Rattle.ad_elf.specs.declared.elf.TheConstants.{RELA_BYTES}
use Rattle.ad_elf.specs.declared.object.Rela.{Rela}
use Rattle.ad_elf.specs.Below.{each, joined}
use Rattle.ad_elf.specs.Private.Checked.{AreDirected}
use Rattle.ad_elf.specs.Fields.{header, section_count}
use Rattle.ad_elf.specs.File.{has_kept_relas, kept_relas, rela, relas, relas_of}
use Rattle.ad_elf.proofs.Tables.{has_kept_relas-typ, info_below}

pub All-one : {X : Type 0} (P : X → Type 0) (x : X) → P x → All P (x ∷ [])
All-one P x h zero d below = h
All-one P x h (suc k) d below = absurd (omega arith)

-- what holds of all that the numbers give holds of the joined list
pub All-joined : {X : Type 0} (P : X → Type 0) (f : ℕ → List X) (n : ℕ) → ((i : ℕ) → i < n → All P (f i)) → All P (joined f n)
unfolding joined
All-joined P f zero h = All-nil P
All-joined P f (suc n) h = All-append P (joined f n) (f n) (All-joined P f n (λ i below. h i (omega arith))) (h n (omega arith))

pub All-each : {X : Type 0} (P : X → Type 0) (f : ℕ → X) (n : ℕ) → ((i : ℕ) → i < n → P (f i)) → All P (each f n)
All-each P f n h = All-joined P (λ i. f i ∷ []) n (λ i below. All-one P (f i) (h i below))

-- and back
All-parts : {X : Type 0} (P : X → Type 0) (xs ys : List X) → All P (xs ++ ys) → All P xs × All P ys
All-parts P [] ys all = (All-nil P, all)
All-parts P (x ∷ xs) ys all =
    let rest = All-parts P xs ys (All-tail P x (xs ++ ys) all) in
    (All-cons P x xs (All-head P x (xs ++ ys) all) rest.0, rest.1)

pub All-from_joined : {X : Type 0} (P : X → Type 0) (f : ℕ → List X) (n : ℕ) → All P (joined f n) → (i : ℕ) → i < n → All P (f i)
unfolding joined
All-from_joined P f zero all i below = absurd (omega arith)
All-from_joined P f (suc n) all i below =
    let parts = All-parts P (joined f n) (f n) all in
    elim (cases_lt i n) [
      | inl less ↦ All-from_joined P f n parts.0 i less
      | inr last ↦ (let same : i ≡ n = omega arith in rw same parts.1)
    ]

pub All-from_each : {X : Type 0} (P : X → Type 0) (f : ℕ → X) (n : ℕ) → All P (each f n) → (i : ℕ) → i < n → P (f i)
All-from_each P f n all i below = All-head P (f i) [] (All-from_joined P (λ j. f j ∷ []) n all i below)

pub rela-target : (file : List ℕ) (i j : ℕ) → (rela file i j).target ≡ (header file i).info
unfolding rela
rela-target file i j = refl

-- what holds of each entry of each section whose relocations are kept holds of all relocations
pub All-relas : (P : Rela → Type 0) (file : List ℕ)
    → ((i j : ℕ) → i < section_count file → has_kept_relas file (header file i) ≡ true → j < (header file i).size / RELA_BYTES → P (rela file i j)) → All P (relas file)
unfolding relas_of
All-relas P file h = All-joined P (kept_relas file) (section_count file) (λ i below.
    elim (cases_Bool (has_kept_relas file (header file i))) [
      | inl kept ↦ (rw (cond-true (has_kept_relas file (header file i)) (relas_of file i) [] kept) (All-each P (rela file i) ((header file i).size / RELA_BYTES) (λ j lower. h i j below kept lower)))
      | inr other ↦ (rw (cond-false (has_kept_relas file (header file i)) (relas_of file i) [] other) (All-nil P))
    ])

pub relas_targets : (file : List ℕ) → AreDirected file → All (λ (r : Rela). r.target < section_count file) (relas file)
relas_targets file directed = All-relas (λ (r : Rela). r.target < section_count file) file (λ i j below kept lower.
    rw (rela-target file i j) (info_below file (header file i) (directed.each_one i below) (has_kept_relas-typ file (header file i) kept)))
