-- What sections and symbols a file can be written of.
use Rattle.std.specs.Prelude.{◌≡◌, ℕ, ◌+◌, ◌^◌, ◌<◌, ◌==◌, List, [], ◌∷◌, length, sum_by, true, false}
use Rattle.std.specs.List.{All, AllPairs, list_any}
use Rattle.ad_kit.specs.ObjectFile.{is_local}
use Rattle.ad_kit.specs.declared.object.KitRela.{KitRela}
use Rattle.ad_kit.specs.declared.object.KitSection.{KitSection}
use Rattle.ad_kit.specs.declared.object.KitSymbol.{KitSymbol}

-- the powers of two up to 4,096
abbrev pub powers : List ℕ
powers = 1 ∷ 2 ∷ 4 ∷ 8 ∷ 16 ∷ 32 ∷ 64 ∷ 128 ∷ 256 ∷ 512 ∷ 1024 ∷ 2048 ∷ 4096 ∷ []

-- a name has no zero byte
abbrev pub HasNoZero : List ℕ → Type 0
HasNoZero name = list_any (λ b. b == 0) name ≡ false

-- The alignments are powers of two, the symbols of relocations have 32 bits, the names are short and without zero bytes,
-- the local symbols come first, and there are few of all.
pub record IsWritable (ss : List KitSection) (ys : List KitSymbol) : Type 0 where
  pub aligned : All (λ (s : KitSection). list_any (λ a. a == s.align) powers ≡ true) ss
  pub symbols : All (λ (s : KitSection). All (λ (r : KitRela). r.symbol < 2 ^ 32) s.relas) ss
  pub section_names : All (λ (s : KitSection). HasNoZero s.name) ss
  pub symbol_names : All (λ (y : KitSymbol). HasNoZero y.name) ys
  pub short_names : sum_by (λ (s : KitSection). length s.name) ss + sum_by (λ (y : KitSymbol). length y.name) ys < 2 ^ 30
  pub locals_first : AllPairs (λ (x y : KitSymbol). is_local y ≡ true → is_local x ≡ true) ys
  pub few : length ss + length ys + sum_by (λ (s : KitSection). length s.relas) ss < 10000
