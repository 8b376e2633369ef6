-- The instructions that words are decoded to load and store one, two, four or eight bytes.
use Rattle.std.proofs.Common.{◌≡◌, ℕ, Bool, true, false, ◌&&◌, ◌||◌, ◌==◌, if◌then◌else◌, List, [], ◌∷◌, find, Option, None, Some, option_map, inl, inr, refl, subst}
use Rattle.std.specs.List.{list_all}
use Rattle.std.proofs.lemmas.Bool.{eqb-true}
use Rattle.ad_isa.specs.declared.instr.Instr.{Instr}
use Rattle.ad_isa.specs.declared.instr.Instr.TheVariants.{Load, Store}
use Rattle.ad_isa.specs.Fields.{opcode}
use Rattle.ad_isa.specs.Table.{Row, decoded, fits, rows}
use Rattle.ad_isa.specs.Words.{IsSize}

abbrev is_size : ℕ → Bool
is_size n = (n == 1) || ((n == 2) || ((n == 4) || (n == 8)))

-- an instruction that loads or stores so many bytes
is_sized : Instr → Bool
is_sized (Load size signed rd rs1 imm) = is_size size
is_sized (Store size rs1 rs2 imm) = is_size size
is_sized i = true

-- what holds of both choices holds of the one that is taken
either : {A : Type 0} (P : A → Type 0) (b : Bool) (x y : A) → P x → P y → P (if b then x else y)
either P true x y px py = px
either P false x y px py = py

rows-sized : (w o : ℕ) → list_all (λ (r : Row). is_sized (r.makes w)) (rows o) ≡ true
unfolding rows is_sized
rows-sized w o =
    either (λ (rs : List Row). list_all (λ (r : Row). is_sized (r.makes w)) rs ≡ true) (o == 0x37) _ _ refl (either (λ (rs : List Row). list_all (λ (r : Row). is_sized (r.makes w)) rs ≡ true) (o == 0x17) _ _ refl (either (λ (rs : List Row). list_all (λ (r : Row). is_sized (r.makes w)) rs ≡ true) (o == 0x6f) _ _ refl (either (λ (rs : List Row). list_all (λ (r : Row). is_sized (r.makes w)) rs ≡ true) (o == 0x67) _ _ refl (either (λ (rs : List Row). list_all (λ (r : Row). is_sized (r.makes w)) rs ≡ true) (o == 0x63) _ _ refl (either (λ (rs : List Row). list_all (λ (r : Row). is_sized (r.makes w)) rs ≡ true) (o == 0x03) _ _ refl (either (λ (rs : List Row). list_all (λ (r : Row). is_sized (r.makes w)) rs ≡ true) (o == 0x23) _ _ refl (either (λ (rs : List Row). list_all (λ (r : Row). is_sized (r.makes w)) rs ≡ true) (o == 0x13) _ _ refl (either (λ (rs : List Row). list_all (λ (r : Row). is_sized (r.makes w)) rs ≡ true) (o == 0x33) _ _ refl (either (λ (rs : List Row). list_all (λ (r : Row). is_sized (r.makes w)) rs ≡ true) (o == 0x1b) _ _ refl (either (λ (rs : List Row). list_all (λ (r : Row). is_sized (r.makes w)) rs ≡ true) (o == 0x3b) _ _ refl (either (λ (rs : List Row). list_all (λ (r : Row). is_sized (r.makes w)) rs ≡ true) (o == 0x0f) _ _ refl (either (λ (rs : List Row). list_all (λ (r : Row). is_sized (r.makes w)) rs ≡ true) (o == 0x73) _ _ refl (refl)))))))))))))

-- what the first row makes that has the word
abbrev IsSizedIf : Option Instr → Type 0
IsSizedIf None = Unit {0}
IsSizedIf (Some i) = is_sized i ≡ true

first-sized : (w : ℕ) (rs : List Row) → list_all (λ (r : Row). is_sized (r.makes w)) rs ≡ true → IsSizedIf (option_map (λ (r : Row). r.makes w) (find (λ (r : Row). fits w r.fixed) rs))
first-sized w [] e = tt
first-sized w (r ∷ rs) e = by (fits w r.fixed) (is_sized (r.makes w)) refl e (first-sized w rs)
  where
    by : (b s : Bool) → is_sized (r.makes w) ≡ s → s && list_all (λ (r : Row). is_sized (r.makes w)) rs ≡ true
        → (list_all (λ (r : Row). is_sized (r.makes w)) rs ≡ true → IsSizedIf (option_map (λ (r : Row). r.makes w) (find (λ (r : Row). fits w r.fixed) rs)))
        → IsSizedIf (option_map (λ (r : Row). r.makes w) (if b then Some r else find (λ (r : Row). fits w r.fixed) rs))
    by true true is e rest = is
    by false true is e rest = rest e
    by b false is e rest = absurd cc

decoded-sized : (w : ℕ) → IsSizedIf (decoded w)
unfolding decoded
decoded-sized w = first-sized w (rows (opcode w)) (rows-sized w (opcode w))

size-is : (n : ℕ) → is_size n ≡ true → IsSize n
size-is n e = by (n == 1) (n == 2) (n == 4) (n == 8) refl refl refl refl e
  where
    by : (a b c d : Bool) → (n == 1) ≡ a → (n == 2) ≡ b → (n == 4) ≡ c → (n == 8) ≡ d → a || (b || (c || d)) ≡ true → IsSize n
    by true b c d one two four eight e = inl (eqb-true n 1 one)
    by false true c d one two four eight e = inr (inl (eqb-true n 2 two))
    by false false true d one two four eight e = inr (inr (inl (eqb-true n 4 four)))
    by false false false true one two four eight e = inr (inr (inr (eqb-true n 8 eight)))
    by false false false false one two four eight e = absurd cc

-- the sizes of an instruction
abbrev pub HasSize : Instr → Type 0
HasSize (Load size signed rd rs1 imm) = IsSize size
HasSize (Store size rs1 rs2 imm) = IsSize size
HasSize i = Unit {0}

has-size : (i : Instr) → is_sized i ≡ true → HasSize i
unfolding is_sized
has-size (Load size signed rd rs1 imm) e = size-is size e
has-size (Store size rs1 rs2 imm) e = size-is size e
has-size i e = tt

pub size-of-decoded : (w : ℕ) (i : Instr) → decoded w ≡ Some i → HasSize i
size-of-decoded w i e = has-size i (subst IsSizedIf e (decoded-sized w))
