-- The value of bytes, as the code makes it.
use Rattle.std.proofs.Common.{◌≡◌, ℕ, zero, suc, ◌+◌, ◌*◌, ◌^◌, ◌<◌, ◌≤◌, Bool, List, [], ◌∷◌, length, slice_index, slice_index_or, Result, Ok, Err, refl, sym, ap, ◌∙◌, arith}
use Rattle.std.proofs.Math.Nat.{pow-le-pow_right}
use Rattle.byteorder.specs.Endian.{little_from, little_number}
use Rattle.ad_isa.specs.Domain.{◌>>=◌}
use Rattle.ad_isa.specs.Numbers.{widened}
use Rattle.ad_symbolic.specs.AddressSpace.{all_numbers, value_of_bytes}
use Rattle.ad_symbolic.specs.Private.Bytes.{number_of_bytes}
use Rattle.ad_symbolic.specs.declared.byte.Byte.{Byte}
use Rattle.ad_symbolic.specs.declared.byte.Byte.TheVariants.{Number, OfAddress}
use Rattle.ad_symbolic.specs.declared.value.Reason.{Reason}
use Rattle.ad_symbolic.specs.declared.value.Value.TheVariants.{Num}

-- a number of fewer than eight bytes
pub small : (k m : ℕ) → k < 8 → m < 256 ^ k → m < 256 ^ 7
small k m few h = let le : 256 ^ k ≤ 256 ^ 7 = pow-le-pow_right {n = 256} (omega arith) {i = k} {j = 7} (omega (arith, few)) in omega (arith, h, le)

-- a byte in front is not in the number of the bytes behind it
shifted : (i k n : ℕ) (ns : List ℕ) → little_from (suc i) k (n ∷ ns) ≡ little_from i k ns
shifted i zero n ns = refl
shifted i (suc k) n ns = ap (λ x. slice_index ns i + 256 * x) (shifted (suc i) k n ns)

-- a byte in front
one-more : (n k : ℕ) (r : Result (List ℕ) Reason) (t : Result ℕ Reason) → (r >>= λ ns. Ok (little_number k ns)) ≡ t
    → ((r >>= λ ns. Ok (n ∷ ns)) >>= λ ns. Ok (little_number (suc k) ns)) ≡ (t >>= λ more. Ok (n + 256 * more))
one-more n k (Ok ns) t e = ap (λ x. Ok (n + 256 * x)) (shifted 0 k n ns) ∙ ap (λ (r : Result ℕ Reason). r >>= λ more. Ok (n + 256 * more)) e
one-more n k (Err reason) t e = ap (λ (r : Result ℕ Reason). r >>= λ more. Ok (n + 256 * more)) e

-- the number of all bytes
pub numbered : (bs : List Byte) → (all_numbers bs >>= λ ns. Ok (little_number (length bs) ns)) ≡ number_of_bytes bs
numbered [] = refl
numbered (Number n ∷ bs) = one-more n (length bs) (all_numbers bs) (number_of_bytes bs) (numbered bs)
numbered (OfAddress i p o ∷ bs) = refl

in-two : {A : Type 0} (f : ℕ → A) (k : ℕ) (r : Result (List ℕ) Reason) → (r >>= λ ns. Ok (f (little_number k ns))) ≡ ((r >>= λ ns. Ok (little_number k ns)) >>= λ m. Ok (f m))
in-two f k (Ok ns) = refl
in-two f k (Err reason) = refl

-- what numbers give, by their number
pub made-number : {A : Type 0} (f : ℕ → A) (size : ℕ) (bs : List Byte) → length bs ≡ size → (all_numbers bs >>= λ ns. Ok (f (little_number size ns))) ≡ (number_of_bytes bs >>= λ m. Ok (f m))
made-number f size bs long =
    in-two f size (all_numbers bs)
    ∙ ap (λ k. (all_numbers bs >>= λ ns. Ok (little_number k ns)) >>= λ m. Ok (f m)) (sym long)
    ∙ ap (λ (r : Result ℕ Reason). r >>= λ m. Ok (f m)) (numbered bs)

-- the value of bytes that begin with a number
pub value-number : (size : ℕ) (signed_ : Bool) (bs : List Byte) (first : Byte) (n : ℕ) → length bs ≡ size → 0 < size → slice_index_or bs 0 first ≡ Number n
    → value_of_bytes size signed_ bs ≡ (number_of_bytes bs >>= λ m. Ok (Num (widened size signed_ m)))
value-number size signed_ [] first n long some is = absurd (omega (arith, long, some))
value-number size signed_ (OfAddress i p o ∷ bs) first n long some is = absurd cc
value-number size signed_ (Number k ∷ bs) first n long some is = made-number (λ m. Num (widened size signed_ m)) size (Number k ∷ bs) long
