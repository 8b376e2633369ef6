-- Where segments lie and how long they are, whatever they hold.
use Rattle.std.proofs.Common.{◌≡◌, ℕ, ◌+◌, ◌-◌, Bool, true, false, List, [], ◌∷◌, ◌++◌, length, take, drop, Option, None, Some, refl, ap, arith, length-take, length-take-le, length-drop}
use Rattle.std.specs.Prelude.{◌&&◌, find, if◌then◌else◌, nat_le, nat_lt}
use Rattle.std.specs.Option.{option_map_or}
use Rattle.std.proofs.lemmas.List.{length-append}
use Rattle.ad_base.specs.declared.role.Role.{Role}
use Rattle.ad_base.specs.Layout.{extents_from, laid_out, rights_of}
use Rattle.ad_base.specs.Segments.{Extent, Segment, bytes_of_role, extent_of, extents, holding, holds, put_at, with_bytes}

-- pieces one behind the other lie so, by the length of what they hold
pub extents-laid_out : {B : Type 0} (base : ℕ) (bytes : Role → List B) (roles : List Role) → extents (laid_out base bytes roles) ≡ extents_from base (λ r. length (bytes r)) roles
extents-laid_out base bytes [] = refl
extents-laid_out base bytes (r ∷ rs) =
    ap (λ more. record { base = base; size = length (bytes r); rights = rights_of r; role = r } ∷ more) (extents-laid_out (base + length (bytes r)) bytes rs)

-- bytes that are put leave a segment as long as it was
length-with_bytes : {B : Type 0} (at : ℕ) (more : List B) (s : Segment B) → length (with_bytes at more s).bytes ≡ length s.bytes
length-with_bytes {B = B} at more s = whole (at - s.base) s.bytes
  where
    whole : (k : ℕ) (bytes : List B) → length (take (length bytes) (take k bytes ++ more ++ drop (k + length more) bytes)) ≡ length bytes
    whole k bytes =
        let last = drop (k + length more) bytes in
        length-take-le (length bytes) (take k bytes ++ more ++ last) (omega (arith, length-append (take k bytes) more, length-append (take k bytes ++ more) last, length-take k bytes, length-drop (k + length more) bytes))

extent-with_bytes : {B : Type 0} (at : ℕ) (more : List B) (s : Segment B) → extent_of (with_bytes at more s) ≡ extent_of s
extent-with_bytes at more s = ap (λ n. record { base = s.base; size = n; rights = s.rights; role = s.role }) (length-with_bytes at more s)

-- bytes that are put leave each segment where it was
pub extents-put_at : {B : Type 0} (at : ℕ) (more : List B) (segments : List (Segment B)) → extents (put_at at more segments) ≡ extents segments
extents-put_at at more [] = refl
extents-put_at {B = B} at more (s ∷ segments) = by (holds at s) (extents-put_at at more segments)
  where
    by : (b : Bool) → extents (put_at at more segments) ≡ extents segments → extents (if b then with_bytes at more s ∷ segments else s ∷ put_at at more segments) ≡ extents (s ∷ segments)
    by true rest = ap (λ e. e ∷ extents segments) (extent-with_bytes at more s)
    by false rest = ap (λ es. extent_of s ∷ es) rest

-- the bytes of the segment that is taken
taken : {A B : Type 0} (a b : Bool) (x : Segment A) (y : Segment B) (u : Option (Segment A)) (v : Option (Segment B)) → a ≡ b → length x.bytes ≡ length y.bytes
    → length (option_map_or (λ s. s.bytes) u []) ≡ length (option_map_or (λ s. s.bytes) v [])
    → length (option_map_or (λ s. s.bytes) (if a then Some x else u) []) ≡ length (option_map_or (λ s. s.bytes) (if b then Some y else v) [])
taken true true x y u v e here rest = here
taken false false x y u v e here rest = rest
taken true false x y u v e here rest = absurd cc
taken false true x y u v e here rest = absurd cc

-- segments that lie alike have as many bytes of each role
pub length-bytes_of_role : {A B : Type 0} (test : Role → Bool) (xs : List (Segment A)) (ys : List (Segment B)) → extents xs ≡ extents ys → length (bytes_of_role test xs) ≡ length (bytes_of_role test ys)
length-bytes_of_role test [] [] e = refl
length-bytes_of_role test [] (y ∷ ys) e = absurd cc
length-bytes_of_role test (x ∷ xs) [] e = absurd cc
length-bytes_of_role test (x ∷ xs) (y ∷ ys) e =
    let here : extent_of x ≡ extent_of y = cc in
    taken (test x.role) (test y.role) x y (find (λ s. test s.role) xs) (find (λ s. test s.role) ys) (ap (λ (s : Extent). test s.role) here) (ap (λ (s : Extent). s.size) here) (length-bytes_of_role test xs ys cc)

-- segments that lie alike hold the same addresses
found-none : {A B : Type 0} (a b : Bool) (x : Segment A) (y : Segment B) (u : Option (Segment A)) (v : Option (Segment B)) → a ≡ b → (v ≡ None → u ≡ None) → (if b then Some y else v) ≡ None → (if a then Some x else u) ≡ None
found-none true true x y u v e rest none = absurd cc
found-none false false x y u v e rest none = rest none
found-none true false x y u v e rest none = absurd cc
found-none false true x y u v e rest none = absurd cc

pub holding-none : {A B : Type 0} (at : ℕ) (xs : List (Segment A)) (ys : List (Segment B)) → extents xs ≡ extents ys → holding ys at ≡ None → holding xs at ≡ None
holding-none at [] [] e none = refl
holding-none at [] (y ∷ ys) e none = refl
holding-none at (x ∷ xs) [] e none = absurd cc
holding-none at (x ∷ xs) (y ∷ ys) e none =
    let here : extent_of x ≡ extent_of y = cc in
    let same : holds at x ≡ holds at y = ap (λ (s : Extent). nat_le s.base at && nat_lt at (s.base + s.size)) here in
    found-none (holds at x) (holds at y) x y (holding xs at) (holding ys at) same (holding-none at xs ys cc) none
