-- Headers, symbols and relocations, read where their bytes stand.
use Rattle.std.proofs.Common.{◌≡◌, inl, inr, ℕ, ℤ, ◌+◌, ◌^◌, ◌<◌, pos, negsuc, List, ◌++◌, drop, get_or, slice_index, refl, sym, ap, ◌∙◌, arith, drop-drop, get_or-drop, replicate, FitsSigned}
use Rattle.std.specs.Int.{cast_signed, cast_unsigned, w64}
use Rattle.std.proofs.Math.Nat.{mod-eq_of_lt}
use Rattle.std.proofs.lemmas.Bool.{cases_lt, le-ltb, lt-ltb}
use Rattle.std.proofs.lemmas.Int.{ints, to_z-of_z}
use Rattle.byteorder.specs.Endian.{little_bytes, little_number, twos_complement}
use Rattle.byteorder.specs.Numbers.{little_number-reads_back}
use Rattle.ad_elf.specs.declared.file.RelaEntry.{RelaEntry}
use Rattle.ad_elf.specs.declared.file.SectionHeader.{SectionHeader}
use Rattle.ad_elf.specs.declared.file.SymbolEntry.{SymbolEntry}
use Rattle.ad_elf.specs.Fields.{header_at, i64_at, rela_at, symbol_at, u16_at, u32_at, u64_at}

-- a number of so many bytes, which stands behind others
number_at : (n k x : ℕ) (file whole rest : List ℕ) (at : ℕ) → drop at file ≡ whole → drop k whole ≡ little_bytes n x ++ rest → x < 256 ^ n → little_number n (drop (at + k) file) ≡ x
number_at n k x file whole rest at here inside fits =
    ap (little_number n) (sym (drop-drop k at file) ∙ ap (λ (xs : List ℕ). drop k xs) here ∙ inside) ∙ little_number-reads_back n x rest fits

-- a header of these fields, and its bytes
abbrev pub section_header : ℕ → ℕ → ℕ → ℕ → ℕ → ℕ → ℕ → ℕ → ℕ → SectionHeader
section_header n t f o s l i a e = record { name = n; typ = t; flags = f; offset = o; size = s; link = l; info = i; align = a; entry_size = e }

abbrev pub header_bytes : ℕ → ℕ → ℕ → ℕ → ℕ → ℕ → ℕ → ℕ → ℕ → List ℕ
header_bytes n t f o s l i a e =
    little_bytes 4 n ++ little_bytes 4 t ++ little_bytes 8 f ++ little_bytes 8 0 ++ little_bytes 8 o ++ little_bytes 8 s ++ little_bytes 4 l ++ little_bytes 4 i ++ little_bytes 8 a ++ little_bytes 8 e

-- The numbers of a header fit their fields.
pub record IsHeaderFit (n t f o s l i a e : ℕ) : Type 0 where
  pub name : n < 2 ^ 32
  pub typ : t < 2 ^ 32
  pub flags : f < 2 ^ 64
  pub offset : o < 2 ^ 64
  pub size : s < 2 ^ 64
  pub link : l < 2 ^ 32
  pub info : i < 2 ^ 32
  pub align : a < 2 ^ 64
  pub entry_size : e < 2 ^ 64

pub header_at-bytes : (file rest : List ℕ) (at n t f o s l i a e : ℕ) → IsHeaderFit n t f o s l i a e → drop at file ≡ header_bytes n t f o s l i a e ++ rest → header_at file at ≡ section_header n t f o s l i a e
unfolding header_at u32_at u64_at
header_at-bytes file rest at n t f o s l i a e fits here =
    let whole = header_bytes n t f o s l i a e ++ rest in
    let name = ap (little_number 4) here ∙ little_number-reads_back 4 n (drop 4 whole) fits.name in
    let typ = number_at 4 4 t file whole (drop 8 whole) at here refl fits.typ in
    let flags = number_at 8 8 f file whole (drop 16 whole) at here refl fits.flags in
    let offset = number_at 8 24 o file whole (drop 32 whole) at here refl fits.offset in
    let size = number_at 8 32 s file whole (drop 40 whole) at here refl fits.size in
    let link = number_at 4 40 l file whole (drop 44 whole) at here refl fits.link in
    let info = number_at 4 44 i file whole (drop 48 whole) at here refl fits.info in
    let align = number_at 8 48 a file whole (drop 56 whole) at here refl fits.align in
    let entry_size = number_at 8 56 e file whole (drop 64 whole) at here refl fits.entry_size in
    λ k. section_header (name k) (typ k) (flags k) (offset k) (size k) (link k) (info k) (align k) (entry_size k)

-- a symbol of these fields, and its bytes
abbrev pub symbol_entry : ℕ → ℕ → ℕ → ℕ → ℕ → SymbolEntry
symbol_entry n i x v s = record { name = n; info = i; shndx = x; value = v; size = s }

abbrev pub symbol_bytes : ℕ → ℕ → ℕ → ℕ → ℕ → List ℕ
symbol_bytes n i x v s = little_bytes 4 n ++ little_bytes 1 i ++ little_bytes 1 0 ++ little_bytes 2 x ++ little_bytes 8 v ++ little_bytes 8 s

byte_at : (x : ℕ) (file whole : List ℕ) (at : ℕ) → drop at file ≡ whole → slice_index whole 4 ≡ x → slice_index file (at + 4) ≡ x
byte_at x file whole at here inside = sym (get_or-drop at file 4 0) ∙ ap (λ (xs : List ℕ). get_or xs 4 0) here ∙ inside

pub symbol_at-bytes : (file rest : List ℕ) (at n i x v s : ℕ) → n < 2 ^ 32 → i < 2 ^ 8 → x < 2 ^ 16 → v < 2 ^ 64 → s < 2 ^ 64 → drop at file ≡ symbol_bytes n i x v s ++ rest → symbol_at file at ≡ symbol_entry n i x v s
unfolding symbol_at u16_at u32_at u64_at
symbol_at-bytes file rest at n i x v s fn fi fx fv fs here =
    let whole = symbol_bytes n i x v s ++ rest in
    let named = ap (little_number 4) here ∙ little_number-reads_back 4 n (drop 4 whole) fn in
    let info = byte_at i file whole at here (mod-eq_of_lt fi) in
    let shndx = number_at 2 6 x file whole (drop 8 whole) at here refl fx in
    let value = number_at 8 8 v file whole (drop 16 whole) at here refl fv in
    let size = number_at 8 16 s file whole (drop 24 whole) at here refl fs in
    λ k. symbol_entry (named k) (info k) (shndx k) (value k) (size k)

pub symbol_at-zeros : (file rest : List ℕ) (at : ℕ) → drop at file ≡ replicate 24 0 ++ rest → symbol_at file at ≡ symbol_entry 0 0 0 0 0
symbol_at-zeros file rest at here = symbol_at-bytes file rest at 0 0 0 0 0 (omega arith) (omega arith) (omega arith) (omega arith) (omega arith) here

-- a relocation of these fields, and its bytes
abbrev pub rela_entry : ℕ → ℕ → ℤ → RelaEntry
rela_entry o i a = record { offset = o; info = i; addend = a }

abbrev pub rela_bytes : ℕ → ℕ → ℤ → List ℕ
rela_bytes o i a = little_bytes 8 o ++ little_bytes 8 i ++ little_bytes 8 (cast_unsigned w64 a)

unsigned_small : (z : ℤ) → FitsSigned w64 z → cast_unsigned w64 z < 2 ^ 64
unsigned_small (pos n) fits = let small : n < 2 ^ 63 = fits.sfits in omega arith
unsigned_small (negsuc n) fits = omega arith

-- bits as a number with a sign
signed_bits : (n : ℕ) → n < 2 ^ 64 → twos_complement 8 n ≡ cast_signed w64 n
signed_bits n fits = elim (cases_lt n (2 ^ 63)) [
  | inl low ↦ rw (lt-ltb n (2 ^ 63) low) refl
  | inr high ↦ rw (le-ltb n (2 ^ 63) high) (omega (arith, ints))
]

pub rela_at-bytes : (file rest : List ℕ) (at o i : ℕ) (a : ℤ) → o < 2 ^ 64 → i < 2 ^ 64 → FitsSigned w64 a → drop at file ≡ rela_bytes o i a ++ rest → rela_at file at ≡ rela_entry o i a
unfolding rela_at i64_at u64_at
rela_at-bytes file rest at o i a fo fi fa here =
    let whole = rela_bytes o i a ++ rest in
    let offset = ap (little_number 8) here ∙ little_number-reads_back 8 o (drop 8 whole) fo in
    let info = number_at 8 8 i file whole (drop 16 whole) at here refl fi in
    let bits = number_at 8 16 (cast_unsigned w64 a) file whole (drop 24 whole) at here refl (unsigned_small a fa) in
    let addend = ap (twos_complement 8) bits ∙ signed_bits (cast_unsigned w64 a) (unsigned_small a fa) ∙ to_z-of_z w64 a fa in
    λ k. rela_entry (offset k) (info k) (addend k)
