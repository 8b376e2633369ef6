-- What an entry needs, by what its symbol stands for.
use Rattle.std.proofs.Common.{◌≡◌, inl, inr, ℕ, ◌==◌, ◌&&◌, Bool, true, false, Option, Some, None, refl, sym, ap, ◌∙◌}
use Rattle.std.specs.Option.{option_map_or}
use Rattle.std.proofs.lemmas.Bool.{cases_Bool, eqb-true}
use Rattle.ad_elf.specs.declared.elf.TheConstants.{R_RISCV_CALL, R_RISCV_CALL_PLT, R_RISCV_GOT_HI20}
use Rattle.ad_elf.specs.declared.object.Object.{Object}
use Rattle.ad_elf.specs.declared.object.Rela.{Rela}
use Rattle.ad_elf.specs.Relocation.{width}
use Rattle.ad_parts.specs.declared.layout.Layout.{Layout}
use Rattle.ad_tables.specs.declared.need.Need.{Need}
use Rattle.ad_tables.specs.declared.need.Need.TheVariants.{Nothing}
use Rattle.ad_tables.specs.declared.refusal.TableRefusal.TheVariants.{Unresolved}
use Rattle.ad_tables.specs.declared.resolved.Resolved.{Resolved}
use Rattle.ad_tables.specs.declared.resolved.Resolved.TheVariants.{Immovable, Import, Movable, Number}
use Rattle.ad_tables.specs.Tables.{in_movable, name_of_symbol, need, need_of, symbol_of, unresolved_row, uses_symbol}

-- a type that is passed over is none of those that need a word
other_type : (typ one : ℕ) → uses_symbol one ≡ true → uses_symbol typ ≡ false → (typ == one) ≡ false
other_type typ one used unused =
    elim (cases_Bool (typ == one)) [
      | inl same ↦ (let e = sym used ∙ ap uses_symbol (sym (eqb-true typ one same)) ∙ unused in cc)
      | inr other ↦ other
    ]

uses_got : uses_symbol R_RISCV_GOT_HI20 ≡ true
unfolding uses_symbol width
uses_got = refl

uses_call : uses_symbol R_RISCV_CALL ≡ true
unfolding uses_symbol width
uses_call = refl

uses_call_plt : uses_symbol R_RISCV_CALL_PLT ≡ true
unfolding uses_symbol width
uses_call_plt = refl

and_false : (b : Bool) → (b && false) ≡ false
and_false true = refl
and_false false = refl

need-unused : (part : Bool) (typ : ℕ) (s : Resolved) → uses_symbol typ ≡ false → need part typ s ≡ Nothing
unfolding need
need-unused part typ (Movable offset) e = rw (other_type typ R_RISCV_GOT_HI20 uses_got e, and_false) refl
need-unused part typ (Immovable offset) e = rw (other_type typ R_RISCV_GOT_HI20 uses_got e, other_type typ R_RISCV_CALL uses_call e, other_type typ R_RISCV_CALL_PLT uses_call_plt e, and_false) refl
need-unused part typ (Import service) e = rw (other_type typ R_RISCV_GOT_HI20 uses_got e, other_type typ R_RISCV_CALL uses_call e, other_type typ R_RISCV_CALL_PLT uses_call_plt e) refl
need-unused part typ (Number value) e = rw (other_type typ R_RISCV_GOT_HI20 uses_got e, other_type typ R_RISCV_CALL uses_call e, other_type typ R_RISCV_CALL_PLT uses_call_plt e) refl

map_or_nothing : (f : Resolved → Need) (x : Option Resolved) → ((s : Resolved) → f s ≡ Nothing) → option_map_or f x Nothing ≡ Nothing
map_or_nothing f None all = refl
map_or_nothing f (Some s) all = all s

pub need_of-unused : (o : Object) (l : Layout) (r : Rela) → uses_symbol r.typ ≡ false → need_of o l r ≡ Nothing
unfolding need_of
need_of-unused o l r e = map_or_nothing (need (in_movable l.spots r.target) r.typ) (symbol_of o l r) (λ s. need-unused (in_movable l.spots r.target) r.typ s e)

pub need_of-some : (o : Object) (l : Layout) (r : Rela) (s : Resolved) → symbol_of o l r ≡ Some s → need_of o l r ≡ need (in_movable l.spots r.target) r.typ s
unfolding need_of
need_of-some o l r s e = rw e refl

pub unresolved_row-unused : (o : Object) (l : Layout) (r : Rela) → uses_symbol r.typ ≡ false → unresolved_row o l r ≡ None
unfolding unresolved_row
unresolved_row-unused o l r e = rw e refl

pub unresolved_row-some : (o : Object) (l : Layout) (r : Rela) (s : Resolved) → symbol_of o l r ≡ Some s → unresolved_row o l r ≡ None
unfolding unresolved_row
unresolved_row-some o l r s e = rw (e, and_false) refl

pub unresolved_row-none : (o : Object) (l : Layout) (r : Rela) → uses_symbol r.typ ≡ true → symbol_of o l r ≡ None → unresolved_row o l r ≡ Some (Unresolved (name_of_symbol o.symbols r.symbol))
unfolding unresolved_row
unresolved_row-none o l r used e = rw (used, e) refl
