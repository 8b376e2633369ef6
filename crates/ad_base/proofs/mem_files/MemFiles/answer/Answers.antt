use Rattle.std.proofs.Common.{inl, inr, refl}
use Rattle.ad_base.proofs.mem_files.MemFiles.answer.Goals as goal

-- no file has the name
pub returns-in_default-clause-answers : goal.returns-in_default-clause-answers
returns-in_default-clause-answers c =
    inr (rw (← c.self.view_is, ← c.as_slice.ensures.value, ← c.file_of.ensures, c.in_default.is) refl)

-- the call's number is to fail
pub returns-then-has_number-clause-answers : goal.returns-then-has_number-clause-answers
returns-then-has_number-clause-answers c =
    inl (rw (← c.self.view_is, ← c.as_slice-2.ensures.value, ← c.saturating_add.ensures) (c.has_number.ensures.0 c.if-has_number.true))
