use mathlib.Core.Path.{refl}
use native.Mathlib.Omega.{arith}
use borrow.Author.Tests.{ne_eqb}
use Rattle.fast_forms.proofs.Laws.{first_operand, second_operand}
use Rattle.fast_encoder.proofs.mov_into_sreg.Goals as goal

pub returns-then-size-ne2 : goal.returns-then-size-ne2
returns-then-size-ne2 c = λ off h. absurd (omega arith)

pub returns-then-rec-eq1 : goal.returns-then-rec-eq1
returns-then-rec-eq1 c = λ off h. absurd (omega arith)

pub rm_reg-requires : goal.rm_reg-requires
rm_reg-requires c = (c.requires, (second_operand _ c.requires, (first_operand _ c.requires, (omega arith, omega arith))))

pub returns : goal.returns
returns c =
    λ off h. let z = c.rm_reg.ensures 1 off refl refl h in
    rw (c.if-size-ne2.false, ne_eqb _ _ c.if-rec-eq1.false) (omega arith, z.1)
