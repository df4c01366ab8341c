use mathlib.Core.Path.{refl}
use native.Mathlib.Omega.{arith}
use Rattle.fast_forms.proofs.Laws.{first_operand, second_operand}
use Rattle.fast_encoder.proofs.mov_sreg.Goals as goal

pub returns-then-size-ne2 : goal.returns-then-size-ne2
returns-then-size-ne2 c = λ off h. absurd (omega arith)

pub rm_reg-requires : goal.rm_reg-requires
rm_reg-requires c = (c.requires, (first_operand _ c.requires, (second_operand _ c.requires, (omega arith, omega arith))))

pub returns : goal.returns
returns c =
    λ off h. let z = c.rm_reg.ensures 0 off refl refl h in
    rw c.if-size-ne2.false (omega arith, z.1)
