use mathlib.Core.Path.{refl, sym, ◌∙◌}
use native.Mathlib.Omega.{arith}
use Rattle.fast_forms.proofs.Laws.{first_operand, second_operand}
use Rattle.fast_encoder.proofs.mov_from.Goals as goal

pub moffs_run-requires : goal.moffs_run-requires
moffs_run-requires c = (c.requires.0, (second_operand _ c.requires.0, (c.requires.1, omega arith)))

pub returns-then-is_acc_direct : goal.returns-then-is_acc_direct
returns-then-is_acc_direct c =
    λ off h. let z = c.moffs_run.ensures 1 off refl h in
    (z.0, rw (sym c.is_acc_direct.ensures ∙ c.if-is_acc_direct.true) z.1)

pub rm_reg-requires : goal.rm_reg-requires
rm_reg-requires c = (c.requires.0, (second_operand _ c.requires.0, (first_operand _ c.requires.0, (c.requires.1, omega arith))))

pub returns : goal.returns
returns c =
    λ off h. let z = c.rm_reg.ensures 1 off refl refl h in
    (z.0, rw (sym c.is_acc_direct.ensures ∙ c.if-is_acc_direct.false) z.1)
