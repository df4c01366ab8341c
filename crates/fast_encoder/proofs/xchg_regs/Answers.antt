use mathlib.Core.Path.{◌≡◌, refl}
use native.Mathlib.Omega.{arith}
use borrow.Author.Tests.{ne_eqb}
use Rattle.fast_forms.proofs.Laws.{first_operand, second_operand}
use Rattle.fast_encoder.proofs.xchg_regs.Goals as goal

pub returns-then-rec-eq0 : goal.returns-then-rec-eq0
returns-then-rec-eq0 c = λ off h. rw (c.if-size-eq2.true, c.if-rec-eq0.true) (omega arith, c.reg_run.ensures 1 off refl h)

pub returns-then-rec-eq0-2 : goal.returns-then-rec-eq0-2
returns-then-rec-eq0-2 c = λ off h. rw (c.if-size-eq2.true, ne_eqb _ _ c.if-rec-eq0.false, c.if-rec-eq0-2.true) (omega arith, c.reg_run-then-rec-eq0-2.ensures 0 off refl h)

pub rm_reg-requires : goal.rm_reg-requires
rm_reg-requires c = (c.requires.0, (second_operand _ c.requires.0, (first_operand _ c.requires.0, (omega arith, omega arith))))

pub returns-then-size-eq2 : goal.returns-then-size-eq2
returns-then-size-eq2 c =
    λ off h. let z = c.rm_reg.ensures 1 off refl refl h in
    rw (c.if-size-eq2.true, ne_eqb _ _ c.if-rec-eq0.false, ne_eqb _ _ c.if-rec-eq0-2.false) (omega arith, z.1)

pub rm_reg-requires-2 : goal.rm_reg-requires-2
rm_reg-requires-2 c = (c.requires.0, (second_operand _ c.requires.0, (first_operand _ c.requires.0, (c.requires.1, omega arith))))

pub returns : goal.returns
returns c =
    λ off h. let z = c.rm_reg-2.ensures 1 off refl refl h in
    let n : c.args.size ≡ 1 = omega (arith, z.0, c.requires.1, c.if-size-eq2.false) in
    rw n (omega arith, rw n at z.1)
