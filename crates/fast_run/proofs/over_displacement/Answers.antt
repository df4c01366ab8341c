use borrow.Author.Tests.{eq-eqb, ne_eqb}
use native.Mathlib.Omega.{arith}
use mathlib.Core.Path.{refl}
use Rattle.fast_run.proofs.over_displacement.Goals as goal

pub returns-then-size-eq0 : goal.returns-then-size-eq0
returns-then-size-eq0 c = rw (eq-eqb _ _ c.if-size-eq0.true) (record { value = refl; small = omega arith })

pub returns-then-size-eq1 : goal.returns-then-size-eq1
returns-then-size-eq1 c = rw (ne_eqb _ _ c.if-size-eq0.false, eq-eqb _ _ c.if-size-eq1.true) (record { value = omega arith; small = omega arith })

pub returns : goal.returns
returns c = rw (ne_eqb _ _ c.if-size-eq0.false, ne_eqb _ _ c.if-size-eq1.false) (record { value = omega arith; small = omega arith })
