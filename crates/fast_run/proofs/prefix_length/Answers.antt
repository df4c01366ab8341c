use borrow.Author.Tests.{eq-eqb, ne_eqb}
use native.Mathlib.Omega.{arith}
use mathlib.Core.Path.{refl}
use Rattle.fast_run.proofs.prefix_length.Goals as goal

pub returns-then-prefix-eq0 : goal.returns-then-prefix-eq0
returns-then-prefix-eq0 c = rw (eq-eqb _ _ c.if-prefix-eq0.true) (record { value = refl; small = omega arith })

pub returns : goal.returns
returns c = rw (ne_eqb _ _ c.if-prefix-eq0.false) (record { value = refl; small = omega arith })
