use mathlib.Core.Path.{◌≡◌}
use native.Mathlib.Omega.{arith}
use Rattle.fast_operand.proofs.is_in_size.Goals as goal

pub returns-then-size-eq0 : goal.returns-then-size-eq0
returns-then-size-eq0 c = rw c.if-size-eq0.true c.in_range.ensures

pub returns-then-size-eq1 : goal.returns-then-size-eq1
returns-then-size-eq1 c = rw c.if-size-eq1.true c.in_range-then-size-eq1.ensures

pub returns : goal.returns
returns c =
    let e : c.args.size ≡ 2 = omega (arith, c.if-size-eq0.false, c.if-size-eq1.false) in
    rw e c.in_range-2.ensures
