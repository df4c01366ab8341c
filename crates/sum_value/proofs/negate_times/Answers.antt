use Rattle.std.proofs.Common.{◌≡◌, ℕ, suc, ◌+◌, ◌-◌, ◌<◌, ◌≤◌, arith, ◌∙◌, Option, ℤ}
use Rattle.sum_spec.specs.Sums.{negated}
use Rattle.sum_value.specs.Worth.{negations}
use Rattle.sum_value.proofs.negate_times.Goals as goal

one_less : (n i : ℕ) (v w : Option ℤ) → i < n → w ≡ negated v → negations (n - (i + 1)) w ≡ negations (n - i) v
one_less n i v w l e =
    let z : n - i ≡ suc (n - (i + 1)) = omega arith in
    rw (z, e)

none_left : (n i : ℕ) (v : Option ℤ) → n ≤ i → v ≡ negations (n - i) v
none_left n i v l = let z : n - i ≡ 0 = omega arith in rw z

pub loop-preserved : goal.loop-preserved
loop-preserved c = one_less c.args.times c.loop.counter c.loop.value c.negate-value.result c.loop-test.true c.negate-value.ensures ∙ c.loop.invariant

pub returns : goal.returns
returns c = none_left c.args.times c.loop.counter c.loop.value c.loop-test.false ∙ c.loop.invariant
