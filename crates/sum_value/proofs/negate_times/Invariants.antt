use Rattle.std.proofs.Common.{◌≡◌, ◌-◌}
use Rattle.sum_value.specs.Worth.{negations}
use Rattle.sum_value.proofs.negate_times.Given as goal

abbrev pub invariant-loop : goal.invariant-loop
invariant-loop l = negations (l.times - l.counter) l.value ≡ negations l.times l.initial.value
