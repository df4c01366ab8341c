use Prim.Native.Nat.{◌-◌}
use Rattle.fast_operand.proofs.Laws.{Before}
use Rattle.fast_operand.proofs.are_formed.Given as goal

abbrev pub invariant-loop-at : goal.invariant-loop-at
invariant-loop-at l = Before l.rec l.at

abbrev pub decreases-loop-at : goal.decreases-loop-at
decreases-loop-at l = 56 - l.at
