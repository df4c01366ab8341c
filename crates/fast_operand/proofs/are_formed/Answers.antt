use Prim.Native.Nat.{◌-◌}
use native.Mathlib.Omega.{arith}
use Rattle.fast_run.proofs.Laws.{not_true}
use Rattle.fast_operand.proofs.Laws.{none, one_more, is_inside, both_formed}
use Rattle.fast_operand.proofs.are_formed.Goals as goal

pub loop-at-init : goal.loop-at-init
loop-at-init c = none

pub is_formed-requires : goal.is_formed-requires
is_formed-requires c = rw c.requires (is_inside c.loop-at.invariant c.loop-at-test.true)

pub loop-at-preserved : goal.loop-at-preserved
loop-at-preserved c = one_more c.loop-at.invariant c.loop-at-test.true (c.is_formed.ensures c.if-is_formed.true)

pub returns-else-is_formed : goal.returns-else-is_formed
returns-else-is_formed c = λ h. absurd (not_true h)

pub returns : goal.returns
returns c = λ h. both_formed c.loop-at.invariant (omega arith)
