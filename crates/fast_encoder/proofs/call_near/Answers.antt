use native.Mathlib.Omega.{arith}
use Rattle.fast_encoder.proofs.Laws.{near_jump}
use Rattle.fast_encoder.proofs.call_near.Goals as goal

pub returns-then-rec-eq1 : goal.returns-then-rec-eq1
returns-then-rec-eq1 c = λ h. absurd (omega arith)

pub returns-then-rec-eq3 : goal.returns-then-rec-eq3
returns-then-rec-eq3 c = λ h. absurd (omega arith)

pub returns : goal.returns
returns c = λ h. rw (near_jump _ _ _ _ c.requires.first.jump c.if-rec-eq1.false c.if-rec-eq3.false) (c.near_run.ensures h)
