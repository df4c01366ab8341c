use native.Mathlib.Omega.{arith}
use borrow.Author.Tests.{ne_eqb}
use Rattle.fast_encoder.proofs.pop_sreg.Goals as goal

pub returns-then-rec-ne2 : goal.returns-then-rec-ne2
returns-then-rec-ne2 c = λ off h. absurd (omega arith)

pub returns-then-segment-eq1 : goal.returns-then-segment-eq1
returns-then-segment-eq1 c = λ off h. absurd (omega arith)

pub returns : goal.returns
returns c = λ off h. (c.if-rec-ne2.false, (ne_eqb _ _ c.if-segment-eq1.false, c.segment_run.ensures off h))
