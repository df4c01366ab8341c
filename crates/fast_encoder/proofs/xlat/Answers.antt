use native.Mathlib.Omega.{arith}
use Rattle.fast_encoder.proofs.xlat.Goals as goal

pub returns-then-rec-ne2 : goal.returns-then-rec-ne2
returns-then-rec-ne2 c = λ off h. absurd (omega arith)

pub returns-then-rec-ne0 : goal.returns-then-rec-ne0
returns-then-rec-ne0 c = λ off h. absurd (omega arith)

pub returns-then-rec-ne7 : goal.returns-then-rec-ne7
returns-then-rec-ne7 c = λ off h. absurd (omega arith)

pub returns : goal.returns
returns c = λ off h. (c.if-rec-ne2.false, (rw (c.if-rec-ne0.false, c.if-rec-ne7.false), c.xlat_run.ensures off h))
