use native.Mathlib.Omega.{arith}
use Rattle.fast_encoder.proofs.Laws.{not_byte}
use Rattle.fast_encoder.proofs.through.Goals as goal

pub returns-then-rec-eq1 : goal.returns-then-rec-eq1
returns-then-rec-eq1 c = λ off h. absurd (omega arith)

pub returns-then-rec-eq3 : goal.returns-then-rec-eq3
returns-then-rec-eq3 c = λ off h. absurd (omega arith)

pub returns-then-rec-eq1-2 : goal.returns-then-rec-eq1-2
returns-then-rec-eq1-2 c = λ off h. absurd (omega arith)

pub returns : goal.returns
returns c = λ off h. (record { not_far = c.if-rec-eq1.false; not_short = c.if-rec-eq3.false; not_byte = c.if-rec-eq1-2.false }, (c.rm_alone.ensures off h).1)
