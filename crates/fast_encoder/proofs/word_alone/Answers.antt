use native.Mathlib.Omega.{arith}
use Rattle.fast_encoder.proofs.word_alone.Goals as goal

pub returns-then-rec-ne2 : goal.returns-then-rec-ne2
returns-then-rec-ne2 c = λ off h. absurd (omega arith)

pub returns : goal.returns
returns c = λ off h. (c.if-rec-ne2.false, (c.rm_alone.ensures off h).1)
