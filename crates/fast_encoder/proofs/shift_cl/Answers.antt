use native.Mathlib.Omega.{arith}
use Rattle.fast_encoder.proofs.shift_cl.Goals as goal

pub returns-then-rec-ne1 : goal.returns-then-rec-ne1
returns-then-rec-ne1 c = λ off h. absurd (omega arith)

pub returns-then-rec-ne1-2 : goal.returns-then-rec-ne1-2
returns-then-rec-ne1-2 c = λ off h. absurd (omega arith)

pub returns : goal.returns
returns c =
    λ off h. let z = c.rm_alone.ensures off h in
    (z.0, rw (c.if-rec-ne1.false, c.if-rec-ne1-2.false) z.1)
