use native.Mathlib.Omega.{arith}
use Rattle.fast_encoder.proofs.Laws.{through_is, not_byte}
use Rattle.fast_encoder.proofs.call_memory.Goals as goal

pub returns-then-rec-eq1-2 : goal.returns-then-rec-eq1-2
returns-then-rec-eq1-2 c = λ off h. absurd (omega arith)

pub returns-then-rec-eq1 : goal.returns-then-rec-eq1
returns-then-rec-eq1 c = λ off h. rw (c.if-rec-eq1.true, not_byte _ _ _ c.requires.first.size c.if-rec-eq1-2.false) (c.rm_alone.ensures off h).1

pub returns : goal.returns
returns c =
    λ off h. let z = c.through.ensures off h in
    rw (through_is _ c.requires z.0 _ _ _ _) z.1
