use borrow.Author.Tests.{ne_eqb}
use Rattle.fast_encoder.proofs.test_imm.Goals as goal

pub returns-then-rec-eq0 : goal.returns-then-rec-eq0
returns-then-rec-eq0 c =
    λ off h. let z = c.bare_imm.ensures off h in
    (z.0, rw c.if-rec-eq0.true z.1)

pub returns : goal.returns
returns c =
    λ off h. let z = c.rm_imm.ensures off h in
    (z.0, rw (ne_eqb _ _ c.if-rec-eq0.false) z.1)
