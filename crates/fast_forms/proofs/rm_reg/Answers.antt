use Rattle.std.proofs.Common.{arith}
use Rattle.fast_run.proofs.Laws.{ne_positive}
use Rattle.fast_forms.proofs.Laws.{in_reg, bit_is}
use Rattle.fast_forms.proofs.rm_reg.Goals as goal

pub returns-then-size-eq0 : goal.returns-then-size-eq0
returns-then-size-eq0 c = λ k off ek eo h. absurd (omega arith)

pub returns : goal.returns
returns c =
    λ k off ek eo h. let p = ne_positive _ c.if-size-eq0.false in
    (p, rw (bit_is _ p c.requires.1.1.1.0) (in_reg _ c.requires.0 k off _ _ _ _ ek eo c.rm_form.ensures))
