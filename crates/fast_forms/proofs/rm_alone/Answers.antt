use Rattle.std.proofs.Common.{arith}
use Rattle.fast_run.proofs.Laws.{ne_positive}
use Rattle.fast_forms.proofs.Laws.{alone, bit_is, none, first_operand}
use Rattle.fast_forms.proofs.rm_alone.Goals as goal

pub returns-then-size-eq0 : goal.returns-then-size-eq0
returns-then-size-eq0 c = λ off h. absurd (omega arith)

pub rm_form-requires : goal.rm_form-requires
rm_form-requires c = (c.requires.0, (first_operand _ c.requires.0, (c.requires.1.1.1, none)))

pub returns : goal.returns
returns c =
    λ off h. let p = ne_positive _ c.if-size-eq0.false in
    (p, rw (bit_is _ p c.requires.1.0) (alone _ c.requires.0 off _ _ _ c.rm_form.ensures))
