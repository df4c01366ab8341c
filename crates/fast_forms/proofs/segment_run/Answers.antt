use Rattle.std.proofs.Common.{arith}
use Rattle.fast_forms.proofs.Laws.{in_segment}
use Rattle.fast_forms.proofs.segment_run.Goals as goal

pub overflow_add-op_code : goal.overflow_add-op_code
overflow_add-op_code c = omega (arith, c.requires.0.first.segment c.requires.1.0)

pub returns : goal.returns
returns c = λ off h. in_segment _ c.requires.0 off _ _ c.requires.1.0 c.requires.1.1 c.bare_run.ensures
