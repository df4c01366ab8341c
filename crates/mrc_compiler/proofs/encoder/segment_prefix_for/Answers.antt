use native.Mathlib.Omega.{arith}
use Rattle.mrc_compiler.proofs.Laws.{segment_below}
use Rattle.mrc_compiler.proofs.encoder.segment_prefix_for.Goals as goal

pub overflow_mul-result : goal.overflow_mul-result
overflow_mul-result c = omega (arith, segment_below c.args.seg)

pub overflow_add-result : goal.overflow_add-result
overflow_add-result c = omega (arith, segment_below c.args.seg)
