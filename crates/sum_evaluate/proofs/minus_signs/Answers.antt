use Rattle.std.proofs.Common.{arith}
use Rattle.sum_evaluate.proofs.Laws.{one_sign, byte_and_rest}
use Rattle.sum_evaluate.proofs.minus_signs.Goals as goal

pub loop-rest-preserved : goal.loop-rest-preserved
loop-rest-preserved c =
    let rest = c.loop-rest.rest.now in
    one_sign _ _ rest _ c.loop-rest.invariant (byte_and_rest rest 0x2D c.in-45.len_at_least (omega arith))
