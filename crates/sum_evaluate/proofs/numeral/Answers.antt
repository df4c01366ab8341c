use Rattle.std.proofs.Common.{arith, refl}
use Rattle.sum_evaluate.proofs.Laws.{one_digit, byte_and_rest}
use Rattle.sum_evaluate.proofs.numeral.Goals as goal

pub loop-rest-preserved : goal.loop-rest-preserved
loop-rest-preserved c =
    let rest = c.loop-rest.rest.now in
    one_digit _ _ _ _ rest _ c.loop-rest.invariant (byte_and_rest rest _ c.in-48-to-57.len_at_least refl) (omega arith) (omega arith) c.push_digit-number.ensures
