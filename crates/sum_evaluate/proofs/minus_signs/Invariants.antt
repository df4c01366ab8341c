use Rattle.std.proofs.Common.{length}
use Rattle.sum_evaluate.specs.Parts.{SignsTo}
use Rattle.sum_evaluate.proofs.minus_signs.Given as goal

abbrev pub invariant-loop-rest : goal.invariant-loop-rest
invariant-loop-rest l = SignsTo l.text l.count l.rest

abbrev pub decreases-loop-rest : goal.decreases-loop-rest
decreases-loop-rest l = length l.rest
