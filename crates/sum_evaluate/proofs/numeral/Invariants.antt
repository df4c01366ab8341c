use Rattle.std.proofs.Common.{length}
use Rattle.sum_evaluate.specs.Parts.{NumeralTo}
use Rattle.sum_evaluate.proofs.numeral.Given as goal

abbrev pub invariant-loop-rest : goal.invariant-loop-rest
invariant-loop-rest l = NumeralTo l.text l.number l.rest

abbrev pub decreases-loop-rest : goal.decreases-loop-rest
decreases-loop-rest l = length l.rest
