use Rattle.encoder.proofs.Laws.{Before}
use Rattle.encoder.proofs.require_well_formed.Given as goal

abbrev pub invariant-loop-oper : goal.invariant-loop-oper
invariant-loop-oper l = Before l.insn l.oper-index
