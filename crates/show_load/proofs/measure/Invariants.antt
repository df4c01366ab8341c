use Rattle.show_load.proofs.Laws.{Upto}
use Rattle.std.proofs.Common.{◌-◌}
use Rattle.show_load.proofs.measure.Given as goal

abbrev pub invariant-loop-k : goal.invariant-loop-k
invariant-loop-k l = Upto l.file l.origin l.k l.at
