use Rattle.base_values.proofs.Fronts.{Front}
use Rattle.show_load.proofs.Laws.{Upto}
use Rattle.show_load.specs.Loading.{walk, bytes_in}
use Rattle.std.proofs.Common.{◌-◌}
use Rattle.show_load.proofs.write_all.Given as goal

abbrev pub invariant-loop-k : goal.invariant-loop-k
invariant-loop-k l = Upto l.file l.origin l.k l.at × Front (bytes_in (walk l.file l.origin l.k)) l.initial.image l.image
