use Prim.Native.Nat.{◌-◌}
use Rattle.base_values.proofs.Fronts.{Front}
use Rattle.convert_spec.specs.Written.{copies}
use Rattle.show_convert.proofs.put_copies.Given as goal

abbrev pub invariant-loop-made : goal.invariant-loop-made
invariant-loop-made l = Front (copies l.made l.rec) l.initial.out l.out
