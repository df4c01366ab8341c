use Prim.Native.Nat.{◌≤◌, ◌-◌, ◌+◌, ◌*◌}
use mathlib.Core.Path.{◌≡◌}
use lib.ListN.{length}
use Rattle.base_values.proofs.Fronts.{Front}
use Rattle.convert_spec.specs.OldStarts.{first_copy}
use Rattle.show_convert.proofs.Writing.{up_to}
use Rattle.show_convert.proofs.write_all.Given as goal

abbrev pub invariant-loop-k : goal.invariant-loop-k
invariant-loop-k l = Front (up_to l.file l.header l.k) l.initial.out l.out × (l.at ≡ 9 + 56 * first_copy l.file l.k) × (9 + 56 * l.c ≤ length l.initial.out)
