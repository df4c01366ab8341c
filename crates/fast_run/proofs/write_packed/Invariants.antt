use mathlib.Core.Path.{◌≡◌}
use mathlib.Core.List.{◌++◌}
use Prim.Native.Nat.{◌≤◌, ◌-◌}
use lib.ListN.{length, take, drop}
use Rattle.fast_run.specs.Packed.{unpacked}
use Rattle.fast_run.proofs.Laws.{behind}
use Rattle.fast_run.proofs.write_packed.Given as goal

abbrev pub invariant-loop-i : goal.invariant-loop-i
invariant-loop-i l = (l.i ≤ l.n) × (l.bits ≡ behind l.i l.packed) × (length l.out ≡ length l.initial.out) × (l.out ≡ take l.i (unpacked l.packed) ++ drop l.i l.initial.out)

abbrev pub decreases-loop-i : goal.decreases-loop-i
decreases-loop-i l = l.n - l.i
