use Prim.Native.Nat.{◌≤◌, ◌-◌, ◌*◌}
use mathlib.Core.Path.{◌≡◌}
use Rattle.convert_spec.specs.OldStarts.{first_copy}
use Rattle.convert_passes.proofs.total.Given as goal

abbrev pub invariant-loop-k : goal.invariant-loop-k
invariant-loop-k l = (l.sum ≡ first_copy l.file l.k) × (l.sum ≤ 31 * l.k)
