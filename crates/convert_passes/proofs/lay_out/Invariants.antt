use Prim.Native.Nat.{◌≤◌, ◌*◌, ◌-◌}
use mathlib.Core.Path.{◌≡◌}
use lib.ListN.{length}
use Rattle.show_file.specs.Show.{first_from}
use Rattle.convert_spec.specs.OldStarts.{is_refused, old_start, old_offset, old_answer, gain as gainOf}
use Rattle.convert_spec.specs.Converting.{first_refused}
use Rattle.convert_laws.specs.Passed.{Table}
use Rattle.convert_passes.proofs.lay_out.Given as goal

abbrev pub invariant-loop-k : goal.invariant-loop-k
invariant-loop-k l = (l.at ≡ old_start l.file l.origin l.k) × (l.at ≤ 8 * l.k) × (l.gain ≡ gainOf l.file l.origin l.k) × (length l.starts ≡ length l.initial.starts) × (length l.gains ≡ length l.initial.gains)
    × Table (old_offset l.file l.origin) l.k l.starts × Table (gainOf l.file l.origin) l.k l.gains
    × (first_refused l.file l.origin l.n ≡ first_from (λ i. is_refused (old_answer l.file l.origin i)) (l.n - l.k) l.k)
