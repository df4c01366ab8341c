use Rattle.std.proofs.Common.{◌≡◌, ◌-◌}
use Rattle.show_file.specs.Show.{first_from}
use Rattle.convert_passes.specs.Passes.{place}
use Rattle.check_spec.specs.Checking.{is_inside, record_around}
use Rattle.show_check.proofs.record_around.Given as goal

abbrev pub invariant-loop-k : goal.invariant-loop-k
invariant-loop-k l = record_around (place l.starts) l.n l.target ≡ first_from (is_inside (place l.starts) l.target) (l.n - l.k) l.k
