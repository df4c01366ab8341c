use Rattle.show_file.specs.Show.{first_from}
use Rattle.show_load.proofs.Laws.{Upto}
use Rattle.show_load.specs.Loading.{first_over, is_over}
use Rattle.std.proofs.Common.{◌≡◌, ◌-◌, ◌≤◌}
use Rattle.show_load.proofs.first_over.Given as goal

abbrev pub invariant-loop-k : goal.invariant-loop-k
invariant-loop-k l = (l.at ≤ l.size) × Upto l.file l.origin l.k l.at × (first_over l.file l.origin l.size l.n ≡ first_from (is_over l.file l.origin l.size) (l.n - l.k) l.k)
