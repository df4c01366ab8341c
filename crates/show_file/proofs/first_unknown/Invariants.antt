use Rattle.std.proofs.Common.{◌≡◌, ◌-◌}
use Rattle.show_file.specs.Show.{first_from, first_unknown, is_unknown}
use Rattle.show_file.proofs.first_unknown.Given as goal

abbrev pub invariant-loop-k : goal.invariant-loop-k
invariant-loop-k l = first_unknown l.file l.n ≡ first_from (is_unknown l.file) (l.n - l.k) l.k
