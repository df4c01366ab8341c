use Rattle.base_values.proofs.Fronts.{Front}
use Rattle.short_list.specs.Short.{short_of}
use Rattle.short_list.specs.Text.{lines_of}
use lib.ListN.{length}
use mathlib.Core.Path.{◌≡◌}
use Rattle.short_list.proofs.write_lines.Given as goal

abbrev pub invariant-loop-k : goal.invariant-loop-k
invariant-loop-k l = record { count_is : l.count ≡ length (short_of l.k); end_is : l.end ≡ length (lines_of (short_of l.k)); front : Front (lines_of (short_of l.k)) l.initial.out l.out }
