use Rattle.std.proofs.Common.{◌≡◌, ◌-◌, length}
use Rattle.show_load.proofs.Laws.{Upto}
use Rattle.convert_laws.specs.Passed.{Table}
use Rattle.check_spec.specs.Checking.{start_of}
use Rattle.show_check.proofs.place_records.Given as goal

abbrev pub invariant-loop-k : goal.invariant-loop-k
invariant-loop-k l = Upto l.file l.origin l.k l.at × (length l.starts ≡ length l.initial.starts) × Table (start_of l.file l.origin) l.k l.starts
