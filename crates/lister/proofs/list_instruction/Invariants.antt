use mathlib.Core.Path.{◌≡◌}
use lib.ListN.{length}
use Rattle.lister.proofs.Runs.{Filled}
use Rattle.lister.proofs.list_instruction.Given as goal

abbrev pub invariant-loop-i : goal.invariant-loop-i
invariant-loop-i l = record { all : length l.keys ≡ 12; filled : Filled l.offset l.insn l.keys l.i }
