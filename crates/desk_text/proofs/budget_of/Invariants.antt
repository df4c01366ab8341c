use Rattle.desk_text.proofs.Digits.{Read}
use Rattle.desk_text.proofs.budget_of.Given as goal

abbrev pub invariant-loop-byte : goal.invariant-loop-byte
invariant-loop-byte l = Read l.text l.byte-index l.value
