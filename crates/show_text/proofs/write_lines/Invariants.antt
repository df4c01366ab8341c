use Rattle.show_text.proofs.Laws.{Lines}
use Rattle.show_text.proofs.write_lines.Given as goal

abbrev pub invariant-loop-k : goal.invariant-loop-k
invariant-loop-k l = Lines l.forms l.file l.origin l.k l.at l.to l.initial.out l.out
