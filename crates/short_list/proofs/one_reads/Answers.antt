use mathlib.Core.List.{[], ◌∷◌}
use Rattle.short_list.proofs.Laws.{whole_is}
use Rattle.short_list.proofs.one_reads.Goals as goal

pub returns : goal.returns
returns c = rw (← (whole_is (c.args.a ∷ []))) (rw c.read.ensures at c.is_whole.ensures)
