use mathlib.Core.List.{[], ◌∷◌}
use Rattle.short_list.proofs.Laws.{whole_is}
use Rattle.short_list.proofs.two_read.Goals as goal

pub returns : goal.returns
returns c = rw (← (whole_is (c.args.a ∷ c.args.b ∷ []))) (rw c.read.ensures at c.is_whole.ensures)
