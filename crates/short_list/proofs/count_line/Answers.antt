use mathlib.Core.List.{[], ◌∷◌}
use Rattle.text_line.specs.Numbers.{line_feed, decimal}
use Rattle.text_line.specs.Steps.{empty_line}
use Rattle.text_line.proofs.Laws.{then}
use Rattle.short_list.proofs.count_line.Goals as goal

pub returns : goal.returns
returns c = then empty_line (decimal c.args.n) (line_feed ∷ []) (rw c.empty_line.ensures at c.push_decimal-number.ensures) c.push.ensures
