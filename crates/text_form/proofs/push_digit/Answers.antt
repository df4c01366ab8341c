use Rattle.std.proofs.Common.{[], ◌∷◌}
use Rattle.text_line.proofs.Laws.{then}
use Rattle.text_line.specs.Numbers.{blank, decimal}
use Rattle.text_form.proofs.push_digit.Goals as goal

pub returns-in-Some : goal.returns-in-Some
returns-in-Some c = rw c.in-Some.is (then c.args.line (blank ∷ 0x2F ∷ []) (decimal _) c.push_text.ensures c.push_decimal.ensures)
