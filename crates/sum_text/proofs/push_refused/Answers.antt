use Rattle.text_line.proofs.Laws.{then}
use mathlib.Core.List.{[], ◌∷◌, ◌++◌}
use Rattle.text_line.specs.Numbers.{blank, line_feed, decimal}
use Rattle.sum_text.proofs.push_refused.Goals as goal

pub returns : goal.returns
returns c =
    let a = c.args in
    then a.line (0x72 ∷ 0x65 ∷ 0x66 ∷ 0x75 ∷ 0x73 ∷ 0x65 ∷ 0x64 ∷ blank ∷ []) (decimal a.number ++ (line_feed ∷ [])) c.push_text-word.ensures
    (then _ (decimal a.number) (line_feed ∷ []) c.push_decimal.ensures c.push.ensures)
