use mathlib.Core.List.{[], ◌∷◌, ◌++◌}
use Rattle.text_line.specs.Numbers.{blank, line_feed, long_decimal}
use Rattle.text_line.specs.Steps.{empty_line}
use Rattle.text_line.proofs.Laws.{then}
use Rattle.desk_text.proofs.halted_line.Goals as goal

pub returns : goal.returns
returns c =
    let n = c.args.count in
    then empty_line (0x68 ∷ 0x61 ∷ 0x6C ∷ 0x74 ∷ 0x65 ∷ 0x64 ∷ blank ∷ []) (long_decimal n ++ (line_feed ∷ [])) (rw c.empty_line.ensures at c.push_text-word.ensures)
    (then c.push_text-word.result (long_decimal n) (line_feed ∷ []) c.push_long-number.ensures c.push.ensures)
