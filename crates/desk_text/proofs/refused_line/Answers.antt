use mathlib.Core.List.{[], ◌∷◌, ◌++◌}
use Rattle.desk_run.specs.Running.{number_of}
use Rattle.text_line.specs.Numbers.{blank, line_feed, decimal}
use Rattle.text_line.specs.Steps.{empty_line}
use Rattle.text_line.proofs.Laws.{then}
use Rattle.desk_text.proofs.refused_line.Goals as goal

pub returns : goal.returns
returns c =
    let n = number_of c.args.error in
    then empty_line (0x72 ∷ 0x65 ∷ 0x66 ∷ 0x75 ∷ 0x73 ∷ 0x65 ∷ 0x64 ∷ blank ∷ []) (decimal n ++ (line_feed ∷ [])) (rw c.empty_line.ensures at c.push_text-word.ensures)
    (then c.push_text-word.result (decimal n) (line_feed ∷ []) (rw c.number.ensures at c.push_decimal-number.ensures) c.push.ensures)
