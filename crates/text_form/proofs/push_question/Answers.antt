use Rattle.text_line.proofs.Laws.{then}
use mathlib.Core.List.{[], ◌∷◌, ◌++◌}
use Rattle.text_line.specs.Numbers.{blank, line_feed, decimal}
use Rattle.text_form.specs.Lines.{question_line}
use Rattle.text_form.proofs.push_question.Goals as goal

pub returns : goal.returns
unfolding question_line
returns c =
    then c.args.line (0x71 ∷ 0x75 ∷ 0x65 ∷ 0x73 ∷ 0x74 ∷ 0x69 ∷ 0x6F ∷ 0x6E ∷ blank ∷ []) (decimal c.args.number ++ (line_feed ∷ [])) c.push_text-word.ensures
    (then _ (decimal c.args.number) (line_feed ∷ []) c.push_decimal-question.ensures c.push.ensures)
