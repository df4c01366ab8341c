use Rattle.text_line.proofs.Laws.{then}
use mathlib.Core.List.{[], ◌∷◌, ◌++◌}
use Rattle.text_line.specs.Numbers.{blank, line_feed, hex_byte}
use Rattle.text_form.specs.Lines.{digit_text, used_text, limits_text, form_line}
use Rattle.text_form.proofs.push_form.Goals as goal

pub returns : goal.returns
unfolding form_line
returns c =
    let at = c in
    let w = c.args.written in
    let end = line_feed ∷ [] in
    let limited = limits_text w.limits ++ end in
    let second = used_text 2 w.operands _ ++ limited in
    let first = used_text 1 w.operands _ ++ second in
    let extended = digit_text w.digit ++ first in
    then c.args.line (0x66 ∷ 0x6F ∷ 0x72 ∷ 0x6D ∷ blank ∷ []) (hex_byte w.opcode ++ extended) c.push_text-word.ensures
    (then _ (hex_byte w.opcode) extended c.push_hex_byte-opcode.ensures
    (then _ (digit_text w.digit) first c.push_digit-extended.ensures
    (then _ (used_text 1 w.operands _) second c.push_used-first.ensures
    (then _ (used_text 2 w.operands _) limited c.push_used-second.ensures
    (then _ (limits_text w.limits) end c.push_limits-limited.ensures c.push.ensures)))))
