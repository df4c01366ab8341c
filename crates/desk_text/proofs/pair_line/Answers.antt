use mathlib.Core.List.{[], ◌∷◌, ◌++◌}
use Rattle.text_line.specs.Numbers.{blank, line_feed, hex_byte}
use Rattle.text_line.specs.Steps.{empty_line}
use Rattle.text_line.proofs.Laws.{then, byte}
use Rattle.desk_text.proofs.pair_line.Goals as goal

pub returns : goal.returns
returns c =
    let a = c.args in
    then empty_line (hex_byte a.port) (blank ∷ hex_byte a.mask ++ (line_feed ∷ [])) (rw c.empty_line.ensures at c.push_hex_byte-first.ensures)
    (byte c.push_hex_byte-first.result blank (hex_byte a.mask ++ (line_feed ∷ [])) c.push-behind.ensures
    (then c.push-behind.result (hex_byte a.mask) (line_feed ∷ []) c.push_hex_byte-second.ensures c.push.ensures))
