use Rattle.text_line.proofs.Laws.{then}
use Rattle.text_line.specs.Numbers.{hex_byte, hex_word}
use Prim.Native.Nat.{◌/◌, ◌%◌}
use Rattle.text_line.proofs.push_hex_word.Goals as goal

pub returns : goal.returns
unfolding hex_word
returns c =
    let a = c.args in
    then a.line (hex_byte (a.w / 256)) (hex_byte (a.w % 256)) c.push_hex_byte-first.ensures c.push_hex_byte.ensures
