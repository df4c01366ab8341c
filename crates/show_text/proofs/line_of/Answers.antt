use Rattle.show_text.proofs.Laws.{line_made}
use lib.ListN.{take}
use lib.Seq.{length-take-le}
use mathlib.Core.Path.{sym}
use Rattle.show_text.proofs.line_of.Goals as goal

pub returns : goal.returns
returns c =
    let a = c.args in
    let size = length-take-le a.run.len a.run.bytes (rw c.requires.1 c.requires.0) in
    line_made a.offset (take a.run.len a.run.bytes) a.run.len (sym size) c.empty_line.ensures c.push_hex_word-place.ensures c.push-behind_place.ensures c.push_decimal-length.ensures c.push-behind_length.ensures c.push_run-bytes.ensures c.push.ensures
