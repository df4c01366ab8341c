use Rattle.text_line.proofs.Laws.{text_more}
use Rattle.text_line.proofs.push_text.Goals as goal

pub loop-byte-preserved : goal.loop-byte-preserved
loop-byte-preserved c =
    let o = c.loop-byte in
    rw c.push-so_far.ensures (text_more c.args.line o.so_far c.args.text.now o.byte-index c.loop-byte-test.true o.invariant)
