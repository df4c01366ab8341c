use Rattle.std.proofs.Common.{take}
use Rattle.text_line.proofs.Laws.{run_more}
use Rattle.show_text.proofs.push_run.Goals as goal

pub loop-byte-preserved : goal.loop-byte-preserved
loop-byte-preserved c =
    let o = c.loop-byte in
    run_more c.args.line o.so_far (take c.args.run.len c.args.run.bytes) o.byte-index c.loop-byte-test.true o.invariant c.push_hex_byte-so_far.ensures
