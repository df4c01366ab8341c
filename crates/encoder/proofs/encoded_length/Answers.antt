use Rattle.std.proofs.lemmas.Result.{err_from_is_err_and}
use Rattle.encoder.proofs.Laws.{is_refused, length_ok}
use Rattle.encoder.proofs.encoded_length.Goals as goal

pub returns-in_err-run : goal.returns-in_err-run
returns-in_err-run c =
    let at = c in
    let p = err_from_is_err_and c.from_residual.result c.from_residual.ensures.1 in
    rw (p.1, p.2, is_refused c.args.insn c.args.offset c.ranges.offset.fits _ c.run_of.ensures c.in_err-run.was)

pub returns : goal.returns
returns c =
    let at = c in
    length_ok c.args.insn c.args.offset c.ranges.offset.fits _ c.run_of.ensures c.in_ok-run.was
