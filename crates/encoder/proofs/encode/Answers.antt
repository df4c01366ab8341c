use Rattle.std.proofs.lemmas.Result.{err_from_is_err_and}
use Rattle.encoder.proofs.Laws.{len_ok, is_refused, out_ok}
use Rattle.encoder.proofs.encode.Goals as goal

pub returns-in_err-run : goal.returns-in_err-run
returns-in_err-run c =
    let at = c in
    let p = err_from_is_err_and c.from_residual.result c.from_residual.ensures.1 in
    let q = is_refused c.args.insn c.args.offset c.ranges.offset.fits _ c.run_of.ensures c.in_err-run.was in
    record { value = rw (p.1, p.2, q); out_after = rw q }

pub write_run-requires : goal.write_run-requires
write_run-requires c =
    let at = c in
    len_ok c.args.insn c.args.offset c.ranges.offset.fits _ c.run_of.ensures c.in_ok-run.was

pub returns-then-write_run : goal.returns-then-write_run
returns-then-write_run c =
    let at = c in
    let w = c.write_run in
    let r = out_ok c.args.insn c.args.offset c.ranges.offset.fits _ c.run_of.ensures c.in_ok-run.was c.args.out.now _ w.result w.ensures.value w.ensures.out_after in
    record { value = rw c.if-write_run.true at r.0; out_after = r.1 }

pub returns-else-write_run : goal.returns-else-write_run
returns-else-write_run c =
    let at = c in
    let w = c.write_run in
    let r = out_ok c.args.insn c.args.offset c.ranges.offset.fits _ c.run_of.ensures c.in_ok-run.was c.args.out.now _ w.result w.ensures.value w.ensures.out_after in
    record { value = rw c.if-write_run.false at r.0; out_after = r.1 }
