use Rattle.std.proofs.lemmas.Result.{err_from_is_err_and}
use Rattle.encoder.proofs.Laws.{len_of, refused_by, out_by}
use Rattle.shortest_encoder.specs.Shortest.{shortest_answer}
use Rattle.shortest_encoder.proofs.Short.{short_answer}
use Rattle.shortest_encoder.proofs.encode_shortest.Goals as goal

pub write_run-requires : goal.write_run-requires
write_run-requires c =
    let at = c in
    len_of _ c.in_ok-run.was (shortest_answer c.args.insn c.args.offset) (short_answer c.args.insn c.args.offset c.ranges.offset.fits) c.shortest_run.ensures

pub returns-in_err-run : goal.returns-in_err-run
returns-in_err-run c =
    let at = c in
    let p = err_from_is_err_and c.from_residual.result c.from_residual.ensures.1 in
    let q = refused_by _ (shortest_answer c.args.insn c.args.offset) c.shortest_run.ensures c.in_err-run.was in
    record { value = rw (p.1, p.2, q); out_after = rw q }

pub returns-then-write_run : goal.returns-then-write_run
returns-then-write_run c =
    let at = c in
    let w = c.write_run in
    let r = out_by _ c.in_ok-run.was c.args.insn.opers_span c.args.out.now (shortest_answer c.args.insn c.args.offset) _ w.result (short_answer c.args.insn c.args.offset c.ranges.offset.fits) c.shortest_run.ensures w.ensures.value w.ensures.out_after in
    record { value = rw c.if-write_run.true at r.0; out_after = r.1 }

pub returns-else-write_run : goal.returns-else-write_run
returns-else-write_run c =
    let at = c in
    let w = c.write_run in
    let r = out_by _ c.in_ok-run.was c.args.insn.opers_span c.args.out.now (shortest_answer c.args.insn c.args.offset) _ w.result (short_answer c.args.insn c.args.offset c.ranges.offset.fits) c.shortest_run.ensures w.ensures.value w.ensures.out_after in
    record { value = rw c.if-write_run.false at r.0; out_after = r.1 }
