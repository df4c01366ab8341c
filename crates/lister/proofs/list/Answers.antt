use Rattle.std.proofs.lemmas.Result.{err_from_is_err_and}
use Rattle.lister.proofs.Accepted.{is_refused, short, too_short, listed_all}
use Rattle.lister.proofs.list.Goals as goal

pub returns-then-out-lt96 : goal.returns-then-out-lt96
returns-then-out-lt96 c =
    let at = c in
    let it = too_short c.args.insn c.args.offset c.ranges.offset.fits _ c.run_of.ensures c.in_ok-run.was c.args.out.now c.if-out-lt96.true in record { value = it.0; out_after = it.1 }

pub list_run-requires : goal.list_run-requires
list_run-requires c =
    let at = c in
    record { len_bound = short c.args.insn c.args.offset c.ranges.offset.fits _ c.run_of.ensures c.in_ok-run.was; in_bounds = c.if-out-lt96.false }

pub returns-in_err-run : goal.returns-in_err-run
returns-in_err-run c =
    let at = c in
    let p = err_from_is_err_and c.from_residual.result c.from_residual.ensures.1 in
    let q = is_refused c.args.insn c.args.offset c.ranges.offset.fits _ c.run_of.ensures _ c.in_err-run.was in
    record { value = rw (p.1, p.2, q); out_after = rw q }

pub returns : goal.returns
returns c =
    let at = c in
    let it = listed_all c.args.insn c.args.offset c.ranges.offset.fits _ c.run_of.ensures c.in_ok-run.was c.args.out.now c.if-out-lt96.false _ _
    c.list_run.ensures.value c.list_run.ensures.out_after in record { value = it.0; out_after = it.1 }
