use mathlib.Core.Path.{sym, ◌∙◌}
use Rattle.std.proofs.lemmas.Result.{err_from_is_err_and}
use Rattle.lister.proofs.Accepted.{short}
use Rattle.shortest_encoder.proofs.Accepted.{refuses, own_run, stays, not_refused_read, finds}
use Rattle.shortest_encoder.proofs.shortest_run.Goals as goal

-- the first bytes tell
pub returns-then-is_first_run : goal.returns-then-is_first_run
returns-then-is_first_run c = stays c.args.insn c.args.offset c.ranges.offset.fits _ c.run_of.ensures c.in_ok-run.was (sym c.is_first_run.ensures ∙ c.if-is_first_run.true)

pub read_run-requires : goal.read_run-requires
read_run-requires c = short c.args.insn c.args.offset c.ranges.offset.fits _ c.run_of.ensures c.in_ok-run.was

pub shortest_of-requires : goal.shortest_of-requires
shortest_of-requires c = record { len_bound = short c.args.insn c.args.offset c.ranges.offset.fits _ c.run_of.ensures c.in_ok-run.was; own_value = own_run c.args.insn c.args.offset c.ranges.offset.fits _ c.run_of.ensures c.in_ok-run.was }

pub returns-in_err-run : goal.returns-in_err-run
returns-in_err-run c =
    let p = err_from_is_err_and c.from_residual.result c.from_residual.ensures.1 in
    rw (p.1, p.2) (refuses c.args.insn c.args.offset c.ranges.offset.fits _ c.run_of.ensures _ c.in_err-run.was)

pub returns-in-Ok : goal.returns-in-Ok
returns-in-Ok c = finds c.args.insn c.args.offset c.ranges.offset.fits _ c.run_of.ensures c.in_ok-run.was _ c.read_run.ensures _ _ _ c.in-Ok.is c.shortest_of.ensures

-- an accepted record's own string reads as its instruction
pub returns-in-Err : goal.returns-in-Err
returns-in-Err c = absurd (not_refused_read c.args.insn c.args.offset c.ranges.offset.fits _ c.run_of.ensures c.in_ok-run.was _ c.read_run.ensures _ c.in-Err.is)
