use Rattle.std.proofs.Common.{sym, ◌∙◌}
use Rattle.foreign.proofs.run.fsq_run.Goals as goal

pub returns-in-Ok : goal.returns-in-Ok
returns-in-Ok c =
    let r = c.run-ran.ensures in
    let e = sym c.run-ran.ensures.value ∙ c.in-Ok.is in
    record { value = rw e; log_after = c.run-ran.ensures.log_after; out_after = rw e c.write_result.ensures }

pub returns-in-Err : goal.returns-in-Err
returns-in-Err c =
    let r = c.run-ran.ensures in
    let e = sym c.run-ran.ensures.value ∙ c.in-Err.is in
    record { value = rw e c.number.ensures; log_after = c.run-ran.ensures.log_after; out_after = rw e c.write_result-in-Err.ensures }
