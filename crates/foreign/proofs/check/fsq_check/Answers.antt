use Rattle.foreign.proofs.check.fsq_check.Goals as goal

pub returns : goal.returns
returns c =
    let l = c.check-answer.ensures in
    let t = rw l at c.response_checked-response.ensures in
    record { value = rw t; report_after = rw t at c.write_report.ensures }
