use Rattle.foreign.proofs.load.fsq_load.Goals as goal

pub returns : goal.returns
returns c =
    let l = c.load-answer.ensures in
    let t = rw c.load-answer.ensures.value at c.response_loaded-response.ensures in
    record { value = rw t; image_after = c.load-answer.ensures.image_after; report_after = rw t at c.write_report.ensures }
