use Rattle.foreign.proofs.cue.fsq_cue.Goals as goal

pub returns : goal.returns
returns c =
    let l = c.compile-answer.ensures in
    let t = rw c.compile-answer.ensures.value at c.response_compiled-response.ensures in
    record { value = rw t; image_after = c.compile-answer.ensures.image_after; report_after = rw t at c.write_report.ensures }
