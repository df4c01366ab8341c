use Rattle.foreign.proofs.convert.fsq_convert.Goals as goal

pub returns : goal.returns
returns c =
    let l = c.convert-answer.ensures in
    let t = rw c.convert-answer.ensures.value at c.response_converted-response.ensures in
    record { value = rw t; out_after = c.convert-answer.ensures.out_after; report_after = rw t at c.write_report.ensures }
