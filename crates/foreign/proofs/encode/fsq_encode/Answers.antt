use Rattle.foreign.proofs.encode.fsq_encode.Goals as goal

pub returns : goal.returns
returns c =
    let t = c.response_record-response.ensures in
    record { value = rw c.response_record-response.ensures.value; out_after = c.response_record-response.ensures.out_after; report_after = rw c.response_record-response.ensures.value at c.write_report.ensures }
