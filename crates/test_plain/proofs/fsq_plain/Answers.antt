use Rattle.test_plain.proofs.fsq_plain.Goals as goal

pub returns : goal.returns
returns c =
    let t = c.response_plain-response.ensures in
    record { value = rw c.response_plain-response.ensures.value; out_after = c.response_plain-response.ensures.out_after; report_after = rw c.response_plain-response.ensures.value at c.write_report.ensures }
