use Rattle.foreign.proofs.form.fsq_form.Goals as goal

pub returns : goal.returns
returns c =
    let t = c.response_form-response.ensures in
    record { value = rw c.response_form-response.ensures.value; out_after = c.response_form-response.ensures.out_after; report_after = rw c.response_form-response.ensures.value at c.write_report.ensures }
