use Rattle.foreign.proofs.list.fsq_list.Goals as goal

pub returns : goal.returns
returns c =
    let t = c.response_listing-response.ensures in
    record { value = rw c.response_listing-response.ensures.value; out_after = c.response_listing-response.ensures.out_after; report_after = rw c.response_listing-response.ensures.value at c.write_report.ensures }
