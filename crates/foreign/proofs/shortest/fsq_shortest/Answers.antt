use Rattle.foreign.proofs.shortest.fsq_shortest.Goals as goal

pub returns : goal.returns
returns c =
    let t = c.response_shortest-response.ensures in
    record { value = rw c.response_shortest-response.ensures.value; out_after = c.response_shortest-response.ensures.out_after; report_after = rw c.response_shortest-response.ensures.value at c.write_report.ensures }
