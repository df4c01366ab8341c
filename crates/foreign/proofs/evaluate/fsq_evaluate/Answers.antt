use Rattle.foreign.proofs.evaluate.fsq_evaluate.Goals as goal

pub returns : goal.returns
returns c =
    let t = rw c.evaluate-answer.ensures at c.response_answer-response.ensures in
    record { value = rw t; report_after = rw t at c.write_report.ensures }
