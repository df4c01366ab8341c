use Rattle.encode_form.proofs.Found.{form_of_run, question_of_refusal}
use Rattle.encoder.proofs.Laws.{is_refused, is_bytes}
use Rattle.encode_form.proofs.ground_of.Goals as goal

pub returns-in-Err : goal.returns-in-Err
returns-in-Err c =
    let at = c in
    rw (
      question_of_refusal c.args.insn c.args.offset c.ranges.offset.fits _
          (is_refused c.args.insn c.args.offset c.ranges.offset.fits _ c.run_of.ensures c.in-Err.is),
      c.question_of.ensures,
    )

pub returns-in-Ok : goal.returns-in-Ok
returns-in-Ok c =
    let at = c in
    let a = is_bytes c.args.insn c.args.offset c.ranges.offset.fits _ c.run_of.ensures c.in-Ok.is in
    rw (form_of_run c.args.insn c.args.offset c.ranges.offset.fits _ a.0 a.2 a.1, c.written_in.ensures)
