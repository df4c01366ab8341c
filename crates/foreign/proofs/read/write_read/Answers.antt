use Rattle.foreign_report.proofs.Laws.{six}
use Rattle.foreign.proofs.read.write_read.Goals as goal

pub returns : goal.returns
returns c =
    let a = c.args in
    six _ _ _ _ _ _ a.out.now c.put_three.new.report c.put_three-2.new.report c.requires
    (rw (c.head_of-head.ensures, c.extension_word-digit.ensures, c.operand_head-a.ensures) at c.put_three.ensures)
    (rw (c.operand_values-b.ensures, c.operand_head-c.ensures, c.operand_values-d.ensures) at c.put_three-2.ensures)
