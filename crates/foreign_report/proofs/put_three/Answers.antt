use Rattle.foreign_report.proofs.Laws.{three}
use Rattle.foreign_report.proofs.put_three.Goals as goal

pub returns : goal.returns
returns c =
    three c.args.report.now c.put_u32.new.report c.put_u32-2.new.report c.put_u32-3.new.report c.args.at c.args.a c.args.b c.args.c
    c.put_u32.ensures c.put_u32-2.ensures c.put_u32-3.ensures
