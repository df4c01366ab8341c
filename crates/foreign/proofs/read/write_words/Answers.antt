use Rattle.foreign_report.proofs.Laws.{six}
use Rattle.foreign.proofs.read.write_words.Goals as goal

pub returns : goal.returns
returns c =
    six _ _ _ _ _ _ c.args.out.now c.put_three.new.report c.put_three-2.new.report c.requires
    c.put_three.ensures c.put_three-2.ensures
