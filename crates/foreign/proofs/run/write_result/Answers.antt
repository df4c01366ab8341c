use Rattle.foreign.proofs.Laws.{result_written}
use borrow.Author.Tests.{lt-leb}
use Rattle.foreign.proofs.run.write_result.Goals as goal

pub returns-then-out-lt16 : goal.returns-then-out-lt16
returns-then-out-lt16 c = rw (lt-leb _ _ c.if-out-lt16.true)

pub returns : goal.returns
returns c =
    let a = c.args in
    result_written a.count a.n a.out.now c.put_three.new.report c.put_u32.new.report c.ranges.count.fits c.if-out-lt16.false
    c.put_three.ensures c.put_u32.ensures
