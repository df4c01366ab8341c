use borrow.Author.Tests.{lt-ltb, le-ltb}
use Rattle.short_list.proofs.string_reads.Goals as goal

pub returns-then-k-lt256 : goal.returns-then-k-lt256
returns-then-k-lt256 c = rw (lt-ltb _ _ c.if-k-lt256.true) c.one_reads.ensures

pub returns-else-k-lt256 : goal.returns-else-k-lt256
returns-else-k-lt256 c = rw (le-ltb _ _ c.if-k-lt256.false) c.two_read.ensures
