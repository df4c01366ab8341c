use borrow.Author.Tests.{le-leb, lt-leb}
use Rattle.encode_operand.proofs.Laws.{string_number}
use Rattle.encode_operand.proofs.is_string.Goals as goal

pub returns-then-n-ge48 : goal.returns-then-n-ge48
returns-then-n-ge48 c = rw (string_number _ _ c.number-n.ensures, le-leb _ _ c.if-n-ge48.true)

pub returns-else-n-ge48 : goal.returns-else-n-ge48
returns-else-n-ge48 c = rw (string_number _ _ c.number-n.ensures, lt-leb _ _ c.if-n-ge48.false)
