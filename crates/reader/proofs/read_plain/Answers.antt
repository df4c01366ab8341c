use Rattle.std.proofs.Common.{sym, ◌∙◌, arith}
use Rattle.reader.proofs.Laws.{none_there, some_there, read_empty, read_on}
use Rattle.reader.proofs.read_plain.Goals as goal

pub returns-then-is_empty : goal.returns-then-is_empty
returns-then-is_empty c = read_empty c.args.offset c.args.bytes.now (none_there _ (sym c.is_empty.ensures ∙ c.if-is_empty.true))

pub returns : goal.returns
returns c = read_on c.args.offset c.args.bytes.now _ _ _ (some_there _ (sym c.is_empty.ensures ∙ c.if-is_empty.false)) (λ i. omega (arith, c.type_inv.bytes i)) c.opcode_start.ensures.value c.prefix_of.ensures c.read_opcode.ensures
