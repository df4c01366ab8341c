use Rattle.reader.proofs.Laws.{parts, parts_alike, is_test}
use Rattle.reader.proofs.instruction_at.Goals as goal

pub settled-requires : goal.settled-requires
settled-requires c = (c.requires.0, parts_alike _ _ _ _ _ c.args.memory c.args.t.now c.args.second c.operand_at-a.result c.operand_at-b.ensures c.requires.1, is_test _ _ _ c.requires.1)

pub returns : goal.returns
returns c = parts _ _ _ _ c.args.first c.args.second _ _ _ _ c.args.memory c.args.t.now _ c.operand_at-a.ensures c.operand_at-b.ensures c.settled.ensures
