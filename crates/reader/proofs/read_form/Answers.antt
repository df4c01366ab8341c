use Rattle.std.proofs.Common.{arith}
use Rattle.reader.proofs.Laws.{form_whole, form_more, form_nothing}
use Rattle.reader.proofs.read_form.Goals as goal

pub instruction_at-instruction-requires : goal.instruction_at-instruction-requires
instruction_at-instruction-requires c = (c.requires.0, c.requires.1, omega arith)

pub returns-then-not-may_stand : goal.returns-then-not-may_stand
returns-then-not-may_stand c = form_nothing c.args.offset c.args.head.prefix c.args.head.opcode c.args.head.second c.args.t.now c.args.shape c.args.operation c.requires.2 c.requires.3 c.may_stand.ensures c.if-not-may_stand.true

pub returns-then-t-tail : goal.returns-then-t-tail
returns-then-t-tail c = form_more c.args.offset c.args.head.prefix c.args.head.opcode c.args.head.second c.args.t.now c.args.shape c.args.operation c.requires.2 c.requires.3 c.may_stand.ensures c.if-not-may_stand.false c.memory_length-memory.ensures.value c.if-t-tail.true

pub returns : goal.returns
returns c = form_whole c.args.offset c.args.head.prefix c.args.head.opcode c.args.head.second c.args.t.now c.args.shape c.args.operation c.requires.2 c.requires.3 c.may_stand.ensures c.if-not-may_stand.false c.memory_length-memory.ensures.value c.if-t-tail.false c.head_length.ensures.value c.width_of-width.ensures c.instruction_at-instruction.ensures c.form_at.ensures
