use Rattle.std.proofs.Common.{refl, sym, ◌∙◌}
use Rattle.reader.proofs.Laws.{none_there, some_there, opcode_empty, opcode_unused, opcode_nothing, opcode_more, opcode_on}
use Rattle.reader.proofs.read_opcode.Goals as goal

pub returns-then-is_empty : goal.returns-then-is_empty
returns-then-is_empty c = opcode_empty _ _ c.args.s.now (none_there _ (sym c.is_empty.ensures ∙ c.if-is_empty.true))

pub returns-then-row-eq0 : goal.returns-then-row-eq0
returns-then-row-eq0 c = opcode_unused _ _ _ c.args.s.now (some_there _ (sym c.is_empty.ensures ∙ c.if-is_empty.false)) c.row_of-row.ensures c.if-row-eq0.true

pub returns-then-not-may_follow : goal.returns-then-not-may_follow
returns-then-not-may_follow c = opcode_nothing _ _ _ _ _ c.args.s.now (some_there _ (sym c.is_empty.ensures ∙ c.if-is_empty.false)) (record { row = c.row_of-row.ensures; used = c.if-row-eq0.false; shape = rw c.shape_row.ensures at c.shape_of-shape.ensures; follows = c.may_follow.ensures }) c.if-not-may_follow.true

pub returns-then-s-from : goal.returns-then-s-from
returns-then-s-from c = opcode_more _ _ _ _ _ _ refl _ c.opcode_length-from.ensures c.if-not-may_follow.false c.args.s.now (some_there _ (sym c.is_empty.ensures ∙ c.if-is_empty.false)) (record { row = c.row_of-row.ensures; used = c.if-row-eq0.false; shape = rw c.shape_row.ensures at c.shape_of-shape.ensures; follows = c.may_follow.ensures }) c.if-s-from.true

pub shape_with-requires : goal.shape_with-requires
shape_with-requires c = rw c.shape_row.ensures at c.shape_of-shape.ensures

pub read_shape-requires : goal.read_shape-requires
read_shape-requires c = rw c.row_of-row.ensures at c.shape_with.ensures

pub returns : goal.returns
returns c = opcode_on _ _ _ _ _ _ refl _ c.opcode_length-from.ensures c.if-not-may_follow.false c.args.s.now _ _ _ (some_there _ (sym c.is_empty.ensures ∙ c.if-is_empty.false)) (record { row = c.row_of-row.ensures; used = c.if-row-eq0.false; shape = rw c.shape_row.ensures at c.shape_of-shape.ensures; follows = c.may_follow.ensures }) c.if-s-from.false c.second_byte-second.ensures c.shape_with.ensures c.read_shape.ensures
