use Rattle.foreign.specs.ReadBytes.{operand_head}
use Rattle.std.proofs.Common.{rules}
use Rattle.foreign.proofs.read.operand_head.Goals as goal

pub type_of-operand_type-requires : goal.type_of-operand_type-requires
unfolding operand_head
type_of-operand_type-requires c = search rules

pub segment_in-segment-requires : goal.segment_in-segment-requires
unfolding operand_head
segment_in-segment-requires c = search rules

pub overflow_cast-result : goal.overflow_cast-result
unfolding operand_head
overflow_cast-result c = search rules

pub overflow_cast-result-2 : goal.overflow_cast-result-2
unfolding operand_head
overflow_cast-result-2 c = search rules

pub overflow_cast-result-3 : goal.overflow_cast-result-3
unfolding operand_head
overflow_cast-result-3 c = search rules

pub overflow_mul-result : goal.overflow_mul-result
unfolding operand_head
overflow_mul-result c = search rules

pub overflow_add-result : goal.overflow_add-result
unfolding operand_head
overflow_add-result c = search rules

pub overflow_mul-result-2 : goal.overflow_mul-result-2
unfolding operand_head
overflow_mul-result-2 c = search rules

pub overflow_add-result-2 : goal.overflow_add-result-2
unfolding operand_head
overflow_add-result-2 c = search rules

pub returns : goal.returns
unfolding operand_head
returns c = rw (c.type_of-operand_type.ensures, c.segment_in-segment.ensures)
