use Rattle.foreign.specs.ReadBytes.{operand_values}
use Rattle.foreign.proofs.read.operand_values.Goals as goal

pub returns : goal.returns
unfolding operand_values
returns c = rw (c.wrapping_add_u16.ensures.value, c.displacement_in-displacement.ensures, c.value_in-value.ensures, c.far_segment_in-far.ensures)
