use Rattle.encode_spec.specs.WellFormed.{well_formed}
use Rattle.encode_operand.proofs.is_well_formed.Goals as goal

pub returns-in-Imm : goal.returns-in-Imm
unfolding well_formed
returns-in-Imm c = rw c.in-Imm.is c.immediate_is_well_formed.ensures

pub returns-in-Reg : goal.returns-in-Reg
unfolding well_formed
returns-in-Reg c = rw c.in-Reg.is c.register_is_well_formed.ensures

pub returns-in-Seg : goal.returns-in-Seg
unfolding well_formed
returns-in-Seg c = rw c.in-Seg.is c.segment_is_well_formed.ensures

pub returns-in-Mem : goal.returns-in-Mem
unfolding well_formed
returns-in-Mem c = rw c.in-Mem.is c.memory_is_well_formed.ensures
