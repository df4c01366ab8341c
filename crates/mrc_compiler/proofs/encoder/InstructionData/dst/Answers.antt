use Rattle.mrc_compiler.proofs.encoder.InstructionData.dst.Goals as goal

pub returns : goal.returns
returns c = rw c.empty.ensures
