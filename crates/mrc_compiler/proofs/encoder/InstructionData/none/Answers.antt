use Rattle.mrc_compiler.proofs.encoder.InstructionData.none.Goals as goal

pub returns : goal.returns
returns c = rw (c.empty.ensures, c.empty-2.ensures)
