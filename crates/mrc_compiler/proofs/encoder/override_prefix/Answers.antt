use Rattle.mrc_compiler.proofs.encoder.override_prefix.Goals as goal

pub returns-in-Some : goal.returns-in-Some
returns-in-Some c = rw c.in-Some.is c.segment_prefix_for.ensures
