use Rattle.fast_run.proofs.Laws.{unpacked-length}
use Rattle.fast_run.proofs.length_of.Goals as goal

pub returns : goal.returns
returns c = rw (unpacked-length c.args.packed)
