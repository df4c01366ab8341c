use Rattle.mrc_compiler.proofs.Numbers.{place_is}
use Rattle.mrc_compiler.proofs.operations.Operation.number.Goals as goal

pub returns : goal.returns
returns c = place_is c.args.self
