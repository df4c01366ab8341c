use Rattle.std.proofs.Common.{refl, sym}
use Rattle.mrc_compiler.specs.Operations.{operations}
use Rattle.mrc_compiler.proofs.Numbers.{found_operation, no_operation}
use Rattle.mrc_compiler.proofs.operations.OperationTryFromU8.try_from.Goals as goal

pub returns-in-Some : goal.returns-in-Some
unfolding operations
returns-in-Some c = rw (sym c.from.ensures) (found_operation c.from.result c.in-Some.field-0 c.in-Some.ensures.lookup)

pub returns-in-None : goal.returns-in-None
unfolding operations
returns-in-None c = (refl, rw (sym c.from.ensures) (no_operation c.from.result c.in-None.ensures.lookup))
