use mathlib.Core.Path.{sym}
use lib.ListN.{get_or-eq_default}
use Rattle.x86.specs.Rows.{shapes}
use Rattle.mrc_compiler.proofs.Arms.{past}
use Rattle.read_shapes.proofs.shape_of.Goals as goal

pub returns-in_default : goal.returns-in_default
returns-in_default c = sym (get_or-eq_default shapes _ (past 45 c.args.row c.in_default.in_default-own.rest))
