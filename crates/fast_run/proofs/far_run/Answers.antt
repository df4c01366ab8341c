use Rattle.fast_run.proofs.Laws.{unpacked_of, more, none}
use native.Mathlib.Omega.{arith}
use borrow.Author.Rules.{rules}
use Rattle.fast_run.proofs.far_run.Goals as goal

pub returns : goal.returns
returns c = unpacked_of _ _ (more (search rules) (more (search rules) (more (search rules) (more (search rules) (more (search rules) none))))) (omega arith) (omega arith)
