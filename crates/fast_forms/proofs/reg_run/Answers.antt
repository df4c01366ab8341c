use Rattle.fast_forms.proofs.Laws.{in_opcode}
use Rattle.fast_forms.proofs.reg_run.Goals as goal

pub returns : goal.returns
returns c = λ k off ek h. in_opcode _ c.requires.0 k off _ _ _ ek c.requires.1.0.formed.rm c.requires.1.1 c.bare_run.ensures
