use Rattle.fast_forms.proofs.Laws.{in_memory}
use Rattle.fast_forms.proofs.xlat_run.Goals as goal

pub returns : goal.returns
returns c = λ off h. in_memory _ c.requires off _ _ c.memory_run.ensures
