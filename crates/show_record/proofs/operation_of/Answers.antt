use mathlib.Core.Path.{sym, ◌∙◌}
use Rattle.show_record.proofs.Laws.{numbered_some, numbered_none}
use Rattle.show_record.proofs.operation_of.Goals as goal

pub returns-in-Some : goal.returns-in-Some
returns-in-Some c = numbered_some _ _ (sym c.numbered.ensures ∙ c.in-Some.is)

pub returns-in-None : goal.returns-in-None
returns-in-None c = numbered_none _ (sym c.numbered.ensures ∙ c.in-None.is)
