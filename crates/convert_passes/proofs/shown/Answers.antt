use mathlib.Core.Path.{sym, ◌∙◌}
use Rattle.convert_passes.proofs.shown.Goals as goal

pub returns-then-is_other_version : goal.returns-then-is_other_version
returns-then-is_other_version c = rw (sym c.is_other_version.ensures ∙ c.if-is_other_version.true)

pub returns-else-is_other_version : goal.returns-else-is_other_version
returns-else-is_other_version c = rw (sym c.is_other_version.ensures ∙ c.if-is_other_version.false) c.open.ensures
