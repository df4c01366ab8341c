use mathlib.Core.Path.{◌∙◌}
use Rattle.encode_dispatch.proofs.Laws.{planned_of}
use Rattle.encode_dispatch.proofs.plan_of.Goals as goal

pub returns : goal.returns
returns c = c.plan_for.ensures ∙ rw (c.decide.ensures, c.group_of-group.ensures) (planned_of c.args.insn)
