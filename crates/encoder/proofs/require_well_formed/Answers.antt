use mathlib.Core.Path.{sym, ◌∙◌}
use Rattle.encoder.proofs.Laws.{none, one_more}
use Rattle.encoder.proofs.require_well_formed.Goals as goal

pub loop-oper-init : goal.loop-oper-init
loop-oper-init c = none

pub loop-oper-preserved : goal.loop-oper-preserved
loop-oper-preserved c = one_more c.loop-oper.invariant c.loop-oper-test.true (sym c.is_well_formed.ensures ∙ c.if-not-is_well_formed.false)
