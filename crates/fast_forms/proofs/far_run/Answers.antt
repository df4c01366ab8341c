use Rattle.std.proofs.Common.{sym, ◌∙◌, arith}
use Rattle.fast_forms.proofs.Laws.{far}
use Rattle.fast_forms.proofs.far_run.Goals as goal

pub returns-then-in_range-2 : goal.returns-then-in_range-2
returns-then-in_range-2 c = λ off h. far _ c.requires off _ (rw c.u32_at.ensures at (sym c.in_range.ensures ∙ c.if-in_range.true)) (rw c.u32_at-then-in_range.ensures at (sym c.in_range-then-in_range.ensures ∙ c.if-in_range-2.true)) c.far_run.ensures

pub returns-else-in_range-2 : goal.returns-else-in_range-2
returns-else-in_range-2 c = λ off h. absurd (omega arith)

pub returns-else-in_range : goal.returns-else-in_range
returns-else-in_range c = λ off h. absurd (omega arith)
