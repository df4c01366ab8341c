use mathlib.Core.Path.{sym, ◌∙◌}
use native.Mathlib.Omega.{arith}
use Rattle.fast_encoder.proofs.Laws.{near_jump}
use Rattle.fast_encoder.proofs.jmp_imm.Goals as goal

pub returns-then-rec-eq1 : goal.returns-then-rec-eq1
returns-then-rec-eq1 c = λ h. rw (rw c.u32_at.ensures at (sym c.in_range.ensures ∙ c.if-in_range.true), c.if-rec-eq1.true) (c.far_run.ensures c.args.offset h)

pub returns-then-rec-eq3 : goal.returns-then-rec-eq3
returns-then-rec-eq3 c = λ h. rw (rw c.u32_at.ensures at (sym c.in_range.ensures ∙ c.if-in_range.true), c.if-rec-eq3.true) (c.short_run.ensures h)

pub returns-then-in_range : goal.returns-then-in_range
returns-then-in_range c = λ h. rw (rw c.u32_at.ensures at (sym c.in_range.ensures ∙ c.if-in_range.true), near_jump _ _ _ _ c.requires.first.jump c.if-rec-eq1.false c.if-rec-eq3.false) (c.near_run.ensures h)

pub returns : goal.returns
returns c = λ h. absurd (omega arith)
