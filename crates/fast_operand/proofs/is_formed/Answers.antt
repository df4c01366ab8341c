use mathlib.Core.Path.{sym, ◌∙◌}
use borrow.Author.Tests.{eqb-true, ltb-true}
use Rattle.fast_run.proofs.Laws.{not_true}
use Rattle.fast_operand.proofs.Laws.{immediate, register, segment, memory}
use Rattle.fast_operand.proofs.is_formed.Goals as goal

pub returns-then-rec-at-ge3 : goal.returns-then-rec-at-ge3
returns-then-rec-at-ge3 c = λ e. absurd (not_true e)

pub returns-then-rec-at-ge4 : goal.returns-then-rec-at-ge4
returns-then-rec-at-ge4 c = λ e. absurd (not_true e)

pub returns-then-kind-eq3 : goal.returns-then-kind-eq3
returns-then-kind-eq3 c = λ e. memory _ _ c.if-rec-at-ge3.false c.if-rec-at-ge4.false c.if-kind-eq3.true (c.is_memory_formed.ensures e)

pub returns-then-rec-at-ne0 : goal.returns-then-rec-at-ne0
returns-then-rec-at-ne0 c = λ e. absurd (not_true e)

pub returns-then-rec-at-ne0-2 : goal.returns-then-rec-at-ne0-2
returns-then-rec-at-ne0-2 c = λ e. absurd (not_true e)

pub returns-then-rec-at-ne0-3 : goal.returns-then-rec-at-ne0-3
returns-then-rec-at-ne0-3 c = λ e. absurd (not_true e)

pub returns-then-kind-eq0 : goal.returns-then-kind-eq0
returns-then-kind-eq0 c = λ e. immediate _ _ c.if-rec-at-ge3.false c.if-rec-at-ge4.false c.if-kind-eq0.true c.if-rec-at-ne0.false c.if-rec-at-ne0-2.false c.if-rec-at-ne0-3.false (eqb-true _ _ e)

pub returns-then-rec-at-ne3 : goal.returns-then-rec-at-ne3
returns-then-rec-at-ne3 c = λ e. absurd (not_true e)

pub returns-then-u32_at-ne0 : goal.returns-then-u32_at-ne0
returns-then-u32_at-ne0 c = λ e. absurd (not_true e)

pub returns-then-kind-eq1 : goal.returns-then-kind-eq1
returns-then-kind-eq1 c = λ e. register _ _ c.if-rec-at-ge3.false c.if-rec-at-ge4.false c.if-rec-at-ne0.false c.if-rec-at-ne0-2.false c.if-rec-at-ne3.false (sym c.u32_at.ensures ∙ c.if-u32_at-ne0.false) c.if-kind-eq1.true (ltb-true _ _ e)

pub returns-then-kind-ne2 : goal.returns-then-kind-ne2
returns-then-kind-ne2 c = λ e. absurd (not_true e)

pub returns-then-rec-at-ne2 : goal.returns-then-rec-at-ne2
returns-then-rec-at-ne2 c = λ e. absurd (not_true e)

pub returns : goal.returns
returns c = λ e. segment _ _ c.if-rec-at-ge3.false c.if-rec-at-ge4.false c.if-rec-at-ne0.false c.if-rec-at-ne0-2.false c.if-rec-at-ne3.false (sym c.u32_at.ensures ∙ c.if-u32_at-ne0.false) c.if-kind-ne2.false c.if-rec-at-ne2.false (ltb-true _ _ e)
