use mathlib.Core.Path.{refl}
use borrow.Author.Tests.{eqb-true}
use Rattle.fast_run.proofs.Laws.{not_true}
use Rattle.fast_operand.proofs.Laws.{prefix_eighth}
use Rattle.fast_operand.proofs.is_prefix.Goals as goal

pub returns-then-p-eq0 : goal.returns-then-p-eq0
returns-then-p-eq0 c = λ e. rw c.if-p-eq0.true refl

pub returns-then-p-lt38 : goal.returns-then-p-lt38
returns-then-p-lt38 c = λ e. absurd (not_true e)

pub returns-then-p-gt62 : goal.returns-then-p-gt62
returns-then-p-gt62 c = λ e. absurd (not_true e)

pub returns : goal.returns
returns c = λ e. prefix_eighth _ c.if-p-lt38.false c.if-p-gt62.false (eqb-true _ _ e)
