use native.Mathlib.Omega.{arith}
use borrow.Author.Tests.{leb-true}
use Rattle.fast_run.proofs.Laws.{not_true, ne_positive}
use Rattle.fast_run.proofs.fits.Goals as goal

pub returns-then-packed-eq0 : goal.returns-then-packed-eq0
returns-then-packed-eq0 c = λ e. absurd (not_true e)

pub returns : goal.returns
returns c = λ e. (omega (arith, ne_positive c.args.packed c.if-packed-eq0.false), leb-true _ _ e)
