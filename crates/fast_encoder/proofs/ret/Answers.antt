use mathlib.Core.Path.{sym, ap}
use borrow.Author.Tests.{ne_eqb}
use Rattle.encode_spec.specs.Answer.{bytes}
use Rattle.fast_encoder.proofs.ret.Goals as goal

pub returns-then-count-eq0 : goal.returns-then-count-eq0
returns-then-count-eq0 c = λ off base h. rw c.if-count-eq0.true (ap bytes (sym c.byte_run.ensures))

pub returns : goal.returns
returns c = λ off base h. rw (ne_eqb _ _ c.if-count-eq0.false) (c.ret_run.ensures off h)
