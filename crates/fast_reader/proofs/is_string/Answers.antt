use mathlib.Core.Path.{refl}
use borrow.Author.Tests.{eq-eqb, ne_eqb, le-leb, lt-leb}
use Rattle.fast_reader.proofs.is_string.Goals as goal

pub returns-then-number-lt48 : goal.returns-then-number-lt48
returns-then-number-lt48 c = rw (eq-eqb _ 1 c.if-plan-eq1.true, lt-leb 48 _ c.if-number-lt48.true) refl

pub returns-then-plan-eq1 : goal.returns-then-plan-eq1
returns-then-plan-eq1 c = rw (eq-eqb _ 1 c.if-plan-eq1.true, le-leb 48 _ c.if-number-lt48.false) refl

pub returns : goal.returns
returns c = rw (ne_eqb _ 1 c.if-plan-eq1.false) refl
