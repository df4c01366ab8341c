use mathlib.Core.Path.{refl}
use native.Mathlib.Omega.{arith}
use borrow.Author.Tests.{ne_eqb}
use Rattle.fast_reader.proofs.Placing.{bare_placed, prefix_placed}
use borrow.Author.Rules.{rules}
use Rattle.fast_reader.proofs.place_at.Goals as goal

pub returns-then-prefix-eq0 : goal.returns-then-prefix-eq0
returns-then-prefix-eq0 c = λ h. bare_placed c.args.prefix c.args.x _ (search rules) (c.place_of-place.ensures h) c.if-prefix-eq0.true

pub returns-then-x-eq3 : goal.returns-then-x-eq3
returns-then-x-eq3 c = λ h. absurd (omega arith)

pub returns-then-place-eq0 : goal.returns-then-place-eq0
returns-then-place-eq0 c = λ h. absurd (omega arith)

pub returns-then-prefix-lt38 : goal.returns-then-prefix-lt38
returns-then-prefix-lt38 c = λ h. absurd (omega arith)

pub returns : goal.returns
returns c = λ h. prefix_placed c.args.prefix c.args.x _ (search rules) (search rules) (rw (ne_eqb _ 0 c.if-prefix-eq0.false) at c.requires) c.if-x-eq3.false (rw (c.place_of-place.ensures (omega (arith, c.if-place-eq0.false))) refl)
