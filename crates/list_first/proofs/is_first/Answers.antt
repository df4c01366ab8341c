use mathlib.Core.Path.{sym, ◌∙◌}
use borrow.Author.Tests.{eq-eqb, ne_eqb}
use borrow.Author.Rules.{rules}
use Rattle.list_first.specs.First.{is_first}
use Rattle.list_first.proofs.is_first.Goals as goal

pub is_prefix-requires : goal.is_prefix-requires
unfolding is_first
is_prefix-requires c = search rules

pub own_prefix-requires : goal.own_prefix-requires
unfolding is_first
own_prefix-requires c = search rules

pub returns-then-b0-own_prefix : goal.returns-then-b0-own_prefix
unfolding is_first
returns-then-b0-own_prefix c = rw (sym c.is_prefix.ensures ∙ c.if-is_prefix.true, eq-eqb _ _ (c.if-b0-own_prefix.true ∙ c.own_prefix.ensures))

pub is_first_alone-requires : goal.is_first_alone-requires
unfolding is_first
is_first_alone-requires c = search rules

pub returns-then-is_prefix : goal.returns-then-is_prefix
unfolding is_first
returns-then-is_prefix c = rw (sym c.is_prefix.ensures ∙ c.if-is_prefix.true, ne_eqb _ _ (λ e. c.if-b0-own_prefix.false (e ∙ sym c.own_prefix.ensures))) c.is_first_alone.ensures

pub is_first_alone-requires-2 : goal.is_first_alone-requires-2
unfolding is_first
is_first_alone-requires-2 c = search rules

pub returns : goal.returns
unfolding is_first
returns c = rw (sym c.is_prefix.ensures ∙ c.if-is_prefix.false) c.is_first_alone-2.ensures
