use mathlib.Core.Path.{sym, ◌∙◌}
use Rattle.x86.proofs.Orders.{as_they_stand}
use Rattle.reader.proofs.settled.Goals as goal

pub exchange-requires : goal.exchange-requires
exchange-requires c = c.requires.0 ∙ sym c.is_exchange.ensures ∙ c.if-is_exchange.true

pub returns-then-is_exchange : goal.returns-then-is_exchange
returns-then-is_exchange c = c.exchange.ensures

pub register_first-requires : goal.register_first-requires
register_first-requires c = rw (sym c.tests_register.ensures ∙ c.if-tests_register.true) at c.requires.2

pub returns-then-tests_register : goal.returns-then-tests_register
returns-then-tests_register c = c.register_first.ensures

pub returns : goal.returns
returns c = sym (as_they_stand _ _ _ _ (c.requires.0 ∙ sym c.is_exchange.ensures ∙ c.if-is_exchange.false) (rw (sym c.tests_register.ensures ∙ c.if-tests_register.false) at c.requires.1))
