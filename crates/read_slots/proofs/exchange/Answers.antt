use Rattle.std.proofs.Common.{sym, ◌∙◌}
use Rattle.read_slots.proofs.Laws.{is_register, none_first, none_second}
use Rattle.read_slots.proofs.exchange.Goals as goal

pub returns-in-Some-Some : goal.returns-in-Some-Some
returns-in-Some-Some c = rw (is_register c.args.a _ (sym c.register_in.ensures ∙ c.in-Some-Some.is-0), is_register c.args.b _ (sym c.register_in-2.ensures ∙ c.in-Some-Some.is-1)) c.exchange_registers.ensures

pub returns-in-Some-None : goal.returns-in-Some-None
returns-in-Some-None c =
    let e = is_register c.args.a _ (sym c.register_in.ensures ∙ c.in-Some-None.is-0) in
    let i = rw e at c.instruction.ensures in
    rw e (i ∙ sym (none_second _ _ c.requires _ _ (sym c.register_in-2.ensures ∙ c.in-Some-None.is-1)))

pub returns-in-None-default : goal.returns-in-None-default
returns-in-None-default c = c.instruction-in-None-default.ensures ∙ sym (none_first _ _ c.requires _ _ (sym c.register_in.ensures ∙ c.in-None-default.is-0))
