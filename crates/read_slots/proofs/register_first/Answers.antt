use Rattle.std.proofs.Common.{sym, ◌∙◌}
use Rattle.read_slots.proofs.Laws.{register_first, register_behind, no_registers}
use Rattle.read_slots.proofs.register_first.Goals as goal

pub returns-in-Some-default : goal.returns-in-Some-default
returns-in-Some-default c = c.instruction.ensures ∙ sym (register_first _ _ c.requires _ _ _ (sym c.register_in.ensures ∙ c.in-Some-default.is-0))

pub returns-in-None-Some : goal.returns-in-None-Some
returns-in-None-Some c = c.instruction-in-None-Some.ensures ∙ sym (register_behind _ _ c.requires _ _ _ (sym c.register_in.ensures ∙ c.in-None-Some.is-0) (sym c.register_in-2.ensures ∙ c.in-None-Some.is-1))

pub returns-in-None-None : goal.returns-in-None-None
returns-in-None-None c = c.instruction-in-None-None.ensures ∙ sym (no_registers _ _ c.requires _ _ (sym c.register_in.ensures ∙ c.in-None-None.is-0) (sym c.register_in-2.ensures ∙ c.in-None-None.is-1))
