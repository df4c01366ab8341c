use Rattle.std.proofs.Common.{sym, ◌∙◌, lt-ltb, le-ltb}
use Rattle.x86.specs.Instructions.{canonical}
use Rattle.x86.proofs.Orders.{xchg_only}
use Rattle.read_slots.proofs.exchange_registers.Goals as goal

pub returns-then-is_ax_ax : goal.returns-then-is_ax_ax
unfolding canonical
returns-then-is_ax_ax c = rw (c.requires, sym c.is_ax_ax.ensures ∙ c.if-is_ax_ax.true) c.instruction.ensures

pub returns-then-n-m : goal.returns-then-n-m
unfolding canonical
returns-then-n-m c = rw (c.requires, xchg_only _ c.requires, sym c.is_ax_ax.ensures ∙ c.if-is_ax_ax.false, lt-ltb _ _ c.if-n-m.true) c.instruction-then-n-m.ensures

pub returns : goal.returns
unfolding canonical
returns c = rw (c.requires, xchg_only _ c.requires, sym c.is_ax_ax.ensures ∙ c.if-is_ax_ax.false, le-ltb _ _ c.if-n-m.false) c.instruction-2.ensures
