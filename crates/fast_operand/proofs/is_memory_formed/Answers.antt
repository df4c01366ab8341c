use Prim.Native.Nat.{◌+◌}
use lib.ListN.{get_or}
use mathlib.Core.Path.{sym, ◌∙◌}
use Rattle.fast_run.proofs.Laws.{not_true}
use Rattle.fast_operand.proofs.Laws.{displacement_short}
use Rattle.fast_operand.proofs.is_memory_formed.Goals as goal

pub returns-then-mode-ge3 : goal.returns-then-mode-ge3
returns-then-mode-ge3 c = λ e. absurd (not_true e)

pub returns-then-rm-ge8 : goal.returns-then-rm-ge8
returns-then-rm-ge8 c = λ e. absurd (not_true e)

pub returns-then-size-wanted : goal.returns-then-size-wanted
returns-then-size-wanted c = λ e. absurd (not_true e)

pub is_in_size-requires : goal.is_in_size-requires
is_in_size-requires c =
    let a = c.args in
    rw (c.if-size-wanted.false ∙ c.displacement_length-wanted.ensures) (displacement_short (get_or a.rec.now (a.at + 5) 0) (get_or a.rec.now (a.at + 6) 0))

pub returns-then-is_in_size : goal.returns-then-is_in_size
returns-then-is_in_size c =
    λ e. record {
      prefix = c.is_prefix.ensures e;
      mode = c.if-mode-ge3.false;
      rm = c.if-rm-ge8.false;
      length_is = c.if-size-wanted.false ∙ c.displacement_length-wanted.ensures;
      in_size = rw c.u32_at.ensures at (sym c.is_in_size.ensures ∙ c.if-is_in_size.true);
    }

pub returns : goal.returns
returns c = λ e. absurd (not_true e)
