use Rattle.std.proofs.Common.{◌≡◌, sym, ◌∙◌, arith}
use Rattle.fast_forms.proofs.Laws.{imm_byte, imm_word}
use Rattle.fast_forms.proofs.imm_value.Goals as goal

pub returns-then-in_range : goal.returns-then-in_range
returns-then-in_range c = rw c.if-size-eq1.true (λ l off. imm_byte _ c.requires.0 _ off (rw c.u32_at-n.ensures at (sym c.in_range.ensures ∙ c.if-in_range.true)) c.wide.ensures.value)

pub returns-then-size-eq1 : goal.returns-then-size-eq1
returns-then-size-eq1 c = λ l off. absurd (omega arith)

pub returns-then-in_range-2 : goal.returns-then-in_range-2
returns-then-in_range-2 c =
    let e : c.args.size ≡ 2 = omega (arith, c.if-size-eq1.false) in
    rw e (λ l off. imm_word _ c.requires.0 _ off (rw c.u32_at-n.ensures at (sym c.in_range-2.ensures ∙ c.if-in_range-2.true)) (rw (c.wide-then-in_range-2.ensures.value, c.wide-then-in_range-2-2.ensures.value)))

pub returns : goal.returns
returns c = λ l off. absurd (omega arith)
