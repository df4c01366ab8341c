use Rattle.mrc_compiler.specs.declared.encoder.generate.Code.TheVariants as C
use Rattle.std.proofs.Common.{◌+◌, ◌*◌, sym, ◌∙◌, arith}
use Rattle.fast_run.proofs.Laws.{ne_positive}
use Rattle.fast_forms.proofs.Laws.{memory_then, disp_word, bit_is}
use Rattle.fast_forms.proofs.moffs_run.Goals as goal

pub returns-then-size-eq0 : goal.returns-then-size-eq0
returns-then-size-eq0 c = λ k off ek h. absurd (omega arith)

pub returns-then-in_range : goal.returns-then-in_range
returns-then-in_range c =
    λ k off ek h. let p = ne_positive _ c.if-size-eq0.false in
    let v = c.wide.result + 256 * c.wide-then-in_range.result in
    (p, rw (bit_is _ p c.requires.1.1.0) (memory_then _ c.requires.0 off (C.DispWord k) 2 v (disp_word _ c.requires.0 k _ v off ek (rw c.u32_at.ensures at (sym c.in_range.ensures ∙ c.if-in_range.true)) (rw (c.wide.ensures.value, c.wide-then-in_range.ensures.value))).is k _ _ _ ek c.memory_run.ensures))

pub returns : goal.returns
returns c = λ k off ek h. absurd (omega arith)
