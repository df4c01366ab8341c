use Rattle.mrc_compiler.specs.declared.encoder.generate.Code.TheVariants as C
use Rattle.std.proofs.Common.{◌+◌, ◌*◌, sym, ◌∙◌, arith}
use Rattle.fast_forms.proofs.Laws.{byte_then, unsigned_word}
use Rattle.fast_forms.proofs.ret_run.Goals as goal

pub returns-then-in_range : goal.returns-then-in_range
returns-then-in_range c =
    λ off h. let v = c.wide.result + 256 * c.wide-then-in_range.result in
    byte_then _ c.requires off (C.UnsignedWord 0) 2 v (unsigned_word _ c.requires v off (rw c.u32_at.ensures at (sym c.in_range.ensures ∙ c.if-in_range.true)) (rw (c.wide.ensures.value, c.wide-then-in_range.ensures.value))).is _ _ c.bare_run.ensures

pub returns : goal.returns
returns c = λ off h. absurd (omega arith)
