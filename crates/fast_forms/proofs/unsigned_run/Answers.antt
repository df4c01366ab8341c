use Rattle.mrc_compiler.specs.declared.encoder.generate.Code.TheVariants as C
use Rattle.std.proofs.Common.{sym, ◌∙◌, arith}
use Rattle.fast_forms.proofs.Laws.{byte_then, unsigned_byte}
use Rattle.fast_forms.proofs.unsigned_run.Goals as goal

pub returns-then-in_range : goal.returns-then-in_range
returns-then-in_range c = λ k off ek h. byte_then _ c.requires.0 off (C.UnsignedByte k) 1 c.wide.result (unsigned_byte _ c.requires.0 k _ _ off ek (rw c.u32_at.ensures at (sym c.in_range.ensures ∙ c.if-in_range.true)) c.wide.ensures.value).is _ _ c.bare_run.ensures

pub returns : goal.returns
returns c = λ k off ek h. absurd (omega arith)
