use Rattle.mrc_compiler.specs.declared.encoder.generate.Code.TheVariants as C
use Rattle.std.proofs.Common.{◌%◌, sym, refl, ◌∙◌, arith, rules}
use Rattle.fast_forms.proofs.Laws.{byte_then, rel_word}
use Rattle.fast_forms.proofs.near_run.Goals as goal

pub returns-then-in_range : goal.returns-then-in_range
returns-then-in_range c = λ h. byte_then _ c.requires c.args.offset (C.RelWord 0) 2 (c.wrapping_sub_u32.result % 65536) (rel_word _ c.requires c.args.offset c.wrapping_sub_u32.result _ (search rules) (search rules) (c.wrapping_sub_u32.ensures.value ∙ c.u32_at-target.ensures) (rw c.u32_at-target.ensures at (sym c.in_range.ensures ∙ c.if-in_range.true)) refl).is _ _ c.bare_run.ensures

pub returns : goal.returns
returns c = λ h. absurd (omega arith)
