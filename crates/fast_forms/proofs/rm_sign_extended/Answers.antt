use Rattle.mrc_compiler.specs.declared.encoder.generate.Code.TheVariants as C
use Rattle.fast_forms.proofs.Laws.{rm_then, sign_extended, one, first_operand}
use Rattle.fast_forms.proofs.rm_sign_extended.Goals as goal

pub rm_form-requires : goal.rm_form-requires
rm_form-requires c = (c.requires.0, (first_operand _ c.requires.0, (c.requires.1, one _ c.wide.ensures.small)))

pub returns : goal.returns
returns c = λ off h. rm_then _ c.requires.0 off (C.ImmSignExtended 1) 1 c.wide.result (sign_extended _ c.requires.0 _ off c.wide.ensures.value).is _ _ _ c.rm_form.ensures
