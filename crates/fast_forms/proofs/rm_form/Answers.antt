use Rattle.std.proofs.Common.{◌∙◌}
use Rattle.fast_run.specs.Packed.{digits}
use Rattle.fast_forms.proofs.Laws.{rm_before}
use Rattle.fast_forms.proofs.rm_form.Goals as goal

pub returns : goal.returns
returns c = c.rm_run.ensures ∙ rm_before _ c.requires.0 _ _ _ (digits c.args.n c.args.value) c.requires.1.0.formed c.requires.1.1.0
