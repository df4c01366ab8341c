use mathlib.Core.Path.{refl, ◌∙◌}
use Rattle.cue_compile.proofs.halts.Goals as goal

pub returns : goal.returns
returns c = c.none.ensures ∙ rw c.no_span.ensures refl
