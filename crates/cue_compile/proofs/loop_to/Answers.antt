use mathlib.Core.Path.{refl, ◌∙◌}
use Rattle.cue_compile.proofs.loop_to.Goals as goal

pub returns : goal.returns
returns c = c.dst.ensures ∙ rw (c.value_of.ensures, c.no_span.ensures) refl
