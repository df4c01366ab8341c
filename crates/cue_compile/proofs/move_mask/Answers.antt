use mathlib.Core.Path.{refl, ◌∙◌}
use Rattle.cue_compile.proofs.move_mask.Goals as goal

pub returns : goal.returns
returns c = c.dst_and_src.ensures ∙ rw (c.value_of.ensures, c.register-al.ensures, c.encoding.ensures, c.no_span-span.ensures) refl
