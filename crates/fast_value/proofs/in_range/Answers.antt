use Rattle.std.proofs.Common.{refl, rules}
use Rattle.fast_value.proofs.Laws.{in_range}
use Rattle.fast_value.proofs.in_range.Goals as goal

pub returns : goal.returns
returns c = rw (in_range c.args.n c.args.below c.args.count (search rules) c.requires.0 c.requires.1, c.wrapping_add_u32.ensures.value) refl
