use Rattle.std.proofs.Common.{refl, w32, rules}
use mir.ValLaws.{to_z_pos}
use Rattle.foreign.proofs.check.response_stray.Goals as goal

pub returns : goal.returns
returns c = rw (to_z_pos w32 c.args.target (search rules)) refl
