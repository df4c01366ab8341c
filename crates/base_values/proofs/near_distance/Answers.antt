use Rattle.std.proofs.Common.{w32, rules}
use mir.ValLaws.{to_z-of_z}
use Rattle.base_values.proofs.Laws.{near}
use Rattle.base_values.proofs.near_distance.Goals as goal

pub returns : goal.returns
returns c =
    let a = c.args in
    let e = to_z-of_z w32 a.target c.ranges.target in
    let low = rw e at c.low_word.ensures in
    near a.target a.offset c.wrapping_sub_u16.result (search rules) (cc)
