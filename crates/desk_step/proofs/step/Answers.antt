use Rattle.std.proofs.Common.{◌∙◌}
use Rattle.desk_step.proofs.Laws.{step_is}
use Rattle.desk_step.proofs.step.Goals as goal

pub returns : goal.returns
returns c =
    let a = c.args in
    let k = c.known_at-known.ensures in
    record { stepped_value = rw k at c.carry_out.ensures ∙ step_is a.image.now a.m; known_value = k }
