use Rattle.desk_step.proofs.Laws.{outside, not_read, whole_read}
use Rattle.std.proofs.Common.{rules}
use Rattle.desk_step.proofs.fetch.Goals as goal

pub returns-then-image-at : goal.returns-then-image-at
returns-then-image-at c = let a = c.args in outside a.image.now a.ip _ (search rules) c.fetched_as.ensures

pub returns-in-Ok : goal.returns-in-Ok
returns-in-Ok c =
    let b = c in
    let a = c.args in
    whole_read a.image.now a.ip _ _ c.read_at-found.ensures _ _ c.in-Ok.is _ c.action_of.ensures c.fetched_as-in-Ok.ensures

pub returns-in-Err : goal.returns-in-Err
returns-in-Err c = let b = c in let a = c.args in not_read a.image.now a.ip _ _ c.read_at-found.ensures _ c.in-Err.is c.fetched_as-in-Err.ensures
