use Rattle.desk_step.proofs.Laws.{same_known}
use Rattle.std.proofs.Common.{rules}
use Rattle.desk_step.proofs.known_at.Goals as goal

pub returns-then-known-at : goal.returns-then-known-at
returns-then-known-at c =
    let b = c in
    same_known c.args.image.now c.args.ip c.args.known (search rules) c.requires c.if-known-at.true

pub returns : goal.returns
returns c = rw c.fetch-fetched.ensures
