use Rattle.fast_run.proofs.Laws.{memory_read}
use borrow.Author.Rules.{rules}
use Rattle.fast_run.proofs.memory_run.Goals as goal

pub returns : goal.returns
returns c =
    let a = c.args in
    memory_read a.prefix a.op_code a.n a.value (search rules) (search rules) c.requires _
    (rw (c.over_prefix.ensures.value, c.prefix_length.ensures.value))
