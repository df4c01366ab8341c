use Rattle.fast_run.proofs.Laws.{rm_read}
use borrow.Author.Rules.{rules}
use Rattle.fast_run.proofs.rm_run.Goals as goal

pub returns : goal.returns
returns c =
    let a = c.args in
    rm_read a.prefix a.op_code a.n a.value (search rules) (search rules) c.requires.1
    a.mod_rm a.size a.low a.high (search rules) c.requires.0 (search rules) (search rules) _
    (rw (c.over_prefix.ensures.value, c.over_opcode-coded.ensures.value, c.over_displacement-memory.ensures.value, c.prefix_length.ensures.value))
