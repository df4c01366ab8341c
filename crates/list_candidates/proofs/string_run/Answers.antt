use Rattle.std.proofs.Common.{rules}
use Rattle.list_candidates.proofs.Laws.{same_byte, string_of_lem}
use Rattle.list_candidates.proofs.string_run.Goals as goal

pub returns : goal.returns
returns c =
    let a = c.args in
    string_of_lem a.offset a.prefix a.start a.parts c.empty_run.ensures c.push_prefix-prefixed.ensures
    (rw (same_byte a.start.opcode (search rules)) c.push-coded.ensures) c.push_second-moded.ensures c.push_tail.ensures
