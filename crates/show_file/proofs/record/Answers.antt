use Rattle.std.proofs.Common.{arith}
use Rattle.show_file.proofs.Laws.{ends_within, handed_record}
use Rattle.show_file.proofs.record.Goals as goal

pub returns-clause-is_one : goal.returns-clause-is_one
returns-clause-is_one c =
    let e = c.record_bytes-each.ensures.value in
    handed_record c.args.file.now c.args.k c.record_bytes-each.result c.place_of-from.result e
    (omega (arith, c.place_of-from.ensures, rw (← e) at c.requires.0, ends_within c.record_bytes-each.result c.args.k c.args.n c.requires.2))
