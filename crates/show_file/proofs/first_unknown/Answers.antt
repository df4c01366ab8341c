use Rattle.std.proofs.Common.{true, false}
use Rattle.show_file.specs.Show.{is_unknown}
use Rattle.show_file.proofs.Laws.{from_yes, from_no, unknown_is}
use Rattle.show_file.proofs.first_unknown.Goals as goal

pub returns-then-not-codes_known-clause-first : goal.returns-then-not-codes_known-clause-first
returns-then-not-codes_known-clause-first c =
    let k = c.loop-k.k in
    let u = unknown_is c.args.file.now k c.codes_known.result false (rw c.record.ensures.value at c.codes_known.ensures) c.if-not-codes_known.true in
    from_yes (is_unknown c.args.file.now) _ _ c.loop-k-test.true c.loop-k.invariant u

pub loop-k-preserved : goal.loop-k-preserved
loop-k-preserved c =
    let k = c.loop-k.k in
    let u = unknown_is c.args.file.now k c.codes_known.result true (rw c.record.ensures.value at c.codes_known.ensures) c.if-not-codes_known.false in
    from_no (is_unknown c.args.file.now) _ _ c.loop-k-test.true c.loop-k.invariant u
