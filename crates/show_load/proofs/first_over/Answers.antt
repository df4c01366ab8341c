use Rattle.show_file.proofs.Laws.{from_start, from_yes, from_no}
use Rattle.show_load.proofs.Laws.{ran, upto_start, answered_all, step_all, over_yes, over_no}
use Rattle.show_load.specs.Loading.{is_over}
use Rattle.std.proofs.Common.{◌-◌, refl, arith, rules}
use Rattle.show_load.proofs.first_over.Goals as goal

pub loop-k-init : goal.loop-k-init
loop-k-init c =
    let a = c.args in
    (search rules, upto_start a.file.now a.origin, from_start (is_over a.file.now a.origin a.size) a.n)

pub unwrap-run-requires : goal.unwrap-run-requires
unwrap-run-requires c =
    let o = c.loop-k in
    let (bs, e) = answered_all c.args.file.now c.args.origin o.k o.at o.invariant.1 c.args.n c.requires.2 c.loop-k-test.true in
    rw (c.run_at.ensures, e) refl

pub returns-then-size-at-clause-first : goal.returns-then-size-at-clause-first
returns-then-size-at-clause-first c =
    let b = c in
    let f = c.args.file.now in
    let o = c.loop-k in
    let taken = c.loop-k-test.true in
    let r = ran f c.args.origin o.k o.at c.run_at.ensures c.unwrap-run.ensures in
    let s = step_all f c.args.origin o.k o.at o.invariant.1 c.args.n c.requires.2 taken in
    from_yes (is_over f c.args.origin c.args.size) _ _ taken o.invariant.2 (over_yes f c.args.origin c.args.size o.k _ s.upto.ends (omega arith))

pub overflow_add-at : goal.overflow_add-at
overflow_add-at c = omega arith

pub loop-k-preserved : goal.loop-k-preserved
loop-k-preserved c =
    let b = c in
    let f = c.args.file.now in
    let o = c.loop-k in
    let taken = c.loop-k-test.true in
    let r = ran f c.args.origin o.k o.at c.run_at.ensures c.unwrap-run.ensures in
    let s = step_all f c.args.origin o.k o.at o.invariant.1 c.args.n c.requires.2 taken in (
      omega arith,
      rw r.count s.upto,
      from_no (is_over f c.args.origin c.args.size) _ _ taken o.invariant.2 (over_no f c.args.origin c.args.size o.k _ s.upto.ends (omega arith)),
    )
