use Rattle.show_load.proofs.Laws.{upto_start, step_length, step_refused, within_seven}
use Rattle.std.proofs.Common.{◌+◌, sym, ◌∙◌, arith}
use Rattle.show_load.proofs.measure.Goals as goal

pub loop-k-init : goal.loop-k-init
loop-k-init c = upto_start c.args.file.now c.args.header.origin

pub returns-in-Err : goal.returns-in-Err
returns-in-Err c =
    let a = c.args in
    let o = c.loop-k in
    rw (step_refused a.file.now a.header.origin o.k o.at o.invariant _ (sym c.in-Err.is ∙ c.length_at.ensures) _ c.loop-k-test.true)

pub overflow_add-at : goal.overflow_add-at
overflow_add-at c =
    let a = c.args in
    let o = c.loop-k in
    let s = step_length a.file.now a.header.origin o.k o.at o.invariant _ (sym c.in-Ok.is ∙ c.length_at.ensures) in
    let e = s.0.upto.ends in
    let w = within_seven a.file.now a.header.origin (o.k + 1) in
    omega (arith, s.1)

pub loop-k-preserved : goal.loop-k-preserved
loop-k-preserved c =
    let a = c.args in
    let o = c.loop-k in
    let s = step_length a.file.now a.header.origin o.k o.at o.invariant _ (sym c.in-Ok.is ∙ c.length_at.ensures) in
    rw s.1 s.0.upto
