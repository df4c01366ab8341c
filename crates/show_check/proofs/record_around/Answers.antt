use Rattle.std.proofs.Common.{◌-◌}
use Rattle.show_file.proofs.Laws.{from_start, from_yes, from_no, from_end}
use Rattle.convert_passes.specs.Passes.{place}
use Rattle.check_spec.specs.Checking.{is_inside}
use Rattle.show_check.proofs.Laws.{inside_yes, inside_no}
use Rattle.show_check.proofs.record_around.Goals as goal

pub loop-k-init : goal.loop-k-init
loop-k-init c = let a = c.args in from_start (is_inside (place a.starts.now) a.target) a.n

pub returns-then-on_to-clause-value : goal.returns-then-on_to-clause-value
returns-then-on_to-clause-value c =
    let a = c.args in
    let o = c.loop-k in
    let y = inside_yes (place a.starts.now) a.target o.k _ _ c.on_to.ensures c.on_to-in-loop-k.ensures c.if-on_to.true in
    from_yes (is_inside (place a.starts.now) a.target) a.n o.k c.loop-k-test.true o.invariant y

pub loop-k-preserved : goal.loop-k-preserved
loop-k-preserved c =
    let a = c.args in
    let o = c.loop-k in
    let y = inside_no (place a.starts.now) a.target o.k _ _ c.on_to.ensures c.on_to-in-loop-k.ensures c.if-on_to.false in
    from_no (is_inside (place a.starts.now) a.target) a.n o.k c.loop-k-test.true o.invariant y

pub returns-clause-value : goal.returns-clause-value
returns-clause-value c =
    let a = c.args in
    let o = c.loop-k in
    from_end (is_inside (place a.starts.now) a.target) a.n o.k o.auto.k-end c.loop-k-test.false o.invariant
