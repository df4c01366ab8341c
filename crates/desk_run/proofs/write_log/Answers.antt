use Rattle.desk_step.proofs.Laws.{known_is, none_is}
use Rattle.desk_run.proofs.Laws.{writing_start, last, room_left, writes_on, not_spent}
use Rattle.desk_run.proofs.write_log.Goals as goal

pub loop-init : goal.loop-init
loop-init c =
    let a = c.args in
    record { writing = writing_start a.image.now a.log.now a.budget _ c.start_of-machine.ensures; is_known = none_is a.image.now _ c.none_known-known.ensures }

pub returns-then-is_last : goal.returns-then-is_last
returns-then-is_last c =
    let a = c.args in
    let o = c.loop in
    last a.image.now a.log.now a.budget o.counter o.machine o.at o.log o.invariant.writing c.loop-test.true _ c.step-done.ensures.stepped_value c.requires _ c.is_last.ensures c.if-is_last.true

pub add-at-requires : goal.add-at-requires
add-at-requires c =
    let a = c.args in
    let o = c.loop in
    room_left a.image.now a.log.now a.budget o.counter o.machine o.at o.log o.invariant.writing c.loop-test.true _ c.step-done.ensures.stepped_value c.requires _ c.is_last.ensures c.if-is_last.false

pub loop-preserved : goal.loop-preserved
loop-preserved c =
    let a = c.args in
    let o = c.loop in
    let w = c.add-at.ensures in
    record {
      writing = writes_on a.image.now a.log.now a.budget o.counter o.machine o.at o.log o.invariant.writing c.loop-test.true _ c.step-done.ensures.stepped_value c.requires _ c.is_last.ensures c.if-is_last.false _ w.value _ w.log_after;
      is_known = known_is a.image.now o.machine.ip _ c.step-done.ensures.known_value;
    }

pub returns : goal.returns
returns c =
    let a = c.args in
    let o = c.loop in
    absurd (not_spent a.image.now a.log.now a.budget o.counter o.machine o.at o.log o.invariant.writing c.loop-test.false c.requires)
