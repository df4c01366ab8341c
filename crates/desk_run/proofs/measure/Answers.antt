use Rattle.std.proofs.Common.{arith, refl}
use Rattle.desk_step.proofs.Laws.{known_is}
use Rattle.desk_run.proofs.Laws.{goes, puts_out, no_room, halts_here, refused_here, spent}
use Rattle.desk_run.proofs.measure.Goals.{in-Goes, in-Outputs+else-room-at-lt2}
use Rattle.desk_run.proofs.measure.Goals as goal

pub returns-then-room-at-lt2 : goal.returns-then-room-at-lt2
returns-then-room-at-lt2 c =
    let a = c.args in
    let o = c.loop-before in
    let r = o.invariant.going.room_in in
    no_room a.image.now a.room a.budget o.before o.machine o.at o.invariant.going c.loop-before-test.true _ c.step-done.ensures.stepped_value _ _ c.in-Outputs.is (omega arith)

pub returns-in-Halts : goal.returns-in-Halts
returns-in-Halts c =
    let a = c.args in
    let o = c.loop-before in
    halts_here a.image.now a.room a.budget o.before o.machine o.at o.invariant.going c.loop-before-test.true _ c.step-done.ensures.stepped_value c.in-Halts.is

pub returns-in-Refused : goal.returns-in-Refused
returns-in-Refused c =
    let a = c.args in
    let o = c.loop-before in
    refused_here a.image.now a.room a.budget o.before o.machine o.at o.invariant.going c.loop-before-test.true _ c.step-done.ensures.stepped_value c.in-Refused.is

pub loop-before-preserved : goal.loop-before-preserved
loop-before-preserved c =
    let a = c.args in
    let o = c.loop-before in
    let g = o.invariant.going in
    let h = c.loop-before-test.true in
    let s = c.step-done.ensures.stepped_value in
    record {
      going = elim c.match-done.branch [
        | in-Goes w ↦ rw w.at-is (goes a.image.now a.room a.budget o.before o.machine o.at g h _ s w.in-Goes.is)
        | in-Outputs+else-room-at-lt2 w ↦ let r = w.if-room-at-lt2.false in rw w.at-is (puts_out a.image.now a.room a.budget o.before o.machine o.at g h _ s _ _ w.in-Outputs.is (omega arith))
      ];
      is_known = known_is a.image.now o.machine.ip _ c.step-done.ensures.known_value;
    }

pub returns : goal.returns
returns c =
    let a = c.args in
    let o = c.loop-before in
    rw (spent a.image.now a.room a.budget o.before o.machine o.at o.invariant.going c.loop-before-test.false) refl
