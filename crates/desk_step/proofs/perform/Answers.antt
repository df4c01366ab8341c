use Rattle.std.specs.Prelude.{◌≡◌, Some}
use Rattle.std.proofs.Common.{rules}
use Rattle.desk_step.specs.declared.Action.TheVariants as A
use Rattle.desk_step.specs.Step.{performed}
use Rattle.desk_step.proofs.perform.Goals as goal

pub returns-in-Some-MoveWord : goal.returns-in-Some-MoveWord
unfolding performed
returns-in-Some-MoveWord c = let e : c.args.action ≡ Some (A.MoveWord c.in-Some-MoveWord.n c.in-Some-MoveWord.v) = search rules in rw (e, ← c.with_word.ensures) c.showing.ensures

pub returns-in-Some-MoveByte : goal.returns-in-Some-MoveByte
unfolding performed
returns-in-Some-MoveByte c = let e : c.args.action ≡ Some (A.MoveByte c.in-Some-MoveByte.n c.in-Some-MoveByte.v) = search rules in rw (e, ← c.with_byte.ensures) c.showing-in-Some-MoveByte.ensures

pub returns-in-Some-Loop : goal.returns-in-Some-Loop
unfolding performed
returns-in-Some-Loop c = let e : c.args.action ≡ Some (A.Loop c.in-Some-Loop.t) = search rules in rw e c.loop_to.ensures

pub returns-in-Some-Jump : goal.returns-in-Some-Jump
unfolding performed
returns-in-Some-Jump c = let e : c.args.action ≡ Some (A.Jump c.in-Some-Jump.t) = search rules in rw e c.showing-in-Some-Jump.ensures

pub returns-in-Some-Output : goal.returns-in-Some-Output
unfolding performed
returns-in-Some-Output c = let e : c.args.action ≡ Some (A.Output c.in-Some-Output.port) = search rules in rw (e, ← c.word_in.ensures) c.showing-in-Some-Output.ensures

pub returns-in-Some-Halt : goal.returns-in-Some-Halt
unfolding performed
returns-in-Some-Halt c = let e : c.args.action ≡ Some A.Halt = search rules in rw e c.showing-in-Some-Halt.ensures

pub returns-in-None : goal.returns-in-None
unfolding performed
returns-in-None c = rw c.in-None.is c.showing-in-None.ensures
