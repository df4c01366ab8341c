use Rattle.desk_step.specs.Step.{IsKnown}
use Rattle.desk_run.proofs.Laws.{Going}
use Rattle.desk_run.proofs.measure.Given as goal

abbrev pub invariant-loop-before : goal.invariant-loop-before
invariant-loop-before l = record { going : Going l.image l.room l.budget l.before l.machine l.at; is_known : IsKnown l.image l.known }
