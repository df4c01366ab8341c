use Rattle.desk_step.specs.Step.{IsKnown}
use Rattle.desk_run.proofs.Laws.{Writing}
use Rattle.desk_run.proofs.write_log.Given as goal

abbrev pub invariant-loop : goal.invariant-loop
invariant-loop l = record { writing : Writing l.image l.initial.log l.budget l.counter l.machine l.at l.log; is_known : IsKnown l.image l.known }
