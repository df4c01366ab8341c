use Rattle.std.proofs.Common.{rules}
use Rattle.list_spec.specs.Starts.{move}
use Rattle.list_starts.proofs.start_move.Goals as goal

pub returns-then-second-eq-IMMEDIATE : goal.returns-then-second-eq-IMMEDIATE
unfolding move
returns-then-second-eq-IMMEDIATE c = search rules

pub returns-then-second-eq-SEGMENT_REGISTER : goal.returns-then-second-eq-SEGMENT_REGISTER
unfolding move
returns-then-second-eq-SEGMENT_REGISTER c = search rules

pub returns-then-first-eq-SEGMENT_REGISTER : goal.returns-then-first-eq-SEGMENT_REGISTER
unfolding move
returns-then-first-eq-SEGMENT_REGISTER c = search rules

pub returns-then-second-eq-MEMORY : goal.returns-then-second-eq-MEMORY
unfolding move
returns-then-second-eq-MEMORY c = search rules

pub returns : goal.returns
unfolding move
returns c = search rules
