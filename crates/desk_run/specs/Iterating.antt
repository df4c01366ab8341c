-- The step taken one by one, without budget, log or count, and what a count of instructions carried out says of it.
-- Definitions only.
use Rattle.std.specs.Prelude.{ℕ, zero, suc, ◌<◌, ◌≤◌, ◌≡◌, false, List, [], ◌++◌}
use Rattle.desk_step.specs.declared.Machine.{Machine}
use Rattle.desk_step.specs.declared.Effect.TheVariants as E
use Rattle.desk_step.specs.Step.{step_of}
use Rattle.desk_run.specs.Turns.{added, is_last}

-- the machine after n steps
unfoldable pub iterated : List ℕ → ℕ → Machine → Machine
iterated image zero m = m
iterated image (suc n) m = iterated image n (step_of image m).machine

-- the ports and values that n steps put out
unfoldable pub put_out : List ℕ → ℕ → Machine → List ℕ
put_out image zero m = []
put_out image (suc n) m = added (step_of image m).effect ++ put_out image n (step_of image m).machine

-- n more instructions are carried out from m, no more than the budget: before + 1 steps, the last of which is HLT and no other ends the run
pub record Counted (image : List ℕ) (budget : ℕ) (m : Machine) (n : ℕ) (log : List ℕ) : Type 0 where
  pub before : ℕ
  pub count : n ≡ suc before
  pub in_budget : n ≤ budget
  pub halts_last : (step_of image (iterated image before m)).effect ≡ E.Halts
  pub not_earlier : (i : ℕ) → i < before → is_last (step_of image (iterated image i m)).effect ≡ false
  pub logged : log ≡ put_out image before m
