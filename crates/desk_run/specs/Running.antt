-- A run: the step taken one by one under a budget, with a log of the OUTs carried out (REFERENCE 15).
-- Definitions only.
use Rattle.std.specs.Prelude.{ℕ, zero, suc, ◌+◌, Bool, true, false, List, [], ◌∷◌, ◌++◌, leb, length, take, drop, Result, Ok, Err}
use Rattle.mrc_compiler.specs.Choose.{pick}
use Rattle.desk_step.specs.declared.Machine.{Machine}
use Rattle.desk_step.specs.declared.Effect.{Effect}
use Rattle.desk_step.specs.declared.Effect.TheVariants as E
use Rattle.desk_run.specs.declared.RunError.{RunError}
use Rattle.desk_run.specs.declared.RunError.TheVariants as N
use Rattle.desk_run.specs.declared.Halted.{Halted}
use Rattle.desk_step.specs.Step.{start, step_of}

-- ---- refusals: document 02's number for each case
abbrev pub number_of : RunError → ℕ
number_of N.NotCarriedOut = 21
number_of N.BudgetSpent = 22
number_of N.LogTooShort = 9

-- ---- how a run ends
pub data Ending : Type 0 where
  -- by HLT: the instructions carried out, and the log's pairs
  halted : ℕ → List ℕ → Ending
  refused : RunError → Ending

abbrev pub is_halted : Ending → Bool
is_halted (halted n log) = true
is_halted (refused e) = false

-- by the effect of a step: where it goes on, f is the run from there with the log
abbrev pub followed : ℕ → ℕ → List ℕ → Effect → (List ℕ → Ending) → Ending
followed room count log E.Goes f = f log
followed room count log (E.Outputs port value) f =
    pick (leb (length log + 2) room) (f (log ++ (port ∷ value ∷ []))) (refused N.LogTooShort)
followed room count log E.Halts f = halted (suc count) log
followed room count log E.Refused f = refused N.NotCarriedOut

-- the budget, the instructions carried out so far, the machine, the log so far; room is the length of the lent log
unfoldable pub ran : List ℕ → ℕ → ℕ → ℕ → Machine → List ℕ → Ending
ran image room zero count m log = refused N.BudgetSpent
ran image room (suc budget) count m log =
    followed room count log (step_of image m).effect (λ l. ran image room budget (suc count) (step_of image m).machine l)

-- the image is the first 65,536 bytes
abbrev pub in_reach : List ℕ → List ℕ
in_reach image = take 65536 image

abbrev pub ending : List ℕ → ℕ → ℕ → Ending
ending image budget room = ran (in_reach image) room budget 0 start []

-- ---- what is answered, and what is left in the lent log
abbrev pub halted_with : ℕ → ℕ → Halted
halted_with count log_length = record { count = count; log_length = log_length }

abbrev pub answered : Ending → Result Halted RunError
answered (halted n log) = Ok (halted_with n (length log))
answered (refused e) = Err e

abbrev pub log_after : Ending → List ℕ → List ℕ
log_after (halted n log) lent = log ++ drop (length log) lent
log_after (refused e) lent = lent
