-- What a designer may rely on (REFERENCE 15): the budget and the log of a list of cues.
-- Definitions only.
use Rattle.std.specs.Prelude.{ℕ, ◌+◌, ◌*◌, ◌≤◌, ◌≡◌, List, [], ◌∷◌, length, Ok}
use Rattle.cue_compile.specs.declared.Cue.{Cue}
use Rattle.desk_run.specs.Running.{halted, ending, halted_with, answered, log_after}

-- the sum of (delay + 3)
unfoldable pub delays : List Cue → ℕ
delays [] = 0
delays (c ∷ cs) = c.delay + 3 + delays cs

-- and HLT
abbrev pub budget_of : List Cue → ℕ
budget_of cs = delays cs + 1

-- the ports and masks in their order
unfoldable pub pairs_of : List Cue → List ℕ
pairs_of [] = []
pairs_of (c ∷ cs) = c.port ∷ c.mask ∷ pairs_of cs

-- a log of one pair a cue
abbrev pub room_of : List Cue → ℕ
room_of cs = 2 * length cs

-- cues that lie as a program in an image: with the budget, and a log of one pair a cue, the run halts on the last step of the budget, and the
-- log holds the ports and masks. A greater budget and a longer log change nothing of that
pub record Relied (cs : List Cue) (image : List ℕ) : Type 0 where
  pub halts_on_last : (log : List ℕ) → length log ≡ room_of cs → answered (ending image (budget_of cs) (length log)) ≡ Ok (halted_with (budget_of cs) (room_of cs))
  pub logged : (log : List ℕ) → length log ≡ room_of cs → log_after (ending image (budget_of cs) (length log)) log ≡ pairs_of cs
  pub no_later : (budget room : ℕ) → budget_of cs ≤ budget → room_of cs ≤ room → ending image budget room ≡ halted (budget_of cs) (pairs_of cs)
  -- so the budget is a u32
  pub small : budget_of cs ≤ 13107601
