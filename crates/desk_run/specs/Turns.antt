-- What the loops of the simulator do with the effect of a step.
-- Definitions only.
use Rattle.std.specs.Prelude.{ℕ, Bool, true, false, List, [], ◌∷◌}
use Rattle.desk_step.specs.declared.Effect.{Effect}
use Rattle.desk_step.specs.declared.Effect.TheVariants as E

-- what a step adds to the log
abbrev pub added : Effect → List ℕ
added E.Goes = []
added (E.Outputs port value) = port ∷ value ∷ []
added E.Halts = []
added E.Refused = []

-- does the run end with it?
abbrev pub is_last : Effect → Bool
is_last E.Goes = false
is_last (E.Outputs port value) = false
is_last E.Halts = true
is_last E.Refused = true
