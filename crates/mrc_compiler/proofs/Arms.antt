-- What the last arm of a match on a number knows.
-- Assumes nothing.
use mathlib.Core.Path.{sym}
use mathlib.Core.List.{[], ◌∷◌}
use mathlib.Core.Logic.{⊎_elim}
use Prim.Native.Nat.{ℕ, zero, suc, ◌≤◌, zero-le}
use native.Mathlib.Nat.{eq-or-lt_of_le}
use types.Run.{OneOf}

-- none of the arms 0 to n - 1
abbrev pub Past : ℕ → ℕ → Type 0
Past zero c = Unit {0}
Past (suc n) c = Past n c × (OneOf (n ∷ []) c → ⊥)

pub past : (n c : ℕ) → Past n c → n ≤ c
past zero c h = zero-le
past (suc n) c (h, k) = ⊎_elim (λ e. absurd (k (sym e))) (λ l. l) (eq-or-lt_of_le (past n c h))
