-- The strings of a list by their places (specs/Listing).
-- Assumes nothing.
use mathlib.Core.Path.{◌≡◌, refl}
use Prim.Native.Nat.{ℕ, zero, suc, ◌<◌}
use native.Mathlib.Omega.{arith}
use mathlib.Core.List.{List, [], ◌∷◌}
use lib.ListN.{length, get_or}
use Rattle.x86.specs.Listing.{Among, here, later}

-- what stands at a place of a list is one of it
pub at_among : (l : List (List ℕ)) (i : ℕ) → i < length l → Among (get_or l i []) l
at_among [] i h = absurd (omega arith)
at_among (s ∷ l) zero h = here
at_among (s ∷ l) (suc i) h = later (at_among l i (omega arith))

-- and each of it has a place
pub place : (s : List ℕ) (l : List (List ℕ)) → Among s l → (j : ℕ) × (j < length l) × (get_or l j [] ≡ s)
place s (t ∷ l) here = (zero, omega arith, refl)
place s (t ∷ l) (later a) = let (j, h, e) = place s l a in (suc j, omega arith, e)
place s [] x' = elim x' [ ]
