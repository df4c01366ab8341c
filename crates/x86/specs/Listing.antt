-- The listing of an instruction at an offset, as demand 3 states it: which strings, in which order.
-- Definitions only.
use Rattle.std.specs.Prelude.{ℕ, ◌<◌, ◌≤◌, ◌≡◌, ◌⊎◌, List, [], ◌∷◌, length, get_or, Ok}
use Rattle.x86.specs.declared.Instruction.{Instruction}
use Rattle.x86.specs.Reading.{reads}

-- numbers below 256
abbrev pub Bytes : List ℕ → Type 0
Bytes s = (i : ℕ) → get_or s i 0 < 256

-- s reads, to the last byte, as the instruction m at an offset
abbrev pub ReadsAs : ℕ → Instruction → List ℕ → Type 0
ReadsAs off m s = reads off s ≡ Ok (m, length s)

pub data Among (s : List ℕ) : List (List ℕ) → Type 0 where
  here : {l : List (List ℕ)} → Among s (s ∷ l)
  later : {t : List ℕ} {l : List (List ℕ)} → Among s l → Among s (t ∷ l)

-- the lower first differing byte
abbrev pub First : List ℕ → List ℕ → Type 0
First [] t = ⊥
First (a ∷ s) [] = ⊥
First (a ∷ s) (b ∷ t) = (a < b) ⊎ ((a ≡ b) × First s t)

-- shorter first, equal lengths by their first differing byte
abbrev pub Before : List ℕ → List ℕ → Type 0
Before s t = (length s < length t) ⊎ ((length s ≡ length t) × First s t)

-- l is the listing of m at off: a string of 1 to 7 bytes stands in it exactly when it reads as m, and each stands before the later ones
-- (so each once)
pub record IsListing (off : ℕ) (m : Instruction) (l : List (List ℕ)) : Type 0 where
  pub none_missing : (s : List ℕ) → Bytes s → 1 ≤ length s → length s ≤ 7 → ReadsAs off m s → Among s l
  pub none_beside : (s : List ℕ) → Among s l → Bytes s × (1 ≤ length s) × (length s ≤ 7) × ReadsAs off m s
  pub in_order : (i j : ℕ) → i < j → j < length l → Before (get_or l i []) (get_or l j [])
