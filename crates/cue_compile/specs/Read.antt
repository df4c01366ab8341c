-- What the image of a list of cues reads as: proofs/Read has it for every list that compiles.
-- Definitions only.
use Rattle.std.specs.Prelude.{ℕ, ◌+◌, List, [], ◌∷◌, ◌≡◌, drop, Ok}
use Rattle.mrc_compiler.specs.declared.encoder.InstructionData.{InstructionData}
use Rattle.x86.specs.Reading.{reads}
use Rattle.encode_spec.specs.Meaning.{meaning}

-- the bytes s, from an offset on, read as these records, one behind the other
abbrev pub ReadAs : ℕ → List (ℕ → InstructionData) → List ℕ → Type 0
ReadAs at [] s = Unit {0}
ReadAs at (r ∷ rs) s = (n : ℕ) × (reads at s ≡ Ok (meaning (r at), n)) × ReadAs (at + n) rs (drop n s)
