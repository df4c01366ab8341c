-- Demand 3 for a record that the encoder accepts, its own string bs.
-- Definitions only.
use Rattle.std.specs.Prelude.{ℕ, ◌≤◌, List, length}
use Rattle.mrc_compiler.specs.declared.encoder.InstructionData.{InstructionData}
use Rattle.x86.specs.Listing.{Among, IsListing}
use Rattle.encode_spec.specs.Meaning.{meaning}
use Rattle.list_spec.specs.Entries.{listing}

pub record Lists (insn : InstructionData) (off : ℕ) (bs : List ℕ) : Type 0 where
  pub exact : IsListing off (meaning insn) (listing off (meaning insn))
  pub own : Among bs (listing off (meaning insn))
  pub few : length (listing off (meaning insn)) ≤ 12
