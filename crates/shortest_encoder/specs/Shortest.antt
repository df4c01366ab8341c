-- What encode_shortest answers (document 02, No. 8): encode's refusals, and for an accepted record the first string of its listing.
-- Definitions only.
use Rattle.std.specs.Prelude.{ℕ, ◌≤◌, ◌≡◌, ◌⊎◌, List, [], length, get_or}
use Rattle.mrc_compiler.specs.declared.encoder.InstructionData.{InstructionData}
use Rattle.x86.specs.Listing.{Bytes, ReadsAs, Before, IsListing}
use Rattle.encode_spec.specs.Meaning.{meaning}
use Rattle.encode_spec.specs.Answer.{Answer, bytes, refused, answer}
use Rattle.list_spec.specs.Entries.{listing}

abbrev pub shortest : InstructionData → ℕ → List ℕ
shortest insn off = get_or (listing off (meaning insn)) 0 []

-- other bytes for those of an answer
abbrev pub instead : Answer → List ℕ → Answer
instead (bytes bs) s = bytes s
instead (refused e) s = refused e

unfoldable pub shortest_answer : InstructionData → ℕ → Answer
shortest_answer insn off = instead (answer insn off) (shortest insn off)

-- ---- what the string s of a record's instruction is, said of the reading
pub record IsShortest (insn : InstructionData) (off : ℕ) (s : List ℕ) : Type 0 where
  pub reads_it : ReadsAs off (meaning insn) s
  -- no string of the same instruction is shorter
  pub none_shorter : (t : List ℕ) → Bytes t → ReadsAs off (meaning insn) t → length s ≤ length t
  -- and of the same length none is lower
  pub lowest : (t : List ℕ) → Bytes t → ReadsAs off (meaning insn) t → (s ≡ t) ⊎ Before s t
  -- it is the first entry, whatever list is the listing of demand 3
  pub first : (l : List (List ℕ)) → IsListing off (meaning insn) l → get_or l 0 [] ≡ s
