-- Demand 3, said of the lent slice: what it holds after list has answered a count.
-- Definitions only.
use Rattle.std.specs.Prelude.{ℕ, ◌*◌, ◌<◌, ◌≤◌, ◌≡◌, List, length, take, drop}
use Rattle.mrc_compiler.specs.declared.encoder.InstructionData.{InstructionData}
use Rattle.x86.specs.Listing.{Bytes, ReadsAs, Before, IsListing}
use Rattle.encode_spec.specs.Meaning.{meaning}
use Rattle.list_spec.specs.Entries.{entry}

-- eight bytes of a slice
abbrev pub entry_at : ℕ → List ℕ → List ℕ
entry_at i t = take 8 (drop (8 * i) t)

-- the string s stands in the n entries of the slice t
abbrev pub StandsIn : List ℕ → ℕ → List ℕ → Type 0
StandsIn s n t = (i : ℕ) × (i < n) × (entry_at i t ≡ entry s)

-- a string of 1 to 7 bytes
pub record String (s : List ℕ) : Type 0 where
  pub are_bytes : Bytes s
  pub some : 1 ≤ length s
  pub short : length s ≤ 7

-- the slice before and after, where the count is n and the encoder's own string is bs
pub record Listed3 (insn : InstructionData) (off n : ℕ) (bs before after : List ℕ) : Type 0 where
  -- a string stands in the entries only where the table reads it at the offset, to the last byte, as the record's instruction
  pub none_beside : (s : List ℕ) → String s → StandsIn s n after → ReadsAs off (meaning insn) s
  -- and wherever it does
  pub none_missing : (s : List ℕ) → String s → ReadsAs off (meaning insn) s → StandsIn s n after
  -- each of the n entries is a string's
  pub counted : (i : ℕ) → i < n → (s : List ℕ) × String s × (entry_at i after ≡ entry s)
  -- each once, shorter first, equal lengths by their first differing byte
  pub in_order : (i j : ℕ) (s t : List ℕ) → i < j → j < n → String s → String t → entry_at i after ≡ entry s → entry_at j after ≡ entry t → Before s t
  pub own : StandsIn bs n after
  pub rest : drop (8 * n) after ≡ drop (8 * n) before
  pub few : n ≤ 12

-- n is the number of the strings of 1 to 7 bytes that read as the record's instruction: all of them, each once, make a list of n
abbrev pub IsTheirNumber : InstructionData → ℕ → ℕ → Type 0
IsTheirNumber insn off n = (l : List (List ℕ)) × IsListing off (meaning insn) l × (n ≡ length l)
