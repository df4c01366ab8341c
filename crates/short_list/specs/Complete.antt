-- What the list of short strings is, and what a lent slice then holds: proofs/Complete has both for what is printed.
-- Definitions only.
use Rattle.std.specs.Prelude.{ℕ, ◌<◌, ◌≤◌, ◌≡◌, List, [], ◌++◌, length, get_or, drop}
use Rattle.x86.specs.declared.Instruction.{Instruction}
use Rattle.x86.specs.Listing.{Bytes, ReadsAs, Among, Before}
use Rattle.short_list.specs.Text.{text_of}

-- a string of one or two bytes that reads, whole, as one instruction at offset 0
pub record IsShort (s : List ℕ) : Type 0 where
  pub are_bytes : Bytes s
  pub some : 1 ≤ length s
  pub short : length s ≤ 2
  pub instruction : Instruction
  pub reads_it : ReadsAs 0 instruction s

-- all of them, each once, shorter first, equal lengths by their first differing byte
pub record AllShort (l : List (List ℕ)) : Type 0 where
  pub none_missing : (s : List ℕ) → IsShort s → Among s l
  pub none_beside : (s : List ℕ) → Among s l → IsShort s
  pub none_again : (i j : ℕ) → i < length l → j < length l → get_or l i [] ≡ get_or l j [] → i ≡ j
  pub in_order : (i j : ℕ) → i < j → j < length l → Before (get_or l i []) (get_or l j [])

-- the slice before and after, where the length of the text is n: a line for each short string, a last one with their number, and behind it nothing has changed
pub record Prints (n : ℕ) (before after : List ℕ) : Type 0 where
  pub list : List (List ℕ)
  pub all : AllShort list
  pub long : n ≡ length (text_of list)
  pub text : after ≡ text_of list ++ drop n before
