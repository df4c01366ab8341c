-- Demand 2, said of a show: what the image holds after load has answered a length.
-- Definitions only.
use Rattle.std.specs.Prelude.{◌≡◌, ℕ, ◌+◌, ◌-◌, ◌<◌, List, length, take, drop}
use Rattle.x86.specs.Listing.{ReadsAs}
use Rattle.encode_spec.specs.Meaning.{meaning}
use Rattle.show_file.specs.declared.Header.{Header}
use Rattle.show_file.specs.Show.{insn_at}
use Rattle.show_load.specs.Loading.{offset_behind}

-- from place i up to place j of a slice
abbrev pub part : ℕ → ℕ → List ℕ → List ℕ
part i j s = take (j - i) (drop i s)

-- the image before and after, of a file with the header h, where the length is n and record k's bytes begin at starts k
pub record Loaded2 (file : List ℕ) (h : Header) (n : ℕ) (starts : ℕ → ℕ) (before after : List ℕ) : Type 0 where
  -- the parts stand one behind the other, from the front to the n-th byte, and none is empty
  pub first : starts 0 ≡ 0
  pub last : starts h.count ≡ n
  pub follows : (k : ℕ) → k < h.count → starts k < starts (k + 1)
  pub whole : (k : ℕ) → k < h.count → starts k + length (part (starts k) (starts (k + 1)) after) ≡ starts (k + 1)
  -- record k's reads, to its last byte and at its own offset, as record k's instruction
  pub each_reads : (k : ℕ) → k < h.count → ReadsAs (offset_behind h.origin (starts k)) (meaning (insn_at file k)) (part (starts k) (starts (k + 1)) after)
  pub rest : drop n after ≡ drop n before
