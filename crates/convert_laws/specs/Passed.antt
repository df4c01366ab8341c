-- What is known of a file where the converter's questions got yes. Nobody has to believe it: proofs/Shown and proofs/Done show it.
-- Definitions only.
use Rattle.std.specs.Prelude.{ℕ, ◌+◌, ◌*◌, ◌<◌, ◌≤◌, ◌≡◌, true, false, List, length, get_or}
use Rattle.show_file.specs.declared.Header.{Header}
use Rattle.show_file.specs.Show.{version_place, has_mark, u16_at, header, record_bytes, insn_at}
use Rattle.convert_spec.specs.Counts.{count_taken}
use Rattle.convert_spec.specs.OldStarts.{is_refused, old_offset, old_answer}
use Rattle.convert_spec.specs.Targets.{branch_of, is_branch, place_of}

-- it opens, as one of version 1
pub record Show1 (file : List ℕ) (h : Header) : Type 0 where
  pub its_header : header file ≡ h
  pub marked : has_mark file ≡ true
  pub version : u16_at file version_place ≡ 1
  pub each : record_bytes file ≡ 56
  pub its_length : length file ≡ 9 + 56 * h.count
  pub few : h.count ≤ 1000

-- the counts of n records are taken
pub record Counted (file : List ℕ) (n : ℕ) : Type 0 where
  pub counted : (k : ℕ) → k < n → count_taken (insn_at file k) ≡ true

-- and each is accepted at its old start, and each branch goes to a place
pub record Convertible (file : List ℕ) (origin n : ℕ) : Type 0 where
  pub counts : Counted file n
  pub taken : (k : ℕ) → k < n → is_refused (old_answer file origin k) ≡ false
  pub placed : (k : ℕ) → k < n → is_branch (branch_of (insn_at file k)) ≡ true → place_of (old_offset file origin) n (insn_at file k) ≤ n

-- a list that has f 0, f 1 .. at its first n places
pub record Table (f : ℕ → ℕ) (n : ℕ) (s : List ℕ) : Type 0 where
  pub at : (k : ℕ) → k < n → get_or s k 0 ≡ f k
