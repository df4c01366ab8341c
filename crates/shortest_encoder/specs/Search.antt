-- The lowest string of an instruction as the code finds it: from its own on, each of the twelve candidates in the place of the best so far where it is listed and its
-- number is lower. proofs/First shows that it is the first of the listing.
-- Definitions only.
use Rattle.std.specs.Prelude.{ℕ, zero, suc, ◌+◌, List, ltb, take}
use Rattle.mrc_compiler.specs.Choose.{pick, both}
use Rattle.x86.specs.declared.Instruction.{Instruction}
use Rattle.encode_run.specs.Run.{empty_run, appended}
use Rattle.list_spec.specs.Candidates.{candidate}
use Rattle.list_spec.specs.Entries.{key, is_listed}
use Rattle.shortest_encoder.specs.declared.Best.{Best}

-- the best string b, or candidate i
unfoldable pub better : ℕ → Instruction → List ℕ → ℕ → List ℕ
better off m b i = pick (both (is_listed off m i) (ltb (key (candidate off m i)) (key b))) (candidate off m i) b

-- with candidate i, below 6, and the same behind the prefix
abbrev pub stepped : ℕ → Instruction → List ℕ → ℕ → List ℕ
stepped off m b i = better off m (better off m b i) (i + 6)

-- from the string s on, with the first n of the six
unfoldable pub search : ℕ → Instruction → List ℕ → ℕ → List ℕ
search off m s zero = s
search off m s (suc i) = stepped off m (search off m s i) i

-- ---- as the code holds it
abbrev pub best_of : List ℕ → Best
best_of s = record { run = appended empty_run s; key = key s }

abbrev pub string_in : Best → List ℕ
string_in b = take b.run.len b.run.bytes
