-- What fsq_run answers, and the sixteen bytes of a run's result: the instructions carried out and the length of the log's pairs, little-endian.
-- Definitions only.
use Rattle.std.specs.Prelude.{ℕ, ◌/◌, ◌%◌, List, ◌++◌, length, drop, nat_le, Result, Ok, Err}
use Rattle.mrc_compiler.specs.Choose.{pick}
use Rattle.desk_run.specs.declared.Halted.{Halted}
use Rattle.desk_run.specs.declared.RunError.{RunError}
use Rattle.desk_run.specs.Running.{number_of}
use Rattle.foreign_report.specs.Crossing.{u32_bytes}

-- a number modulo 2^64 as eight bytes, low byte first
abbrev pub u64_bytes : ℕ → List ℕ
u64_bytes n = u32_bytes (n % 4294967296) ++ u32_bytes (n / 4294967296 % 4294967296)

abbrev pub run_number : Result Halted RunError → ℕ
run_number (Ok h) = 0
run_number (Err e) = number_of e

-- a refusal has no count
abbrev pub count_in : Result Halted RunError → ℕ
count_in (Ok h) = h.count
count_in (Err e) = 0

abbrev pub log_length_in : Result Halted RunError → ℕ
log_length_in (Ok h) = h.log_length
log_length_in (Err e) = 0

abbrev pub result_length : ℕ
result_length = 16

abbrev pub result_bytes : ℕ → ℕ → List ℕ
result_bytes n l = u64_bytes n ++ u64_bytes l

-- the lent slice afterwards: its later bytes stay, and a shorter one stays whole
abbrev pub result_in : ℕ → ℕ → List ℕ → List ℕ
result_in n l s = pick (nat_le result_length (length s)) (result_bytes n l ++ drop result_length s) s

abbrev pub result_after : Result Halted RunError → List ℕ → List ℕ
result_after r s = result_in (count_in r) (log_length_in r) s
