-- What the passes of the converter answer. Nobody has to believe it: the proofs of its functions tie it to convert_spec's definitions.
-- Definitions only.
use Rattle.std.specs.Prelude.{ℕ, ◌+◌, ◌<◌, ◌≤◌, ◌≡◌, true, List, ltb, length, get_or, Some, Result, Ok, Err}
use Rattle.std.specs.Int.Signed.{mag}
use Rattle.mrc_compiler.specs.declared.encoder.InstructionData.{InstructionData}
use Rattle.mrc_compiler.specs.Choose.{pick}
use Rattle.encode_spec.specs.Records.{dst}
use Rattle.encode_spec.specs.Answer.{Answer, bytes, refused}
use Rattle.show_file.specs.declared.Header.{Header}
use Rattle.show_file.specs.declared.LoadError.{LoadError}
use Rattle.show_file.specs.declared.LoadError.TheVariants as E
use Rattle.show_load.specs.Loading.{Walk, all, stopped}
use Rattle.convert_spec.specs.declared.Branch.TheVariants as B
use Rattle.convert_spec.specs.OldStarts.{old_offset, old_answer, gain}
use Rattle.convert_spec.specs.Targets.{branch_of, is_branch, place_of}
use Rattle.convert_spec.specs.Converting.{first_refused}
use Rattle.convert_laws.specs.Passed.{Show1, Convertible, Table}

-- ---- the old layout
abbrev pub laid_with : ℕ → Answer → Result (Unit {0}) LoadError
laid_with k (refused e) = Err (E.Record k e)
laid_with k (bytes bs) = Ok tt

-- all of n records, or the first that is refused at its old start
unfoldable pub laid_out : List ℕ → ℕ → ℕ → Result (Unit {0}) LoadError
laid_out file origin n = let k = first_refused file origin n in pick (ltb k n) (laid_with k (old_answer file origin k)) (Ok tt)

-- ---- the written file, walked
abbrev pub walked_as : Walk → Result (Unit {0}) LoadError
walked_as (all bs) = Ok tt
walked_as (stopped k e) = Err (E.Record k e)

-- ---- lists of starts and of gains
-- as functions of a place
abbrev pub place : List ℕ → ℕ → ℕ
place s k = get_or s k 0

-- room for n places and the end
abbrev pub Room : ℕ → List ℕ → List ℕ → Type 0
Room n starts gains = (n + 1 ≤ length starts) × (n + 1 ≤ length gains)

-- what makes the sum of a branch's target and its gain an i32
pub record Movable (insn : InstructionData) (n : ℕ) (starts gains : List ℕ) : Type 0 where
  pub short : branch_of insn ≡ Some B.Short → mag (dst insn).imm < 70000
  pub there : is_branch (branch_of insn) ≡ true → place_of (place starts) n insn ≤ n
  pub little : is_branch (branch_of insn) ≡ true → get_or gains (place_of (place starts) n insn) 0 ≤ 217000

-- ---- all questions about the old records got yes, and the lists are filled
pub record Filled (file : List ℕ) (h : Header) (starts gains : List ℕ) : Type 0 where
  pub show : Show1 file h
  pub convertible : Convertible file h.origin h.count
  pub starts_are : Table (old_offset file h.origin) (h.count + 1) starts
  pub gains_are : Table (gain file h.origin) (h.count + 1) gains
  pub room : Room h.count starts gains
