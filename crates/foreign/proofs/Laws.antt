-- Laws of what 56 or 57 bytes are, and of a run's result.
-- Assumes nothing.
use Rattle.std.proofs.Common.{◌≡◌, ℕ, ◌/◌, ◌%◌, ◌<◌, ◌≤◌, Bool, true, false, List, ◌++◌, length, drop, refl, arith, le-leb}
use lib.Seq.{sets, sets-eq}
use Rattle.mrc_compiler.specs.declared.encoder.InstructionData.{InstructionData}
use Rattle.mrc_compiler.specs.Choose.{pick}
use Rattle.foreign_report.specs.declared.Response.{Response}
use Rattle.foreign_report.specs.Crossing.{u32_bytes, three_bytes, response_alone}
use Rattle.show_record.specs.Record.{is_record, codes_known, instruction_at}
use Rattle.foreign.specs.EncodeRecord.{Record, wrong_length, unknown_code, of, record_of, record_number, response_of, left_by}
use Rattle.foreign.specs.RunImage.{result_in}

-- a record where record_number answers 0
pub is_record_lem : (s : List ℕ) → record_number (record_of s) ≡ 0 → (is_record (length s) ≡ true) × (record_of s ≡ of (instruction_at s))
unfolding record_of
is_record_lem s = go (is_record (length s)) (codes_known s) refl refl
  where
    go : (a b : Bool) → is_record (length s) ≡ a → codes_known s ≡ b → record_number (pick a (pick b (of (instruction_at s)) unknown_code) wrong_length) ≡ 0
        → (is_record (length s) ≡ true) × (pick a (pick b (of (instruction_at s)) unknown_code) wrong_length ≡ of (instruction_at s))
    go true true p q e = (p, refl)
    go true false p q e = absurd (omega arith)
    go false b p q e = absurd (omega arith)

-- else its number stands alone, and nothing is written
pub record Refused (r : Record) : Type 0 where
  pub tells : (f : InstructionData → Response) → response_alone (record_number r) ≡ response_of r f
  pub leaves : (out : List ℕ) (g : InstructionData → List ℕ) → out ≡ left_by r out g

pub not_record : (r : Record) → (record_number r ≡ 0 → ⊥) → Refused r
unfolding response_of left_by
not_record wrong_length h = record { tells = λ f. refl; leaves = λ out g. refl }
not_record unknown_code h = record { tells = λ f. refl; leaves = λ out g. refl }
not_record (of insn) h = absurd (h refl)

-- ---- the result of a run
written_16 : (a b c d : ℕ) (s l m : List ℕ) → 16 ≤ length s → l ≡ sets s 0 (three_bytes a b c) → m ≡ sets l 12 (u32_bytes d)
    → m ≡ ((u32_bytes a ++ u32_bytes b) ++ (u32_bytes c ++ u32_bytes d)) ++ drop 16 s
unfolding u32_bytes
written_16 a b c d s l m h p q = rw (q, p) (sets-eq ((u32_bytes a ++ u32_bytes b) ++ (u32_bytes c ++ u32_bytes d)) s 0 h)

-- what put_three and put_u32 leave of it
pub result_written : (count n : ℕ) (s l m : List ℕ) → count < 4294967296 → 16 ≤ length s → l ≡ sets s 0 (three_bytes count 0 (n % 4294967296))
    → m ≡ sets l 12 (u32_bytes (n / 4294967296 % 4294967296)) → m ≡ result_in count n s
result_written count n s l m fits h p q =
    let c : count % 4294967296 ≡ count = omega arith in
    let z : count / 4294967296 % 4294967296 ≡ 0 = omega arith in
    rw (le-leb 16 (length s) h, c, z)
    (written_16 count 0 (n % 4294967296) (n / 4294967296 % 4294967296) s l m h p q)
