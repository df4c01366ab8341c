-- Where branches go, among places whose offsets are given: a place is a record's number, or the count for the end. The check of targets asks
-- with old starts here; with the starts of the image it asks about a show as it is.
-- Definitions only.
use Rattle.std.specs.Prelude.{ℕ, suc, Bool, true, false, eqb, ltb, None, Option, Some}
use Rattle.mrc_compiler.specs.declared.encoder.InstructionData.{InstructionData}
use Rattle.mrc_compiler.specs.Choose.{both}
use Rattle.mrc_compiler.specs.Values.{mod_z}
use Rattle.x86.specs.Forms.{Slot, rm, rm_near, mem, mem_far, reg, sreg, sreg_not_cs, acc, low3, bits34, bits34_not_cs, cl, dx, one, moffs, xlat, ib, iw, ib_sx, cb, cw, ptr, nil}
use Rattle.encode_spec.specs.Records.{dst}
use Rattle.encode_spec.specs.Choice.{Choice, none, straight, crossed}
use Rattle.encode_spec.specs.Questions.{chosen}
use Rattle.show_file.specs.Show.{first_from}
use Rattle.convert_spec.specs.declared.Branch.{Branch}
use Rattle.convert_spec.specs.declared.Branch.TheVariants as B

-- ---- branches: the forms with a near target
abbrev pub in_slot : Slot → Option Branch
in_slot (rm w) = None
in_slot rm_near = None
in_slot mem = None
in_slot mem_far = None
in_slot (reg w) = None
in_slot sreg = None
in_slot sreg_not_cs = None
in_slot (acc w) = None
in_slot (low3 w) = None
in_slot bits34 = None
in_slot bits34_not_cs = None
in_slot cl = None
in_slot dx = None
in_slot one = None
in_slot (moffs w) = None
in_slot xlat = None
in_slot ib = None
in_slot iw = None
in_slot ib_sx = None
in_slot cb = Some B.Short  -- Jcc, E0 to E3, EB
in_slot cw = Some B.Near  -- E8, E9
in_slot ptr = None
in_slot nil = None

abbrev pub in_form : Choice → Option Branch
in_form none = None
in_form (straight f) = in_slot f.first
in_form (crossed f) = None

-- of a record that has a form
unfoldable pub branch_of : InstructionData → Option Branch
branch_of insn = in_form (chosen insn)

abbrev pub is_branch : Option Branch → Bool
is_branch None = false
is_branch (Some B.Short) = true
is_branch (Some B.Near) = true

-- ---- targets
-- the first of n records and the end that stands at an offset; n + 1 where none does
abbrev pub place_at : (ℕ → ℕ) → ℕ → ℕ → ℕ
place_at starts n target = first_from (λ k. eqb (starts k) target) (suc n) 0

-- where a branch goes
abbrev pub target_of : InstructionData → ℕ
target_of insn = mod_z 65536 (dst insn).imm

abbrev pub place_of : (ℕ → ℕ) → ℕ → InstructionData → ℕ
place_of starts n insn = place_at starts n (target_of insn)

-- a branch to no place
unfoldable pub is_stray : (ℕ → ℕ) → ℕ → InstructionData → Bool
is_stray starts n insn = both (is_branch (branch_of insn)) (ltb n (place_of starts n insn))

-- the first of n records that is one, or n
abbrev pub first_stray : (ℕ → ℕ) → (ℕ → InstructionData) → ℕ → ℕ
first_stray starts insns n = first_from (λ k. is_stray starts n (insns k)) n 0
