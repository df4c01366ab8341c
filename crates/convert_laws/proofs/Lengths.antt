-- How many bytes a record has does not depend on where it stands, nor a branch's on where it goes.
-- Assumes nothing.
use mathlib.Core.Path.{◌≡◌, refl, sym, ◌∙◌, ap}
use mathlib.Core.Bool.{true}
use mathlib.Core.List.{List, ◌++◌}
use Prim.Native.Nat.{ℕ, ◌+◌}
use lib.IntN.{ℤ}
use lib.ListN.{length, length-append}
use Rattle.mrc_compiler.specs.declared.encoder.InstructionData.{InstructionData}
use Rattle.mrc_compiler.specs.declared.encoder.OperandData.{OperandData}
use Rattle.x86.specs.Forms.{Slot, rm, rm_near, mem, mem_far, reg, sreg, sreg_not_cs, acc, low3, bits34, bits34_not_cs, cl, dx, one, moffs, xlat, ib, iw, ib_sx, cb, cw, ptr, nil, Extension, Form}
use Rattle.x86.specs.Forms as F
use Rattle.encode_spec.specs.Records.{dst, src}
use Rattle.encode_spec.specs.Choice.{Choice, none, straight, crossed}
use Rattle.encode_spec.specs.Layout.{prefix_bytes, Part, part, second, layout}
use Rattle.encode_spec.specs.Questions.{chosen, questions}
use Rattle.encode_spec.specs.Answer.{first_no, written, record_bytes, bytes, answer}
use Rattle.encode_spec.proofs.Accepted.{gives_bytes}
use Rattle.convert_spec.specs.Counts.{with_imm}
use Rattle.convert_spec.specs.Targets.{branch_of, is_branch}
use Rattle.convert_laws.specs.NewRecords.{with_first}
use Rattle.convert_laws.proofs.Branches.{same_choice}

-- ---- the parts of a form
record Alike (p q : Part) : Type 0 where
  pub prefix : length p.prefix ≡ length q.prefix
  pub memory : length p.memory ≡ length q.memory
  pub immediate : length p.immediate ≡ length q.immediate

same : (p : Part) → Alike p p
same p = record { prefix = refl; memory = refl; immediate = refl }

alike : (s : Slot) (off off' : ℕ) (o : OperandData) (z : ℤ) → Alike (part s off o) (part s off' (with_imm o z))
alike (rm w) off off' o z = same _
alike rm_near off off' o z = same _
alike mem off off' o z = same _
alike mem_far off off' o z = same _
alike (reg w) off off' o z = same _
alike sreg off off' o z = same _
alike sreg_not_cs off off' o z = same _
alike (acc w) off off' o z = same _
alike (low3 w) off off' o z = same _
alike bits34 off off' o z = same _
alike bits34_not_cs off off' o z = same _
alike cl off off' o z = same _
alike dx off off' o z = same _
alike one off off' o z = same _
alike (moffs w) off off' o z = same _
alike xlat off off' o z = same _
alike ib off off' o z = record { prefix = refl; memory = refl; immediate = refl }
alike iw off off' o z = record { prefix = refl; memory = refl; immediate = refl }
alike ib_sx off off' o z = record { prefix = refl; memory = refl; immediate = refl }
alike cb off off' o z = record { prefix = refl; memory = refl; immediate = refl }
alike cw off off' o z = record { prefix = refl; memory = refl; immediate = refl }
alike ptr off off' o z = record { prefix = refl; memory = refl; immediate = refl }
alike nil off off' o z = same _

second_length : (e : Extension) (m m' : ℕ) → length (second e m) ≡ length (second e m')
second_length F.no m m' = refl
second_length F.+r m m' = refl
second_length F.+s m m' = refl
second_length F./r m m' = refl
second_length (F./ n) m m' = refl
second_length F.0A m m' = refl

-- ---- the bytes of a form, at another offset and with other immediates
layout-length : (f : Form) (off off' : ℕ) (a b : OperandData) (y z : ℤ) → length (layout f off a b) ≡ length (layout f off' (with_imm a y) (with_imm b z))
unfolding layout
layout-length f off off' a b y z =
    let p = alike f.first off off' a y in
    let q = alike f.second off off' b z in
    let s = second_length f.extension ((part f.first off a).modrm + (part f.second off b).modrm) ((part f.first off' (with_imm a y)).modrm + (part f.second off' (with_imm b z)).modrm) in
    simp length-append (rw (p.prefix, p.memory, p.immediate, q.prefix, q.memory, q.immediate, s) refl)

written-length : (c : Choice) (off off' : ℕ) (a b : OperandData) (y z : ℤ) → length (written c off a b) ≡ length (written c off' (with_imm a y) (with_imm b z))
written-length none off off' a b y z = refl
written-length (straight f) off off' a b y z = layout-length f off off' a b y z
written-length (crossed f) off off' a b y z = layout-length f off off' b a z y

-- ---- a record's
answer_is : (insn : InstructionData) (off : ℕ) (bs : List ℕ) → answer insn off ≡ bytes bs → record_bytes insn off ≡ bs
unfolding answer
answer_is insn off bs e = (gives_bytes (first_no (questions insn off)) (record_bytes insn off) bs e).1

prefixed : (p s t : List ℕ) → length s ≡ length t → length (p ++ s) ≡ length (p ++ t)
prefixed p s t e = simp length-append (rw e refl)

-- the same record at another offset
pub same_length : (insn : InstructionData) (off off' : ℕ) (bs cs : List ℕ) → answer insn off ≡ bytes bs → answer insn off' ≡ bytes cs → length bs ≡ length cs
same_length insn off off' bs cs e d =
    let w = written-length (chosen insn) off off' (dst insn) (src insn) (dst insn).imm (src insn).imm in
    rw (← (answer_is insn off bs e), ← (answer_is insn off' cs d)) (prefixed (prefix_bytes insn.repeat) _ _ w)

-- a branch at another offset, to another place
pub branch_length : (insn : InstructionData) (z : ℤ) (off off' : ℕ) (bs cs : List ℕ) → is_branch (branch_of insn) ≡ true
    → answer insn off ≡ bytes bs → answer (with_first insn z) off' ≡ bytes cs → length bs ≡ length cs
branch_length insn z off off' bs cs h e d =
    let w = written-length (chosen insn) off off' (dst insn) (src insn) z (src insn).imm in
    rw (← (answer_is insn off bs e), ← (answer_is (with_first insn z) off' cs d), same_choice insn z h) (prefixed (prefix_bytes insn.repeat) _ _ w)
