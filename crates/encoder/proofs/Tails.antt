-- What stands behind opcode and ModRM: what is asked of a slot's operand, with its bytes, is what the slot's codes answer.
-- Assumes nothing.
use mathlib.Core.Path.{◌≡◌, refl, sym, ◌∙◌}
use Prim.Native.Nat.{ℕ, ◌+◌, ◌≤◌}
use native.Mathlib.Omega.{arith}
use mathlib.Core.Bool.{Bool, true, false}
use mathlib.Core.List.{List, [], ◌∷◌, ◌++◌}
use lib.Dec.{T, eqb}
use lib.IntN.{ℤ}
use lib.ListN.{length}
use borrow.Author.Tests.{eqb-true}
use Rattle.mrc_compiler.specs.declared.encoder.InstructionData.{InstructionData}
use Rattle.mrc_compiler.specs.declared.encoder.OperandData.{OperandData}
use Rattle.mrc_compiler.specs.declared.encoder.OperandSize.{OperandSize}
use Rattle.mrc_compiler.specs.declared.encoder.generate.Code.TheVariants as C
use Rattle.mrc_compiler.specs.Choose.{pick}
use Rattle.base_values.specs.Distances.{distance_of}
use Rattle.x86.specs.Forms.{Slot, rm, rm_near, mem, mem_far, reg, sreg, sreg_not_cs, acc, low3, bits34, bits34_not_cs, cl, dx, one, moffs, xlat, ib, iw, ib_sx, cb, cw, ptr, nil}
use Rattle.x86.specs.Reading.{Place, nowhere, by_modrm, about}
use Rattle.x86.specs.Reading as R
use Rattle.x86.proofs.Tests.{is_true}
use Rattle.encode_spec.specs.WellFormed.{well_formed}
use Rattle.encode_groups.specs.declared.Group.{Group}
use Rattle.encode_spec.specs.Choice.{takes}
use Rattle.encode_spec.specs.Layout.{byte_of, word_of, part}
use Rattle.encode_spec.specs.Limits.{Kind, data_byte, data_word, sign_extended, vector, port, popped, address, target, segment, limits, byte_kind, word_kind, in_limits, short_distance, of_slot}
use Rattle.encode_spec.specs.Answer.{first_no, Answer, answered, bytes}
use Rattle.encode_spec.proofs.Operands.{imm_taken, mem_taken, mem_in_rm, taken_in_rm, taken_reg, taken_seg, taken_mem}
use Rattle.encode_spec.proofs.Slots.{Field, at_rm, at_reg, in_low3, in_bits34, by_address, by_bx_al, distance, elsewhere, field, place_of, Bounded}
use Rattle.encode_plans.specs.Plans.{immediate_code, tail, in_low_3}
use Rattle.encode_fields.specs.Fields.{ranged, operand, code_answer, joined, immediate_byte, immediate_word, relative_byte, relative_word}
use Rattle.encoder.proofs.Joins.{joined-nil, first_asked, asked_joined, listed}

-- ---- what the codes of a slot go by: how it names memory, and the immediate bytes that it takes
-- memory named by the word behind the opcode: its bytes, and their code
abbrev pub behind : Place → OperandData → List ℕ
behind nowhere o = []
behind by_modrm o = []
behind R.by_address o = word_of o.displacement
behind R.by_bx_al o = []

abbrev addresses : Place → ℕ
addresses nowhere = 0
addresses by_modrm = 0
addresses R.by_address = 1
addresses R.by_bx_al = 0

-- how many codes
abbrev pub codes : Place → ℕ → ℕ
codes p n = addresses p + pick (eqb n 0) 0 1

abbrev pub is_low_3 : Field → Bool
is_low_3 at_rm = false
is_low_3 at_reg = false
is_low_3 in_low3 = true
is_low_3 in_bits34 = false
is_low_3 by_address = false
is_low_3 by_bx_al = false
is_low_3 (distance k) = false
is_low_3 elsewhere = false

-- the bytes that an immediate of a kind has, where its code is of a byte or a word and no more, with the limits asked
abbrev width : Kind → ℕ
width data_byte = 1
width data_word = 2
width sign_extended = 0
width vector = 1
width port = 1
width popped = 2
width address = 0
width target = 0
width segment = 0

-- of an immediate byte the kind is one of a byte, of an immediate word one of a word
abbrev pub kind_fits : Group → ℕ → Bool
kind_fits g n = pick (eqb n 1) (eqb (width (byte_kind g)) 1) (pick (eqb n 2) (eqb (width (word_kind g)) 2) true)

-- a list of one code
alone : {x y : Answer} → x ≡ y → x ≡ joined y (bytes [])
alone {y = y} e = e ∙ sym (joined-nil y)

-- ---- an operand in a slot s of a form of group g
module _ (insn : InstructionData) (off k : ℕ) where
  abbrev o : OperandData
  o = operand insn k

  -- one value in its limits
  limited : (w : Kind) (z : ℤ) (bs : List ℕ) → answered (first_no (in_limits w z o ∷ [])) bs ≡ ranged (limits w).low (limits w).high z o.span bs
  limited w z bs = first_asked (in_limits w z o) [] bs

  -- the code of an immediate
  immediate_is : (w : Kind) → 1 ≤ width w
      → code_answer (immediate_code w k) insn off
      ≡ ranged (limits w).low (limits w).high o.imm o.span (pick (eqb (width w) 1) (byte_of o.imm) (word_of o.imm))
  unfolding immediate_byte immediate_word
  immediate_is data_byte h = refl
  immediate_is data_word h = refl
  immediate_is sign_extended h = absurd (omega arith)
  immediate_is vector h = refl
  immediate_is port h = refl
  immediate_is popped h = refl
  immediate_is address h = absurd (omega arith)
  immediate_is target h = absurd (omega arith)
  immediate_is segment h = absurd (omega arith)

  -- with the question about it
  immediate_asked : (w : Kind) (n : ℕ) → width w ≡ n → 1 ≤ n
      → answered (first_no (in_limits w o.imm o ∷ [])) (pick (eqb n 1) (byte_of o.imm) (word_of o.imm)) ≡ code_answer (immediate_code w k) insn off
  immediate_asked w n e h = rw (limited w o.imm (pick (eqb n 1) (byte_of o.imm) (word_of o.imm)), immediate_is w (omega arith), e)

  -- the byte of 83, which is chosen by its limits
  extended_asked : (z : OperandSize) → takes ib_sx z o ≡ true
      → answered (first_no (in_limits sign_extended o.imm o ∷ [])) (byte_of o.imm) ≡ code_answer (immediate_code sign_extended k) insn off
  extended_asked z t = rw (limited sign_extended o.imm (byte_of o.imm), (imm_taken o.kind _ t).1)

  -- a far target: the question about its offset, then the one about its segment
  far_asked : answered (first_no (in_limits target o.imm o ∷ in_limits segment o.displacement o ∷ [])) (word_of o.imm ++ word_of o.displacement)
      ≡ code_answer (C.FarWords k) insn off
  unfolding immediate_word
  far_asked =
      asked_joined (in_limits target o.imm o ∷ []) (in_limits segment o.displacement o ∷ []) (word_of o.imm) (word_of o.displacement)
      ∙ rw (limited target o.imm (word_of o.imm), limited segment o.displacement (word_of o.displacement))

  module _ (g : Group) where
    -- what is asked in a slot, with its bytes behind opcode and ModRM, is what its codes answer; how many they are; and where the operand stands
    pub record SlotTied (s : Slot) : Type 0 where
      pub answers : answered (first_no (of_slot g s off o)) (behind (place_of (field s)) o ++ (part s off o).immediate) ≡ listed insn off (tail g s k)
      pub count : length (tail g s k) ≡ codes (place_of (field s)) (about s).takes
      pub low3_is : in_low_3 s ≡ is_low_3 (field s)
      pub fits : Bounded (field s) o

    slot_by : {s : Slot} → answered (first_no (of_slot g s off o)) (behind (place_of (field s)) o ++ (part s off o).immediate) ≡ listed insn off (tail g s k)
        → length (tail g s k) ≡ codes (place_of (field s)) (about s).takes → in_low_3 s ≡ is_low_3 (field s) → Bounded (field s) o → SlotTied s
    slot_by a c l b = record { answers = a; count = c; low3_is = l; fits = b }

    -- every slot, with an operand that it takes
    pub slot_tied : (s : Slot) (z : OperandSize) → takes s z o ≡ true → well_formed o ≡ true → T (kind_fits g (about s).takes) → SlotTied s
    unfolding immediate_word relative_byte relative_word
    slot_tied (rm w) z t h q = slot_by refl refl refl (taken_in_rm o h _ t)
    slot_tied rm_near z t h q = slot_by refl refl refl (taken_in_rm o h _ t)
    slot_tied mem z t h q = slot_by refl refl refl (mem_in_rm o h (mem_taken o.kind true t).0)
    slot_tied mem_far z t h q = slot_by refl refl refl (mem_in_rm o h (mem_taken o.kind _ t).0)
    slot_tied (reg w) z t h q = slot_by refl refl refl (taken_reg o h _ t)
    slot_tied sreg z t h q = slot_by refl refl refl (let l = taken_seg o h _ t in omega arith)
    slot_tied sreg_not_cs z t h q = slot_by refl refl refl (let l = taken_seg o h _ t in omega arith)
    slot_tied (acc w) z t h q = slot_by refl refl refl tt
    slot_tied (low3 w) z t h q = slot_by refl refl refl (taken_reg o h _ t)
    slot_tied bits34 z t h q = slot_by refl refl refl (taken_seg o h _ t)
    slot_tied bits34_not_cs z t h q = slot_by refl refl refl (taken_seg o h _ t)
    slot_tied cl z t h q = slot_by refl refl refl tt
    slot_tied dx z t h q = slot_by refl refl refl tt
    slot_tied one z t h q = slot_by refl refl refl tt
    slot_tied (moffs w) z t h q = slot_by (alone (limited address o.displacement (word_of o.displacement))) refl refl (taken_mem o h _ t)
    slot_tied xlat z t h q = slot_by refl refl refl (taken_mem o h _ t)
    slot_tied ib z t h q =
        let w = byte_kind g in
        slot_by (alone (immediate_asked w 1 (eqb-true (width w) 1 (is_true _ q)) (omega arith))) refl refl tt
    slot_tied iw z t h q =
        let w = word_kind g in
        slot_by (alone (immediate_asked w 2 (eqb-true (width w) 2 (is_true _ q)) (omega arith))) refl refl tt
    slot_tied ib_sx z t h q = slot_by (alone (extended_asked z t)) refl refl tt
    slot_tied cb z t h q = slot_by (alone (first_asked (short_distance off o) [] (byte_of (distance_of o.imm off 2)))) refl refl tt
    slot_tied cw z t h q = slot_by (alone (limited target o.imm (word_of (distance_of o.imm off 3)))) refl refl tt
    slot_tied ptr z t h q = slot_by (alone far_asked) refl refl tt
    slot_tied nil z t h q = slot_by refl refl refl tt
