-- Which form is written (REFERENCE 4 and 5): of the operation's forms the first that takes the operands.
-- Definitions only.
use Rattle.std.specs.Prelude.{ℕ, Bool, true, false, List, [], ◌∷◌, eqb, ltb, pos, negsuc}
use Rattle.mrc_compiler.specs.declared.encoder.OperandData.{OperandData}
use Rattle.mrc_compiler.specs.declared.encoder.OperandSize.{OperandSize}
use Rattle.mrc_compiler.specs.declared.operations.Operation.{Operation}
use Rattle.mrc_compiler.specs.Builders.{is_direct_address}
use Rattle.mrc_compiler.specs.Choose.{pick, both, isnt, by_size, by_jump}
use Rattle.mrc_compiler.specs.Operations.{same_operation}
use Rattle.mrc_compiler.specs.Values.{within}
use Rattle.x86.specs.Forms.{Slot, rm, rm_near, mem, mem_far, reg, sreg, sreg_not_cs, acc, low3, bits34, bits34_not_cs, cl, dx, one, moffs, xlat, ib, iw, ib_sx, cb, cw, ptr, nil, Form, forms}
use Rattle.x86.specs.Reading.{keep, about}
use Rattle.encode_spec.specs.Records.{same_size, stated_of}
use Rattle.encode_groups.specs.declared.Group.{Group}
use Rattle.encode_spec.specs.Operands.{if_imm, if_reg, if_seg, if_mem, if_rm}
use Rattle.encode_spec.specs.Limits.{limits, sign_extended, shift_count}
use Rattle.encode_spec.specs.Rules.{Sizing, unasked, either_states, first_states, first_is_word, Special, ordinary, unordered, unordered_memory, by_count, target_first, not_supported, rule}

-- does a slot take the operand o, which counts with the size s?
abbrev pub takes : Slot → OperandSize → OperandData → Bool
takes (rm w) s o = if_rm o (same_size w s)
takes rm_near s o = if_rm o (both (by_jump o.jmp_kind true false true false) (by_size o.size true false true))
takes mem s o = if_mem o true
takes mem_far s o = if_mem o (both (by_jump o.jmp_kind false true false false) (by_size o.size true false true))
takes (reg w) s o = if_reg o (same_size w s)
takes sreg s o = if_seg o true
takes sreg_not_cs s o = if_seg o (isnt (eqb o.rm 1))
takes (acc w) s o = if_reg o (both (same_size w s) (eqb o.rm 0))
takes (low3 w) s o = if_reg o (same_size w s)
takes bits34 s o = if_seg o true
takes bits34_not_cs s o = if_seg o (isnt (eqb o.rm 1))
takes cl s o = if_reg o (both (by_size o.size false true false) (eqb o.rm 1))
takes dx s o = if_reg o (both (by_size o.size false false true) (eqb o.rm 2))
takes one s o = if_imm o (within shift_count.low shift_count.high o.imm)
takes (moffs w) s o = if_mem o (both (same_size w s) (is_direct_address o.mode o.rm))
takes xlat s o = if_mem o (both (eqb o.mode 0) (eqb o.rm 7))
takes ib s o = if_imm o true
takes iw s o = if_imm o true
takes ib_sx s o = if_imm o (within (limits sign_extended).low (limits sign_extended).high o.imm)
takes cb s o = if_imm o (by_jump o.jmp_kind true false false true)
takes cw s o = if_imm o (by_jump o.jmp_kind true false true false)
takes ptr s o = if_imm o (by_jump o.jmp_kind false true false false)
takes nil s o = true

-- the size with which an operand o of the operands a and b counts: the one that either states where the group asks for that, else its own
abbrev pub size_by : Sizing → OperandData → OperandData → OperandData → OperandSize
size_by unasked a b o = o.size
size_by either_states a b o = stated_of a.size b.size
size_by (first_states why at) a b o = o.size
size_by first_is_word a b o = o.size

abbrev pub size_in : Group → OperandData → OperandData → OperandData → OperandSize
size_in g a b o = size_by (rule g).sizing a b o

-- no form, or a form with the operands in its slots as the record has them, or the other way round
pub data Choice : Type 0 where
  none : Choice
  straight : Form → Choice
  crossed : Form → Choice

-- the first form that takes a (of size s) and b (of size t), in either order where the operation has no first and second
abbrev pub choose : Bool → List Form → OperandSize → OperandData → OperandSize → OperandData → Choice
choose either_way [] s a t b = none
choose either_way (f ∷ fs) s a t b =
    pick (both (takes f.first s a) (takes f.second t b)) (straight f)
    (pick (both either_way (both (takes f.first t b) (takes f.second s a))) (crossed f)
    (choose either_way fs s a t b))

-- only RET looks at the count: at 0 it has the form without an operand, else the one with an immediate
abbrev pub has_immediate : Form → Bool
has_immediate f = ltb 0 (about f.first).takes

abbrev pub count_by : Special → ℕ → Form → Bool
count_by ordinary k f = true
count_by unordered k f = true
count_by unordered_memory k f = true
count_by by_count k f = pick (eqb k 0) (isnt (has_immediate f)) (has_immediate f)
count_by target_first k f = true
count_by not_supported k f = true

-- may a stand in the second slot and b in the first? In XCHG always, in TEST where a is a register and b memory
abbrev pub either_by : Special → OperandData → OperandData → Bool
either_by ordinary a b = false
either_by unordered a b = true
either_by unordered_memory a b = both (if_reg a true) (if_mem b true)
either_by by_count a b = false
either_by target_first a b = false
either_by not_supported a b = false

abbrev pub is_either_way : Group → OperandData → OperandData → Bool
is_either_way g a b = either_by (rule g).special a b

-- the form of a group, out of these, that takes a record with count k and operands a and b
abbrev pub choice : Group → List Form → ℕ → OperandData → OperandData → Choice
choice g fs k a b = choose (is_either_way g a b) (keep (count_by (rule g).special k) fs) (size_in g a b a) a (size_in g a b b) b

-- the forms of an operation
unfoldable pub forms_of : Operation → List Form
forms_of op = keep (λ f. same_operation f.operation op) forms
