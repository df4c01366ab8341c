-- A shift gets the same answer at every offset: only the distances of branches look at it.
-- Assumes nothing.
use mathlib.Core.Path.{◌≡◌, refl}
use mathlib.Core.Bool.{Bool, true, false}
use mathlib.Core.List.{◌++◌}
use Prim.Native.Nat.{ℕ}
use Rattle.mrc_compiler.specs.declared.encoder.InstructionData.{InstructionData}
use Rattle.mrc_compiler.specs.declared.encoder.OperandData.{OperandData}
use Rattle.mrc_compiler.specs.declared.operations.Operation.{Operation}
use Rattle.mrc_compiler.specs.Choose.{both}
use Rattle.x86.specs.Forms.{Slot, rm, rm_near, mem, mem_far, reg, sreg, sreg_not_cs, acc, low3, bits34, bits34_not_cs, cl, dx, one, moffs, xlat, ib, iw, ib_sx, cb, cw, ptr, nil, Form}
use Rattle.encode_groups.specs.declared.Group.{Group}
use Rattle.encode_groups.specs.Grouping.{group_of}
use Rattle.encode_spec.specs.Records.{dst, src}
use Rattle.encode_spec.specs.Blocks.{block}
use Rattle.encode_spec.specs.Choice.{Choice, none, straight, crossed, forms_of}
use Rattle.encode_spec.specs.Limits.{of_slot}
use Rattle.encode_spec.specs.Layout.{part, layout}
use Rattle.encode_spec.specs.Questions.{form_asked, chosen, questions}
use Rattle.encode_spec.specs.Answer.{written, answer}
use Rattle.encode_spec.proofs.Operations.{in_table}
use Rattle.encode_spec.proofs.Values.{false-true, both_true}
use Rattle.shift_copies.specs.Shifting.{is_shift}
use Rattle.convert_laws.proofs.Chosen.{all, holds, choice-holds}
use Rattle.convert_laws.proofs.Branches.{shift_group}

-- ---- slots that do not look at the offset
abbrev free : Slot → Bool
free (rm w) = true
free rm_near = true
free mem = true
free mem_far = true
free (reg w) = true
free sreg = true
free sreg_not_cs = true
free (acc w) = true
free (low3 w) = true
free bits34 = true
free bits34_not_cs = true
free cl = true
free dx = true
free one = true
free (moffs w) = true
free xlat = true
free ib = true
free iw = true
free ib_sx = true
free cb = false
free cw = false
free ptr = true
free nil = true

asks_free : (g : Group) (t : Slot) (off off' : ℕ) (o : OperandData) → free t ≡ true → of_slot g t off o ≡ of_slot g t off' o
asks_free g (rm w) off off' o h = refl
asks_free g rm_near off off' o h = refl
asks_free g mem off off' o h = refl
asks_free g mem_far off off' o h = refl
asks_free g (reg w) off off' o h = refl
asks_free g sreg off off' o h = refl
asks_free g sreg_not_cs off off' o h = refl
asks_free g (acc w) off off' o h = refl
asks_free g (low3 w) off off' o h = refl
asks_free g bits34 off off' o h = refl
asks_free g bits34_not_cs off off' o h = refl
asks_free g cl off off' o h = refl
asks_free g dx off off' o h = refl
asks_free g one off off' o h = refl
asks_free g (moffs w) off off' o h = refl
asks_free g xlat off off' o h = refl
asks_free g ib off off' o h = refl
asks_free g iw off off' o h = refl
asks_free g ib_sx off off' o h = refl
asks_free g cb off off' o h = false-true h
asks_free g cw off off' o h = false-true h
asks_free g ptr off off' o h = refl
asks_free g nil off off' o h = refl

part_free : (t : Slot) (off off' : ℕ) (o : OperandData) → free t ≡ true → part t off o ≡ part t off' o
part_free (rm w) off off' o h = refl
part_free rm_near off off' o h = refl
part_free mem off off' o h = refl
part_free mem_far off off' o h = refl
part_free (reg w) off off' o h = refl
part_free sreg off off' o h = refl
part_free sreg_not_cs off off' o h = refl
part_free (acc w) off off' o h = refl
part_free (low3 w) off off' o h = refl
part_free bits34 off off' o h = refl
part_free bits34_not_cs off off' o h = refl
part_free cl off off' o h = refl
part_free dx off off' o h = refl
part_free one off off' o h = refl
part_free (moffs w) off off' o h = refl
part_free xlat off off' o h = refl
part_free ib off off' o h = refl
part_free iw off off' o h = refl
part_free ib_sx off off' o h = refl
part_free cb off off' o h = false-true h
part_free cw off off' o h = false-true h
part_free ptr off off' o h = refl
part_free nil off off' o h = refl

-- ---- forms, and the form chosen
abbrev free_form : Form → Bool
free_form f = both (free f.first) (free f.second)

layout_free : (f : Form) (off off' : ℕ) (a b : OperandData) → free_form f ≡ true → layout f off a b ≡ layout f off' a b
unfolding layout
layout_free f off off' a b h =
    let (x, y) = both_true (free f.first) (free f.second) h in
    rw (part_free f.first off off' a x, part_free f.second off off' b y)

written_free : (c : Choice) (off off' : ℕ) (a b : OperandData) → holds free_form c ≡ true → written c off a b ≡ written c off' a b
written_free none off off' a b h = refl
written_free (straight f) off off' a b h = layout_free f off off' a b h
written_free (crossed f) off off' a b h = layout_free f off off' b a h

form_asks_free : (g : Group) (f : Form) (off off' : ℕ) (a b : OperandData) → free_form f ≡ true
    → of_slot g f.first off a ++ of_slot g f.second off b ≡ of_slot g f.first off' a ++ of_slot g f.second off' b
form_asks_free g f off off' a b h =
    let (x, y) = both_true (free f.first) (free f.second) h in
    rw (asks_free g f.first off off' a x, asks_free g f.second off off' b y)

asked_free : (g : Group) (c : Choice) (off off' : ℕ) (a b : OperandData) → holds free_form c ≡ true → form_asked g c off a b ≡ form_asked g c off' a b
asked_free g none off off' a b h = refl
asked_free g (straight f) off off' a b h = form_asks_free g f off off' a b h
asked_free g (crossed f) off off' a b h = form_asks_free g f off off' b a h

-- ---- the seven shifts
shift_free : (op : Operation) → is_shift op ≡ true → all free_form (forms_of op) ≡ true
unfolding block
shift_free op h = rw ((in_table op).forms_are, shift_group op h) refl

chosen_free : (insn : InstructionData) → is_shift insn.operation ≡ true → holds free_form (chosen insn) ≡ true
chosen_free insn h =
    choice-holds free_form (group_of insn.operation) (forms_of insn.operation) insn.num_opers (dst insn) (src insn) (shift_free insn.operation h)

pub same_answer : (insn : InstructionData) (off off' : ℕ) → is_shift insn.operation ≡ true → answer insn off ≡ answer insn off'
unfolding answer questions
same_answer insn off off' h =
    let f = chosen_free insn h in
    rw (asked_free (group_of insn.operation) (chosen insn) off off' (dst insn) (src insn) f, written_free (chosen insn) off off' (dst insn) (src insn) f)
