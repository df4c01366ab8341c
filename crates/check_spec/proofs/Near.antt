-- Of a record that is accepted, what it means has a near target where its form is a branch's, and the target is the record's.
-- Assumes nothing.
use mathlib.Core.Path.{◌≡◌, refl, sym, ◌∙◌, ap}
use mathlib.Core.Bool.{Bool, true, false}
use mathlib.Core.List.{List, Memᴰ}
use mathlib.Core.Logic.{◌⊎◌, inl, inr, ⊎_elim}
use Prim.Native.Nat.{ℕ}
use native.Mathlib.Omega.{arith}
use lib.Dec.{T}
use Rattle.mrc_compiler.specs.declared.encoder.InstructionData.{InstructionData}
use Rattle.mrc_compiler.specs.declared.encoder.OperandData.{OperandData}
use Rattle.mrc_compiler.specs.declared.encoder.OperandKind.{OperandKind}
use Rattle.mrc_compiler.specs.declared.encoder.OperandKind.TheVariants as K
use Rattle.mrc_compiler.specs.declared.encoder.OperandSize.{OperandSize}
use Rattle.mrc_compiler.specs.declared.encoder.OperandSize.TheVariants as S
use Rattle.mrc_compiler.specs.declared.operations.Operation.{Operation}
use Rattle.mrc_compiler.specs.declared.operations.Operation.TheVariants as Op
use Rattle.mrc_compiler.specs.Choose.{pick, isnt, by_kind}
use Rattle.mrc_compiler.specs.Operations.{number_of}
use Rattle.mrc_compiler.specs.Values.{mod_z}
use Rattle.x86.specs.declared.Instruction.{Instruction}
use Rattle.x86.specs.declared.Operand.{Operand}
use Rattle.x86.specs.declared.Operand.TheVariants as O
use Rattle.x86.specs.Instructions.{instruction, is_nop, crossing, canonical}
use Rattle.x86.specs.Forms.{Slot, rm, rm_near, mem, mem_far, reg, sreg, sreg_not_cs, acc, low3, bits34, bits34_not_cs, cl, dx, one, moffs, xlat, ib, iw, ib_sx, cb, cw, ptr, nil, Form, forms}
use Rattle.x86.specs.Reading.{width_of}
use Rattle.x86.proofs.Tests.{each_of, each_at, is_true}
use Rattle.encode_groups.specs.Grouping.{grouped_of, group_of}
use Rattle.encode_spec.specs.Records.{dst, src}
use Rattle.encode_spec.specs.Operands.{counted}
use Rattle.encode_spec.specs.Rules.{Special, ordinary, unordered, unordered_memory, by_count, target_first, not_supported, rule}
use Rattle.encode_spec.specs.Choice.{Choice, none, straight, crossed, either_by, is_either_way}
use Rattle.encode_spec.specs.Meaning.{meant, meaning}
use Rattle.encode_spec.specs.Questions.{questions, chosen}
use Rattle.encode_spec.specs.Answer.{first_no, record_bytes, bytes, answer}
use Rattle.encode_spec.proofs.Accepted.{Chosen, ChosenAs, chosen_is, gives_bytes, operation_is}
use Rattle.encode_spec.proofs.Meanings.{all_at}
use Rattle.encode_spec.proofs.Operations.{by_operation}
use Rattle.encode_spec.proofs.Slots.{holds}
use Rattle.encode_spec.proofs.Values.{false-true}
use Rattle.convert_spec.specs.Targets.{in_slot, in_form, branch_of, is_branch, target_of}

-- ---- a slot that holds a near target is a branch's
pub record Target (s : Slot) (o : OperandData) (t : ℕ) : Type 0 where
  pub branch : is_branch (in_slot s) ≡ true
  pub target : t ≡ mod_z 65536 o.imm

abbrev is_near : Operand → Bool
is_near O.None = false
is_near (O.Register n) = false
is_near (O.SegmentRegister n) = false
is_near (O.Memory b d s) = false
is_near (O.Immediate v) = false
is_near (O.Near t) = true
is_near (O.Far t s) = false
is_near O.One = false

abbrev target_in : Operand → ℕ
target_in O.None = 0
target_in (O.Register n) = 0
target_in (O.SegmentRegister n) = 0
target_in (O.Memory b d s) = 0
target_in (O.Immediate v) = 0
target_in (O.Near t) = t
target_in (O.Far t s) = 0
target_in O.One = 0

not_near : {P : Type 0} (x : Operand) (t : ℕ) → is_near x ≡ false → x ≡ O.Near t → P
not_near x t n e = false-true (sym n ∙ ap is_near e)

kinds_far : (k : OperandKind) (x y z u : Operand) → is_near x ≡ false → is_near y ≡ false → is_near z ≡ false → is_near u ≡ false → is_near (by_kind k x y z u) ≡ false
kinds_far K.Imm x y z u e f g h = e
kinds_far K.Reg x y z u e f g h = f
kinds_far K.Seg x y z u e f g h = g
kinds_far K.Mem x y z u e f g h = h

counted_far : (w : OperandSize) (o : OperandData) → is_near (counted w o) ≡ false
unfolding counted
counted_far w o = kinds_far o.kind _ _ _ _ refl refl refl refl

near_slot : (s : Slot) (o : OperandData) (t : ℕ) → holds s o ≡ O.Near t → Target s o t
near_slot (rm w) o t e = not_near _ t (counted_far w o) e
near_slot rm_near o t e = not_near _ t (counted_far _ o) e
near_slot mem o t e = not_near _ t (counted_far _ o) e
near_slot mem_far o t e = not_near _ t (counted_far _ o) e
near_slot (reg w) o t e = not_near _ t (counted_far w o) e
near_slot sreg o t e = not_near _ t (counted_far _ o) e
near_slot sreg_not_cs o t e = not_near _ t (counted_far _ o) e
near_slot (acc w) o t e = not_near _ t (counted_far w o) e
near_slot (low3 w) o t e = not_near _ t (counted_far w o) e
near_slot bits34 o t e = not_near _ t (counted_far _ o) e
near_slot bits34_not_cs o t e = not_near _ t (counted_far _ o) e
near_slot cl o t e = not_near _ t refl e
near_slot dx o t e = not_near _ t refl e
near_slot one o t e = not_near _ t refl e
near_slot (moffs w) o t e = not_near _ t (counted_far w o) e
near_slot xlat o t e = not_near _ t (counted_far _ o) e
near_slot ib o t e = not_near _ t refl e
near_slot iw o t e = not_near _ t refl e
near_slot ib_sx o t e = not_near _ t refl e
near_slot cb o t e = record { branch = refl; target = sym (ap target_in e) }
near_slot cw o t e = record { branch = refl; target = sym (ap target_in e) }
near_slot ptr o t e = not_near _ t refl e
near_slot nil o t e = not_near _ t refl e

-- ---- the first operand of what is read is that of one slot
canonical_first : (op : Operation) (w : OperandSize) (x y : Operand) (t : ℕ) → (canonical op w x y).first ≡ O.Near t → (x ≡ O.Near t) ⊎ (y ≡ O.Near t)
unfolding canonical
canonical_first op w x y t e = go (is_nop op w x y) (crossing op x y) e
  where
    go : (i j : Bool) → (pick i (instruction Op.NOP S.Unspecified O.None O.None) (pick j (instruction op w y x) (instruction op w x y))).first ≡ O.Near t → (x ≡ O.Near t) ⊎ (y ≡ O.Near t)
    go true j e = not_near O.None t refl e
    go false true e = inr e
    go false false e = inl e

-- ---- of the table: no second slot is a branch's, and a branch's operands have their order
abbrev is_ordered : Special → Bool
is_ordered ordinary = true
is_ordered unordered = false
is_ordered unordered_memory = false
is_ordered by_count = true
is_ordered target_first = true
is_ordered not_supported = true

ordered_straight : (s : Special) (a b : OperandData) → is_ordered s ≡ true → either_by s a b ≡ false
ordered_straight ordinary a b h = refl
ordered_straight unordered a b h = false-true h
ordered_straight unordered_memory a b h = false-true h
ordered_straight by_count a b h = refl
ordered_straight target_first a b h = refl
ordered_straight not_supported a b h = refl

abbrev no_second : Form → Bool
no_second f = isnt (is_branch (in_slot f.second))

abbrev in_order : Form → Bool
in_order f = pick (is_branch (in_slot f.first)) (is_ordered (rule (group_of f.operation)).special) true

no_seconds : T (each_of no_second forms)
unfolding forms
no_seconds = tt

in_orders : T (each_of in_order forms)
unfolding forms grouped_of number_of
in_orders = tt

-- ---- a form with a near target
form_near : (f : Form) → Memᴰ f forms → (op : Operation) (w : OperandSize) (x y : OperandData) (t : ℕ)
    → (canonical op w (holds f.first x) (holds f.second y)).first ≡ O.Near t → Target f.first x t
form_near f m op w x y t e = ⊎_elim (λ h. near_slot f.first x t h) (λ h. second (near_slot f.second y t h).branch) (canonical_first op w (holds f.first x) (holds f.second y) t e)
  where
    second : {P : Type 0} → is_branch (in_slot f.second) ≡ true → P
    second h = false-true (ap isnt (sym h) ∙ is_true (no_second f) (each_at no_second forms no_seconds m))

module _ (insn : InstructionData) (off : ℕ) where
  abbrev a : OperandData
  a = dst insn

  abbrev b : OperandData
  b = src insn

  -- of the form that is chosen
  pub record Branch (t : ℕ) : Type 0 where
    pub branch : is_branch (branch_of insn) ≡ true
    pub target : t ≡ target_of insn

  choice_near : (c : Choice) → chosen insn ≡ c → ChosenAs insn off c → (t : ℕ)
      → (meant (group_of insn.operation) insn.num_opers insn.operation a b).first ≡ O.Near t → Branch t
  unfolding branch_of
  choice_near none q k t e = absurd k
  choice_near (straight f) q k t e =
      let op = insn.operation in
      let m = (all_at (by_operation op).leaves k.of_operation).means insn.num_opers a b k.counted k.first_takes k.second_takes in
      let r = form_near f k.listed op (width_of f) a b t (ap (λ (i : Instruction). i.first) m ∙ e) in
      record { branch = rw q r.branch; target = r.target }
  choice_near (crossed f) q (k, w) t e =
      let op = insn.operation in
      let m = (all_at (by_operation op).crosses k.of_operation).crossed insn.num_opers a b w k.first_takes k.second_takes in
      let r = form_near f k.listed op (width_of f) b a t (ap (λ (i : Instruction). i.first) m ∙ e) in
      let o = is_true (in_order f) (each_at in_order forms in_orders k.listed) in
      let s : is_ordered (rule (group_of f.operation)).special ≡ true = rw r.branch at o in
      let u = operation_is insn off f b a k in
      false-true (sym (ordered_straight (rule (group_of op)).special a b (rw u at s)) ∙ w)

  -- ---- a record that is accepted
  pub accepted_near : (bs : List ℕ) → answer insn off ≡ bytes bs → (t : ℕ) → (meaning insn).first ≡ O.Near t → Branch t
  unfolding answer
  accepted_near bs e t n =
      let y = (gives_bytes (first_no (questions insn off)) (record_bytes insn off) bs e).0 in
      choice_near (chosen insn) refl (chosen_is insn off y) t n
