-- Which refusals a question gives (REFERENCE 5): the number of each question against the number of its refusal.
-- Assumes nothing.
use mathlib.Core.Path.{◌≡◌, refl, ap, ◌∙◌}
use mathlib.Core.Bool.{Bool, true, false}
use mathlib.Core.List.{List, [], ◌∷◌, ◌++◌}
use Prim.Native.Nat.{ℕ}
use lib.Dec.{eqb}
use Rattle.mrc_compiler.specs.declared.encoder.InstructionData.{InstructionData}
use Rattle.mrc_compiler.specs.declared.encoder.OperandData.{OperandData}
use Rattle.mrc_compiler.specs.declared.encoder.generate.Why.{Why}
use Rattle.mrc_compiler.specs.declared.encoder.generate.Why.TheVariants as W
use Rattle.mrc_compiler.specs.declared.encoder.generate.At.{At}
use Rattle.mrc_compiler.specs.declared.encoder.generate.At.TheVariants as At
use Rattle.mrc_compiler.specs.Choose.{pick, both, either, by_jump}
use Rattle.mrc_compiler.specs.Refusals.{report_of}
use Rattle.x86.specs.Forms.{Slot, rm, rm_near, mem, mem_far, reg, sreg, sreg_not_cs, acc, low3, bits34, bits34_not_cs, cl, dx, one, moffs, xlat, ib, iw, ib_sx, cb, cw, ptr, nil, Form}
use Rattle.encode_spec.specs.Records.{dst, src}
use Rattle.encode_groups.specs.declared.Group.{Group}
use Rattle.encode_groups.specs.declared.Group.TheVariants as G
use Rattle.encode_groups.specs.Grouping.{group_of}
use Rattle.encode_spec.specs.Operands.{if_imm, if_rm}
use Rattle.encode_spec.specs.Rules.{Sizing, unasked, either_states, first_states, first_is_word, Refusal, refusal, at_operands, at_first, rule}
use Rattle.encode_spec.specs.Choice.{Choice, none, straight, crossed}
use Rattle.encode_spec.specs.Limits.{Asked, of_slot, of_form}
use Rattle.encode_spec.specs.Questions.{Ask, error_of, stated_by, size_stated, form_found, group_asks, with_span, well_formed_asked, form_asked, chosen, questions}

-- 1: 8 or 23. 2: 7. 3: 2 or 4. 4: 3. 5: 1 or 4. 6: 5. 7: 6
abbrev pub gives : ℕ → ℕ → Bool
gives n r =
    pick (eqb n 1) (either (eqb r 8) (eqb r 23)) (pick (eqb n 2) (eqb r 7) (pick (eqb n 3) (either (eqb r 2) (eqb r 4)) (pick (eqb n 4) (eqb r 3)
    (pick (eqb n 5) (either (eqb r 1) (eqb r 4)) (pick (eqb n 6) (eqb r 5) (both (eqb n 7) (eqb r 6)))))))

abbrev pub numbered : List Asked → Bool
numbered [] = true
numbered (q ∷ qs) = both (gives q.number (report_of q.refusal).number) (numbered qs)

append : (qs rs : List Asked) → numbered qs ≡ true → numbered rs ≡ true → numbered (qs ++ rs) ≡ true
append [] rs h k = k
append (q ∷ qs) rs h k = go (gives q.number (report_of q.refusal).number) (λ e. append qs rs e k) h
  where
    go : (t : Bool) → (numbered qs ≡ true → numbered (qs ++ rs) ≡ true) → both t (numbered qs) ≡ true → both t (numbered (qs ++ rs)) ≡ true
    go true f e = f e
    go false f e = e

-- the number does not hang on the span
abbrev pub number_for : Why → ℕ
number_for W.InvalidOperands = 1
number_for W.OperandSizeNotSpecified = 2
number_for W.OperandSizesDoNotMatch = 3
number_for W.InvalidOperandSize = 4
number_for W.TargetOutOfRange = 5
number_for W.NotSupported = 7

number_is : (w : Why) (at : At) (insn : InstructionData) → (report_of (error_of w at insn)).number ≡ number_for w
number_is W.InvalidOperands at insn = refl
number_is W.OperandSizeNotSpecified at insn = refl
number_is W.OperandSizesDoNotMatch at insn = refl
number_is W.InvalidOperandSize at insn = refl
number_is W.TargetOutOfRange at insn = refl
number_is W.NotSupported at insn = refl

abbrev IsFine : Ask → Type 0
IsFine q = gives q.number (number_for q.why) ≡ true

-- the size is question 3's, whatever a group asks of it: 4 is a refusal of 3 and of 5
pub stated_is_3 : (s : Sizing) (a b : OperandData) → (stated_by s a b).number ≡ 3
stated_is_3 unasked a b = refl
stated_is_3 either_states a b = refl
stated_is_3 (first_states why at) a b = refl
stated_is_3 first_is_word a b = refl

-- question 3 has refusal 2 or 4 where the first operand is asked
abbrev pub sizes : Sizing → Bool
sizes unasked = true
sizes either_states = true
sizes (first_states why at) = gives 3 (number_for why)
sizes first_is_word = true

sized_by : (s : Sizing) (a b : OperandData) → sizes s ≡ true → IsFine (stated_by s a b)
sized_by unasked a b h = refl
sized_by either_states a b h = refl
sized_by (first_states why at) a b h = h
sized_by first_is_word a b h = refl

-- question 5 has refusal 1 or 4
one_of : (t : Bool) (r s : Refusal) → gives 5 (number_for r.why) ≡ true → gives 5 (number_for s.why) ≡ true
    → gives 5 (number_for (pick t r s).why) ≡ true
one_of true r s h k = h
one_of false r s h k = k

-- every group
pub record Given (g : Group) : Type 0 where
  pub sized : sizes (rule g).sizing ≡ true
  pub refused : (a b : OperandData) → gives 5 (number_for ((rule g).without_form a b).why) ≡ true

ordinarily : {g : Group} → sizes (rule g).sizing ≡ true → ((a b : OperandData) → gives 5 (number_for ((rule g).without_form a b).why) ≡ true) → Given g
ordinarily s r = record { sized = s; refused = r }

pub given : (g : Group) → Given g
given G.Arithmetic = ordinarily refl (λ a b. refl)
given G.Unary = ordinarily refl (λ a b. refl)
given G.Mov = ordinarily refl (λ a b. refl)
given G.Test = ordinarily refl (λ a b. refl)
given G.Xchg = ordinarily refl (λ a b. refl)
given G.IncDec = ordinarily refl (λ a b. refl)
given G.Push = ordinarily refl (λ a b. refl)
given G.Pop = ordinarily refl (λ a b. one_of (if_imm a true) (refusal W.InvalidOperandSize At.First) (at_operands a b) refl refl)
given G.Ret = ordinarily refl (λ a b. refl)
given G.Lea = ordinarily refl (λ a b. refl)
given G.LesLds = ordinarily refl (λ a b. refl)
given G.Shift = ordinarily refl (λ a b. refl)
given G.Call = ordinarily refl (λ a b. refl)
given G.Jmp = ordinarily refl (λ a b. one_of (if_rm a (by_jump a.jmp_kind false true false true)) (at_first a b) (at_operands a b) refl refl)
given G.Jcc = ordinarily refl (λ a b. refl)
given G.Loopc = ordinarily refl (λ a b. refl)
given G.NoOperands = ordinarily refl (λ a b. refl)
given G.Prefixes = ordinarily refl (λ a b. refl)
given G.Int = ordinarily refl (λ a b. refl)
given G.Aam = ordinarily refl (λ a b. refl)
given G.Aad = ordinarily refl (λ a b. refl)
given G.Xlat = ordinarily refl (λ a b. refl)
given G.In = ordinarily refl (λ a b. refl)
given G.Out = ordinarily refl (λ a b. refl)
given G.Unsupported = ordinarily refl (λ a b. refl)

of_slot_lem : (g : Group) (s : Slot) (off : ℕ) (o : OperandData) → numbered (of_slot g s off o) ≡ true
of_slot_lem g (rm w) off o = refl
of_slot_lem g rm_near off o = refl
of_slot_lem g mem off o = refl
of_slot_lem g mem_far off o = refl
of_slot_lem g (reg w) off o = refl
of_slot_lem g sreg off o = refl
of_slot_lem g sreg_not_cs off o = refl
of_slot_lem g (acc w) off o = refl
of_slot_lem g (low3 w) off o = refl
of_slot_lem g bits34 off o = refl
of_slot_lem g bits34_not_cs off o = refl
of_slot_lem g cl off o = refl
of_slot_lem g dx off o = refl
of_slot_lem g one off o = refl
of_slot_lem g (moffs w) off o = refl
of_slot_lem g xlat off o = refl
of_slot_lem g ib off o = refl
of_slot_lem g iw off o = refl
of_slot_lem g ib_sx off o = refl
of_slot_lem g cb off o = refl
of_slot_lem g cw off o = refl
of_slot_lem g ptr off o = refl
of_slot_lem g nil off o = refl

of_form_lem : (g : Group) (f : Form) (off : ℕ) (a b : OperandData) → numbered (of_form g f off a b) ≡ true
of_form_lem g f off a b =
    append (of_slot g f.first off a) (of_slot g f.second off b)
    (of_slot_lem g f.first off a) (of_slot_lem g f.second off b)

of_choice : (g : Group) (c : Choice) (off : ℕ) (a b : OperandData) → numbered (form_asked g c off a b) ≡ true
of_choice g none off a b = refl
of_choice g (straight f) off a b = of_form_lem g f off a b
of_choice g (crossed f) off a b = of_form_lem g f off b a

with_span_lem : (insn : InstructionData) (g : Group) (c : Choice) (a b : OperandData) → numbered (with_span insn (group_asks g c a b)) ≡ true
with_span_lem insn g c a b =
    rw (
      number_is (size_stated g a b).why (size_stated g a b).at insn,
      sized_by (rule g).sizing a b (given g).sized,
      number_is (form_found g c a b).why (form_found g c a b).at insn,
      (given g).refused a b,
    )

-- every question of every record at every offset has a refusal that documents 01 and 02 give it
pub questions_give : (insn : InstructionData) (off : ℕ) → numbered (questions insn off) ≡ true
unfolding questions
questions_give insn off =
    let g = group_of insn.operation in
    append (with_span insn (group_asks g (chosen insn) (dst insn) (src insn))) (form_asked g (chosen insn) off (dst insn) (src insn))
    (with_span_lem insn g (chosen insn) (dst insn) (src insn)) (of_choice g (chosen insn) off (dst insn) (src insn))
