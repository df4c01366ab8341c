-- Which question a refusal is of: the number read off the refusal is that of the first question whose answer is no.
-- Assumes nothing.
use mathlib.Core.Path.{◌≡◌, refl, subst}
use mathlib.Core.Bool.{Bool, true, false}
use mathlib.Core.List.{List, [], ◌∷◌, ◌++◌}
use Prim.Native.Nat.{ℕ}
use native.Mathlib.Omega.{arith}
use lib.Dec.{leb}
use lib.IntN.{ℤ}
use Rattle.mrc_compiler.specs.declared.encoder.EncodeError.TheVariants as E
use Rattle.mrc_compiler.specs.declared.encoder.InstructionData.{InstructionData}
use Rattle.mrc_compiler.specs.declared.encoder.OperandData.{OperandData}
use Rattle.mrc_compiler.specs.declared.encoder.OperandSize.{OperandSize}
use Rattle.mrc_compiler.specs.declared.encoder.OperandSize.TheVariants as S
use Rattle.mrc_compiler.specs.declared.encoder.generate.Why.{Why}
use Rattle.mrc_compiler.specs.declared.encoder.generate.Why.TheVariants as W
use Rattle.mrc_compiler.specs.declared.encoder.generate.At.{At}
use Rattle.mrc_compiler.specs.declared.encoder.generate.At.TheVariants as At
use Rattle.mrc_compiler.specs.Builders.{is_specified}
use Rattle.mrc_compiler.specs.Choose.{pick, by_size, by_jump}
use Rattle.x86.specs.Forms.{Slot, rm, rm_near, mem, mem_far, reg, sreg, sreg_not_cs, acc, low3, bits34, bits34_not_cs, cl, dx, one, moffs, xlat, ib, iw, ib_sx, cb, cw, ptr, nil}
use Rattle.encode_groups.specs.declared.Group.{Group}
use Rattle.encode_groups.specs.declared.Group.TheVariants as G
use Rattle.encode_groups.specs.Grouping.{group_of}
use Rattle.encode_spec.specs.Records.{dst, src}
use Rattle.encode_spec.specs.Operands.{if_imm, if_rm}
use Rattle.encode_spec.specs.Rules.{Sizing, unasked, either_states, first_states, first_is_word, Refusal, refusal, at_operands, at_first, is_word, rule}
use Rattle.encode_spec.specs.Choice.{Choice, none, straight, crossed}
use Rattle.encode_spec.specs.Limits.{Kind, sign_extended, address, target, segment, byte_kind, word_kind, Asked, asked, in_limits, short_distance, of_slot}
use Rattle.encode_spec.specs.WellFormed.{well_formed, repeat_formed}
use Rattle.encode_spec.specs.Questions.{Ask, error_of, stated_by, size_stated, sizes_agree, target_asked, form_found, is_supported, form_asked, chosen, questions}
use Rattle.encode_spec.specs.Answer.{First, all_yes, no, first_no}
use Rattle.encode_spec.proofs.Values.{false-true}
use Rattle.encode_spec.proofs.Numbers.{gives, number_for, sizes, given}
use Rattle.encode_form.specs.ByBytes.{question_by}

true-false : {P : Type 0} → true ≡ false → P
true-false e = let z : ◌≡◌ {A = ℕ} 0 1 = cc in absurd (omega arith)

module _ (insn : InstructionData) where
  abbrev a : OperandData
  a = dst insn

  -- the first no of a list has the number that its refusal tells
  pub record Told (qs : List Asked) : Type 0 where
    pub tells : (q : Asked) → first_no qs ≡ no q → question_by q.refusal insn ≡ q.number

  none_told : Told []
  none_told = record { tells = λ q e. let z : ◌≡◌ {A = ℕ} 0 1 = cc in absurd (omega arith) }

  -- a question, and those behind it where it gets yes
  then : {q : Asked} {qs : List Asked} → (q.yes ≡ false → question_by q.refusal insn ≡ q.number) → (q.yes ≡ true → Told qs) → Told (q ∷ qs)
  then {q} {qs} f g = record { tells = λ r h. go q.yes refl r h }
    where
      go : (t : Bool) → q.yes ≡ t → (r : Asked) → pick t (first_no qs) (no q) ≡ no r → question_by r.refusal insn ≡ r.number
      go true e r h = (g e).tells r h
      go false e r h = let z : q ≡ r = cc in subst (λ (x : Asked). question_by x.refusal insn ≡ x.number) z (f e)

  join : (qs rs : List Asked) → Told qs → Told rs → Told (qs ++ rs)
  join [] rs f g = g
  join (q ∷ qs) rs f g = record { tells = λ r h. go q.yes (λ l. join qs rs l g) f.tells r h }
    where
      go : (t : Bool) → (Told qs → Told (qs ++ rs)) → ((r : Asked) → pick t (first_no qs) (no q) ≡ no r → question_by r.refusal insn ≡ r.number)
          → (r : Asked) → pick t (first_no (qs ++ rs)) (no q) ≡ no r → question_by r.refusal insn ≡ r.number
      go true more f = (more (record { tells = f })).tells
      go false more f = f

  -- ---- 6 and 7, of the form chosen
  limited : (k : Kind) (z : ℤ) (o : OperandData) → Told (in_limits k z o ∷ [])
  limited k z o = then {q = in_limits k z o} (λ h. refl) (λ h. none_told)

  slot_told : (g : Group) (s : Slot) (off : ℕ) (o : OperandData) → Told (of_slot g s off o)
  slot_told g (rm w) off o = none_told
  slot_told g rm_near off o = none_told
  slot_told g mem off o = none_told
  slot_told g mem_far off o = none_told
  slot_told g (reg w) off o = none_told
  slot_told g sreg off o = none_told
  slot_told g sreg_not_cs off o = none_told
  slot_told g (acc w) off o = none_told
  slot_told g (low3 w) off o = none_told
  slot_told g bits34 off o = none_told
  slot_told g bits34_not_cs off o = none_told
  slot_told g cl off o = none_told
  slot_told g dx off o = none_told
  slot_told g one off o = none_told
  slot_told g (moffs w) off o = limited address o.displacement o
  slot_told g xlat off o = none_told
  slot_told g ib off o = limited (byte_kind g) o.imm o
  slot_told g iw off o = limited (word_kind g) o.imm o
  slot_told g ib_sx off o = limited sign_extended o.imm o
  slot_told g cb off o = then {q = short_distance off o} (λ h. refl) (λ h. none_told)
  slot_told g cw off o = limited target o.imm o
  slot_told g ptr off o = join (in_limits target o.imm o ∷ []) (in_limits segment o.displacement o ∷ []) (limited target o.imm o) (limited segment o.displacement o)
  slot_told g nil off o = none_told

  form_told : (g : Group) (c : Choice) (off : ℕ) (x y : OperandData) → Told (form_asked g c off x y)
  form_told g none off x y = none_told
  form_told g (straight f) off x y = join (of_slot g f.first off x) (of_slot g f.second off y) (slot_told g f.first off x) (slot_told g f.second off y)
  form_told g (crossed f) off x y = join (of_slot g f.first off y) (of_slot g f.second off x) (slot_told g f.first off y) (slot_told g f.second off x)

  -- ---- 3: 4 is its refusal where the size is not a word
  unstated : (z : OperandSize) → is_specified z ≡ false → ◌≡◌ {A = ℕ} (by_size z 3 3 5) 3
  unstated S.Unspecified h = refl
  unstated S.Byte h = true-false h
  unstated S.Word h = true-false h

  not_word : (z : OperandSize) → is_word z ≡ false → ◌≡◌ {A = ℕ} (by_size z 3 3 5) 3
  not_word S.Unspecified h = refl
  not_word S.Byte h = refl
  not_word S.Word h = true-false h

  is_word_lem : (z : OperandSize) → is_word z ≡ true → ◌≡◌ {A = ℕ} (by_size z 3 3 5) 5
  is_word_lem S.Unspecified h = false-true h
  is_word_lem S.Byte h = false-true h
  is_word_lem S.Word h = refl

  first_unstated : (w : Why) (at : At) → gives 3 (number_for w) ≡ true → is_specified a.size ≡ false → question_by (error_of w at insn) insn ≡ 3
  first_unstated W.InvalidOperands at h k = false-true h
  first_unstated W.OperandSizeNotSpecified at h k = refl
  first_unstated W.OperandSizesDoNotMatch at h k = false-true h
  first_unstated W.InvalidOperandSize at h k = unstated a.size k
  first_unstated W.TargetOutOfRange at h k = false-true h
  first_unstated W.NotSupported at h k = false-true h

  size_told : (s : Sizing) (b : OperandData) → sizes s ≡ true → (stated_by s a b).yes ≡ false
      → question_by (error_of (stated_by s a b).why (stated_by s a b).at insn) insn ≡ (stated_by s a b).number
  size_told unasked b h k = true-false k
  size_told either_states b h k = refl
  size_told (first_states why at) b h k = first_unstated why at h k
  size_told first_is_word b h k = not_word a.size k

  -- ---- 5: 4 is its refusal where the size is a word, of POP
  pop_formless : (t : Bool) (z : OperandSize) → a.size ≡ z → is_word a.size ≡ true
      → question_by (error_of (pick t (refusal W.InvalidOperandSize At.First) (at_operands a a)).why (pick t (refusal W.InvalidOperandSize At.First) (at_operands a a)).at insn) insn ≡ 5
  pop_formless true z e h = is_word_lem a.size h
  pop_formless false z e h = refl

  jmp_formless : (t : Bool) → question_by (error_of (pick t (at_first a a) (at_operands a a)).why (pick t (at_first a a) (at_operands a a)).at insn) insn ≡ 5
  jmp_formless true = refl
  jmp_formless false = refl

  formless : (g : Group) (b : OperandData) → (size_stated g a b).yes ≡ true
      → question_by (error_of ((rule g).without_form a b).why ((rule g).without_form a b).at insn) insn ≡ 5
  formless G.Arithmetic b h = refl
  formless G.Unary b h = refl
  formless G.Mov b h = refl
  formless G.Test b h = refl
  formless G.Xchg b h = refl
  formless G.IncDec b h = refl
  formless G.Push b h = refl
  formless G.Pop b h = pop_formless (if_imm a true) a.size refl h
  formless G.Ret b h = refl
  formless G.Lea b h = refl
  formless G.LesLds b h = refl
  formless G.Shift b h = refl
  formless G.Call b h = refl
  formless G.Jmp b h = jmp_formless (if_rm a (by_jump a.jmp_kind false true false true))
  formless G.Jcc b h = refl
  formless G.Loopc b h = refl
  formless G.NoOperands b h = refl
  formless G.Prefixes b h = refl
  formless G.Int b h = refl
  formless G.Aam b h = refl
  formless G.Aad b h = refl
  formless G.Xlat b h = refl
  formless G.In b h = refl
  formless G.Out b h = refl
  formless G.Unsupported b h = refl

  -- ---- all questions
  abbrev at_span : Ask → Asked
  at_span q = asked q.number q.yes (error_of q.why q.at insn)

  pub told : (off : ℕ) → Told (questions insn off)
  unfolding questions
  told off =
      let g = group_of insn.operation in
      let b = src insn in
      let e = E.NotWellFormed in
      then {q = asked 1 (leb insn.num_opers 2) (e insn.opers_span)} (λ h. refl)
      (λ h. then {q = asked 1 (well_formed a) (e a.span)} (λ h. refl)
      (λ h. then {q = asked 1 (well_formed b) (e b.span)} (λ h. refl)
      (λ h. then {q = asked 1 (repeat_formed insn.repeat insn.operation) (E.InvalidRepeat insn.opers_span)} (λ h. refl)
      (λ h. then {q = asked 2 (is_supported g) (E.NotSupported insn.opers_span)} (λ h. refl)
      (λ h. then {q = at_span (size_stated g a b)} (size_told (rule g).sizing b (given g).sized)
      (λ stated. then {q = at_span (sizes_agree g a b)} (λ h. refl)
      (λ h. then {q = at_span (target_asked g a)} (λ h. refl)
      (λ h. then {q = at_span (form_found g (chosen insn) a b)} (λ h. formless g b stated)
      (λ h. form_told g (chosen insn) off a b)))))))))
